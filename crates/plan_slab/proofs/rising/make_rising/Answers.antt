-- A sort changes no value, and of equal neighbours one is left.
use Rattle.std.proofs.Common.{sym, subst}
use Rattle.std.proofs.lemmas.List.Filters.{dedup_is}
use Rattle.plan_grid.specs.Fraction.{fraction_eq}
use Rattle.plan_slab.specs.RisingValues.{IsRisingOf}
use Rattle.plan_slab.proofs.RisingValues.{rising_of}
use Rattle.plan_slab.proofs.rising.make_rising.Goals as goal

pub returns : goal.returns
returns c =
    let mid = c.sort_unstable.new.self.items in
    subst (IsRisingOf c.args.values.now.items) (sym (dedup_is fraction_eq mid c.dedup.new.self.items c.dedup.ensures.filtered))
    (rising_of c.args.values.now.items mid c.requires c.sort_unstable.ensures.permutation c.sort_unstable.ensures.sorted)
