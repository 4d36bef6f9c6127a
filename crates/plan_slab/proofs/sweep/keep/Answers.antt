-- A filter by the test.
use Rattle.std.proofs.Common.{rules, sym, subst}
use Rattle.std.proofs.lemmas.Fn.{filter_same}
use Rattle.plan_slab.specs.Bars.{lasts}
use Rattle.plan_slab.specs.Sweeps.{AreKept}
use Rattle.plan_slab.specs.declared.bar.Bar.{Bar}
use Rattle.plan_slab.proofs.ActiveBars.{kept_by}
use Rattle.plan_slab.proofs.sweep.keep.Goals as goal

pub returns : goal.returns
returns c =
    let xs = c.args.active.now.items in
    subst (AreKept c.args.line xs) (sym (filter_same _ (λ (b : Bar). lasts c.args.line b.piece) _ (λ x b f k. search rules) xs c.retain.new.self.items c.retain.ensures.filtered)) (kept_by c.args.line xs)
