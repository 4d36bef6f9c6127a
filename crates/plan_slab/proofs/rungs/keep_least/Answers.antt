-- The first of each run of one level has the least number.
use Rattle.std.proofs.Common.{rules, sym, subst}
use Rattle.std.proofs.lemmas.List.Sorted.{answers_always}
use Rattle.std.proofs.lemmas.Fn.{dedup_same}
use Rattle.plan_slab.specs.Rungs.{AreLeastOf}
use Rattle.plan_slab.proofs.LeastOfEach.{key, same_level, least_of}
use Rattle.plan_slab.proofs.rungs.keep_least.Goals as goal

pub returns : goal.returns
returns c =
    let gs = c.args.rungs.now.items in
    let ys = c.sort_unstable_by_key.new.self.items in
    subst (AreLeastOf gs) (sym (dedup_same _ same_level _ (λ x y b f x2 y2 k. search rules) ys c.dedup_by_key.new.self.items c.dedup_by_key.ensures.filtered))
    (least_of gs ys c.requires c.sort_unstable_by_key.ensures.permutation (c.sort_unstable_by_key.ensures.sorted key (answers_always _ _ _ (λ f a r g called. search rules))))
