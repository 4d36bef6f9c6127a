-- Each call of the closure gives where the part begins.
use Rattle.std.proofs.Common.{rules}
use Rattle.std.proofs.lemmas.List.Sorted.{answers_always}
use Rattle.plan_bound.specs.Gaps.{start_of}
use Rattle.plan_bound.proofs.sorted.sort_by_start.Goals as goal

pub returns-clause-sorted : goal.returns-clause-sorted
returns-clause-sorted c = c.sort_unstable_by_key.ensures.sorted start_of (answers_always _ _ _ (λ f a r g called. search rules))
