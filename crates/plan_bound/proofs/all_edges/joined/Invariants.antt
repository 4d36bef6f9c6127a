-- The lists so far, and those that are left.
use Rattle.std.proofs.Common.{◌≡◌, ◌++◌, drop}
use Rattle.std.specs.List.{flat_map}
use Rattle.plan_bound.proofs.all_edges.joined.Given as goal

abbrev pub invariant-loop-list : goal.invariant-loop-list
invariant-loop-list l = l.all.items ++ flat_map (λ v. v.items) (drop l.list-index l.lists) ≡ flat_map (λ v. v.items) l.lists
