-- The law that the path along a walk is clear.
use Rattle.plan_map.proofs.Path.Walk.{path_clear}
use Rattle.plan_map.proofs.laws.paths_are_clear.Goals as goal

pub returns : goal.returns
returns c = λ scene sums room σ found floor d m n s g walk hm hs hg is ig w. path_clear scene floor d m n s g walk hm hs hg is ig w
