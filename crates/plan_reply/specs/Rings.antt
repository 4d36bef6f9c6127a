-- Parts that are closed to one another, and the rings that are kept of them.
use Rattle.std.specs.Prelude.{◌≡◌, ℕ, List, All}
use Rattle.plan_spec.specs.Vector.{Vector, IsPoint}
use Rattle.plan_spec.specs.Segment.{Segment}
use Rattle.plan_spec.specs.Answers.{by_chain}
use Rattle.plan_spec.specs.Placement as placement
use Rattle.plan_scene.specs.Scene.{Scene, scene_seen}
use Rattle.plan_reply.specs.Stand.{IsPart, IsReply, IsLowestAnswer}
use Rattle.plan_reply.specs.declared.rings.Ring.{Ring}

-- the start is in this part, the goal in another
pub record IsClosedPart (scene : placement.Scene) (s g : Vector) (part : ℕ) : Type 0 where
  pub is_start : IsPart scene s part
  pub other : ℕ
  pub is_goal : IsPart scene g other
  pub differ : ¬ (part ≡ other)

-- the chain is the reply to each query from this part to another
pub record IsRing (scene : Scene) (part : ℕ) (chain : List Segment) : Type 0 where
  pub serves : (s g : Vector) → IsPoint s → IsPoint g → IsClosedPart (scene_seen scene) s g part → IsReply (scene_seen scene) s g (by_chain chain)
  pub lowest : IsLowestAnswer (by_chain chain)

abbrev pub AreRings : Scene → List Ring → Type 0
AreRings scene = All (λ r. IsRing scene r.part r.chain)
