-- The laws of replies.
use Rattle.std.specs.Prelude.{◌≡◌, ◌⊎◌, ℕ, List}
use Rattle.plan_spec.specs.Vector.{Vector, IsPoint}
use Rattle.plan_spec.specs.Segment.{Segment}
use Rattle.plan_spec.specs.Answers.{by_chain}
use Rattle.plan_spec.specs.Maps.{IsMapped}
use Rattle.plan_spec.specs.Placement.{IsClear}
use Rattle.plan_scene.specs.Scene.{Scene, scene_seen, IsScene}
use Rattle.plan_ring.specs.Laws.{HasPath, HasChain}
use Rattle.plan_reply.specs.Stand.{IsReply, IsPart, IsLowestAnswer}

-- of clear start and goal there is exactly one of a clear polyline and a chain that blocks
abbrev pub OneKind : Type 0
OneKind =
    (scene : Scene) → IsScene scene → IsMapped (scene_seen scene) → (s g : Vector) → IsPoint s → IsPoint g → IsClear (scene_seen scene) s → IsClear (scene_seen scene) g
    → (HasPath (scene_seen scene) s g ⊎ HasChain (scene_seen scene) s g) × (HasPath (scene_seen scene) s g → ¬ (HasChain (scene_seen scene) s g))

-- a chain that is given for s and g is given for each start of the part of s and each goal of another part
abbrev pub SameRing : Type 0
SameRing =
    (scene : Scene) → IsScene scene → (s g t h : Vector) → IsPoint s → IsPoint g → IsPoint t → IsPoint h
    → (chain : List Segment) → IsLowestAnswer (by_chain chain) → IsReply (scene_seen scene) s g (by_chain chain)
    → (part other : ℕ) → IsPart (scene_seen scene) s part → IsPart (scene_seen scene) t part → IsPart (scene_seen scene) h other → ¬ (part ≡ other)
    → IsReply (scene_seen scene) t h (by_chain chain)
