-- A path or a chain that is given by a map of a scene is a reply: it is right, and a valid certificate.
use Rattle.std.proofs.Common.{ℕ, List, All}
use Rattle.plan_spec.specs.Vector.{Vector, IsPoint}
use Rattle.plan_spec.specs.Segment.{Segment, HasPoints}
use Rattle.plan_spec.specs.Boundary.{IsClearOf}
use Rattle.plan_spec.specs.Answers.{start_touches, goal_touches, by_path, by_chain, IsCanonicalPath, IsCanonicalChain}
use Rattle.plan_spec.specs.Maps.{IsMapOf}
use Rattle.plan_spec.specs.Paths.{path_along}
use Rattle.plan_spec.specs.Placement as placement
use Rattle.plan_spec.specs.Placement.{IsClear, IsTouched}
use Rattle.plan_spec.specs.Regions.{Lot}
use Rattle.plan_spec.specs.Reply.{IsTight}
use Rattle.plan_spec.specs.Route.{IsClearPolyline}
use Rattle.plan_spec.specs.Slabs.{Slabs}
use Rattle.plan_cross.proofs.ParityLaw.Route.{no_clear_polyline}
use Rattle.plan_scene.specs.Scene.{Scene, scene_seen, IsScene}
use Rattle.plan_scene.proofs.Kept.{touching}
use Rattle.plan_slab.specs.Decomposition.{IsDecomposition, IsFloorOf}
use Rattle.plan_slab.specs.Laws.{AreSlabsOf}
use Rattle.plan_slab.proofs.Decomposition.{decomposition, clear_of, not_touched}
use Rattle.plan_check.specs.Verdict.{IsTightIn}
use Rattle.plan_check.specs.declared.verdict.Verdict.TheVariants.{Valid}
use Rattle.plan_check.proofs.Scenes.{tight_alike, verdict_alike}
use Rattle.plan_map.proofs.Path.Walk.{path_clear}
use Rattle.plan_ring.proofs.OneKind.{canonical_chain}
use Rattle.plan_ring.proofs.Alike.Floor.{floor_of}
use Rattle.plan_ring.proofs.Alike.SceneTriangles.{scene_triangles}
use Rattle.plan_reply.specs.Stand.{IsReply}
use Rattle.plan_reply.proofs.Polylines.{clear_alike}

-- ---- what start or goal touches
pub start_reply : (scene : placement.Scene) {σ : Slabs} {found : List Lot} → IsMapOf scene σ found → (s g : Vector) (who : ℕ) → IsTouched scene s who → IsReply scene s g (start_touches who)
start_reply scene {σ} {found} m s g who t = record { is_given = record { slabs = σ; regions = found; is_map = m; canonical = t }; is_right = t; is_valid = tt }

pub goal_reply : (scene : placement.Scene) {σ : Slabs} {found : List Lot} → IsMapOf scene σ found → (s g : Vector) (who : ℕ) → IsClear scene s → IsTouched scene g who → IsReply scene s g (goal_touches who)
goal_reply scene {σ} {found} m s g who c t = record { is_given = record { slabs = σ; regions = found; is_map = m; canonical = (c, t) }; is_right = (c, t); is_valid = tt }

-- ---- a path or a chain
module _ (scene : Scene) (is_scene : IsScene scene) {σ : Slabs} {found : List Lot} (m : IsMapOf (scene_seen scene) σ found) where
  pub floor : IsFloorOf (scene_seen scene) m.sums m.room
  floor = record { floor = floor_of (scene_seen scene) m.sums m.room (scene_triangles scene is_scene) m.are_sums m.is_room; touches = touching scene m.room m.sums is_scene m.is_room m.are_sums }

  slabs : AreSlabsOf m.sums m.room m.pieces σ
  slabs = record { floor = floor.floor; bound = m.is_boundary; slabs = m.slabs }

  pub decomposed : IsDecomposition m.sums m.room σ found
  decomposed = decomposition slabs m.regions

  -- a spot is clear exactly where the scene does not touch
  pub clear_there : (z : Vector) → IsPoint z → IsClear (scene_seen scene) z → IsClearOf m.sums m.room z
  clear_there z hz c = clear_of m.sums m.room z (λ t. c ((floor.touches z hz).1 t))

  pub clear_here : (z : Vector) → IsPoint z → IsClearOf m.sums m.room z → IsClear (scene_seen scene) z
  clear_here z hz c touches = not_touched m.sums m.room z c ((floor.touches z hz).0 touches)

  module _ (s g : Vector) (hs : IsPoint s) (hg : IsPoint g) where
    pub path_reply : (path : List Vector) → All IsPoint path → IsClear (scene_seen scene) s → IsClear (scene_seen scene) g → IsCanonicalPath σ found s g path → IsReply (scene_seen scene) s g (by_path path)
    path_reply path points cs cg c = record {
      is_given = record { slabs = σ; regions = found; is_map = m; canonical = (cs, cg, c) };
      is_right = record { start = cs; goal = cg; clear = clear; none_blocks = λ chain blocks. no_clear_polyline (scene_seen scene) s g chain hs hg blocks path clear };
      is_valid = clear;
    }
      where
        clear : IsClearPolyline (scene_seen scene) s g path
        clear =
            clear_alike (scene_seen scene) s g path (path_along σ found s g c.walk) points c.is_path
            (path_clear (scene_seen scene) floor decomposed c.from c.to s g c.walk c.starts.is_region hs hg c.starts.holds c.ends.holds c.is_first.is_walk)

    pub chain_reply : (chain : List Segment) → All HasPoints chain → IsClear (scene_seen scene) s → IsClear (scene_seen scene) g → IsCanonicalChain σ found s g chain → IsReply (scene_seen scene) s g (by_chain chain)
    chain_reply chain points cs cg c =
        let (accepted, right) = canonical_chain (scene_seen scene) m.sums m.room m.pieces σ found floor slabs m.regions s g chain hs hg points c in
        record {
          is_given = record { slabs = σ; regions = found; is_map = m; canonical = (cs, cg, c) };
          is_right = right;
          is_valid = (m.room, m.is_room, verdict_alike (IsTight m.sums m.room) (IsTightIn (scene_seen scene) m.room) s g chain points (tight_alike (scene_seen scene) m.room m.sums m.are_sums) Valid accepted);
        }
