-- The verdict in the first scene is the one on the document; and no document is judged in two ways.
use Rattle.std.proofs.Common.{◌≡◌, ◌↔◌, List, [], ◌∷◌, map, refl, ap, subst}
use Rattle.plan_spec.specs.Vector.{Vector, IsPoint}
use Rattle.plan_spec.specs.Placement as placement
use Rattle.plan_spec.specs.Placement.{Touches}
use Rattle.plan_grid.specs.declared.frame.Frame.{Frame}
use Rattle.plan_grid.specs.declared.spot.Spot.{Spot}
use Rattle.plan_grid.specs.Frame.{frame_seen}
use Rattle.plan_grid.specs.Spot.{spot_seen, spots_seen}
use Rattle.plan_cross.specs.declared.certificate.Query as cross
use Rattle.plan_cross.specs.declared.certificate.Certificate.{Certificate}
use Rattle.plan_cross.specs.declared.certificate.Certificate.TheVariants.{Path, Blocked}
use Rattle.plan_wire.specs.Seen.{shape_seen, query_seen, certificate_seen}
use Rattle.plan_wire.specs.declared.documents.Shape.{Shape}
use Rattle.plan_scene.specs.Scene.{Scene, scene_seen, obstacle_seen}
use Rattle.plan_check.specs.Verdict.{IsVerdict, BlocksWhereAccepted}
use Rattle.plan_check.specs.declared.verdict.Verdict.{Verdict}
use Rattle.plan_reply.specs.First.{IsFirst}
use Rattle.plan_top.specs.First.{given_of, obstacle_of}
use Rattle.plan_top.specs.Outcome.{IsVerdictOn}
use Rattle.plan_top.proofs.Firsts.{touches_alike}
use Rattle.plan_top.proofs.Alike.{path_alike, blocks_alike}

-- the scene of a document, as it is given
seen_shapes : (shapes : List Shape) → map obstacle_seen (map obstacle_of shapes) ≡ map shape_seen shapes
seen_shapes [] = refl
seen_shapes (s ∷ shapes) = ap (λ os. shape_seen s ∷ os) (seen_shapes shapes)

pub given_seen : (frame : Frame) (robot : List Spot) (shapes : List Shape) → scene_seen (given_of frame robot shapes) ≡ record { frame = frame_seen frame; robot = spots_seen robot; obstacles = map shape_seen shapes }
given_seen frame robot shapes = λ i. record { frame = frame_seen frame; robot = spots_seen robot; obstacles = seen_shapes shapes i }

pub on_document : (seen : placement.Scene) (given first : Scene) (query : cross.Query) (certificate : Certificate) (verdict : Verdict) → scene_seen given ≡ seen → IsFirst given first
    → IsVerdict (scene_seen first) (spot_seen query.start) (spot_seen query.goal) certificate verdict → BlocksWhereAccepted (scene_seen first) (spot_seen query.start) (spot_seen query.goal) certificate verdict
    → IsVerdictOn seen first (query_seen query) (certificate_seen certificate) verdict
on_document seen given first query certificate verdict is_given is_first h b = by certificate h b
  where
    alike : (p : Vector) → IsPoint p → Touches (scene_seen first) p ↔ Touches seen p
    alike p hp = let t = touches_alike p given first is_first.0 in subst (λ s. Touches (scene_seen first) p ↔ Touches s p) is_given (t.1, t.0)

    by : (certificate : Certificate) → IsVerdict (scene_seen first) (spot_seen query.start) (spot_seen query.goal) certificate verdict → BlocksWhereAccepted (scene_seen first) (spot_seen query.start) (spot_seen query.goal) certificate verdict → IsVerdictOn seen first (query_seen query) (certificate_seen certificate) verdict
    by (Path points) h b = path_alike (scene_seen first) seen alike (spot_seen query.start) (spot_seen query.goal) points verdict h
    by (Blocked segments) h b = (h, blocks_alike (scene_seen first) seen alike (spot_seen query.start) (spot_seen query.goal) segments verdict b)
