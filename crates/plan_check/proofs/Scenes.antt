-- A scene's sums and its room tell what the robot touches; and a segment between points is tight by the sums exactly where it is by their parts.
use Rattle.std.proofs.Common.{◌↔◌, inl, inr, ⊎_elim, List, All, Any}
use Rattle.std.proofs.lemmas.List.Elements.{All-map}
use Rattle.plan_spec.specs.Vector.{Vector}
use Rattle.plan_spec.specs.Segment.{Segment, HasPoints}
use Rattle.plan_spec.specs.Polygon.{Inside}
use Rattle.plan_spec.specs.Frame.{Frame}
use Rattle.plan_spec.specs.Room.{IsRoom}
use Rattle.plan_spec.specs.Triangulation.{corners, triangles}
use Rattle.plan_spec.specs.Placement as placement
use Rattle.plan_spec.specs.Sums.{Part, InDifference, IsSum, AreSums, parts}
use Rattle.plan_spec.specs.Reply.{IsFlat, IsLoose, IsSound, IsTight}
use Rattle.plan_tri.proofs.Region.Triangulated.{Triangulated}
use Rattle.plan_tri.proofs.Region.Polygons.{of_polygon}
use Rattle.plan_scene.specs.Scene.{Scene, IsScene, scene_seen, obstacle_seen}
use Rattle.plan_scene.proofs.Meeting.{IsReady, touches, any_zip}
use Rattle.plan_cross.proofs.First.{first_weaker}
use Rattle.plan_check.specs.Touching.{IsToldBy}
use Rattle.plan_check.specs.Verdict.{IsTightIn, IsChainVerdict}
use Rattle.plan_check.specs.declared.verdict.Verdict.{Verdict}
use Rattle.plan_check.specs.declared.verdict.Verdict.TheVariants.{Valid, Invalid}
use Rattle.plan_check.specs.declared.fault.CheckFault.TheVariants.{EmptyPath, WrongStart, WrongGoal, Touches, Flat, Loose, Unclosed, StartEven, GoalOdd}

ready : (s : Scene) (room : Frame) (sums : List (List Vector)) → IsScene s → IsRoom (scene_seen s).robot (scene_seen s).frame room → AreSums (scene_seen s) sums → IsReady (scene_seen s) room sums
ready s room sums h r a = record {
  robot = of_polygon h.robot;
  obstacles = All-map (λ o. Triangulated o.shape (triangles o.shape)) obstacle_seen s.obstacles (λ i d within. of_polygon (h.polygons i d within));
  is_room = r;
  are_sums = a;
}

pub told : (s : Scene) (room : Frame) (sums : List (List Vector)) → IsScene s → IsRoom (scene_seen s).robot (scene_seen s).frame room → AreSums (scene_seen s) sums → IsToldBy (scene_seen s) sums room
told s room sums h r a p hp = touches (scene_seen s) room sums (ready s room sums h r a) p hp

-- ---- tight by sums, and by parts
pub tight_alike : (scene : placement.Scene) (room : Frame) (sums : List (List Vector)) → AreSums scene sums → (s : Segment) → HasPoints s → IsTight sums room s ↔ IsTightIn scene room s
tight_alike scene room sums h s (ha, hb) = (⊎_elim (λ m. inl (both.1 m)) inr, ⊎_elim (λ m. inl (both.0 m)) inr)
  where
    In : Part → Vector → Type 0
    In t = InDifference (corners t.piece) (corners t.robot)

    both : Any (λ t. InDifference (corners t.piece) (corners t.robot) s.a × InDifference (corners t.piece) (corners t.robot) s.b) (parts scene) ↔ Any (λ vs. Inside vs s.a × Inside vs s.b) sums
    both = any_zip IsSum _ _ (λ t vs i. let a = i.meaning s.a ha in let b = i.meaning s.b hb in (λ (x, y). (a.1 x, b.1 y), λ (x, y). (a.0 x, b.0 y))) (parts scene) sums h

-- ---- what is said of a chain by one kind of tightness is said by the other
module _ (tight other : Segment → Type 0) (s g : Vector) (chain : List Segment) (points : All HasPoints chain) (alike : (t : Segment) → HasPoints t → tight t ↔ other t) where
  all_sound : All (IsSound tight) chain → All (IsSound other) chain
  all_sound h k d within = let t = h k d within in (t.0, (alike _ (points k d within)).0 t.1)

  pub verdict_alike : (verdict : Verdict) → IsChainVerdict tight s g chain verdict → IsChainVerdict other s g chain verdict
  verdict_alike Valid h = record { sound = all_sound h.sound; closed = h.closed; odd = h.odd; even = h.even }
  verdict_alike (Invalid (Flat k)) h = first_weaker IsFlat (IsSound tight) IsFlat (IsSound other) chain k (λ i d w b. b) (λ i d w b. (b.0, (alike _ (points i d w)).0 b.1)) h
  verdict_alike (Invalid (Loose k)) h = first_weaker (IsLoose tight) (IsSound tight) (IsLoose other) (IsSound other) chain k (λ i d w b. (b.0, λ t. b.1 ((alike _ (points i d w)).1 t))) (λ i d w b. (b.0, (alike _ (points i d w)).0 b.1)) h
  verdict_alike (Invalid (Unclosed k)) h = (all_sound h.0, h.1)
  verdict_alike (Invalid StartEven) h = (all_sound h.0, h.1, h.2)
  verdict_alike (Invalid GoalOdd) h = (all_sound h.0, h.1, h.2, h.3)
  verdict_alike (Invalid EmptyPath) h = h
  verdict_alike (Invalid WrongStart) h = h
  verdict_alike (Invalid WrongGoal) h = h
  verdict_alike (Invalid (Touches k)) h = h
