-- A document is judged in one first scene and one room, so it is valid or has one first fault.
use Rattle.std.proofs.Common.{◌≡◌, List, refl, sym, ap, subst, ◌∙◌}
use Rattle.plan_spec.specs.Segment.{Segment}
use Rattle.plan_spec.specs.Frame.{Frame}
use Rattle.plan_spec.specs.Room.{IsRoom}
use Rattle.plan_spec.specs.Reply as reply
use Rattle.plan_wire.specs.Documents.{Document, Query, Certificate, path, chain, Task, queries, rounds, proof}
use Rattle.plan_scene.specs.Scene.{Scene, scene_seen}
use Rattle.plan_check.specs.Fault.{fault_seen}
use Rattle.plan_check.specs.Verdict.{IsTightIn, IsChainVerdict}
use Rattle.plan_check.specs.declared.verdict.Verdict.{Verdict}
use Rattle.plan_check.specs.declared.verdict.Verdict.TheVariants.{Valid, Invalid}
use Rattle.plan_check.specs.declared.fault.CheckFault.{CheckFault}
use Rattle.plan_check.specs.declared.fault.CheckFault.TheVariants.{EmptyPath, WrongStart, WrongGoal, Touches, Flat, Loose, Unclosed, StartEven, GoalOdd}
use Rattle.plan_check.proofs.Exclusion.{clear_or_fault, one_path_fault, accepted_or_chain_fault, one_chain_fault}
use Rattle.plan_ring.proofs.Alike.OneRoom.{one_room}
use Rattle.plan_reply.specs.First.{IsFirst}
use Rattle.plan_top.specs.Laws.{HasEnds, ValidOrInvalid, OneFirstFault}
use Rattle.plan_top.specs.Outcome.{OnProof, IsJudged, IsVerdictOn}
use Rattle.plan_top.proofs.OneFirst.{one_given, one_first}

-- ---- a fault, by what is seen of it
abbrev unseen : reply.Fault → CheckFault
unseen reply.empty_path = EmptyPath
unseen reply.wrong_start = WrongStart
unseen reply.wrong_goal = WrongGoal
unseen (reply.touches k) = Touches k
unseen (reply.flat k) = Flat k
unseen (reply.loose k) = Loose k
unseen (reply.unclosed k) = Unclosed k
unseen reply.start_even = StartEven
unseen reply.goal_odd = GoalOdd

unseen_is : (f : CheckFault) → unseen (fault_seen f) ≡ f
unseen_is EmptyPath = refl
unseen_is WrongStart = refl
unseen_is WrongGoal = refl
unseen_is (Touches k) = refl
unseen_is (Flat k) = refl
unseen_is (Loose k) = refl
unseen_is (Unclosed k) = refl
unseen_is StartEven = refl
unseen_is GoalOdd = refl

one_fault : (f g : CheckFault) → fault_seen f ≡ fault_seen g → f ≡ g
one_fault f g e = sym (unseen_is f) ∙ ap unseen e ∙ unseen_is g

-- ---- one first scene, and one room
same_first : (d : Document) (v w : Verdict) (h : IsJudged d v) (k : IsJudged d w) → h.first ≡ k.first
same_first d v w h k =
    one_first h.given h.first k.first h.is_first (subst (λ g. IsFirst g k.first) (one_given k.given h.given d.scene k.is_given h.is_given) k.is_first)

in_one_room : (first : Scene) (q : Query) (segments : List Segment) (r t : Frame) (w : Verdict) → IsRoom (scene_seen first).robot (scene_seen first).frame r → IsRoom (scene_seen first).robot (scene_seen first).frame t
    → IsChainVerdict (IsTightIn (scene_seen first) t) q.start q.goal segments w → IsChainVerdict (IsTightIn (scene_seen first) r) q.start q.goal segments w
in_one_room first q segments r t w is also h = subst (λ room. IsChainVerdict (IsTightIn (scene_seen first) room) q.start q.goal segments w) (one_room (scene_seen first).robot (scene_seen first).frame t r also is) h

-- two verdicts on one certificate, in one first scene
valid_or : (d : Document) (first : Scene) (q : Query) (c : Certificate) (fault : CheckFault) → HasEnds c → IsVerdictOn d.scene first q c Valid → ¬ (IsVerdictOn d.scene first q c (Invalid fault))
valid_or d first q (path points) fault ends h k = clear_or_fault d.scene q.start q.goal points (fault_seen fault) h k
valid_or d first q (chain segments) fault ends ((r, is, h), _) ((t, also, k), _) =
    accepted_or_chain_fault (IsTightIn (scene_seen first) r) q.start q.goal segments ends (fault_seen fault) h (in_one_room first q segments r t (Invalid fault) is also k)

one_of : (d : Document) (first : Scene) (q : Query) (c : Certificate) (f g : CheckFault) → HasEnds c → IsVerdictOn d.scene first q c (Invalid f) → IsVerdictOn d.scene first q c (Invalid g) → f ≡ g
one_of d first q (path points) f g ends h k = one_fault f g (one_path_fault d.scene q.start q.goal points (fault_seen f) (fault_seen g) h k)
one_of d first q (chain segments) f g ends ((r, is, h), _) ((t, also, k), _) =
    one_fault f g (one_chain_fault (IsTightIn (scene_seen first) r) q.start q.goal segments ends (fault_seen f) (fault_seen g) h (in_one_room first q segments r t (Invalid g) is also k))

-- ---- on a document
abbrev Judged : Document → Scene → Verdict → Task → Type 0
Judged d first v t = OnProof t (λ query certificate. IsVerdictOn d.scene first query certificate v)

abbrev OfPoints : Task → Type 0
OfPoints t = OnProof t (λ query certificate. HasEnds certificate)

pub valid_or_invalid : ValidOrInvalid
valid_or_invalid d fault ends (h, k) = by d.task ends h.is_verdict (subst (λ first. Judged d first (Invalid fault) d.task) (sym (same_first d Valid (Invalid fault) h k)) k.is_verdict)
  where
    by : (t : Task) → OfPoints t → Judged d h.first Valid t → ¬ (Judged d h.first (Invalid fault) t)
    by (proof q c) e a b = valid_or d h.first q c fault e a b
    by (queries _) e a b = e
    by (rounds _) e a b = e

pub one_first_fault : OneFirstFault
one_first_fault d f g ends h k = by d.task ends h.is_verdict (subst (λ first. Judged d first (Invalid g) d.task) (sym (same_first d (Invalid f) (Invalid g) h k)) k.is_verdict)
  where
    by : (t : Task) → OfPoints t → Judged d h.first (Invalid f) t → Judged d h.first (Invalid g) t → f ≡ g
    by (proof q c) e a b = one_of d h.first q c f g e a b
    by (queries _) e a b = absurd e
    by (rounds _) e a b = absurd e
