-- Of one number the two lines are one: each edit makes one scene or none, each query has one reply, and so they are counted alike.
use Rattle.std.proofs.Common.{◌≡◌, ℕ, zero, suc, List, [], ◌∷◌, ◌++◌, Ok, Err, refl, sym, ap, ap₂, subst, ◌∙◌}
use Rattle.std.specs.List.{AllZip}
use Rattle.std.proofs.lemmas.List.Elements.{All-append, All-filter}
use Rattle.std.specs.List.{filter}
use Rattle.plan_spec.specs.Answers.{Answer}
use Rattle.plan_spec.specs.Maps.{IsMapped, IsTooLarge}
use Rattle.plan_spec.specs.Vector.{IsPoint}
use Rattle.plan_poly.specs.Polygon.{IsPolygon}
use Rattle.plan_wire.specs.Documents as document
use Rattle.plan_wire.specs.Documents.{Query}
use Rattle.plan_demo.specs.Demo.{after_edits, after_obstacles, query, queries, turn, turns, after_turn, rounds, floor}
use Rattle.plan_demo.specs.Draws.{after}
use Rattle.plan_demo.proofs.QueryPoints.{drawn_are_points}
use Rattle.plan_scene.specs.Scene.{Scene, Obstacle, obstacle, scene_seen, is_lesser, is_greater}
use Rattle.plan_scene.specs.Edits.{IsAdded, IsNotAdded, IsRemoved, IsNotRemoved, IsEdited, IsRefused}
use Rattle.plan_scene.specs.declared.edit.Edit.{Edit}
use Rattle.plan_scene.specs.declared.edit.Edit.TheVariants.{Add, Remove}
use Rattle.plan_scene.specs.declared.fault.EditFault.{EditFault}
use Rattle.plan_scene.specs.declared.fault.EditFault.TheVariants.{Duplicate, Unknown, NotSimple, TooManyObstacles, TooManySums, NoMemory}
use Rattle.plan_ring.proofs.Alike.AnswerGiven.{one_in_lowest_terms}
use Rattle.plan_ring.proofs.Alike.SceneTriangles.{polygons_have_triangles}
use Rattle.plan_reply.specs.First.{IsFirst}
use Rattle.plan_reply.specs.Step.{IsCause}
use Rattle.plan_reply.specs.declared.fault.StepFault.{StepFault}
use Rattle.plan_reply.specs.declared.fault.StepFault.TheVariants as step
use Rattle.plan_top.specs.Demo.{Played, AreTurns, scene_after_all, count_end, count_ends, count_answers, count_edits, count_replies, count_line, no_edits, no_replies}
use Rattle.plan_top.specs.Laws.{OneDemo}
use Rattle.plan_top.specs.Plan.{IsReplied}
use Rattle.plan_top.specs.Session.{End, AreEnds, IsEnd, IsEndOf, edit_seen, scene_after, end_line}
use Rattle.plan_top.specs.declared.counts.EditCount.{EditCount}
use Rattle.plan_top.specs.declared.counts.ReplyCount.{ReplyCount}
use Rattle.plan_top.proofs.OneFirst.{one_given, one_first, one_added}
use Rattle.plan_top.proofs.OneKept.{unseen, unseen_is}
use Rattle.plan_top.proofs.OnePlan.{OfPolygons, with_added, of_polygons, lowest}
use Rattle.plan_top.proofs.OneRefusal.{added_or_not, mapped_or_large}

-- ---- what an edit that is told so makes of a scene, or why it is refused
abbrev EditedAs : Scene → document.Edit → Scene → Type 0
EditedAs s (document.add o) t = IsAdded s o.id (unseen o.shape) t
EditedAs s (document.remove id) t = IsRemoved s id t

abbrev RefusedAs : Scene → document.Edit → EditFault → Type 0
RefusedAs s (document.add o) f = IsNotAdded s o.id (unseen o.shape) f
RefusedAs s (document.remove id) f = IsNotRemoved s id f

abbrev EndsAs : Scene → document.Edit → End → Type 0
EndsAs s e (Ok t) = EditedAs s e t × IsMapped (scene_seen t)
EndsAs s e (Err (step.Edit f)) = RefusedAs s e f × IsCause f
EndsAs s e (Err step.TooManyRegions) = (t : Scene) × EditedAs s e t × IsTooLarge (scene_seen t)
EndsAs s e (Err step.NoMemory) = ⊥

edited_as : (s : Scene) (e : Edit) (t : Scene) → IsEdited s e t → EditedAs s (edit_seen e) t
edited_as s (Add id spots) t h = subst (λ l. IsAdded s id l t) (sym (unseen_is spots.items)) h
edited_as s (Remove id) t h = h

refused_as : (s : Scene) (e : Edit) (f : EditFault) → IsRefused s e f → RefusedAs s (edit_seen e) f
refused_as s (Add id spots) f h = subst (λ l. IsNotAdded s id l f) (sym (unseen_is spots.items)) h
refused_as s (Remove id) f h = h

ends_as : (s : Scene) (e : Edit) (end : End) → IsEndOf s e end → EndsAs s (edit_seen e) end
ends_as s e (Ok t) h = (edited_as s e t h.0, h.1)
ends_as s e (Err (step.Edit f)) h = (refused_as s e f h.0.0, h.0.1)
ends_as s e (Err step.TooManyRegions) h = (h.0.0, edited_as s e h.0.0 h.0.1, h.0.2)
ends_as s e (Err step.NoMemory) h = h.1

told_as : (s : Scene) (e : document.Edit) (end : End) → IsEnd s e end → EndsAs s e end
told_as s e end h = subst (λ e. EndsAs s e end) h.is_edit (ends_as s h.edit end h.is_end)

-- ---- it makes one scene, or is refused
one_edited : (s : Scene) (e : document.Edit) (t u : Scene) → EditedAs s e t → EditedAs s e u → t ≡ u
one_edited s (document.add o) t u h k = one_added s t u (obstacle o.id (unseen o.shape)) h k
one_edited s (document.remove id) t u h k = h.1 ∙ sym k.1

edited_or_refused : (s : Scene) (e : document.Edit) (t : Scene) (f : EditFault) → EditedAs s e t → RefusedAs s e f → ¬ (IsCause f)
edited_or_refused s (document.add o) t f h k c = added_or_not s o.id (unseen o.shape) t f h k c
edited_or_refused s (document.remove id) t (Unknown n) h k c = k.1 h.0
edited_or_refused s (document.remove id) t (Duplicate n) h k c = k
edited_or_refused s (document.remove id) t (NotSimple i j) h k c = k
edited_or_refused s (document.remove id) t TooManyObstacles h k c = k
edited_or_refused s (document.remove id) t (TooManySums n) h k c = k
edited_or_refused s (document.remove id) t NoMemory h k c = c

ended_or_refused : (s : Scene) (e : document.Edit) (t : Scene) (f : StepFault) → EndsAs s e (Ok t) → ¬ (EndsAs s e (Err f))
ended_or_refused s e t (step.Edit f) h k = edited_or_refused s e t f h.0 k.0 k.1
ended_or_refused s e t step.TooManyRegions h (u, edited, large) = mapped_or_large t h.1 (subst (λ z. IsTooLarge (scene_seen z)) (one_edited s e u t edited h.0) large)
ended_or_refused s e t step.NoMemory h k = k

-- so two ends make the same scene, and count alike
pub record Alike (s : Scene) (x y : End) : Type 0 where
  pub scene : scene_after s x ≡ scene_after s y
  pub count : (c : EditCount) → count_end c x ≡ count_end c y

one_end_as : (s : Scene) (e : document.Edit) (x y : End) → EndsAs s e x → EndsAs s e y → Alike s x y
one_end_as s e (Ok t) (Ok u) h k = record { scene = one_edited s e t u h.0 k.0; count = λ c. refl }
one_end_as s e (Ok t) (Err f) h k = absurd (ended_or_refused s e t f h k)
one_end_as s e (Err f) (Ok t) h k = absurd (ended_or_refused s e t f k h)
one_end_as s e (Err f) (Err g) h k = record { scene = refl; count = λ c. refl }

one_end : (s : Scene) (e : document.Edit) (x y : End) → IsEnd s e x → IsEnd s e y → Alike s x y
one_end s e x y h k = one_end_as s e x y (told_as s e x h) (told_as s e y k)

-- ---- polygons stay polygons
stays : (s : Scene) (e : document.Edit) (end : End) → EndsAs s e end → OfPolygons s → OfPolygons (scene_after s end)
stays s (document.add o) (Ok t) h p = with_added s t (obstacle o.id (unseen o.shape)) h.0 p
stays s (document.remove id) (Ok t) h p = subst OfPolygons (sym h.0.1) (record {
  robot = p.robot;
  obstacles = All-append P (filter (is_lesser id) s.obstacles) (filter (is_greater id) s.obstacles) (All-filter (is_lesser id) P s.obstacles p.obstacles) (All-filter (is_greater id) P s.obstacles p.obstacles);
})
  where
    P : Obstacle → Type 0
    P o = IsPolygon o.spots
stays s e (Err f) h p = p

-- ---- the edits of a round
one_after : (s : Scene) (edits : List document.Edit) (x y : List End) → AreEnds s edits x → AreEnds s edits y → scene_after_all s x ≡ scene_after_all s y
one_after s [] [] [] h k = refl
one_after s [] [] (b ∷ y) h k = absurd k
one_after s [] (a ∷ x) y h k = absurd h
one_after s (e ∷ edits) [] y h k = absurd h
one_after s (e ∷ edits) (a ∷ x) [] h k = absurd k
one_after s (e ∷ edits) (a ∷ x) (b ∷ y) h k =
    let same = (one_end s e a b h.0 k.0).scene in
    one_after (scene_after s a) edits x y h.1 (subst (λ z. AreEnds z edits y) (sym same) k.1) ∙ ap (λ z. scene_after_all z y) same

one_count : (s : Scene) (edits : List document.Edit) (x y : List End) → AreEnds s edits x → AreEnds s edits y → (c : EditCount) → count_ends c x ≡ count_ends c y
one_count s [] [] [] h k c = refl
one_count s [] [] (b ∷ y) h k c = absurd k
one_count s [] (a ∷ x) y h k c = absurd h
one_count s (e ∷ edits) [] y h k c = absurd h
one_count s (e ∷ edits) (a ∷ x) [] h k c = absurd k
one_count s (e ∷ edits) (a ∷ x) (b ∷ y) h k c =
    let same = one_end s e a b h.0 k.0 in
    one_count (scene_after s a) edits x y h.1 (subst (λ z. AreEnds z edits y) (sym same.scene) k.1) (count_end c a) ∙ ap (λ d. count_ends d y) (same.count c)

all_stay : (s : Scene) (edits : List document.Edit) (x : List End) → AreEnds s edits x → OfPolygons s → OfPolygons (scene_after_all s x)
all_stay s [] [] h p = p
all_stay s [] (a ∷ x) h p = absurd h
all_stay s (e ∷ edits) [] h p = absurd h
all_stay s (e ∷ edits) (a ∷ x) h p = all_stay (scene_after s a) edits x h.1 (stays s e a (told_as s e a h.0) p)

-- ---- the replies of a round
one_reply : (s : Scene) (q : Query) (a b : Answer) → OfPolygons s → IsPoint q.start → IsPoint q.goal → IsReplied s q a → IsReplied s q b → a ≡ b
one_reply s q a b p hs hg h k = one_in_lowest_terms (scene_seen s) q.start q.goal a b (polygons_have_triangles s p.robot p.obstacles) hs hg h.is_reply.is_given k.is_reply.is_given (lowest a h.lowest) (lowest b k.lowest)

one_replies : (s : Scene) (p : OfPolygons s) (n σ : ℕ) (x y : List Answer) → AllZip (IsReplied s) (queries n σ) x → AllZip (IsReplied s) (queries n σ) y → x ≡ y
one_replies s p zero σ [] [] h k = refl
one_replies s p zero σ [] (b ∷ y) h k = absurd k
one_replies s p zero σ (a ∷ x) y h k = absurd h
one_replies s p (suc n) σ [] y h k = absurd h
one_replies s p (suc n) σ (a ∷ x) [] h k = absurd k
one_replies s p (suc n) σ (a ∷ x) (b ∷ y) h k =
    let points = drawn_are_points σ in
    ap₂ (λ a x. a ∷ x) (one_reply s (query σ) a b p points.0 points.1 h.0 k.0) (one_replies s p n (after 4 σ) x y h.1 k.1)

turn_replies : (s : Scene) (p : OfPolygons s) (σ : ℕ) (x y : List Answer) → AllZip (IsReplied s) (turn σ).queries x → AllZip (IsReplied s) (turn σ).queries y → x ≡ y
unfolding turn
turn_replies s p σ x y h k = one_replies s p 64 (after_edits 8 σ) x y h k

-- ---- rounds
pub record CountAlike (x y : List Played) : Type 0 where
  pub edits : (c : EditCount) → count_edits c x ≡ count_edits c y
  pub replies : (c : ReplyCount) → count_replies c x ≡ count_replies c y

one_turns : (n σ : ℕ) (s : Scene) (x y : List Played) → OfPolygons s → AreTurns s (turns n σ) x → AreTurns s (turns n σ) y → CountAlike x y
one_turns zero σ s [] [] p h k = record { edits = λ c. refl; replies = λ c. refl }
one_turns zero σ s [] (b ∷ y) p h k = absurd k
one_turns zero σ s (a ∷ x) y p h k = absurd h
one_turns (suc n) σ s [] y p h k = absurd h
one_turns (suc n) σ s (a ∷ x) [] p h k = absurd k
one_turns (suc n) σ s (a ∷ x) (b ∷ y) p (h, rest) (k, more) =
    let same = one_after s (turn σ).edits a.ends b.ends h.are_ends k.are_ends in
    let polygons = all_stay s (turn σ).edits a.ends h.are_ends p in
    let answers = turn_replies (scene_after_all s a.ends) polygons σ a.answers b.answers h.are_answers (subst (λ z. AllZip (IsReplied z) (turn σ).queries b.answers) (sym same) k.are_answers) in
    let later = one_turns n (after_turn σ) (scene_after_all s a.ends) x y polygons rest (subst (λ z. AreTurns z (turns n (after_turn σ)) y) (sym same) more) in
    record {
      edits = λ c. later.edits (count_ends c a.ends) ∙ ap (λ d. count_edits d y) (one_count s (turn σ).edits a.ends b.ends h.are_ends k.are_ends c);
      replies = λ c. later.replies (count_answers c a.answers) ∙ ap (λ l. count_replies (count_answers c l) y) answers;
    }

all_rounds : (number : ℕ) (s : Scene) (x y : List Played) → OfPolygons s → AreTurns s (rounds number) x → AreTurns s (rounds number) y → CountAlike x y
unfolding rounds
all_rounds number s x y p h k = one_turns 4 (after_obstacles 40 number) s x y p h k

-- ---- of a number
one_text : (number : ℕ) (e f : EditCount) (q r : ReplyCount) → e ≡ f → q ≡ r → count_line number e q ++ end_line e.accepted ≡ count_line number f r ++ end_line f.accepted
one_text number e f q r same also = ap₂ (λ e q. count_line number e q ++ end_line e.accepted) same also

pub one_demo : OneDemo
one_demo number t u (e, q, h, is) (f, r, k, also) = is ∙ one_text number e f q r edits replies ∙ sym also
  where
    same_first : h.first ≡ k.first
    same_first = one_first h.given h.first k.first h.is_first (subst (λ g. IsFirst g k.first) (one_given k.given h.given (floor number) k.is_given h.is_given) k.is_first)

    alike : CountAlike h.played k.played
    alike = all_rounds number h.first h.played k.played (of_polygons h.given h.first h.is_first.0) h.are_turns (subst (λ s. AreTurns s (rounds number) k.played) (sym same_first) k.are_turns)

    edits : e ≡ f
    edits = h.edits ∙ alike.edits no_edits ∙ sym k.edits

    replies : q ≡ r
    replies = h.replies ∙ alike.replies no_replies ∙ sym k.replies
