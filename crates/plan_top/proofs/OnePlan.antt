-- No bytes have two texts of `plan`: of their document the first scene is one, and so is each answer that is given in lowest terms;
-- and they are refused for one reason, or not.
use Rattle.std.proofs.Common.{◌≡◌, inl, inr, ℕ, suc, List, [], ◌∷◌, ◌++◌, All, Some, Ok, Err, get_or, refl, sym, ap, ap₂, subst, ◌∙◌, arith}
use Rattle.std.specs.List.{AllZip, filter}
use Rattle.std.proofs.lemmas.Int.{ints}
use Rattle.std.proofs.lemmas.List.Elements.{All-append, All-cons, All-filter, All-nil}
use Rattle.plan_spec.specs.Answers.{Answer, start_touches, goal_touches, by_path, by_chain}
use Rattle.plan_spec.specs.Vector.{Vector, IsPoint}
use Rattle.plan_grid.specs.Bounds.{IsInRange}
use Rattle.plan_poly.specs.Polygon.{IsPolygon}
use Rattle.plan_wire.specs.Reading as reading
use Rattle.plan_wire.specs.Reading.{Read}
use Rattle.plan_wire.specs.Documents.{Document, Query, Task, queries, rounds, proof, document_of}
use Rattle.plan_wire.specs.declared.documents.Want.TheVariants.{Plan}
use Rattle.plan_scene.specs.Scene.{Scene, Obstacle, obstacle, scene_seen, is_lesser, is_greater}
use Rattle.plan_scene.specs.Edits.{IsAdded}
use Rattle.plan_ring.specs.Alike.{HasTriangles}
use Rattle.plan_ring.specs.Laws.{IsLowestPoint, IsInLowestTerms}
use Rattle.plan_ring.proofs.Alike.AnswerGiven.{one_in_lowest_terms}
use Rattle.plan_ring.proofs.Alike.SceneTriangles.{polygons_have_triangles}
use Rattle.plan_reply.specs.First.{IsFirst, IsWhole, IsAddedAll}
use Rattle.plan_reply.specs.Stand.{IsLowestAnswer}
use Rattle.plan_top.specs.Laws.{IsPlanText, OnePlan}
use Rattle.plan_top.specs.Lines.{refusal_line}
use Rattle.plan_top.specs.Outcome.{IsPlanOf, IsRefusalOf}
use Rattle.plan_top.specs.Plan.{IsAnswered, IsPlanned, OnQueries, query_lines, end_line}
use Rattle.plan_top.specs.declared.status.Refusal.{Refusal}
use Rattle.plan_top.proofs.OneFirst.{one_given, one_first}
use Rattle.plan_top.proofs.OneReason.{refused_by, no_document, line_of_reason, is_read, refused_scene, one_cause}
use Rattle.plan_top.proofs.ReadsPoints.{AskPoints, asks_are_points}
use Rattle.plan_top.proofs.RefusedSessions.{no_first}

-- ---- the first scene is one of polygons
pub record OfPolygons (s : Scene) : Type 0 where
  pub robot : IsPolygon s.robot
  pub obstacles : All (λ (o : Obstacle). IsPolygon o.spots) s.obstacles

pub with_added : (s t : Scene) (o : Obstacle) → IsAdded s o.id o.spots t → OfPolygons s → OfPolygons t
with_added s t o (_, _, _, kept, read, e) h = subst OfPolygons (sym e) (record {
  robot = h.robot;
  obstacles = All-append P (filter (is_lesser o.id) s.obstacles) (obstacle o.id kept ∷ filter (is_greater o.id) s.obstacles) (All-filter (is_lesser o.id) P s.obstacles h.obstacles)
      (All-cons P (obstacle o.id kept) (filter (is_greater o.id) s.obstacles) read.polygon (All-filter (is_greater o.id) P s.obstacles h.obstacles));
})
  where
    P : Obstacle → Type 0
    P o = IsPolygon o.spots

all_added : (os : List Obstacle) (s t : Scene) → IsAddedAll os s t → OfPolygons s → OfPolygons t
all_added [] s t e h = subst OfPolygons (sym e) h
all_added (o ∷ os) s t (next, one, rest) h = all_added os next t rest (with_added s next o one h)

pub of_polygons : (given first : Scene) → IsWhole given first → OfPolygons first
of_polygons given first (alone, is_alone, all) =
    all_added given.obstacles alone first all (subst OfPolygons (sym is_alone.is_scene) (record { robot = is_alone.is_read.polygon; obstacles = All-nil (λ (o : Obstacle). IsPolygon o.spots) }))

-- ---- lowest terms
point : (p : Vector) → IsInRange p → IsLowestPoint p
point p r = (let w = r.weight in omega (arith, ints), r.lowest)

pub lowest : (a : Answer) → IsLowestAnswer a → IsInLowestTerms a
lowest (start_touches n) h = tt
lowest (goal_touches n) h = tt
lowest (by_path path) h = λ k d within. point (get_or path k d) (h k d within)
lowest (by_chain chain) h = λ k d within. let e = h k d within in (point (get_or chain k d).a e.0, point (get_or chain k d).b e.1)

-- ---- one answer after another
module _ (d : Document) (first : Scene) (triangles : HasTriangles (scene_seen first)) where
  one : (q : Query) (a b : Answer) → IsPoint q.start → IsPoint q.goal → IsAnswered d.scene first q a → IsAnswered d.scene first q b → a ≡ b
  one q a b hs hg h k = one_in_lowest_terms (scene_seen first) q.start q.goal a b triangles hs hg h.is_reply.is_given k.is_reply.is_given (lowest a h.lowest) (lowest b k.lowest)

  all : (qs : List Query) (ans others : List Answer) → All (λ q. IsPoint q.start × IsPoint q.goal) qs → AllZip (IsAnswered d.scene first) qs ans → AllZip (IsAnswered d.scene first) qs others → ans ≡ others
  all [] [] [] points h k = refl
  all [] [] (b ∷ others) points h k = absurd k
  all [] (a ∷ ans) others points h k = absurd h
  all (q ∷ qs) [] others points h k = absurd h
  all (q ∷ qs) (a ∷ ans) [] points h k = absurd k
  all (q ∷ qs) (a ∷ ans) (b ∷ others) points h k =
      let p = points 0 q (omega arith) in
      ap₂ (λ x xs. x ∷ xs) (one q a b p.0 p.1 h.0 k.0) (all qs ans others (λ j e within. points (suc j) e (omega arith)) h.1 k.1)

  of_task : (t : Task) (ans others : List Answer) → AskPoints t → OnQueries t (λ qs. AllZip (IsAnswered d.scene first) qs ans) → OnQueries t (λ qs. AllZip (IsAnswered d.scene first) qs others) → ans ≡ others
  of_task (queries qs) ans others points h k = all qs ans others points h k
  of_task (rounds _) ans others points h k = absurd h
  of_task (proof _ _) ans others points h k = absurd h

of_document : (d : Document) (t u : List ℕ) → AskPoints d.task → IsPlanned d t → IsPlanned d u → t ≡ u
of_document d t u points h k =
    h.is_text ∙ ap (λ ans. query_lines 1 ans ++ end_line) same ∙ sym k.is_text
  where
    same_first : h.first ≡ k.first
    same_first = one_first h.given h.first k.first h.is_first (subst (λ g. IsFirst g k.first) (one_given k.given h.given d.scene k.is_given h.is_given) k.is_first)

    triangles : HasTriangles (scene_seen h.first)
    triangles = let p = of_polygons h.given h.first h.is_first.0 in polygons_have_triangles h.first p.robot p.obstacles

    same : h.answers ≡ k.answers
    same = of_task d h.first triangles d.task h.answers k.answers points h.are_answers (subst (λ s. OnQueries d.task (λ qs. AllZip (IsAnswered d.scene s) qs k.answers)) (sym same_first) k.are_answers)

-- ---- of bytes
no_text : (bytes : List ℕ) (r : reading.Refusal) → document_of bytes Plan ≡ Err r → (t : List ℕ) → IsPlanText bytes t → t ≡ refused_by r
no_text bytes r e t (inl h) = absurd (no_document Plan bytes r e (λ d. IsPlanned d t) h)
no_text bytes r e t (inr (q, refused, is_text)) = is_text ∙ line_of_reason Plan bytes r e q refused

module _ (bytes : List ℕ) (d : Document) (e : document_of bytes Plan ≡ Ok d) where
  planned : (t : List ℕ) → IsPlanOf (Some bytes) t → IsPlanned d t
  planned t h = is_read Plan bytes d e (λ d. IsPlanned d t) h

  planned_or_refused : (t : List ℕ) (q : Refusal) → IsPlanOf (Some bytes) t → ¬ (IsRefusalOf (Some bytes) q)
  planned_or_refused t q h k = let p = planned t h in no_first d q p.given p.first (refused_scene Plan bytes d e q k) p.is_given p.is_first

  one_text : (t u : List ℕ) → IsPlanText bytes t → IsPlanText bytes u → t ≡ u
  one_text t u (inl h) (inl k) = of_document d t u (asks_are_points bytes d e) (planned t h) (planned u k)
  one_text t u (inl h) (inr (q, k, _)) = absurd (planned_or_refused t q h k)
  one_text t u (inr (q, h, _)) (inl k) = absurd (planned_or_refused u q k h)
  one_text t u (inr (q, h, is_t)) (inr (r, k, is_u)) = is_t ∙ ap refusal_line (one_cause d q r (refused_scene Plan bytes d e q h) (refused_scene Plan bytes d e r k)) ∙ sym is_u

pub one_plan : OnePlan
one_plan bytes t u h k = by (document_of bytes Plan) refl
  where
    by : (o : Read Document) → document_of bytes Plan ≡ o → t ≡ u
    by (Err r) e = no_text bytes r e t h ∙ sym (no_text bytes r e u k)
    by (Ok d) e = one_text bytes d e t u h k
