-- Answers that are alike are equal where all their points are in lowest terms.
use Rattle.std.proofs.Common.{◌≡◌, ap, arith}
use Rattle.plan_exact.proofs.Laws.{linear}
use Rattle.plan_spec.specs.Vector.{Vector, Same}
use Rattle.plan_spec.specs.Segment.{Segment}
use Rattle.plan_spec.specs.Answers.{Answer, start_touches, goal_touches, by_path, by_chain}
use Rattle.plan_grid.proofs.Unique.{equal_from_same}
use Rattle.plan_ring.specs.Alike.{AlikeSegment}
use Rattle.plan_ring.specs.Laws.{AlikeAnswer, IsInLowestTerms, IsLowestPoint}
use Rattle.plan_ring.proofs.Alike.SlabsLists.{equal_lists}

equal_point : (p q : Vector) → IsLowestPoint p → IsLowestPoint q → Same p q → p ≡ q
equal_point p q h k e = let hp = h.0 in let hq = k.0 in equal_from_same p q (omega (arith, linear)) (omega (arith, linear)) h.1 k.1 e

equal_segment : (s t : Segment) → IsLowestPoint s.a × IsLowestPoint s.b → IsLowestPoint t.a × IsLowestPoint t.b → AlikeSegment s t → s ≡ t
equal_segment s t h k e = let f = equal_point s.a t.a h.0 k.0 e.0 in let g = equal_point s.b t.b h.1 k.1 e.1 in λ i. record { a = f i; b = g i }

pub equal_answers : (a b : Answer) → IsInLowestTerms a → IsInLowestTerms b → AlikeAnswer a b → a ≡ b
equal_answers (start_touches m) (start_touches n) h k e = ap start_touches e
equal_answers (goal_touches m) (goal_touches n) h k e = ap goal_touches e
equal_answers (by_path p) (by_path q) h k e = ap by_path (equal_lists Same IsLowestPoint equal_point p q h k e)
equal_answers (by_chain p) (by_chain q) h k e = ap by_chain (equal_lists AlikeSegment (λ s. IsLowestPoint s.a × IsLowestPoint s.b) equal_segment p q h k e)
equal_answers (start_touches m) (goal_touches n) h k e = absurd e
equal_answers (start_touches m) (by_path q) h k e = absurd e
equal_answers (start_touches m) (by_chain q) h k e = absurd e
equal_answers (goal_touches m) (start_touches n) h k e = absurd e
equal_answers (goal_touches m) (by_path q) h k e = absurd e
equal_answers (goal_touches m) (by_chain q) h k e = absurd e
equal_answers (by_path p) (start_touches n) h k e = absurd e
equal_answers (by_path p) (goal_touches n) h k e = absurd e
equal_answers (by_path p) (by_chain q) h k e = absurd e
equal_answers (by_chain p) (start_touches n) h k e = absurd e
equal_answers (by_chain p) (goal_touches n) h k e = absurd e
equal_answers (by_chain p) (by_path q) h k e = absurd e
