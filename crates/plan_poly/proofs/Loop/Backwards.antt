-- A loop that is read the other way round is a loop, and turns the other way at its least vertex.
use Rattle.std.proofs.Common.{List, [], ◌∷◌, get_or, sym, subst, ◌≡◌, ◌++◌, ap, pos, ◌<ℤ◌, All, arith}
use Rattle.std.proofs.lemmas.List.Elements.{All-nil, All-cons, All-head, All-tail}
use Rattle.plan_exact.proofs.Laws.{linear}
use Rattle.plan_exact.proofs.Vectors.{det_turned, det_swapped}
use Rattle.plan_spec.specs.Polygon.{edges}
use Rattle.plan_spec.specs.Segment.{Segment}
use Rattle.plan_spec.specs.Vector.{Vector, IsPoint, Before, turn}
use Rattle.plan_plane.proofs.Backwards.{back, all_back, pairs_back, back_append}
use Rattle.plan_plane.proofs.Pairs.{Pairs, Across, pairs_join}
use Rattle.plan_plane.proofs.Polygon.Corner.{polygon}
use Rattle.plan_poly.proofs.EvenOdd.Backwards.{turned, rev, all_rev, edges_back}
use Rattle.plan_poly.proofs.Loop.Corner.{AtCorner}
use Rattle.plan_poly.proofs.Loop.Loop.{MeetRight, meet_swapped, meet_reversed, Loop, Differ, differ_swapped}

pairs_rev : (ss : List Segment) → Pairs MeetRight ss → Pairs MeetRight (rev ss)
pairs_rev [] h = tt
pairs_rev (s ∷ ss) h = pairs_join MeetRight (rev ss) (turned s ∷ []) (pairs_rev ss h.1) (All-nil (MeetRight (turned s)), tt) last
  where
    both : (t : Segment) → MeetRight s t → MeetRight (turned t) (turned s)
    both t m = meet_reversed t.a t.b (meet_swapped (turned s) t (meet_reversed s.a s.b m))

    last : Across MeetRight (rev ss) (turned s ∷ [])
    last k d within = All-cons (MeetRight (get_or (rev ss) k d)) (turned s) [] (all_rev (MeetRight s) (λ r. MeetRight r (turned s)) both ss h.0 k d within) (All-nil (MeetRight (get_or (rev ss) k d)))

-- ---- the loop
pub loop_back : (v : Vector) (vs : List Vector) → Loop (v ∷ vs) → Loop (v ∷ back vs)
loop_back v vs l = record {
  points = All-cons IsPoint v (back vs) (All-head IsPoint v vs l.points) (all_back IsPoint vs (All-tail IsPoint v vs l.points));
  distinct = (all_back (Differ v) vs l.distinct.0, pairs_back Differ differ_swapped vs l.distinct.1);
  apart = subst (Pairs MeetRight) (sym (edges_back v vs)) (pairs_rev (edges (v ∷ vs)) l.apart);
}

-- ---- the other way round
pub reversed_is : (v w : Vector) (mid : List Vector) (u : Vector) → v ∷ back (w ∷ (mid ++ u ∷ [])) ≡ polygon v u (back mid) w
reversed_is v w mid u = ap (λ zs. v ∷ (zs ++ w ∷ [])) (back_append mid u)

pub reversed : (v w : Vector) (mid : List Vector) (u : Vector) → Loop (polygon v w mid u) → All (Before v) (w ∷ (mid ++ u ∷ [])) → turn u v w <ℤ pos 0 → AtCorner v u (back mid) w
reversed v w mid u l first h = record {
  loop = subst Loop (reversed_is v w mid u) (loop_back v (w ∷ (mid ++ u ∷ [])) l);
  least = subst (All (Before v)) (ap (λ zs. zs ++ w ∷ []) (back_append mid u)) (all_back (Before v) (w ∷ (mid ++ u ∷ [])) first);
  turns_left = omega (arith, linear, h, det_turned u v w, det_swapped v w u);
}
