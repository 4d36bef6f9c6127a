-- A polygon that is simple by the numbers of its edges is a loop, and the other way round.
use Rattle.std.proofs.Common.{ℕ, ◌<◌, List, length, get_or, ◌-◌, arith, inl, ◌≡◌, suc, inr, sym, subst, ◌⊎◌, ◌≤◌, All, eq-or-lt_of_le, zero, refl, [], ◌∷◌}
use Rattle.std.proofs.lemmas.List.{get_or_default}
use Rattle.std.proofs.lemmas.List.Elements.{All-nil, All-cons, All-head, All-tail}
use Rattle.plan_spec.specs.Polygon.{edges}
use Rattle.plan_spec.specs.Segment.{segment, On, Segment}
use Rattle.plan_spec.specs.SimplePolygon.{IsSharedVertex, IsSimple, AreThreeEqual, MeetWrongly}
use Rattle.plan_spec.specs.Vector.{Vector, IsPoint, Same}
use Rattle.plan_plane.proofs.Pairs.{Pairs, pairs_from, pairs_at}
use Rattle.plan_plane.proofs.Polygon.Numbered.{length_edges, edge_next, edge_last}
use Rattle.plan_plane.proofs.Segment.Between.{on, between_first, between_second}
use Rattle.plan_plane.proofs.Segment.Same.{Same-swapped, on_same, Same-trans}
use Rattle.plan_plane.proofs.Segment.Whether.{same_or_not}
use Rattle.plan_poly.proofs.Loop.Edges.{some_in, some_out, start_end, starts, ends_next, ends_last, moved_on}
use Rattle.plan_poly.proofs.Loop.Loop.{IsEnd, MeetRight, Differ, Loop}

-- ---- what is not shared is wrong
wrong : (vs : List Vector) → IsSimple vs → (i j : ℕ) (d z : Vector) → i < j → j < length vs → IsPoint z → On (get_or (edges vs) i (segment d d)) z → On (get_or (edges vs) j (segment d d)) z → ¬ (IsSharedVertex vs i j z) → ⊥
wrong vs simple i j d z less within hz oi oj n =
    let long = length_edges vs in
    simple i j less within (inl (z, hz, some_in (λ s. On s z) (edges vs) i (segment d d) (omega (arith, less, within, long)) oi, some_in (λ s. On s z) (edges vs) j (segment d d) (omega (arith, within, long)) oj, n))

-- two edges that are no neighbours have no common point
strange : (vs : List Vector) → IsSimple vs → (i j : ℕ) (d z : Vector) → i < j → j < length vs → IsPoint z → On (get_or (edges vs) i (segment d d)) z → On (get_or (edges vs) j (segment d d)) z → suc i < j → ((i ≡ 0) → (suc j ≡ length vs) → ⊥) → ⊥
strange vs simple i j d z less within hz oi oj far apart = wrong vs simple i j d z less within hz oi oj shared
  where
    shared : IsSharedVertex vs i j z → ⊥
    shared (inl s) = let e = s.0 in omega (arith, far, e)
    shared (inr s) = let e = s.1 in apart s.0 (omega (arith, e))

-- ---- edges meet at vertices alone
meet : (vs : List Vector) → 3 ≤ length vs → All IsPoint vs → IsSimple vs → (d : Vector) (i j : ℕ) → i < j → j < length vs → MeetRight (get_or (edges vs) i (segment d d)) (get_or (edges vs) j (segment d d))
meet vs long points simple d i j less within z hz oi oj = by (eq-or-lt_of_le (more less))
  where
    more : {m n : ℕ} → m < n → suc m ≤ n
    more w = omega arith

    here : suc i ≡ j → Same z (get_or vs j d) ⊎ ¬ (Same z (get_or vs j d)) → IsEnd (get_or (edges vs) i (segment d d)) z × IsEnd (get_or (edges vs) j (segment d d)) z
    here e (inl s) =
        let t = subst (λ (k : ℕ). Same z (get_or vs k d)) (sym e) s in
        (subst (λ s. IsEnd s z) (sym (edge_next vs i (segment d d) d (omega (arith, e, within)))) (inr t), start_end vs j d z within s)
    here e (inr n) = absurd (wrong vs simple i j d z less within hz oi oj shared)
      where
        shared : IsSharedVertex vs i j z → ⊥
        shared (inl s) = n (some_out (Same z) vs j d within s.1)
        shared (inr s) = let f = s.0 in let g = s.1 in omega (arith, e, f, g, long)

    round : i ≡ 0 → suc j ≡ length vs → suc i < j → Same z (get_or vs 0 d) ⊎ ¬ (Same z (get_or vs 0 d)) → IsEnd (get_or (edges vs) i (segment d d)) z × IsEnd (get_or (edges vs) j (segment d d)) z
    round e f far (inl s) =
        let t = subst (λ (k : ℕ). Same z (get_or vs k d)) (sym e) s in
        (start_end vs i d z (omega (arith, less, within)) t, subst (λ s. IsEnd s z) (sym (edge_last vs j (segment d d) d f)) (inr s))
    round e f far (inr n) = absurd (wrong vs simple i j d z less within hz oi oj shared)
      where
        shared : IsSharedVertex vs i j z → ⊥
        shared (inl s) = let g = s.0 in omega (arith, far, g)
        shared (inr s) = n (some_out (Same z) vs 0 d (omega (arith, long)) s.2)

    first_last : suc i < j → (i ≡ 0) ⊎ (0 < i) → (suc j ≡ length vs) ⊎ (suc j < length vs) → IsEnd (get_or (edges vs) i (segment d d)) z × IsEnd (get_or (edges vs) j (segment d d)) z
    first_last far (inl e) (inl f) = round e f far (same_or_not z (get_or vs 0 d))
    first_last far (inr p) t = absurd (strange vs simple i j d z less within hz oi oj far (λ e f. omega (arith, p, e)))
    first_last far s (inr q) = absurd (strange vs simple i j d z less within hz oi oj far (λ e f. omega (arith, q, f)))

    zero_or : (i : ℕ) → (i ≡ 0) ⊎ (0 < i)
    zero_or zero = inl refl
    zero_or (suc k) = inr (omega arith)

    by : (suc i ≡ j) ⊎ (suc i < j) → IsEnd (get_or (edges vs) i (segment d d)) z × IsEnd (get_or (edges vs) j (segment d d)) z
    by (inl e) = here e (same_or_not z (get_or vs j d))
    by (inr far) = first_last far (zero_or i) (eq-or-lt_of_le (more within))

-- four vertices or more
differ_long : (vs : List Vector) → 4 ≤ length vs → All IsPoint vs → IsSimple vs → (d : Vector) (i j : ℕ) → i < j → j < length vs → Differ (get_or vs i d) (get_or vs j d)
differ_long vs long points simple d i j less within e = by i j less within e (eq-or-lt_of_le (more less))
  where
    more : {m n : ℕ} → m < n → suc m ≤ n
    more w = omega arith

    point : (k : ℕ) → k < length vs → IsPoint (get_or vs k d)
    point k w = points k d w

    far_apart : (i j : ℕ) → i < j → j < length vs → Same (get_or vs i d) (get_or vs j d) → suc i < j → ((i ≡ 0) → (suc j ≡ length vs) → ⊥) → ⊥
    far_apart i j less within e far apart =
        let hi = point i (omega (arith, less, within)) in
        strange vs simple i j d (get_or vs i d) less within hi (starts vs i d points (omega (arith, less, within)))
        (moved_on vs j d (get_or vs j d) (get_or vs i d) points within (point j within) hi (Same-swapped (get_or vs i d) (get_or vs j d) e) (starts vs j d points within)) far apart

    -- the first and the last
    round : (j : ℕ) → suc j ≡ length vs → Same (get_or vs 0 d) (get_or vs j d) → ⊥
    round zero f e = omega (arith, f, long)
    round (suc k) f e =
        let h0 = point 0 (omega (arith, long)) in
        let hj = point (suc k) (omega (arith, f)) in
        strange vs simple 0 k d (get_or vs 0 d) (omega (arith, f, long)) (omega (arith, f)) h0 (starts vs 0 d points (omega (arith, long)))
        (moved_on vs k d (get_or vs (suc k) d) (get_or vs 0 d) points (omega (arith, f)) hj h0 (Same-swapped (get_or vs 0 d) (get_or vs (suc k) d) e) (ends_next vs k d points (omega (arith, f)))) (omega (arith, f, long)) (λ z g. omega (arith, f, g))

    -- neighbours
    next : (i : ℕ) → suc i < length vs → Same (get_or vs i d) (get_or vs (suc i) d) → ⊥
    next (suc k) within e =
        let hi = point (suc k) (omega (arith, within)) in
        let hj = point (suc (suc k)) within in
        strange vs simple k (suc (suc k)) d (get_or vs (suc k) d) (omega arith) within hi (ends_next vs k d points (omega (arith, within)))
        (moved_on vs (suc (suc k)) d (get_or vs (suc (suc k)) d) (get_or vs (suc k) d) points within hj hi (Same-swapped (get_or vs (suc k) d) (get_or vs (suc (suc k)) d) e) (starts vs (suc (suc k)) d points within)) (omega arith) (λ z g. omega (arith, z, g, long))
    next zero within e = last (length vs - 1) (omega (arith, within))
      where
        last : (n : ℕ) → suc n ≡ length vs → ⊥
        last n f =
            let h0 = point 0 (omega (arith, long)) in
            let h1 = point 1 within in
            strange vs simple 1 n d (get_or vs 1 d) (omega (arith, f, long)) (omega (arith, f)) h1 (starts vs 1 d points within)
            (moved_on vs n d (get_or vs 0 d) (get_or vs 1 d) points (omega (arith, f)) h0 h1 e (ends_last vs n d points f)) (omega (arith, f, long)) (λ z g. omega (arith, z))

    zero_or : (i : ℕ) → (i ≡ 0) ⊎ (0 < i)
    zero_or zero = inl refl
    zero_or (suc k) = inr (omega arith)

    by : (i j : ℕ) → i < j → j < length vs → Same (get_or vs i d) (get_or vs j d) → (suc i ≡ j) ⊎ (suc i < j) → ⊥
    by i j less within e (inl f) = next i (subst (λ (k : ℕ). k < length vs) (sym f) within) (subst (λ (k : ℕ). Same (get_or vs i d) (get_or vs k d)) (sym f) e)
    by i j less within e (inr far) = elim (zero_or i) [
      | inl z ↦ elim (eq-or-lt_of_le (more within)) [
        | inl f ↦ round j f (subst (λ (k : ℕ). Same (get_or vs k d) (get_or vs j d)) z e)
        | inr l ↦ far_apart i j less within e far (λ a b. omega (arith, l, b))
      ]
      | inr p ↦ far_apart i j less within e far (λ a b. omega (arith, p, a))
    ]

-- three vertices
differ_three : (a b c : Vector) → IsPoint a → IsPoint b → IsPoint c → IsSimple (a ∷ b ∷ c ∷ []) → Pairs Differ (a ∷ b ∷ c ∷ [])
differ_three a b c ha hb hc simple =
    (All-cons (Differ a) b (c ∷ []) (λ e. ab e (same_or_not b c)) (All-cons (Differ a) c [] (λ e. ac e (same_or_not a b)) (All-nil (Differ a))), (All-cons (Differ b) c [] (λ e. bc e (same_or_not b a)) (All-nil (Differ b)), (All-nil (Differ c), tt)))
  where
    equal : Same a b → Same b c → ⊥
    equal e f = simple 0 1 (omega arith) (omega arith) (inr (refl, refl, (e, f)))

    ab : Same a b → Same b c ⊎ ¬ (Same b c) → ⊥
    ab e (inl f) = equal e f
    ab e (inr n) = simple 1 2 (omega arith) (omega arith) (inl (b, hb, on (between_first b c hb), on_same c a a b hc ha ha hb e (on (between_second c a ha)), shared))
      where
        shared : IsSharedVertex (a ∷ b ∷ c ∷ []) 1 2 b → ⊥
        shared (inl s) = n s.1
        shared (inr s) = let f = s.0 in omega (arith, f)

    bc : Same b c → Same b a ⊎ ¬ (Same b a) → ⊥
    bc e (inl f) = equal (Same-swapped b a f) e
    bc e (inr n) = simple 0 2 (omega arith) (omega arith) (inl (b, hb, on (between_second a b hb), on_same c a c b hc ha hc hb (Same-swapped b c e) (on (between_first c a hc)), shared))
      where
        shared : IsSharedVertex (a ∷ b ∷ c ∷ []) 0 2 b → ⊥
        shared (inl s) = let f = s.0 in omega (arith, f)
        shared (inr s) = n s.2

    ac : Same a c → Same a b ⊎ ¬ (Same a b) → ⊥
    ac e (inl f) = equal f (Same-trans b a c ha (Same-swapped a b f) e)
    ac e (inr n) = simple 0 1 (omega arith) (omega arith) (inl (a, ha, on (between_first a b ha), on_same b c c a hb hc hc ha (Same-swapped a c e) (on (between_second b c hc)), shared))
      where
        shared : IsSharedVertex (a ∷ b ∷ c ∷ []) 0 1 a → ⊥
        shared (inl s) = n s.1
        shared (inr s) = let f = s.1 in omega (arith, f)

-- ---- a loop
distinct : (vs : List Vector) → 3 ≤ length vs → All IsPoint vs → IsSimple vs → Pairs Differ vs
distinct [] long points simple = tt
distinct (a ∷ []) long points simple = absurd (omega arith)
distinct (a ∷ b ∷ []) long points simple = absurd (omega arith)
distinct (a ∷ b ∷ c ∷ []) long points simple =
    let t = All-tail IsPoint a (b ∷ c ∷ []) points in
    differ_three a b c (All-head IsPoint a (b ∷ c ∷ []) points) (All-head IsPoint b (c ∷ []) t) (All-head IsPoint c [] (All-tail IsPoint b (c ∷ []) t)) simple
distinct (a ∷ b ∷ c ∷ (e ∷ vs)) long points simple =
    pairs_from Differ (a ∷ b ∷ c ∷ e ∷ vs) (λ i j d less within. differ_long (a ∷ b ∷ c ∷ e ∷ vs) (omega arith) points simple d i j less within)

pub simple_loop : (vs : List Vector) → 3 ≤ length vs → All IsPoint vs → IsSimple vs → Loop vs
simple_loop [] long points simple = absurd (omega arith)
simple_loop (a ∷ vs) long points simple = record {
  points = points;
  distinct = distinct (a ∷ vs) long points simple;
  apart = pairs_from MeetRight (edges (a ∷ vs)) (λ i j s less within. at i j s less within (meet (a ∷ vs) long points simple a i j less (omega (arith, within, length_edges (a ∷ vs)))));
}
  where
    at : (i j : ℕ) (s : Segment) → i < j → j < length (edges (a ∷ vs)) → MeetRight (get_or (edges (a ∷ vs)) i (segment a a)) (get_or (edges (a ∷ vs)) j (segment a a)) → MeetRight (get_or (edges (a ∷ vs)) i s) (get_or (edges (a ∷ vs)) j s)
    at i j s less within m =
        let es = edges (a ∷ vs) in
        subst (λ e. MeetRight e (get_or es j s)) (get_or_default es i (segment a a) s (omega (arith, less, within)))
        (subst (λ e. MeetRight (get_or es i (segment a a)) e) (get_or_default es j (segment a a) s within) m)

-- ---- and the other way
pub loop_simple : (vs : List Vector) → 3 ≤ length vs → Loop vs → IsSimple vs
loop_simple vs long l i j less within = by
  where
    three : (us : List Vector) → Pairs Differ us → AreThreeEqual us → ⊥
    three [] d e = e
    three (a ∷ []) d e = e
    three (a ∷ b ∷ []) d e = e
    three (a ∷ b ∷ c ∷ []) d e = All-head (Differ a) b (c ∷ []) d.0 e.0
    three (a ∷ b ∷ c ∷ (f ∷ us)) d e = e

    zero_or : (i : ℕ) → (i ≡ 0) ⊎ (0 < i)
    zero_or zero = inl refl
    zero_or (suc k) = inr (omega arith)

    more : {m n : ℕ} → m < n → suc m ≤ n
    more w = omega arith

    two : (z : Vector) → IsPoint z → (p q : ℕ) (d : Vector) → p < q → q < length vs → Same z (get_or vs p d) → Same z (get_or vs q d) → ⊥
    two z hz p q d w k e f = pairs_at Differ vs l.distinct p q d w k (Same-trans (get_or vs p d) z (get_or vs q d) hz (Same-swapped z (get_or vs p d) e) f)

    at : (d z : Vector) → IsPoint z → On (get_or (edges vs) i (segment d d)) z → On (get_or (edges vs) j (segment d d)) z → ¬ (IsSharedVertex vs i j z) → ⊥
    at d z hz oi oj n = go first second
      where
        m : IsEnd (get_or (edges vs) i (segment d d)) z × IsEnd (get_or (edges vs) j (segment d d)) z
        m = pairs_at MeetRight (edges vs) l.apart i j (segment d d) less (omega (arith, within, length_edges vs)) z hz oi oj

        first : IsEnd (segment (get_or vs i d) (get_or vs (suc i) d)) z
        first = subst (λ s. IsEnd s z) (edge_next vs i (segment d d) d (omega (arith, less, within))) m.0

        LastOrNext : Type 0
        LastOrNext = ((suc j ≡ length vs) × IsEnd (segment (get_or vs j d) (get_or vs 0 d)) z) ⊎ ((suc j < length vs) × IsEnd (segment (get_or vs j d) (get_or vs (suc j) d)) z)

        second : ((suc j ≡ length vs) × IsEnd (segment (get_or vs j d) (get_or vs 0 d)) z) ⊎ ((suc j < length vs) × IsEnd (segment (get_or vs j d) (get_or vs (suc j) d)) z)
        second = elim (eq-or-lt_of_le (more within)) [
          | inl e ↦ inl (e, subst (λ s. IsEnd s z) (edge_last vs j (segment d d) d e) m.1)
          | inr w ↦ inr (w, subst (λ s. IsEnd s z) (edge_next vs j (segment d d) d w) m.1)
        ]

        to_first : i ≡ 0 → suc j ≡ length vs → Same z (get_or vs 0 d) → ⊥
        to_first e f s = n (inr (e, omega (arith, f), some_in (Same z) vs 0 d (omega (arith, long)) s))

        to_next : suc i ≡ j → Same z (get_or vs j d) → ⊥
        to_next e s = n (inl (omega (arith, e), some_in (Same z) vs j d within s))

        go : IsEnd (segment (get_or vs i d) (get_or vs (suc i) d)) z → ((suc j ≡ length vs) × IsEnd (segment (get_or vs j d) (get_or vs 0 d)) z) ⊎ ((suc j < length vs) × IsEnd (segment (get_or vs j d) (get_or vs (suc j) d)) z) → ⊥
        go (inl a) (inl (e, inl b)) = two z hz i j d less within a b
        go (inl a) (inr (e, inl b)) = two z hz i j d less within a b
        go (inl a) (inr (e, inr b)) = two z hz i (suc j) d (omega (arith, less)) e a b
        go (inl a) (inl (e, inr b)) = elim (zero_or i) [
          | inl f ↦ to_first f e b
          | inr p ↦ two z hz 0 i d p (omega (arith, less, within)) b a
        ]
        go (inr a) (inl (e, inl b)) = elim (eq-or-lt_of_le (more less)) [
          | inl f ↦ to_next f b
          | inr p ↦ two z hz (suc i) j d p within a b
        ]
        go (inr a) (inr (e, inl b)) = elim (eq-or-lt_of_le (more less)) [
          | inl f ↦ to_next f b
          | inr p ↦ two z hz (suc i) j d p within a b
        ]
        go (inr a) (inl (e, inr b)) = two z hz 0 (suc i) d (omega arith) (omega (arith, less, within)) b a
        go (inr a) (inr (e, inr b)) = two z hz (suc i) (suc j) d (omega (arith, less)) e a b

    by : MeetWrongly vs i j → ⊥
    by (inl (z, hz, oi, oj, n)) =
        let size = length_edges vs in
        at z z hz (some_out (λ s. On s z) (edges vs) i (segment z z) (omega (arith, less, within, size)) oi) (some_out (λ s. On s z) (edges vs) j (segment z z) (omega (arith, within, size)) oj) n
    by (inr (e, f, t)) = three vs l.distinct t
