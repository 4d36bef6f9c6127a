-- The points that are left of the sorted ends when pairs are taken out are those that are ends an odd number of times: a pair changes no point's number from odd to even, and in a list that rises no point stands twice.
use Rattle.std.proofs.Common.{◌≡◌, ℕ, zero, suc, ◌+◌, ◌<◌, ◌≤◌, ◌⊎◌, inl, inr, Bool, true, false, not, cond, List, [], ◌∷◌, length, get_or, All, Any, sum_by, ◌↔◌, IsTrue, refl, sym, ◌∙◌, ap, ap₂, subst, arith, if◌then◌else◌}
use Rattle.std.specs.Ordering.{is_lt, is_eq, ordering_reverse}
use Rattle.std.specs.declared.cmp.Ordering.{Ordering}
use Rattle.std.specs.declared.cmp.Ordering.TheVariants.{Less, Equal, Greater}
use Rattle.std.specs.Cmp.{Equal-is}
use Rattle.std.specs.List.Sorted.{IsPermutation, IsSorted}
use Rattle.std.proofs.lemmas.Bool.{true≢false, false_from_ne_true}
use Rattle.std.proofs.lemmas.List.Elements.{All-nil, All-cons, All-head, All-tail}
use Rattle.std.proofs.lemmas.List.Kept.{AllPairs-cons}
use Rattle.std.proofs.lemmas.List.Sums.{sum_by-cons}
use Rattle.std.proofs.lemmas.List.Sorted.{All-permutation, sum_by-IsPermutation, sorted_far, ranks_by}
use Rattle.plan_spec.specs.Vector.{Vector, IsPoint, Same, same}
use Rattle.plan_spec.specs.Segment.{Segment, HasPoints}
use Rattle.plan_spec.specs.Parity.{xor}
use Rattle.plan_spec.specs.Chain.{odd_end}
use Rattle.plan_plane.proofs.Lists.{any_here, any_there, any_cases, any_none}
use Rattle.plan_plane.proofs.Segment.Same.{same_true, same_from, same_comm}
use Rattle.plan_grid.specs.PointOrder.{point_cmp, point_eq, point_cmp_total}
use Rattle.plan_cross.specs.Ends.{ends, unpaired, Rises, AreOddEnds}
use Rattle.plan_cross.proofs.Equal.{equal_is_same}
use Rattle.plan_cross.proofs.ParityLaw.Closed.{odd_end_is}
use Rattle.plan_cross.proofs.ParityLaw.Position.{same_same}
use Rattle.plan_cross.proofs.ParityLaw.Tally.{odd_in}

xor_twice : (a b : Bool) → xor a (xor a b) ≡ b
xor_twice true true = refl
xor_twice true false = refl
xor_twice false b = refl

-- ---- permutations
abbrev is_odd : ℕ → Bool
is_odd zero = false
is_odd (suc n) = not (is_odd n)

is_odd_cons : (b : Bool) (n : ℕ) → is_odd (cond b 1 0 + n) ≡ xor b (is_odd n)
is_odd_cons true n =
    let e : 1 + n ≡ suc n = omega arith in
    ap is_odd e
is_odd_cons false n =
    let e : 0 + n ≡ n = omega arith in
    ap is_odd e

abbrev times_at : Vector → Vector → ℕ
times_at z p = cond (same p z) 1 0

odd_in_is : (ps : List Vector) (z : Vector) → odd_in ps z ≡ is_odd (sum_by (times_at z) ps)
odd_in_is [] z = refl
odd_in_is (p ∷ ps) z = ap (xor (same p z)) (odd_in_is ps z) ∙ sym (ap is_odd (sum_by-cons (times_at z) p ps) ∙ is_odd_cons (same p z) (sum_by (times_at z) ps))

odd_in_permutation : (ps qs : List Vector) (z : Vector) → IsPermutation ps qs → odd_in qs z ≡ odd_in ps z
odd_in_permutation ps qs z h = odd_in_is qs z ∙ ap is_odd (sum_by-IsPermutation (times_at z) ps qs h) ∙ sym (odd_in_is ps z)

-- what is asked of either answers alike
alike : (a b z : Vector) → IsPoint a → IsPoint b → IsPoint z → IsTrue (point_eq a b) → same a z ≡ same b z
alike a b z ha hb hz e = same_same z hz a b ha hb (same_true a b (sym (equal_is_same a b ha hb) ∙ e))

-- ---- pairs are taken out
unpaired_odd : (ps : List Vector) (z : Vector) → All IsPoint ps → IsPoint z → odd_in (unpaired ps) z ≡ odd_in ps z
unpaired_odd [] z hs hz = refl
unpaired_odd (a ∷ []) z hs hz = refl
unpaired_odd (a ∷ (b ∷ rest)) z hs hz =
    let tail = All-tail IsPoint a (b ∷ rest) hs in
    by (unpaired_odd rest z (All-tail IsPoint b rest tail) hz) (unpaired_odd (b ∷ rest) z tail hz) (point_eq a b) refl
  where
    tail : All IsPoint (b ∷ rest)
    tail = All-tail IsPoint a (b ∷ rest) hs

    by : odd_in (unpaired rest) z ≡ odd_in rest z → odd_in (unpaired (b ∷ rest)) z ≡ odd_in (b ∷ rest) z → (t : Bool) → point_eq a b ≡ t → odd_in (if t then unpaired rest else (a ∷ unpaired (b ∷ rest))) z ≡ odd_in (a ∷ (b ∷ rest)) z
    by past next true e =
        past
        ∙ sym (ap (λ s. xor s (xor (same b z) (odd_in rest z))) (alike a b z (All-head IsPoint a (b ∷ rest) hs) (All-head IsPoint b rest tail) hz e) ∙ xor_twice (same b z) (odd_in rest z))
    by past next false e = ap (xor (same a z)) next

unpaired_all : (P : Vector → Type 0) (ps : List Vector) → All P ps → All P (unpaired ps)
unpaired_all P [] h = h
unpaired_all P (a ∷ []) h = h
unpaired_all P (a ∷ (b ∷ rest)) h =
    let tail = All-tail P a (b ∷ rest) h in
    by (unpaired_all P rest (All-tail P b rest tail)) (unpaired_all P (b ∷ rest) tail) (point_eq a b)
  where
    by : All P (unpaired rest) → All P (unpaired (b ∷ rest)) → (t : Bool) → All P (if t then unpaired rest else (a ∷ unpaired (b ∷ rest)))
    by past next true = past
    by past next false = All-cons P a (unpaired (b ∷ rest)) (All-head P a (b ∷ rest) h) next

-- ---- of a sorted list
abbrev IsFarSorted : List Vector → Type 0
IsFarSorted ps = (i j : ℕ) (d : Vector) → i ≤ j → j < length ps → is_lt (point_cmp (get_or ps j d) (get_or ps i d)) ≡ false

-- not below and not the same is above
below : (a b : Vector) → is_lt (point_cmp b a) ≡ false → point_eq a b ≡ false → point_cmp a b ≡ Less
below a b h k = by (point_cmp a b) (ap is_lt (sym (point_cmp_total.antisymm b a)) ∙ h) k
  where
    by : (r : Ordering) → is_lt (ordering_reverse r) ≡ false → is_eq r ≡ false → r ≡ Less
    by Less p q = refl
    by Equal p q = absurd (true≢false q)
    by Greater p q = absurd (true≢false p)

-- a is below b, and c is not
still_below : (a b c : Vector) → point_cmp a b ≡ Less → is_lt (point_cmp c b) ≡ false → point_cmp a c ≡ Less
still_below a b c l h = by (point_cmp b c) refl (ap is_lt (sym (point_cmp_total.antisymm c b)) ∙ h)
  where
    by : (r : Ordering) → point_cmp b c ≡ r → is_lt (ordering_reverse r) ≡ false → point_cmp a c ≡ Less
    by Less e q = point_cmp_total.trans a b c l e
    by Equal e q =
        let back : point_cmp c a ≡ Greater = sym (point_cmp_total.congr b c a e) ∙ point_cmp_total.antisymm b a ∙ ap ordering_reverse l in
        point_cmp_total.antisymm a c ∙ ap ordering_reverse back
    by Greater e q = absurd (true≢false q)

unpaired_rises : (ps : List Vector) → IsFarSorted ps → Rises (unpaired ps)
unpaired_rises [] f = λ i j d l w. absurd (omega arith)
unpaired_rises (a ∷ []) f = λ i j d l w. absurd (omega arith)
unpaired_rises (a ∷ (b ∷ rest)) f =
    by (unpaired_rises rest (λ i j d p q. f (suc (suc i)) (suc (suc j)) d (omega arith) (omega arith)))
    (unpaired_rises (b ∷ rest) (λ i j d p q. f (suc i) (suc j) d (omega arith) (omega arith))) (point_eq a b) refl
  where
    by : Rises (unpaired rest) → Rises (unpaired (b ∷ rest)) → (t : Bool) → point_eq a b ≡ t → Rises (if t then unpaired rest else (a ∷ unpaired (b ∷ rest)))
    by past next true e = past
    by past next false e =
        let first = below a b (f 0 1 a (omega arith) (omega arith)) e in
        AllPairs-cons (λ p q. point_cmp p q ≡ Less) a (unpaired (b ∷ rest))
        (unpaired_all (λ p. point_cmp a p ≡ Less) (b ∷ rest) (λ k d w. still_below a b (get_or (b ∷ rest) k d) first (f 1 (suc k) d (omega arith) (omega arith))))
        next

-- ---- in a list that rises a point stands once or not
absent : (a : Vector) (ps : List Vector) → IsPoint a → All IsPoint ps → All (λ p. point_cmp a p ≡ Less) ps → odd_in ps a ≡ false
absent a [] ha hs l = refl
absent a (p ∷ ps) ha hs l =
    ap (λ s. xor s (odd_in ps a)) (false_from_ne_true (same p a) differs)
    ∙ absent a ps ha (All-tail IsPoint p ps hs) (All-tail (λ p. point_cmp a p ≡ Less) p ps l)
  where
    differs : ¬ (same p a ≡ true)
    differs t =
        let equal = (Equal-is (point_cmp p a)).0 (equal_is_same p a (All-head IsPoint p ps hs) ha ∙ t) in
        let less = sym (point_cmp_total.antisymm p a) ∙ equal in
        true≢false (sym (ap is_lt (All-head (λ p. point_cmp a p ≡ Less) p ps l)) ∙ by (point_cmp a p) less)
      where
        by : (r : Ordering) → ordering_reverse r ≡ Equal → is_lt r ≡ false
        by Less e = absurd (cc)
        by Equal e = refl
        by Greater e = refl

odd_in_same : (ps : List Vector) (z u : Vector) → All IsPoint ps → IsPoint z → IsPoint u → Same z u → odd_in ps z ≡ odd_in ps u
odd_in_same [] z u hs hz hu e = refl
odd_in_same (p ∷ ps) z u hs hz hu e =
    ap₂ xor (same_comm p z ∙ same_same p (All-head IsPoint p ps hs) z u hz hu e ∙ same_comm u p) (odd_in_same ps z u (All-tail IsPoint p ps hs) hz hu e)

stands_once : (ps : List Vector) (z : Vector) → All IsPoint ps → IsPoint z → Rises ps → (odd_in ps z ≡ true) ↔ Any (λ p. Same p z) ps
stands_once [] z hs hz r = (λ e. absurd (true≢false (sym e)), λ a. absurd (any_none (λ p. Same p z) a))
stands_once (a ∷ ps) z hs hz r = by (stands_once ps z (All-tail IsPoint a ps hs) hz (λ i j d l w. r (suc i) (suc j) d (omega arith) (omega arith))) (same a z) refl
  where
    ha : IsPoint a
    ha = All-head IsPoint a ps hs

    tail : All IsPoint ps
    tail = All-tail IsPoint a ps hs

    by : (odd_in ps z ≡ true) ↔ Any (λ p. Same p z) ps → (t : Bool) → same a z ≡ t → (odd_in (a ∷ ps) z ≡ true) ↔ Any (λ p. Same p z) (a ∷ ps)
    by rest true e =
        let none = absent a ps ha tail (λ k d w. r 0 (suc k) d (omega arith) (omega arith)) in
        let at : odd_in ps z ≡ false = sym (odd_in_same ps a z tail ha hz (same_true a z e)) ∙ none in
        (λ h. any_here (λ p. Same p z) a ps (same_true a z e), λ h. ap₂ xor e at)
    by rest false e = (
      λ h. any_there (λ p. Same p z) a ps (rest.0 (sym (ap (λ s. xor s (odd_in ps z)) e) ∙ h)),
      λ h. ap (λ s. xor s (odd_in ps z)) e ∙ rest.1 (later (any_cases (λ p. Same p z) a ps h)),
    )
      where
        later : Same a z ⊎ Any (λ p. Same p z) ps → Any (λ p. Same p z) ps
        later (inl s) = absurd (true≢false (sym (same_from a z s) ∙ e))
        later (inr m) = m

-- ---- so the sorted ends without pairs are the odd ends
segments_have_points : (ss : List Segment) → All IsPoint (ends ss) → All HasPoints ss
segments_have_points [] h = All-nil HasPoints
segments_have_points (s ∷ ss) h =
    let t = All-tail IsPoint s.a (s.b ∷ ends ss) h in
    All-cons HasPoints s ss (All-head IsPoint s.a (s.b ∷ ends ss) h, All-head IsPoint s.b (ends ss) t) (segments_have_points ss (All-tail IsPoint s.b (ends ss) t))

pub are_odd_ends : (ss : List Segment) (ps qs : List Vector) → ps ≡ ends ss → IsPermutation ps qs → IsSorted point_cmp qs → All IsPoint ps → AreOddEnds ss (unpaired qs)
are_odd_ends ss ps qs e p s h =
    let points = All-permutation IsPoint ps qs p h in
    let far : IsFarSorted qs = sorted_far (λ a b. is_lt (point_cmp a b)) (ranks_by point_cmp_total (λ x. x)) qs s in
    let left = unpaired_all IsPoint qs points in
    let rises = unpaired_rises qs far in
    record {
      of_points = segments_have_points ss (subst (All IsPoint) e h);
      points = left;
      rises = rises;
      odd = λ z hz.
          let same : odd_end ss z ≡ odd_in (unpaired qs) z = sym (odd_end_is ss z) ∙ ap (λ l. odd_in l z) (sym e) ∙ sym (odd_in_permutation ps qs z p) ∙ sym (unpaired_odd qs z points hz) in
          let once = stands_once (unpaired qs) z left hz rises in
          (λ o. once.0 (sym same ∙ o), λ a. same ∙ once.1 a);
    }
