-- The list of a polygon from its least vertex on: the order by x, then by y.
use Rattle.std.proofs.Common.{◌≡◌, ℤ, ◌<ℤ◌, true, arith, ◌≤ℤ◌, false, ◌⊎◌, Bool, refl, ◌&&◌, inl, inr, ◌*ℤ◌, ◌||◌, ap, ap₂, ◌∙◌, sym, List, ◌∷◌, ◌++◌, All, Option, Some, None, get_or, subst, cond, []}
use Rattle.std.proofs.lemmas.Bool.{true≢false}
use Rattle.std.proofs.lemmas.Bool.Decides.{Decides-int_eq}
use Rattle.std.proofs.lemmas.List.Elements.{All-head, All-tail, All-append}
use Rattle.std.specs.Ordering.{int_eq}
use Rattle.std.specs.Prelude.{int_lt}
use Rattle.plan_exact.specs.Sign.{Order, is_less, is_equal, is_greater}
use Rattle.plan_exact.proofs.Laws.{linear}
use Rattle.plan_exact.proofs.Signs.{order_of, le_of_eq}
use Rattle.plan_exact.proofs.Tests.{lt_true, lt_false}
use Rattle.plan_spec.specs.Triangulation.{comes_before, from_least, Parted, part_at_best, every, from_part, earlier}
use Rattle.plan_spec.specs.Vector.{Vector, SameX, LtX, LeY, Before, IsPoint, Same}
use Rattle.plan_plane.proofs.Lists.{all_left, all_right}
use Rattle.plan_plane.proofs.Pairs.{Pairs, pairs_right, pairs_across}
use Rattle.plan_plane.proofs.Segment.Between.{flip}
use Rattle.plan_plane.proofs.Segment.ByX.{leX_trans, ltX_leX, leX_ltX}
use Rattle.plan_poly.proofs.FromLeast.Best.{IsOrder, IsBest, AtMost, best}
use Rattle.plan_poly.proofs.Loop.Loop.{Differ, differ_swapped}

-- ---- the order by x, then by y
-- x is not after y
abbrev NotAfter : Vector → Vector → Type 0
NotAfter x y = LtX x y ⊎ (SameX x y × LeY x y)

eq_apart : (x y : ℤ) → ¬ (x ≡ y) → int_eq x y ≡ false
eq_apart x y n = by (int_eq x y) refl
  where
    by : (t : Bool) → int_eq x y ≡ t → int_eq x y ≡ false
    by false e = e
    by true e = absurd (n ((Decides-int_eq x y).0 e))

and_false : (x : Bool) → (x && false) ≡ false
and_false true = refl
and_false false = refl

pub before_true : (p q : Vector) → Before p q → comes_before p q ≡ true
before_true p q (inl h) = ap (λ t. t || (int_eq (p.x *ℤ q.w) (q.x *ℤ p.w) && int_lt (p.y *ℤ q.w) (q.y *ℤ p.w))) (lt_true h)
before_true p q (inr h) =
    let f = h.0 in
    let right : (q.x *ℤ p.w) ≤ℤ (p.x *ℤ q.w) = omega (arith, linear) in
    let e = lt_false right in
    ap₂ (λ s t. s || t) e (ap₂ (λ s t. s && t) ((Decides-int_eq (p.x *ℤ q.w) (q.x *ℤ p.w)).1 h.0) (lt_true h.1))

after_false : (p q : Vector) → NotAfter q p → comes_before p q ≡ false
after_false p q (inl h) =
    let right : (q.x *ℤ p.w) ≤ℤ (p.x *ℤ q.w) = omega (arith, linear) in
    let e = lt_false right in
    let f : int_eq (p.x *ℤ q.w) (q.x *ℤ p.w) ≡ false = eq_apart (p.x *ℤ q.w) (q.x *ℤ p.w) (λ g. omega (arith, linear)) in
    ap₂ (λ s t. s || t) e (ap (λ s. s && int_lt (p.y *ℤ q.w) (q.y *ℤ p.w)) f)
after_false p q (inr h) =
    let f = h.0 in
    let right : (q.x *ℤ p.w) ≤ℤ (p.x *ℤ q.w) = omega (arith, linear) in
    let e = lt_false right in
    ap₂ (λ s t. s || t) e (ap (λ t. int_eq (p.x *ℤ q.w) (q.x *ℤ p.w) && t) (lt_false h.1) ∙ and_false (int_eq (p.x *ℤ q.w) (q.x *ℤ p.w)))

which : (p q : Vector) → Before p q ⊎ NotAfter q p
which p q = by (order_of (p.x *ℤ q.w) (q.x *ℤ p.w)) (order_of (p.y *ℤ q.w) (q.y *ℤ p.w))
  where
    by : Order (p.x *ℤ q.w) (q.x *ℤ p.w) → Order (p.y *ℤ q.w) (q.y *ℤ p.w) → Before p q ⊎ NotAfter q p
    by (is_less h) o = inl (inl h)
    by (is_greater h) o = inr (inl h)
    by (is_equal e) (is_less h) = inl (inr (e, h))
    by (is_equal e) (is_equal f) = inr (inr (sym e, omega (arith, linear)))
    by (is_equal e) (is_greater h) = inr (inr (sym e, omega (arith, linear)))

pub before_in : (p q : Vector) → comes_before p q ≡ true → Before p q
before_in p q e = by (which p q)
  where
    by : Before p q ⊎ NotAfter q p → Before p q
    by (inl b) = b
    by (inr n) = absurd (true≢false (sym e ∙ after_false p q n))

pub not_before : (p q : Vector) → ¬ (Before p q) → comes_before p q ≡ false
not_before p q n = by (which p q)
  where
    by : Before p q ⊎ NotAfter q p → comes_before p q ≡ false
    by (inl b) = absurd (n b)
    by (inr h) = after_false p q h

after_in : (p q : Vector) → comes_before p q ≡ false → NotAfter q p
after_in p q e = by (which p q)
  where
    by : Before p q ⊎ NotAfter q p → NotAfter q p
    by (inl b) = absurd (true≢false (sym (before_true p q b) ∙ e))
    by (inr n) = n

not_after : (p q : Vector) → Before p q → NotAfter p q
not_after p q (inl h) = inl h
not_after p q (inr h) = let k = h.1 in inr (h.0, omega (arith, linear))

not_after_trans : (x y z : Vector) → IsPoint x → IsPoint y → IsPoint z → NotAfter x y → NotAfter y z → NotAfter x z
not_after_trans x y z hx hy hz (inl h) (inl k) = inl (ltX_leX x y z hx hy hz h (omega (arith, linear)))
not_after_trans x y z hx hy hz (inl h) (inr k) = inl (ltX_leX x y z hx hy hz h (le_of_eq k.0))
not_after_trans x y z hx hy hz (inr h) (inl k) = inl (leX_ltX x y z hx hy hz (le_of_eq h.0) k)
not_after_trans x y z hx hy hz (inr h) (inr k) =
    let i = leX_trans x y z hx hy hz (le_of_eq h.0) (le_of_eq k.0) in
    let j = leX_trans z y x hz hy hx (le_of_eq (sym k.0)) (le_of_eq (sym h.0)) in
    inr (omega (arith, linear), leX_trans (flip x) (flip y) (flip z) hx hy hz h.1 k.1)

pub by_place : IsOrder comes_before
by_place = record {
  one_way = λ x y hx hy e. after_false y x (not_after x y (before_in x y e));
  through = λ x y z hx hy hz e f. after_false y z (not_after_trans z x y hz hx hy (after_in x z f) (after_in y x e));
}

-- ---- the order by the distance from a line
lt_not : {x y : ℤ} → x <ℤ y → y ≤ℤ x → ⊥
lt_not h k = omega (arith, linear)

-- ---- the list from its least vertex on
pub record Least (vs : List Vector) : Type 0 where
  pub before : List Vector
  pub at : Vector
  pub after : List Vector
  pub parts : vs ≡ before ++ at ∷ after
  pub from : from_least vs ≡ at ∷ (after ++ before)
  pub first : All (Before at) (after ++ before)

strictly : (p q : Vector) → NotAfter p q → ¬ (Same p q) → Before p q
strictly p q (inl h) n = inl h
strictly p q (inr h) n = by (order_of (p.y *ℤ q.w) (q.y *ℤ p.w))
  where
    by : Order (p.y *ℤ q.w) (q.y *ℤ p.w) → Before p q
    by (is_less k) = inr (h.0, k)
    by (is_equal e) = absurd (n (h.0, e))
    by (is_greater k) = absurd (lt_not k h.1)

pub least : (v : Vector) (vs : List Vector) → All IsPoint (v ∷ vs) → Pairs Differ (v ∷ vs) → Least (v ∷ vs)
least v vs points distinct = by (part_at_best every comes_before (v ∷ vs)) refl (best every comes_before by_place (v ∷ vs) points)
  where
    by : (r : Option Parted) → part_at_best every comes_before (v ∷ vs) ≡ r → IsBest every comes_before (v ∷ vs) r → Least (v ∷ vs)
    by None e h = absurd (true≢false (All-head (λ y. true ≡ false) v vs h))
    by (Some p) e h =
        let d = subst (Pairs Differ) h.parts distinct in
        let b = subst (All (AtMost every comes_before p.at)) h.parts h.best in
        let differ_after = (pairs_right Differ p.before (p.at ∷ p.after) d).0 in
        let across = pairs_across Differ p.before (p.at ∷ p.after) d in
        let best_before = all_left (AtMost every comes_before p.at) p.before (p.at ∷ p.after) b in
        let best_after = All-tail (AtMost every comes_before p.at) p.at p.after (all_right (AtMost every comes_before p.at) p.before (p.at ∷ p.after) b) in
        let one = λ (y : Vector) (n : Differ p.at y) (m : AtMost every comes_before p.at y). strictly p.at y (after_in y p.at (m refl)) n in
        record {
          before = p.before;
          at = p.at;
          after = p.after;
          parts = h.parts;
          from = ap from_part e;
          first = All-append (Before p.at) p.after p.before
              (λ k d less. one (get_or p.after k d) (differ_after k d less) (best_after k d less))
              (λ k d less. one (get_or p.before k d) (differ_swapped (get_or p.before k d) p.at (All-head (Differ (get_or p.before k d)) p.at p.after (across k d less))) (best_before k d less));
        }

part_stays : (pre : List Vector) (v : Vector) (post : List Vector) → All IsPoint post → All (Before v) pre → All (Before v) post → part_at_best every comes_before (pre ++ v ∷ post) ≡ Some (record { before = pre; at = v; after = post })
part_stays [] v post points h k = by (part_at_best every comes_before post) (best every comes_before by_place post points)
  where
    by : (r : Option Parted) → IsBest every comes_before post r → earlier true comes_before v post r ≡ Some (record { before = []; at = v; after = post })
    by None b = refl
    by (Some p) b =
        let at = All-head (Before v) p.at p.after (all_right (Before v) p.before (p.at ∷ p.after) (subst (All (Before v)) b.parts k)) in
        ap (λ t. cond t (Some (record { before = v ∷ p.before; at = p.at; after = p.after })) (Some (record { before = []; at = v; after = post }))) (after_false p.at v (not_after v p.at at))
part_stays (a ∷ pre) v post points h k =
    ap (earlier true comes_before a (pre ++ v ∷ post)) (part_stays pre v post points (All-tail (Before v) a pre h) k)
    ∙ ap (λ t. cond t (Some (record { before = a ∷ pre; at = v; after = post })) (Some (record { before = []; at = a; after = pre ++ v ∷ post }))) (before_true v a (All-head (Before v) a pre h))

pub from_least_is : (pre : List Vector) (v : Vector) (post : List Vector) → All IsPoint post → All (Before v) pre → All (Before v) post → from_least (pre ++ v ∷ post) ≡ v ∷ (post ++ pre)
from_least_is pre v post points h k = ap from_part (part_stays pre v post points h k)
