-- The marks of one piece on a line are its heights there: the foot of the line where the piece is from left to right and the line in its range, both ends where it is upright and on the line.
use Rattle.std.proofs.Common.{◌≡◌, ◌↔◌, inl, inr, ⊎_elim, pos, ◌-ℤ◌, ◌*ℤ◌, ◌<ℤ◌, Bool, true, false, ◌&&◌, cond, int_lt, int_le, List, [], ◌∷◌, All, Any, refl, sym, arith}
use Rattle.std.specs.Ordering.{int_eq}
use Rattle.std.proofs.lemmas.Bool.{and_parts, and_from}
use Rattle.std.proofs.lemmas.Bool.Decides.{Decides-int_eq}
use Rattle.std.proofs.lemmas.List.Elements.{All-nil, All-cons}
use Rattle.plan_exact.specs.Expr.{◌⊕◌, ◌⊗◌, neg}
use Rattle.plan_exact.specs.Formal as F
use Rattle.plan_exact.specs.Formal.{A, B, C, D}
use Rattle.plan_exact.specs.Vectors.{env}
use Rattle.plan_exact.proofs.Certificates.{eq_from}
use Rattle.plan_exact.proofs.Laws.{linear}
use Rattle.plan_exact.proofs.Signs.{zeros, le_or_lt}
use Rattle.plan_exact.proofs.Tests.{le_true, lt_from_true, le_from_false, le_from_true}
use Rattle.plan_spec.specs.Vector.{Vector, IsPoint, Before, LtX, LeX, SameX, SameY, Same, turn}
use Rattle.plan_spec.specs.Segment.{HasPoints, On}
use Rattle.plan_spec.specs.Pieces.{Piece}
use Rattle.plan_spec.specs.Regions.{foot}
use Rattle.plan_spec.specs.Slabs.{IsMark}
use Rattle.plan_plane.proofs.Lists.{any_here, any_there, any_cases, any_none}
use Rattle.plan_plane.proofs.Rising.ByCoordinate.{order_x}
use Rattle.plan_plane.proofs.Segment.Between.{on, between_first, between_second}
use Rattle.plan_plane.proofs.Segment.ByX.{leX_trans}
use Rattle.plan_plane.proofs.Segment.Line.{formal_right, formal_above, on_line}
use Rattle.plan_plane.proofs.Segment.Same.{on_same, Same-swapped, Same-trans}
use Rattle.plan_slab.specs.Levels.{run, heights}
use Rattle.plan_slab.proofs.Order.Feet.{foot_point, foot_same_x, foot_in_line}
use Rattle.plan_slab.proofs.Pieces.{in_range, mark_on}

-- a point of the line l
abbrev pub OnLine : Vector → Vector → Type 0
OnLine l m = IsPoint m × SameX l m

-- ms are the marks of the piece on l
pub record PieceMarks (l : Vector) (p : Piece) (ms : List Vector) : Type 0 where
  pub points : All (OnLine l) ms
  pub exact : (z : Vector) → IsPoint z → SameX l z → IsMark z p ↔ Any (Same z) ms

-- two points of a line that is not upright, of one x
one_point : (a b u z : Vector) → LtX a b → turn a b u ≡ pos 0 → turn a b z ≡ pos 0 → SameX z u → SameY z u
one_point a b u z lt hu hz e =
    let r : pos 0 <ℤ (b.x *ℤ a.w -ℤ a.x *ℤ b.w) = omega (arith, linear) in
    let d : z.x *ℤ u.w -ℤ u.x *ℤ z.w ≡ pos 0 = omega (arith, linear, e) in
    eq_from (env [] (a ∷ b ∷ u ∷ z ∷ [])) (formal_right A B) (neg D.w ⊗ F.det A B C ⊕ C.w ⊗ F.det A B D ⊕ formal_above A B ⊗ formal_right C D) (D.y ⊗ C.w) (C.y ⊗ D.w) tt r (search zeros)

module _ (l : Vector) (p : Piece) (hl : IsPoint l) (hp : HasPoints p.part) (onward : ¬ (Before p.part.b p.part.a)) where
  no_marks : ((z : Vector) → IsPoint z → SameX l z → ¬ (IsMark z p)) → PieceMarks l p []
  no_marks off = record { points = All-nil (OnLine l); exact = λ z hz e. (λ h. absurd (off z hz e h), λ h. absurd (any_none (Same z) h)) }

  -- ---- from left to right
  -- any point of the piece on the line is its one mark there
  pub crossed : LtX p.part.a p.part.b → (v : Vector) → OnLine l v → On p.part v → PieceMarks l p (v ∷ [])
  crossed lt v hv on_it = record {
    points = All-cons (OnLine l) v [] hv (All-nil (OnLine l));
    exact = λ z hz e. (
      λ h. any_here (Same z) v [] (same z hz e (mark_on p z hp hz h)),
      λ h. ⊎_elim (λ k. inr (inr (lt, on_same p.part.a p.part.b v z hp.0 hp.1 hv.0 hz (Same-swapped z v k) on_it))) (λ n. absurd (any_none (Same z) n)) (any_cases (Same z) v [] h),
    );
  }
    where
      same : (z : Vector) → IsPoint z → SameX l z → On p.part z → Same z v
      same z hz e m = let x : SameX z v = order_x.trans z l v hz hl hv.0 (sym e) hv.1 in (x, one_point p.part.a p.part.b v z lt on_it.in_line m.in_line x)

  foot_on : LtX p.part.a p.part.b → LeX p.part.a l → LeX l p.part.b → OnLine l (foot p.part l) × On p.part (foot p.part l)
  foot_on lt low high =
      let runs : pos 0 <ℤ run p.part = omega (arith, linear) in
      let hf = foot_point p.part l runs hl in
      let fl : LeX (foot p.part l) l = omega (arith, linear, foot_same_x p.part l) in
      let lf : LeX l (foot p.part l) = omega (arith, linear, foot_same_x p.part l) in (
        (hf, sym (foot_same_x p.part l)),
        on_line p.part.a p.part.b p.part.a p.part.b (foot p.part l) lt (on (between_first p.part.a p.part.b hp.0)).in_line (on (between_second p.part.a p.part.b hp.1)).in_line (foot_in_line p.part l)
            (leX_trans p.part.a l (foot p.part l) hp.0 hl hf low lf) (leX_trans (foot p.part l) l p.part.b hf hl hp.1 fl high),
      )

  -- ---- upright
  pub upright : SameX p.part.a p.part.b → (u v : Vector) → OnLine l u → OnLine l v → Same u p.part.a → Same v p.part.b → PieceMarks l p (u ∷ v ∷ [])
  upright e u v hu hv a b = record {
    points = All-cons (OnLine l) u (v ∷ []) hu (All-cons (OnLine l) v [] hv (All-nil (OnLine l)));
    exact = λ z hz f. (
      λ h. ⊎_elim (λ k. any_here (Same z) u (v ∷ []) (Same-trans z p.part.a u hp.0 k (Same-swapped u p.part.a a))) (λ k. ⊎_elim (λ m. any_there (Same z) u (v ∷ []) (any_here (Same z) v [] (Same-trans z p.part.b v hp.1 m (Same-swapped v p.part.b b)))) (λ m. absurd (order_x.apart p.part.a p.part.b hp.0 hp.1 m.0 e)) k) h,
      λ h. ⊎_elim (λ k. inl (Same-trans z u p.part.a hu.0 k a)) (λ k. ⊎_elim (λ m. inr (inl (Same-trans z v p.part.b hv.0 m b))) (λ n. absurd (any_none (Same z) n)) (any_cases (Same z) v [] k)) (any_cases (Same z) u (v ∷ []) h),
    );
  }

  aside : SameX p.part.a p.part.b → ¬ (SameX p.part.a l) → PieceMarks l p []
  aside e off = no_marks by
    where
      by : (z : Vector) → IsPoint z → SameX l z → IsMark z p → ⊥
      by z hz f (inl h) = off (order_x.trans p.part.a z l hp.0 hz hl (sym h.0) (sym f))
      by z hz f (inr (inl h)) = off (order_x.trans p.part.a p.part.b l hp.0 hp.1 hl e (order_x.trans p.part.b z l hp.1 hz hl (sym h.0) (sym f)))
      by z hz f (inr (inr h)) = order_x.apart p.part.a p.part.b hp.0 hp.1 h.0 e

  -- what a piece marks is in its range
  pub outside : ¬ (LeX p.part.a l × LeX l p.part.b) → PieceMarks l p []
  outside off = no_marks (λ z hz e h.
      let r = in_range p.part z hp hz onward (mark_on p z hp hz h) in
      let zl : LeX z l = omega (arith, linear) in
      let lz : LeX l z = omega (arith, linear) in
      off (leX_trans p.part.a z l hp.0 hz hl r.0 zl, leX_trans l z p.part.b hl hz hp.1 lz r.1))

  -- ---- as it is computed
  pub piece_heights : PieceMarks l p (heights l p)
  piece_heights = by (int_lt (p.part.a.x *ℤ p.part.b.w) (p.part.b.x *ℤ p.part.a.w)) refl
    where
      ranged : LtX p.part.a p.part.b → (t : Bool) → (int_le (p.part.a.x *ℤ l.w) (l.x *ℤ p.part.a.w) && int_le (l.x *ℤ p.part.b.w) (p.part.b.x *ℤ l.w)) ≡ t → PieceMarks l p (cond t (foot p.part l ∷ []) [])
      ranged lt true e = let r = and_parts _ _ e in let f = foot_on lt (le_from_true _ _ r.0) (le_from_true _ _ r.1) in crossed lt (foot p.part l) f.0 f.1
      ranged lt false e = outside (λ r. let g = and_from _ _ (le_true r.0) (le_true r.1) in absurd (cc))

      at_line : SameX p.part.a p.part.b → (t : Bool) → int_eq (p.part.a.x *ℤ l.w) (l.x *ℤ p.part.a.w) ≡ t → PieceMarks l p (cond t (p.part.a ∷ p.part.b ∷ []) [])
      at_line same true e =
          let at : SameX l p.part.a = sym ((Decides-int_eq (p.part.a.x *ℤ l.w) (l.x *ℤ p.part.a.w)).0 e) in
          upright same p.part.a p.part.b (hp.0, at) (hp.1, order_x.trans l p.part.a p.part.b hl hp.0 hp.1 at same) (refl, refl) (refl, refl)
      at_line same false e = aside same (λ f. let g = (Decides-int_eq (p.part.a.x *ℤ l.w) (l.x *ℤ p.part.a.w)).1 f in absurd (cc))

      level : LeX p.part.b p.part.a → SameX p.part.a p.part.b
      level h = elim (le_or_lt (p.part.a.x *ℤ p.part.b.w) (p.part.b.x *ℤ p.part.a.w)) [
        | inl k ↦ omega (arith, linear)
        | inr k ↦ absurd (onward (inl k))
      ]

      by : (t : Bool) → int_lt (p.part.a.x *ℤ p.part.b.w) (p.part.b.x *ℤ p.part.a.w) ≡ t
          → PieceMarks l p (cond t (cond (int_le (p.part.a.x *ℤ l.w) (l.x *ℤ p.part.a.w) && int_le (l.x *ℤ p.part.b.w) (p.part.b.x *ℤ l.w)) (foot p.part l ∷ []) []) (cond (int_eq (p.part.a.x *ℤ l.w) (l.x *ℤ p.part.a.w)) (p.part.a ∷ p.part.b ∷ []) []))
      by true e = ranged (lt_from_true (p.part.a.x *ℤ p.part.b.w) (p.part.b.x *ℤ p.part.a.w) e) _ refl
      by false e = at_line (level (le_from_false (p.part.a.x *ℤ p.part.b.w) (p.part.b.x *ℤ p.part.a.w) e)) _ refl
