-- The bars of all pieces, and that a sort puts them in the order of where they begin.
use Rattle.std.proofs.Common.{◌≡◌, ⊎_elim, ℕ, ◌+◌, ◌<◌, ◌*ℤ◌, false, refl, sym, subst, ◌∙◌, List, [], ◌∷◌, ◌++◌, get_or, length, All, Any, arith}
use Rattle.std.specs.List.Sorted.{IsPermutation, IsSortedByKey}
use Rattle.std.specs.Ordering.{is_lt, ordering_then}
use Rattle.std.specs.declared.cmp.Ordering.{Ordering}
use Rattle.std.specs.declared.cmp.Ordering.TheVariants.{Less, Equal, Greater}
use Rattle.std.proofs.lemmas.List.{get_or_default}
use Rattle.std.proofs.lemmas.List.Elements.{All-push}
use Rattle.std.proofs.lemmas.List.Sorted.{All-permutation, Contains-permutation, sorted_far, ranks_by}
use Rattle.plan_exact.proofs.Laws.{linear}
use Rattle.plan_spec.specs.Vector.{Vector, IsPoint, LeX}
use Rattle.plan_spec.specs.Segment.{HasPoints}
use Rattle.plan_spec.specs.Frame.{Frame}
use Rattle.plan_spec.specs.Pieces.{Piece, piece}
use Rattle.plan_spec.specs.Slabs.{piece_at, nothing}
use Rattle.plan_plane.proofs.Lists.{any_left, any_right, any_here}
use Rattle.plan_grid.specs.Fraction.{fraction_cmp}
use Rattle.plan_grid.specs.FractionOrder.{fraction_cmp_ranked}
use Rattle.plan_grid.specs.PointOrder.{x_of, y_of, point_cmp, point_cmp_total}
use Rattle.plan_grid.proofs.Signs.{not_less}
use Rattle.plan_slab.specs.declared.bar.Bar.{Bar}
use Rattle.plan_slab.specs.Bars.{IsBar, IsOnEdge, AreBars}
use Rattle.plan_slab.proofs.XValues.{order_nat}

pub record FirstBars (sums : List (List Vector)) (room : Frame) (pieces : List Piece) (i : ℕ) (bars : List Bar) : Type 0 where
  pub each : All (IsBar sums room pieces) bars
  pub all : (n : ℕ) → n < i → Any (λ b. b.number ≡ n) bars

pub one_bar_more : (sums : List (List Vector)) (room : Frame) (pieces : List Piece) (i : ℕ) (bars : List Bar) (b : Bar) → FirstBars sums room pieces i bars → i < length pieces → b.number ≡ i → b.piece ≡ get_or pieces i b.piece → IsOnEdge sums room b.piece b.strand → FirstBars sums room pieces (i + 1) (bars ++ b ∷ [])
one_bar_more sums room pieces i bars b h within e is on = record {
  each = All-push (IsBar sums room pieces) bars b h.each (record {
    within = omega (arith, e, within);
    is = subst (λ n. b.piece ≡ piece_at pieces n) (sym e) (is ∙ get_or_default pieces i b.piece (piece 0 nothing) within);
    on_edge = on;
  });
  all = λ n less. ⊎_elim (λ l. any_left (λ b. b.number ≡ n) bars (b ∷ []) (h.all n l)) (λ f. any_right (λ b. b.number ≡ n) bars (b ∷ []) (any_here (λ b. b.number ≡ n) b [] (e ∙ sym f))) (order_nat n i less);
}

-- ---- sorted
abbrev pub begins : Bar → Vector
begins b = b.piece.part.a

pub first_not_less : (o r : Ordering) → is_lt (ordering_then o r) ≡ false → is_lt o ≡ false
first_not_less Less r e = e
first_not_less Equal r e = refl
first_not_less Greater r e = refl

in_order : (p q : Vector) → IsPoint p → IsPoint q → is_lt (point_cmp q p) ≡ false → LeX p q
in_order p q hp hq e = not_less (fraction_cmp (x_of q) (x_of p)) (q.x *ℤ p.w) (p.x *ℤ q.w) (fraction_cmp_ranked (x_of q) (x_of p) (omega (arith, linear)) (omega (arith, linear)))
    (first_not_less (fraction_cmp (x_of q) (x_of p)) (fraction_cmp (y_of q) (y_of p)) e)

pub sorted_bars : (sums : List (List Vector)) (room : Frame) (pieces : List Piece) (i : ℕ) (xs ys : List Bar) → i ≡ length pieces → All (λ p. HasPoints p.part) pieces → FirstBars sums room pieces i xs → IsPermutation xs ys → IsSortedByKey begins point_cmp ys → AreBars sums room pieces ys
sorted_bars sums room pieces i xs ys e points h perm sorted = record {
  each = bars;
  all = λ n less. let (k, b, within, is, f) = h.all n (omega (arith, less, e)) in let (j, below, at) = Contains-permutation xs ys b perm (k, within, is) in (j, b, below, at, f);
  rising = λ i j d less within.
      let b = get_or ys i d in
      let c = get_or ys j d in
      in_order (begins b) (begins c) (point b (bars i d (omega (arith, less, within)))) (point c (bars j d within))
      (sorted_far (λ x y. is_lt (point_cmp (begins x) (begins y))) (ranks_by point_cmp_total begins) ys sorted i j d (omega (arith, less)) within);
}
  where
    bars : All (IsBar sums room pieces) ys
    bars = All-permutation (IsBar sums room pieces) xs ys perm h.each

    point : (b : Bar) → IsBar sums room pieces b → IsPoint (begins b)
    point b k = subst (λ p. IsPoint p.part.a) (sym k.is) (points b.number (piece 0 nothing) k.within).0
