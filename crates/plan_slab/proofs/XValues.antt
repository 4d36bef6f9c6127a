-- The x of points as fractions.
use Rattle.std.proofs.Common.{◌≡◌, inl, inr, ◌⊎◌, ℕ, ◌+◌, ◌<◌, sym, subst, List, [], ◌∷◌, ◌++◌, get_or, length, ◌∙◌, All, Any, Contains, arith}
use Rattle.std.proofs.lemmas.Bool.{cases_order}
use Rattle.std.proofs.lemmas.List.{get_or_default}
use Rattle.std.proofs.lemmas.List.Elements.{Contains-get_or, All-push}
use Rattle.plan_exact.proofs.Laws.{linear}
use Rattle.plan_spec.specs.Vector.{Vector, IsPoint}
use Rattle.plan_spec.specs.Pieces.{Piece}
use Rattle.plan_plane.proofs.Rising.ByCoordinate.{order_x}
use Rattle.plan_plane.proofs.Lists.{any_left, any_right, any_here}
use Rattle.plan_grid.specs.Fraction.{Fraction, SameValue, IsRatio}
use Rattle.plan_slab.specs.RisingValues.{IsRisingOf}
use Rattle.plan_slab.specs.Seen.{line_seen}
use Rattle.plan_slab.specs.EventLines.{IsXOf, IsLine, IsXOfEnd, AreEventLines}

pub line_point : (l : Fraction) → IsRatio l → IsPoint (line_seen l)
line_point l h = omega (arith, linear, h.positive)

pub order_nat : (k i : ℕ) → k < i + 1 → (k < i) ⊎ (k ≡ i)
order_nat k i h = elim (cases_order k i) [ inl e ↦ inr e | inr t ↦ elim t [ inl less ↦ inl less | inr more ↦ absurd (omega arith) ] ]

-- what has P in a list with no other values has P in that list
pub all_of_each : {X : Type 0} (P : X → Type 0) (xs ys : List X) → ((x : X) → Contains ys x → Contains xs x) → All P xs → All P ys
all_of_each P xs ys each all k d within =
    let x = get_or ys k d in
    let (j, below, is) = each x (Contains-get_or ys k d within) in
    subst P is (all j x below)

-- ---- the lines of the first pieces
pub record LinesSoFar (pieces : List Piece) (i : ℕ) (ls : List Fraction) : Type 0 where
  pub lines : All IsLine ls
  pub each : All (λ l. Any (IsXOfEnd l) pieces) ls
  pub all : (k : ℕ) (d : Piece) → k < i → Any (IsXOf (get_or pieces k d).part.a) ls × Any (IsXOf (get_or pieces k d).part.b) ls

pub two_more : (pieces : List Piece) (i : ℕ) (ls : List Fraction) (p : Piece) (f g : Fraction) → LinesSoFar pieces i ls → i < length pieces → p ≡ get_or pieces i p → IsLine f → IsXOf p.part.a f → IsLine g → IsXOf p.part.b g → LinesSoFar pieces (i + 1) ((ls ++ f ∷ []) ++ g ∷ [])
two_more pieces i ls p f g h within is hf af hg bg = record {
  lines = All-push IsLine (ls ++ f ∷ []) g (All-push IsLine ls f h.lines hf) hg;
  each = All-push (λ l. Any (IsXOfEnd l) pieces) (ls ++ f ∷ []) g (All-push (λ l. Any (IsXOfEnd l) pieces) ls f h.each (i, p, within, sym is, inl af)) (i, p, within, sym is, inr bg);
  all = λ k d less. by k d (order_nat k i less);
}
  where
    later : (P : Fraction → Type 0) → Any P ls → Any P ((ls ++ f ∷ []) ++ g ∷ [])
    later P a = any_left P (ls ++ f ∷ []) (g ∷ []) (any_left P ls (f ∷ []) a)

    by : (k : ℕ) (d : Piece) → (k < i) ⊎ (k ≡ i) → Any (IsXOf (get_or pieces k d).part.a) ((ls ++ f ∷ []) ++ g ∷ []) × Any (IsXOf (get_or pieces k d).part.b) ((ls ++ f ∷ []) ++ g ∷ [])
    by k d (inl less) = let r = h.all k d less in (later (IsXOf (get_or pieces k d).part.a) r.0, later (IsXOf (get_or pieces k d).part.b) r.1)
    by k d (inr e) =
        let at : p ≡ get_or pieces k d = subst (λ j. p ≡ get_or pieces j d) (sym e) (is ∙ get_or_default pieces i p d within) in (
          any_left (IsXOf (get_or pieces k d).part.a) (ls ++ f ∷ []) (g ∷ []) (any_right (IsXOf (get_or pieces k d).part.a) ls (f ∷ []) (any_here (IsXOf (get_or pieces k d).part.a) f [] (subst (λ q. IsXOf q.part.a f) at af))),
          any_right (IsXOf (get_or pieces k d).part.b) (ls ++ f ∷ []) (g ∷ []) (any_here (IsXOf (get_or pieces k d).part.b) g [] (subst (λ q. IsXOf q.part.b g) at bg)),
        )

-- ---- all lines
pub event_lines : (pieces : List Piece) (i : ℕ) (xs ys : List Fraction) → i ≡ length pieces → All (λ p. IsPoint p.part.a × IsPoint p.part.b) pieces → LinesSoFar pieces i xs → IsRisingOf xs ys → AreEventLines pieces ys
event_lines pieces i xs ys e points h r = record {
  lines = all_of_each IsLine xs ys r.each h.lines;
  rising = r.rising;
  each = all_of_each (λ l. Any (IsXOfEnd l) pieces) xs ys r.each h.each;
  all = λ k d within. let p = get_or pieces k d in let a = h.all k d (omega (arith, within, e)) in let pts = points k d within in (found p.part.a pts.0 a.0, found p.part.b pts.1 a.1);
}
  where
    found : (p : Vector) → IsPoint p → Any (IsXOf p) xs → Any (IsXOf p) ys
    found p hp (j, f, below, is, at) =
        let hf : IsLine f = subst IsLine is (h.lines j f below) in
        let (k, g, within, is-g, same) = subst (λ f. Any (SameValue f) ys) is (r.all j f below) in
        let hg : IsRatio g = subst IsRatio is-g (r.ratios k g within) in
        (k, g, within, is-g, sym (order_x.trans p (line_seen f) (line_seen g) hp (line_point f hf.ratio) (line_point g hg) (sym at) same))
