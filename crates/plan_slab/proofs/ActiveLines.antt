-- What a sweep holds at a line, as it takes bars up and lets them go; and that these are all that go across.
use Rattle.std.proofs.Common.{◌≡◌, ◌⊎◌, inl, inr, ⊎_elim, ℕ, ◌<◌, ◌≤◌, sym, subst, ap, ◌∙◌, List, [], get_or, length, Contains, arith}
use Rattle.std.proofs.lemmas.Bool.{cases_order}
use Rattle.std.proofs.lemmas.List.Elements.{All-nil, All-contains}
use Rattle.plan_spec.specs.Vector.{Vector, IsPoint, LeX}
use Rattle.plan_spec.specs.Frame.{Frame}
use Rattle.plan_spec.specs.Pieces.{Piece}
use Rattle.plan_spec.specs.Slabs.{piece_at}
use Rattle.plan_plane.proofs.Segment.ByX.{leX_trans}
use Rattle.plan_grid.specs.Fraction.{Fraction}
use Rattle.plan_slab.specs.declared.bar.Bar.{Bar}
use Rattle.plan_slab.specs.Bars.{IsBar, AreBars}
use Rattle.plan_slab.specs.Seen.{line_seen}
use Rattle.plan_slab.specs.Sweeps.{BeginsBy, LastsTo, AreActive, AreEntered, AreKept, AreAcross}
use Rattle.plan_slab.proofs.Pieces.{IsPiece, HasPieces, bar_piece}

-- the first n bars begin by the line
abbrev pub HaveBegun : List Bar → ℕ → Fraction → Type 0
HaveBegun bars n l = (k : ℕ) (d : Bar) → k < n → k < length bars → BeginsBy l (get_or bars k d)

pub none_active : (bars : List Bar) (l r : Fraction) → AreActive bars 0 l r []
none_active bars l r = record { each = All-nil (λ b. Contains bars b × BeginsBy l b × LastsTo r b); all = λ k d less. absurd (omega (arith, less)) }

pub none_begun : (bars : List Bar) (l : Fraction) → HaveBegun bars 0 l
none_begun bars l k d less = absurd (omega (arith, less))

module _ {sums : List (List Vector)} {room : Frame} {pieces : List Piece} (known : HasPieces sums room pieces) (bars : List Bar) (are : AreBars sums room pieces bars) where
  pub is_bar : (b : Bar) → Contains bars b → IsBar sums room pieces b
  is_bar b has = All-contains (IsBar sums room pieces) bars b are.each has

  piece_of : (k : ℕ) (d : Bar) → k < length bars → IsPiece sums room (get_or bars k d).piece
  piece_of k d within = bar_piece known (get_or bars k d) (are.each k d within)

  -- those that begin by a line begin by each on its right
  later_line : (p l : Fraction) → IsPoint (line_seen p) → IsPoint (line_seen l) → LeX (line_seen p) (line_seen l) → (b : Bar) → IsPiece sums room b.piece → BeginsBy p b → BeginsBy l b
  later_line p l hp hl le b h begins = leX_trans b.piece.part.a (line_seen p) (line_seen l) h.part.points.0 hp hl begins le

  -- bars after one that does not begin by the line do not
  pub none_later : (n : ℕ) (l : Fraction) → IsPoint (line_seen l) → ((d : Bar) → n < length bars → ¬ (BeginsBy l (get_or bars n d))) → (k : ℕ) (d : Bar) → n ≤ k → k < length bars → ¬ (BeginsBy l (get_or bars k d))
  none_later n l hl off k d low within begins = elim (cases_order k n) [
    | inl e ↦ off d (omega (arith, within, e)) (subst (λ k. BeginsBy l (get_or bars k d)) e begins)
    | inr t ↦ elim t [
      | inl less ↦ absurd (omega (arith, low, less))
      | inr more ↦ off d (omega (arith, within, more)) (leX_trans (get_or bars n d).piece.part.a (get_or bars k d).piece.part.a (line_seen l) (piece_of n d (omega (arith, within, more))).part.points.0 (piece_of k d within).part.points.0 hl (are.rising n k d more within) begins)
    ]
  ]

  -- of those that last to a line exactly those are kept that last to one on its right
  pub kept_active : (n : ℕ) (l r s : Fraction) (xs ys : List Bar) → IsPoint (line_seen r) → IsPoint (line_seen s) → LeX (line_seen r) (line_seen s) → AreActive bars n l r xs → AreKept s xs ys → AreActive bars n l s ys
  kept_active n l r s xs ys hr hs le active kept = record {
    each = λ k d within. let (has, lasts) = kept.each k d within in let a = All-contains (λ b. Contains bars b × BeginsBy l b × LastsTo r b) xs (get_or ys k d) active.each has in (a.0, a.1, lasts);
    all = λ k d less within begins lasts. kept.all (get_or bars k d) (active.all k d less within begins (leX_trans (line_seen r) (line_seen s) (get_or bars k d).piece.part.b hr hs (piece_of k d within).part.points.1 le lasts)) lasts;
  }

  module _ (m n : ℕ) (p l : Fraction) (hp : IsPoint (line_seen p)) (hl : IsPoint (line_seen l)) (le : LeX (line_seen p) (line_seen l)) (xs ys : List Bar) (active : AreActive bars m p l xs) (begun : HaveBegun bars m p) (entered : AreEntered bars m n l xs ys) where
    old_begins : (k : ℕ) (d : Bar) → k < m → k < length bars → BeginsBy l (get_or bars k d)
    old_begins k d less within = later_line p l hp hl le (get_or bars k d) (piece_of k d within) (begun k d less within)

    -- what is held after the bars that begin by the line were added
    held : (b : Bar) → Contains ys b → Contains bars b × BeginsBy l b
    held b has = ⊎_elim
        (λ old. let a = All-contains (λ b. Contains bars b × BeginsBy p b × LastsTo l b) xs b active.each old in (a.0, later_line p l hp hl le b (bar_piece known b (is_bar b a.0)) a.1))
        (λ new. new)
        (All-contains (λ b. Contains xs b ⊎ (Contains bars b × BeginsBy l b)) ys b entered.each has)

    by_number : (k : ℕ) → (k < m) ⊎ (m ≤ k)
    by_number k = elim (cases_order k m) [ inl e ↦ inr (omega (arith, e)) | inr t ↦ elim t [ inl less ↦ inl less | inr more ↦ inr (omega (arith, more)) ] ]

    pub entered_begun : HaveBegun bars n l
    entered_begun k d less within = ⊎_elim (λ old. old_begins k d old within) (λ new. (held (get_or bars k d) (entered.new k d new less)).1) (by_number k)

    pub entered_active : (zs : List Bar) → AreKept l ys zs → AreActive bars n l l zs
    entered_active zs kept = record {
      each = λ k d within. let (has, lasts) = kept.each k d within in let h = held (get_or zs k d) has in (h.0, h.1, lasts);
      all = λ k d less within begins lasts. kept.all (get_or bars k d) (⊎_elim (λ old. entered.old (get_or bars k d) (active.all k d old within (begun k d old within) lasts)) (λ new. entered.new k d new less) (by_number k)) lasts;
    }

  -- where no bar later than those begins by the line, the active ones are those that go across
  pub active_across : (n : ℕ) (l r : Fraction) (xs : List Bar) → AreActive bars n l r xs → ((k : ℕ) (d : Bar) → n ≤ k → k < length bars → ¬ (BeginsBy l (get_or bars k d))) → AreAcross sums room pieces l r xs
  active_across n l r xs active later = record {
    each = λ k d within. let a = active.each k d within in (is_bar (get_or xs k d) a.0, a.1, a.2);
    every = λ i within reach.
        let (k, b, below, is, e) = are.all i within in
        let bar : IsBar sums room pieces b = subst (IsBar sums room pieces) is (are.each k b below) in
        let at : piece_at pieces i ≡ b.piece = ap (piece_at pieces) (sym e) ∙ sym bar.is in
        let begins : BeginsBy l (get_or bars k b) = subst (BeginsBy l) (sym is) (subst (λ p. LeX p.part.a (line_seen l)) at reach.0) in
        let lasts : LastsTo r (get_or bars k b) = subst (LastsTo r) (sym is) (subst (λ p. LeX (line_seen r) p.part.b) at reach.1) in
        let less : k < n = elim (cases_order k n) [ inl f ↦ absurd (later k b (omega (arith, f)) below begins) | inr t ↦ elim t [ inl less ↦ less | inr more ↦ absurd (later k b (omega (arith, more)) below begins) ] ] in
        let (j, inside, same) = subst (Contains xs) is (active.all k b less below begins lasts) in
        (j, b, inside, same, e);
  }
