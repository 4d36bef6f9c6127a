-- The first piece of each height at the mediant of a slab, by rising heights, gives the spans of the slab.
use Rattle.std.proofs.Common.{◌≡◌, inl, inr, ℕ, ◌<◌, ◌≤◌, suc, List, [], ◌∷◌, length, map, get_or, All, AllPairs, Any, ap, ap₂, refl, sym, subst, arith}
use Rattle.std.proofs.lemmas.Bool.{cases_order}
use Rattle.std.proofs.lemmas.List.{get_or_default}
use Rattle.std.proofs.lemmas.List.Elements.{All-map}
use Rattle.plan_exact.proofs.Laws.{linear}
use Rattle.plan_spec.specs.Vector.{Vector, IsPoint, LtY, SameY}
use Rattle.plan_spec.specs.Segment.{Segment}
use Rattle.plan_spec.specs.Frame.{Frame}
use Rattle.plan_spec.specs.Pieces.{Piece, piece}
use Rattle.plan_spec.specs.Regions.{mediant, foot}
use Rattle.plan_spec.specs.Slabs.{nothing, piece_at, Reaches, LiesOn, Below, IsSpan, AreSpans}
use Rattle.plan_plane.proofs.Lists.{any_with, any_to_map, all_pairs_map}
use Rattle.plan_slab.specs.Levels.{Lower, Level, strand, AreLevels}
use Rattle.plan_slab.proofs.Order.Across.{IsSlab}
use Rattle.plan_slab.proofs.Order.Feet.{by_height, lower_by_feet, level_by_feet, mediant_inside, mediant_point}
use Rattle.plan_slab.proofs.Order.OneOrder.{IsStrand, is_strand, run_pos, lies_level, level_lies, lower_below, pieces_meet}
use Rattle.plan_slab.proofs.ByNumber.{at_number}
use Rattle.plan_slab.proofs.Pieces.{IsPiece, HasPieces}

module _ {sums : List (List Vector)} {room : Frame} {pieces : List Piece} {l r : Vector} {ns : List ℕ} (known : HasPieces sums room pieces) (slab : IsSlab l r) (h : AreLevels sums room pieces l r ns) where
  abbrev at : ℕ → Piece
  at n = piece_at pieces n

  abbrev edge : ℕ → Segment
  edge n = strand sums room (piece_at pieces n)

  -- a piece that goes across
  abbrev Goes : ℕ → Type 0
  Goes n = (n < length pieces) × Reaches l r (piece_at pieces n)

  is_piece : (n : ℕ) → n < length pieces → IsPiece sums room (piece_at pieces n)
  is_piece n within = known.each n (piece 0 nothing) within

  goes : (n : ℕ) → Goes n → IsStrand l r (strand sums room (piece_at pieces n)) (piece_at pieces n)
  goes n g = is_strand slab (is_piece n g.0) g.1

  below : (i j : ℕ) → Goes i → Goes j → Lower (mediant l r) (edge i) (edge j) → Below l r (edge i) (edge j)
  below i j gi gj lower = lower_below slab (goes i gi) (goes j gj) (pieces_meet known.floor slab (is_piece i gi.0) (is_piece j gj.0) gi.1 gj.1) (mediant l r) (mediant_point l r slab.left_point slab.right_point) (mediant_inside l r slab.wide) lower

  lies : (i j : ℕ) → Goes i → Goes j → Level (mediant l r) (edge i) (edge j) → LiesOn (edge i) (at j)
  lies i j gi gj level = level_lies slab (goes i gi) (pieces_meet known.floor slab (is_piece i gi.0) (is_piece j gj.0) gi.1 gj.1) (mediant l r) (mediant_point l r slab.left_point slab.right_point) (mediant_inside l r slab.wide) level

  order : AllPairs (Below l r) (map edge ns)
  order = all_pairs_map (Below l r) edge ns (λ i j d less within. below (get_or ns i d) (get_or ns j d) (h.each i d (omega arith)) (h.each j d within) (h.rising i j d less within))

  -- an earlier piece on the line of a span is level with a span of the list that has a lesser number, and there is one of that height alone
  first : (k d : ℕ) → k < length ns → (j : ℕ) → j < get_or ns k d → Reaches l r (piece_at pieces j) → ¬ (LiesOn (edge (get_or ns k d)) (at j))
  first k d within j less reach on =
      let n = get_or ns k d in
      let g = h.each k d within in
      let gj : Goes j = (omega (arith, less, g.0), reach) in
      let (i, below_i, (upto, level)) = at_number (λ n. (n ≤ j) × Level (mediant l r) (edge n) (edge j)) ns d (h.all j gj.0 reach) in
      let gi = h.each i d below_i in
      let same = lies_level (edge n) slab (goes j gj) on (mediant l r) in
      let both = (by_height (mediant l r)).trans (edge (get_or ns i d)) (edge j) (edge n) (run_pos (goes (get_or ns i d) gi)) (run_pos (goes j gj)) (run_pos (goes n g)) level (sym same) in
      elim (cases_order i k) [
        | inl e ↦ let f : get_or ns i d ≡ n = ap (λ i. get_or ns i d) e in omega (arith, f, upto, less)
        | inr t ↦ elim t [
          | inl lt ↦ omega (arith, linear, both, h.rising i k d lt within)
          | inr gt ↦ omega (arith, linear, both, h.rising k i d gt below_i)
        ]
      ]

  each : All (IsSpan sums room pieces l r) (map edge ns)
  each = All-map (IsSpan sums room pieces l r) edge ns (λ k d within. let g = h.each k d within in record {
    number = get_or ns k d;
    within = g.0;
    reaches = g.1;
    is = refl;
    first = first k d within;
  })

  all : All (λ p. Reaches l r p → Any (λ s. LiesOn s p) (map edge ns)) pieces
  all j d within reach =
      let e : piece_at pieces j ≡ get_or pieces j d = get_or_default pieces j (piece 0 nothing) d within in
      let gj : Goes j = (within, subst (Reaches l r) (sym e) reach) in
      subst (λ p. Any (λ s. LiesOn s p) (map edge ns)) e (any_to_map (λ s. LiesOn s (at j)) edge ns (any_with Goes (λ n. (n ≤ j) × Level (mediant l r) (edge n) (edge j)) (λ n. LiesOn (edge n) (at j)) (λ n gn f. lies n j gn gj f.1) ns h.each (h.all j within gj.1)))

  pub levels_are_spans : AreSpans sums room pieces l r (map (λ n. strand sums room (piece_at pieces n)) ns)
  levels_are_spans = record { order = order; each = each; all = all }

map_through : {X : Type 0} (number : X → ℕ) (edge : ℕ → Segment) (seen : X → Segment) (xs : List X) → All (λ x. seen x ≡ edge (number x)) xs → map edge (map number xs) ≡ map seen xs
map_through number edge seen [] h = refl
map_through number edge seen (x ∷ xs) h = ap₂ (λ y ys. y ∷ ys) (sym (h 0 x (omega arith))) (map_through number edge seen xs (λ k d within. h (suc k) d (omega arith)))

-- the same for what carries the numbers and the edges of pieces, by the feet on the edges
pub spans_from : {X : Type 0} {sums : List (List Vector)} {room : Frame} {pieces : List Piece} {l r : Vector} (number : X → ℕ) (seen : X → Segment) (xs : List X) → HasPieces sums room pieces → IsSlab l r
    → All (λ x. (number x < length pieces) × Reaches l r (piece_at pieces (number x))) xs → All (λ x. seen x ≡ strand sums room (piece_at pieces (number x))) xs
    → AllPairs (λ x y. LtY (foot (seen x) (mediant l r)) (foot (seen y) (mediant l r))) xs
    → ((j : ℕ) → j < length pieces → Reaches l r (piece_at pieces j) → Any (λ x. (number x ≤ j) × SameY (foot (seen x) (mediant l r)) (foot (strand sums room (piece_at pieces j)) (mediant l r))) xs)
    → AreSpans sums room pieces l r (map seen xs)
spans_from {X} {sums} {room} {pieces} {l} {r} number seen xs known slab goes on_edge rising all = subst (AreSpans sums room pieces l r) same (levels_are_spans known slab levels)
  where
    edge : ℕ → Segment
    edge n = strand sums room (piece_at pieces n)

    hm : IsPoint (mediant l r)
    hm = mediant_point l r slab.left_point slab.right_point

    rises : (i j : ℕ) (d : X) → i < j → j < length xs → Lower (mediant l r) (edge (number (get_or xs i d))) (edge (number (get_or xs j d)))
    rises i j d less within =
        let x = get_or xs i d in
        let y = get_or xs j d in
        subst (λ t. Lower (mediant l r) (edge (number x)) t) (on_edge j d within) (subst (λ s. Lower (mediant l r) s (seen y)) (on_edge i d (omega arith)) (lower_by_feet (seen x) (seen y) (mediant l r) hm (rising i j d less within)))

    levels : AreLevels sums room pieces l r (map number xs)
    levels = record {
      each = All-map (λ n. (n < length pieces) × Reaches l r (piece_at pieces n)) number xs goes;
      rising = all_pairs_map (λ i j. Lower (mediant l r) (strand sums room (piece_at pieces i)) (strand sums room (piece_at pieces j))) number xs rises;
      all = λ j within reach. any_to_map (λ n. (n ≤ j) × Level (mediant l r) (strand sums room (piece_at pieces n)) (strand sums room (piece_at pieces j))) number xs
          (any_with (λ x. seen x ≡ edge (number x)) (λ x. (number x ≤ j) × SameY (foot (seen x) (mediant l r)) (foot (edge j) (mediant l r))) (λ x. (number x ≤ j) × Level (mediant l r) (edge (number x)) (edge j))
          (λ x e f. (f.0, subst (λ s. Level (mediant l r) s (edge j)) e (level_by_feet (seen x) (edge j) (mediant l r) hm f.1))) xs on_edge (all j within reach));
    }

    same : map (λ n. strand sums room (piece_at pieces n)) (map number xs) ≡ map seen xs
    same = map_through number edge seen xs on_edge
