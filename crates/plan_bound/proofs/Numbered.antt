-- The pieces of each edge, edge after edge, are those of the boundary.
use Rattle.std.proofs.Common.{◌≡◌, ℕ, zero, suc, ◌+◌, ◌<◌, List, [], ◌∷◌, ◌++◌, map, length, get_or, All, refl, ap, ap₂, subst, arith}
use Rattle.std.specs.List.{AllZip, flat_map, range_with_len}
use Rattle.plan_exact.specs.Vectors.{Vector}
use Rattle.plan_spec.specs.Segment.{Segment}
use Rattle.plan_spec.specs.Frame.{Frame}
use Rattle.plan_spec.specs.Boundary.{boundary}
use Rattle.plan_spec.specs.Pieces.{ArePieces, Piece, piece, numbered, IsBoundaryOf}
use Rattle.plan_bound.specs.Pieces.{ArePiecesOf}

by_number : (k : ℕ) (ps : List Piece) → All (λ p. p.edge ≡ k) ps → ps ≡ map (piece k) (map (λ p. p.part) ps)
by_number k [] h = refl
by_number k (p ∷ ps) h = ap₂ (λ x xs. x ∷ xs) (ap (λ e. piece e p.part) (h 0 p (omega arith))) (by_number k ps (λ i d within. h (suc i) d (omega (arith, within))))

module _ {X : Type 0} (items : X → List Piece) (sums : List (List Vector)) (room : Frame) where
  abbrev parts : X → List Segment
  parts x = map (λ p. p.part) (items x)

  abbrev AreOf : ℕ → X → Type 0
  AreOf k x = ArePiecesOf sums room k (items x)

  in_order : (k n : ℕ) (xs : List X) → AllZip AreOf (range_with_len k n) xs → flat_map items xs ≡ numbered k (map parts xs)
  in_order k zero [] h = refl
  in_order k zero (x ∷ xs) h = absurd h
  in_order k (suc n) [] h = absurd h
  in_order k (suc n) (x ∷ xs) h = ap₂ (λ a b. a ++ b) (by_number k (items x) h.0.numbers) (in_order (suc k) n xs (subst (λ j. AllZip AreOf (range_with_len j n) xs) (omega arith) h.1))

  each : (es : List Segment) (k : ℕ) (xs : List X) → ((j : ℕ) (e : Segment) → j < length es → get_or (boundary sums room) (k + j) e ≡ get_or es j e) → AllZip AreOf (range_with_len k (length es)) xs → AllZip (ArePieces sums room) es (map parts xs)
  each [] k [] at h = tt
  each [] k (x ∷ xs) at h = absurd h
  each (e ∷ es) k [] at h = absurd h
  each (e ∷ es) k (x ∷ xs) at h = (
    subst (λ s. ArePieces sums room s (parts x)) (subst (λ i. get_or (boundary sums room) i e ≡ e) (omega arith) (at 0 e (omega arith))) (h.0.pieces e),
    each es (k + 1) xs (λ j d within. subst (λ i. get_or (boundary sums room) i d ≡ get_or es j d) (omega arith) (at (suc j) d (omega (arith, within)))) h.1,
  )

  pub boundary_of : (xs : List X) → AllZip AreOf (range_with_len 0 (length (boundary sums room))) xs → IsBoundaryOf sums room (flat_map items xs)
  boundary_of xs h = record {
    parts = map parts xs;
    each = each (boundary sums room) 0 xs (λ j d within. let e : 0 + j ≡ j = omega arith in ap (λ i. get_or (boundary sums room) i d) e) h;
    in_order = in_order 0 (length (boundary sums room)) xs h;
  }
