-- The number of a piece's edge is that of one.
use Rattle.std.proofs.Common.{ℕ, suc, ◌+◌, ◌<◌, ◌≤◌, List, [], ◌∷◌, length, map, All, sym, subst, arith}
use Rattle.std.specs.List.{AllZip}
use Rattle.std.proofs.lemmas.List.Elements.{All-nil, All-map, All-append}
use Rattle.plan_spec.specs.Vector.{Vector}
use Rattle.plan_spec.specs.Segment.{Segment}
use Rattle.plan_spec.specs.Frame.{Frame}
use Rattle.plan_spec.specs.Boundary.{boundary}
use Rattle.plan_spec.specs.Pieces.{ArePieces, Piece, piece, numbered, IsBoundaryOf}

edges_from : (sums : List (List Vector)) (room : Frame) (m n : ℕ) (es : List Segment) (parts : List (List Segment)) → AllZip (ArePieces sums room) es parts → n + length es ≤ m → All (λ p. p.edge < m) (numbered n parts)
edges_from sums room m n [] [] h few = All-nil (λ p. p.edge < m)
edges_from sums room m n [] (ps ∷ parts) h few = absurd h
edges_from sums room m n (e ∷ es) [] h few = absurd h
edges_from sums room m n (e ∷ es) (ps ∷ parts) h few = All-append (λ p. p.edge < m) (map (piece n) ps) (numbered (suc n) parts) (All-map (λ p. p.edge < m) (piece n) ps (λ k d within. omega (arith, few))) (edges_from sums room m (suc n) es parts h.1 (omega (arith, few)))

pub edges_below : {sums : List (List Vector)} {room : Frame} {pieces : List Piece} → IsBoundaryOf sums room pieces → All (λ p. p.edge < length (boundary sums room)) pieces
edges_below {sums} {room} h = subst (All (λ p. p.edge < length (boundary sums room))) (sym h.in_order) (edges_from sums room (length (boundary sums room)) 0 (boundary sums room) h.parts h.each (omega arith))
