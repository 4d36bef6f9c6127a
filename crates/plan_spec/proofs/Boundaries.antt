-- The boundary and its pieces, tried on a bar of two sums in a room: each line is computed, or is a comparison of numbers.
use Rattle.std.proofs.Common.{◌≡◌, ℕ, ℤ, pos, negsuc, zero, suc, ◌<◌, List, [], ◌∷◌, length, get_or, refl, arith}
use Rattle.plan_exact.proofs.Laws.{linear}
use Rattle.plan_spec.specs.Vector.{Vector, spot}
use Rattle.plan_spec.specs.Segment.{Segment, segment}
use Rattle.plan_spec.specs.Frame.{Frame}
use Rattle.plan_spec.specs.Boundary.{StrictlyInside, InRoom, IsUncovered, boundary, sides}
use Rattle.plan_spec.specs.Pieces.{piece, numbered}

abbrev pub at : ℤ → ℤ → Vector
at x y = spot x y

-- the hexagon and the quadrangle of a bar, for a robot that is a triangle, and the room
abbrev pub hexagon : List Vector
hexagon = at (pos 8) (negsuc 4) ∷ at (pos 9) (negsuc 5) ∷ at (pos 11) (negsuc 5) ∷ at (pos 11) (negsuc 4) ∷ at (pos 9) (pos 10) ∷ at (pos 8) (pos 10) ∷ []

abbrev pub quadrangle : List Vector
quadrangle = at (pos 8) (pos 10) ∷ at (pos 10) (negsuc 4) ∷ at (pos 11) (negsuc 5) ∷ at (pos 11) (pos 10) ∷ []

abbrev pub room : Frame
room = record { low = at (pos 0) (pos 0); high = at (pos 19) (pos 19) }

-- ---- numbers: 0 to 5 the hexagon's edges, 6 to 9 the quadrangle's, 10 to 13 the sides of the room
abbrev all_edges : List Segment
all_edges = boundary (hexagon ∷ quadrangle ∷ []) room

-- what a number beyond the last would give
abbrev nothing : Segment
nothing = segment (at (pos 0) (pos 0)) (at (pos 0) (pos 0))

count : length all_edges ≡ 14
count = refl

first_edge : get_or all_edges 0 nothing ≡ segment (at (pos 8) (negsuc 4)) (at (pos 9) (negsuc 5))
first_edge = refl

-- the last edge of a sum runs to its first vertex
last_edge : get_or all_edges 5 nothing ≡ segment (at (pos 8) (pos 10)) (at (pos 8) (negsuc 4))
last_edge = refl

next_sum : get_or all_edges 6 nothing ≡ segment (at (pos 8) (pos 10)) (at (pos 10) (negsuc 4))
next_sum = refl

-- bottom, right, top and left, each from its lesser end
four_sides : sides room ≡ segment (at (pos 0) (pos 0)) (at (pos 19) (pos 0)) ∷ segment (at (pos 19) (pos 0)) (at (pos 19) (pos 19)) ∷ segment (at (pos 0) (pos 19)) (at (pos 19) (pos 19)) ∷ segment (at (pos 0) (pos 0)) (at (pos 0) (pos 19)) ∷ []
four_sides = refl

first_side : get_or all_edges 10 nothing ≡ segment (at (pos 0) (pos 0)) (at (pos 19) (pos 0))
first_side = refl

last_side : get_or all_edges 13 nothing ≡ segment (at (pos 0) (pos 0)) (at (pos 0) (pos 19))
last_side = refl

-- ---- the eleven pieces, by edge: single points on edges 3 and 6, two on the bottom
abbrev pub parts : List (List Segment)
parts =
    [] ∷ [] ∷ [] ∷ (segment (at (pos 9) (pos 10)) (at (pos 9) (pos 10)) ∷ []) ∷ (segment (at (pos 8) (pos 10)) (at (pos 9) (pos 10)) ∷ []) ∷ (segment (at (pos 8) (pos 0)) (at (pos 8) (pos 10)) ∷ [])
    ∷ (segment (at (pos 8) (pos 10)) (at (pos 8) (pos 10)) ∷ []) ∷ [] ∷ (segment (at (pos 11) (pos 0)) (at (pos 11) (pos 10)) ∷ []) ∷ (segment (at (pos 8) (pos 10)) (at (pos 11) (pos 10)) ∷ [])
    ∷ (segment (at (pos 0) (pos 0)) (at (pos 8) (pos 0)) ∷ segment (at (pos 11) (pos 0)) (at (pos 19) (pos 0)) ∷ []) ∷ (segment (at (pos 19) (pos 0)) (at (pos 19) (pos 19)) ∷ []) ∷ (segment (at (pos 0) (pos 19)) (at (pos 19) (pos 19)) ∷ []) ∷ (segment (at (pos 0) (pos 0)) (at (pos 0) (pos 19)) ∷ []) ∷ []

eleven : numbered 0 parts
    ≡ piece 3 (segment (at (pos 9) (pos 10)) (at (pos 9) (pos 10))) ∷ piece 4 (segment (at (pos 8) (pos 10)) (at (pos 9) (pos 10))) ∷ piece 5 (segment (at (pos 8) (pos 0)) (at (pos 8) (pos 10)))
    ∷ piece 6 (segment (at (pos 8) (pos 10)) (at (pos 8) (pos 10))) ∷ piece 8 (segment (at (pos 11) (pos 0)) (at (pos 11) (pos 10))) ∷ piece 9 (segment (at (pos 8) (pos 10)) (at (pos 11) (pos 10)))
    ∷ piece 10 (segment (at (pos 0) (pos 0)) (at (pos 8) (pos 0))) ∷ piece 10 (segment (at (pos 11) (pos 0)) (at (pos 19) (pos 0))) ∷ piece 11 (segment (at (pos 19) (pos 0)) (at (pos 19) (pos 19)))
    ∷ piece 12 (segment (at (pos 0) (pos 19)) (at (pos 19) (pos 19))) ∷ piece 13 (segment (at (pos 0) (pos 0)) (at (pos 0) (pos 19))) ∷ []
eleven = refl

-- ---- covered: strictly inside every edge; a vertex is not
covered : StrictlyInside hexagon (at (pos 9) (pos 5))
covered zero d within = omega (arith, linear)
covered (suc zero) d within = omega (arith, linear)
covered (suc (suc zero)) d within = omega (arith, linear)
covered (suc (suc (suc zero))) d within = omega (arith, linear)
covered (suc (suc (suc (suc zero)))) d within = omega (arith, linear)
covered (suc (suc (suc (suc (suc zero))))) d within = omega (arith, linear)
covered (suc (suc (suc (suc (suc (suc k)))))) d within = absurd (omega arith)

-- the vertex (9,10) of the hexagon is on its upper side, and on that of the quadrangle
vertex : IsUncovered (hexagon ∷ quadrangle ∷ []) room (at (pos 9) (pos 10))
vertex = record {
  in_room = record { wide = omega (arith, linear); tall = omega (arith, linear); left = omega (arith, linear); right = omega (arith, linear); below = omega (arith, linear); above = omega (arith, linear) };
  in_none = none;
}
  where
    none : (k : ℕ) (d : List Vector) → k < 2 → ¬ (StrictlyInside (get_or (hexagon ∷ quadrangle ∷ []) k d) (at (pos 9) (pos 10)))
    none zero d within h = let e = h 4 nothing (omega arith) in omega (arith, linear)
    none (suc zero) d within h = let e = h 3 nothing (omega arith) in omega (arith, linear)
    none (suc (suc k)) d within h = omega arith

-- a room without width holds nothing
no_width : (z : Vector) → ¬ (InRoom (record { low = at (pos 4) (pos 0); high = at (pos 4) (pos 9) }) z)
no_width z h = omega (arith, linear, h.wide)
