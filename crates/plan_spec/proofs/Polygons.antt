-- Simple polygons and their triangles, tried on worked cases: each line is computed.
use Rattle.std.proofs.Common.{◌≡◌, ℤ, pos, ◌⊎◌, inl, inr, List, [], ◌∷◌, refl, arith}
use Rattle.std.proofs.lemmas.Int.{ints}
use Rattle.plan_spec.specs.Vector.{Vector, LeX, spot}
use Rattle.plan_spec.specs.Segment.{On, segment}
use Rattle.plan_spec.specs.SimplePolygon.{IsSharedVertex, MeetWrongly, TurnsLeft}
use Rattle.plan_spec.specs.Triangulation.{Triangle, triangles, from_least}

abbrev triangle : ℤ → ℤ → ℤ → ℤ → ℤ → ℤ → Triangle
triangle ax ay bx by cx cy = record { a = spot ax ay; b = spot bx by; c = spot cx cy }

-- an L has four triangles: a cut to (2, 2), then ears
abbrev ell : List Vector
ell = spot (pos 0) (pos 0) ∷ spot (pos 4) (pos 0) ∷ spot (pos 4) (pos 2) ∷ spot (pos 2) (pos 2) ∷ spot (pos 2) (pos 4) ∷ spot (pos 0) (pos 4) ∷ []

of_ell : triangles ell
    ≡ triangle (pos 0) (pos 0) (pos 4) (pos 0) (pos 2) (pos 2) ∷ triangle (pos 2) (pos 2) (pos 4) (pos 0) (pos 4) (pos 2) ∷ triangle (pos 0) (pos 0) (pos 2) (pos 2) (pos 0) (pos 4) ∷ triangle (pos 0) (pos 4) (pos 2) (pos 2) (pos 2) (pos 4) ∷ []
of_ell = refl

-- a dart is cut to the vertex between its wings
of_dart : triangles (spot (pos 0) (pos 0) ∷ spot (pos 6) (pos 1) ∷ spot (pos 2) (pos 2) ∷ spot (pos 1) (pos 6) ∷ [])
    ≡ triangle (pos 0) (pos 0) (pos 6) (pos 1) (pos 2) (pos 2) ∷ triangle (pos 0) (pos 0) (pos 2) (pos 2) (pos 1) (pos 6) ∷ []
of_dart = refl

-- the list begins anew at its least vertex, and goes round
turned_list : from_least (spot (pos 3) (pos 0) ∷ spot (pos 0) (pos 2) ∷ spot (pos 0) (pos 1) ∷ spot (pos 5) (pos 5) ∷ [])
    ≡ spot (pos 0) (pos 1) ∷ spot (pos 5) (pos 5) ∷ spot (pos 3) (pos 0) ∷ spot (pos 0) (pos 2) ∷ []
turned_list = refl

abbrev middle : Vector
middle = spot (pos 1) (pos 1)

turns_left : TurnsLeft ell
turns_left = omega (arith, ints)

-- of a bow tie edges 0 and 2 meet wrongly, and edges 0 and 1 do not
abbrev bow : List Vector
bow = spot (pos 0) (pos 0) ∷ spot (pos 2) (pos 2) ∷ spot (pos 2) (pos 0) ∷ spot (pos 0) (pos 2) ∷ []

-- the point (1, 1) is on both
bow_crosses : MeetWrongly bow 0 2
bow_crosses =
    let up : On (segment (spot (pos 0) (pos 0)) (spot (pos 2) (pos 2))) middle = record {
      in_line = refl;
      within_x = inl (omega (arith, ints), omega (arith, ints));
      within_y = inl (omega (arith, ints), omega (arith, ints));
    } in
    let down : On (segment (spot (pos 2) (pos 0)) (spot (pos 0) (pos 2))) middle = record {
      in_line = refl;
      within_x = inr (omega (arith, ints), omega (arith, ints));
      within_y = inl (omega (arith, ints), omega (arith, ints));
    } in
    inl (middle, omega (arith, ints), up, down, shared)
  where
    shared : ¬ (IsSharedVertex bow 0 2 middle)
    shared (inl s) = let e = s.0 in omega arith
    shared (inr s) = let e = s.1 in omega arith

-- a point of both has the x of the one and is on the line of the other
bow_neighbours : ¬ (MeetWrongly bow 0 1)
bow_neighbours (inl (z, hz, i, j, apart)) = by j.within_x
  where
    by : (LeX (spot (pos 2) (pos 2)) z × LeX z (spot (pos 2) (pos 0))) ⊎ (LeX (spot (pos 2) (pos 0)) z × LeX z (spot (pos 2) (pos 2))) → ⊥
    by (inl h) = let a = i.in_line in let b = h.0 in let c = h.1 in apart (inl (refl, (omega (arith, ints), omega (arith, ints))))
    by (inr h) = let a = i.in_line in let b = h.0 in let c = h.1 in apart (inl (refl, (omega (arith, ints), omega (arith, ints))))
bow_neighbours (inr s) = s.2
