-- Slabs and regions, tried on an empty room and on a bar in a room: each line is computed, or is a comparison of numbers.
use Rattle.std.proofs.Common.{◌≡◌, ◌⊎◌, inl, inr, ℕ, ℤ, zero, suc, ◌<◌, pos, List, [], ◌∷◌, All, Any, AllPairs, refl, sym, subst, arith, ◌<ℤ◌, get_or, ap}
use Rattle.std.proofs.lemmas.Int.{ints}
use Rattle.plan_exact.proofs.Laws.{linear}
use Rattle.plan_spec.specs.Vector.{Vector, IsPoint, LtX, LtY, SameX, Same, spot, turn}
use Rattle.plan_spec.specs.Segment.{Segment, segment}
use Rattle.plan_spec.specs.Frame.{OnOrBeyond}
use Rattle.plan_spec.specs.Boundary.{IsClearOf}
use Rattle.plan_spec.specs.Pieces.{Piece, piece, numbered}
use Rattle.plan_spec.specs.Slabs.{piece_at, AreLines, Reaches, LiesOn, Below, IsSpan, AreSpans, IsMark, AreMarks, Slabs, size, edge_of, rightward}
use Rattle.plan_spec.specs.Regions.{cell, wall, spot_of, lots, none, keep, drop, AreRegions}
use Rattle.plan_spec.specs.Polygon.{Inside, edges}
use Rattle.plan_spec.proofs.Boundaries.{hexagon, quadrangle, room, parts}

abbrev pub flat : ℤ → ℤ → ℤ → ℤ → Segment
flat ax ay bx by = segment (spot ax ay) (spot bx by)

abbrev pub floor : Segment
floor = flat (pos 0) (pos 0) (pos 19) (pos 0)

abbrev pub ceiling : Segment
ceiling = flat (pos 0) (pos 19) (pos 19) (pos 19)

-- ---- the empty room: its four sides are pieces
abbrev pieces : List Piece
pieces = numbered 0 ((floor ∷ []) ∷ (flat (pos 19) (pos 0) (pos 19) (pos 19) ∷ []) ∷ (ceiling ∷ []) ∷ (flat (pos 0) (pos 0) (pos 0) (pos 19) ∷ []) ∷ [])

abbrev empty : Slabs
empty = record {
  lines = spot (pos 0) (pos 0) ∷ spot (pos 19) (pos 0) ∷ [];
  spans = (floor ∷ ceiling ∷ []) ∷ [];
  marks = (spot (pos 0) (pos 0) ∷ spot (pos 0) (pos 19) ∷ []) ∷ (spot (pos 19) (pos 0) ∷ spot (pos 19) (pos 19) ∷ []) ∷ [];
}

size_of_empty : size empty ≡ 6
size_of_empty = refl

lots_of_empty : lots empty ≡ cell 0 0 ∷ wall 1 0 ∷ []
lots_of_empty = refl

-- the cell's point is the middle of the room, and is clear; the wall is on the room's right side, and is not
middle : spot_of empty (cell 0 0) ≡ record { x = pos 27436; y = pos 27436; w = pos 2888 }
middle = refl

one_region : AreRegions [] room empty (cell 0 0 ∷ [])
one_region = keep (cell 0 0) (wall 1 0 ∷ []) [] (record { in_room = inside; in_none = λ k d within. absurd (omega arith) }) (drop (wall 1 0) [] [] on_side none)
  where
    inside : ¬ (OnOrBeyond room (spot_of empty (cell 0 0)))
    inside (inl h) = omega (arith, ints, h)
    inside (inr (inl h)) = omega (arith, ints, h)
    inside (inr (inr (inl h))) = omega (arith, ints, h)
    inside (inr (inr (inr h))) = omega (arith, ints, h)

    on_side : ¬ (IsClearOf [] room (spot_of empty (wall 1 0)))
    on_side h = h.in_room (inr (inl (omega (arith, ints))))

-- the lines are the x of the two upright sides
two_lines : AreLines pieces empty.lines
two_lines = record { points = points; rising = rising; each = each; all = all }
  where
    points : All IsPoint empty.lines
    points zero d within = omega (arith, ints)
    points (suc zero) d within = omega (arith, ints)
    points (suc (suc k)) d within = absurd (omega arith)

    rising : AllPairs LtX empty.lines
    rising zero zero d less within = absurd (omega arith)
    rising zero (suc zero) d less within = omega (arith, ints)
    rising zero (suc (suc j)) d less within = absurd (omega arith)
    rising (suc i) zero d less within = absurd (omega arith)
    rising (suc i) (suc zero) d less within = absurd (omega arith)
    rising (suc i) (suc (suc j)) d less within = absurd (omega arith)

    each : All (λ l. Any (λ p. SameX l p.part.a ⊎ SameX l p.part.b) pieces) empty.lines
    each zero d within = (0, piece 0 floor, omega arith, refl, inl refl)
    each (suc zero) d within = (0, piece 0 floor, omega arith, refl, inr refl)
    each (suc (suc k)) d within = absurd (omega arith)

    here : (v : Vector) → SameX v (spot (pos 0) (pos 0)) → Any (SameX v) empty.lines
    here v e = (0, spot (pos 0) (pos 0), omega arith, refl, e)

    there : (v : Vector) → SameX v (spot (pos 19) (pos 0)) → Any (SameX v) empty.lines
    there v e = (1, spot (pos 19) (pos 0), omega arith, refl, e)

    all : All (λ p. Any (SameX p.part.a) empty.lines × Any (SameX p.part.b) empty.lines) pieces
    all zero d within = (here floor.a refl, there floor.b refl)
    all (suc zero) d within = (there (spot (pos 19) (pos 0)) refl, there (spot (pos 19) (pos 19)) refl)
    all (suc (suc zero)) d within = (here ceiling.a refl, there ceiling.b refl)
    all (suc (suc (suc zero))) d within = (here (spot (pos 0) (pos 0)) refl, here (spot (pos 0) (pos 19)) refl)
    all (suc (suc (suc (suc k)))) d within = absurd (omega arith)

-- the spans are the bottom and the top side, edges 0 and 2
two_spans : AreSpans [] room pieces (spot (pos 0) (pos 0)) (spot (pos 19) (pos 0)) (floor ∷ ceiling ∷ [])
two_spans = record { order = order; each = each; all = all }
  where
    l : Vector
    l = spot (pos 0) (pos 0)

    r : Vector
    r = spot (pos 19) (pos 0)

    order : AllPairs (Below l r) (floor ∷ ceiling ∷ [])
    order zero zero d less within = absurd (omega arith)
    order zero (suc zero) d less within = λ z hz inside above. omega (arith, linear, hz, above)
    order zero (suc (suc j)) d less within = absurd (omega arith)
    order (suc i) zero d less within = absurd (omega arith)
    order (suc i) (suc zero) d less within = absurd (omega arith)
    order (suc i) (suc (suc j)) d less within = absurd (omega arith)

    ceiling_first : (j : ℕ) → j < 2 → Reaches l r (piece_at pieces j) → ¬ (LiesOn ceiling (piece_at pieces j))
    ceiling_first zero less h on = omega (arith, ints, on.0)
    ceiling_first (suc zero) less h on = omega (arith, ints, h.0)
    ceiling_first (suc (suc j)) less h on = omega arith

    each : All (IsSpan [] room pieces l r) (floor ∷ ceiling ∷ [])
    each zero d within = record { number = 0; within = omega arith; reaches = (omega (arith, ints), omega (arith, ints)); is = refl; first = λ j less. absurd (omega arith) }
    each (suc zero) d within = record { number = 2; within = omega arith; reaches = (omega (arith, ints), omega (arith, ints)); is = refl; first = ceiling_first }
    each (suc (suc k)) d within = absurd (omega arith)

    all : All (λ p. Reaches l r p → Any (λ s. LiesOn s p) (floor ∷ ceiling ∷ [])) pieces
    all zero d within h = (0, floor, omega arith, refl, (refl, refl))
    all (suc zero) d within h = absurd (omega (arith, ints, h.0))
    all (suc (suc zero)) d within h = (1, ceiling, omega arith, refl, (refl, refl))
    all (suc (suc (suc zero))) d within h = absurd (omega (arith, ints, h.1))
    all (suc (suc (suc (suc k)))) d within h = absurd (omega arith)

-- the marks of the left line are the left ends of the bottom and of the top side
two_marks : AreMarks pieces (spot (pos 0) (pos 0)) (spot (pos 0) (pos 0) ∷ spot (pos 0) (pos 19) ∷ [])
two_marks = record { points = points; on_line = on_line; rising = rising; exact = λ z hz e. (some z hz e, is_mark z) }
  where
    ms : List Vector
    ms = spot (pos 0) (pos 0) ∷ spot (pos 0) (pos 19) ∷ []

    points : All IsPoint ms
    points zero d within = omega (arith, ints)
    points (suc zero) d within = omega (arith, ints)
    points (suc (suc k)) d within = absurd (omega arith)

    on_line : All (SameX (spot (pos 0) (pos 0))) ms
    on_line zero d within = refl
    on_line (suc zero) d within = refl
    on_line (suc (suc k)) d within = absurd (omega arith)

    rising : AllPairs LtY ms
    rising zero zero d less within = absurd (omega arith)
    rising zero (suc zero) d less within = omega (arith, ints)
    rising zero (suc (suc j)) d less within = absurd (omega arith)
    rising (suc i) zero d less within = absurd (omega arith)
    rising (suc i) (suc zero) d less within = absurd (omega arith)
    rising (suc i) (suc (suc j)) d less within = absurd (omega arith)

    low : (z : Vector) → Same z (spot (pos 0) (pos 0)) → Any (Same z) ms
    low z e = (0, spot (pos 0) (pos 0), omega arith, refl, e)

    high : (z : Vector) → Same z (spot (pos 0) (pos 19)) → Any (Same z) ms
    high z e = (1, spot (pos 0) (pos 19), omega arith, refl, e)

    of_floor : (z : Vector) → IsPoint z → SameX (spot (pos 0) (pos 0)) z → IsMark z (piece 0 floor) → Any (Same z) ms
    of_floor z hz e (inl h) = low z h
    of_floor z hz e (inr (inl h)) = absurd (omega (arith, linear, h.0))
    of_floor z hz e (inr (inr h)) = let on = h.1.in_line in low z (omega (arith, linear), omega (arith, linear, on))

    of_right : (z : Vector) → IsPoint z → SameX (spot (pos 0) (pos 0)) z → IsMark z (piece 1 (flat (pos 19) (pos 0) (pos 19) (pos 19))) → Any (Same z) ms
    of_right z hz e (inl h) = absurd (omega (arith, linear, h.0))
    of_right z hz e (inr (inl h)) = absurd (omega (arith, linear, h.0))
    of_right z hz e (inr (inr h)) = absurd (omega (arith, ints, h.0))

    of_ceiling : (z : Vector) → IsPoint z → SameX (spot (pos 0) (pos 0)) z → IsMark z (piece 2 ceiling) → Any (Same z) ms
    of_ceiling z hz e (inl h) = high z h
    of_ceiling z hz e (inr (inl h)) = absurd (omega (arith, linear, h.0))
    of_ceiling z hz e (inr (inr h)) = let on = h.1.in_line in high z (omega (arith, linear), omega (arith, linear, on))

    of_left : (z : Vector) → IsMark z (piece 3 (flat (pos 0) (pos 0) (pos 0) (pos 19))) → Any (Same z) ms
    of_left z (inl h) = low z h
    of_left z (inr (inl h)) = high z h
    of_left z (inr (inr h)) = absurd (omega (arith, ints, h.0))

    some : (z : Vector) → IsPoint z → SameX (spot (pos 0) (pos 0)) z → Any (IsMark z) pieces → Any (Same z) ms
    some z hz e (zero, p, within, is, m) = of_floor z hz e (subst (IsMark z) (sym is) m)
    some z hz e (suc zero, p, within, is, m) = of_right z hz e (subst (IsMark z) (sym is) m)
    some z hz e (suc (suc zero), p, within, is, m) = of_ceiling z hz e (subst (IsMark z) (sym is) m)
    some z hz e (suc (suc (suc zero)), p, within, is, m) = of_left z (subst (IsMark z) (sym is) m)
    some z hz e (suc (suc (suc (suc k))), p, within, is, m) = absurd (omega arith)

    is_mark : (z : Vector) → Any (Same z) ms → Any (IsMark z) pieces
    is_mark z (zero, m, within, is, e) = (0, piece 0 floor, omega arith, refl, inl (subst (Same z) (sym is) e))
    is_mark z (suc zero, m, within, is, e) = (2, piece 2 ceiling, omega arith, refl, inl (subst (Same z) (sym is) e))
    is_mark z (suc (suc k), m, within, is, e) = absurd (omega arith)

-- without a mark at the upper end they are none
one_mark_short : ¬ (AreMarks pieces (spot (pos 0) (pos 0)) (spot (pos 0) (pos 0) ∷ []))
one_mark_short h = by ((h.exact (spot (pos 0) (pos 19)) (omega (arith, ints)) refl).0 (2, piece 2 ceiling, omega arith, refl, inl (refl, refl)))
  where
    by : Any (Same (spot (pos 0) (pos 19))) (spot (pos 0) (pos 0) ∷ []) → ⊥
    by (zero, m, within, is, e) = let f = subst (Same (spot (pos 0) (pos 19))) (sym is) e in omega (arith, ints, f.1)
    by (suc k, m, within, is, e) = omega arith

-- ---- a bar in the room: eleven pieces, two of them single points
abbrev bar : List Piece
bar = numbered 0 parts

-- between the lines 8 and 9 the hexagon's upper side, which comes first, gives the span at 10; from 9 to 11 the quadrangle's alone goes across
abbrev pub bar_slabs : Slabs
bar_slabs = record {
  lines = spot (pos 0) (pos 0) ∷ spot (pos 8) (pos 0) ∷ spot (pos 9) (pos 0) ∷ spot (pos 11) (pos 0) ∷ spot (pos 19) (pos 0) ∷ [];
  spans = (floor ∷ ceiling ∷ []) ∷ (flat (pos 8) (pos 10) (pos 9) (pos 10) ∷ ceiling ∷ []) ∷ (flat (pos 8) (pos 10) (pos 11) (pos 10) ∷ ceiling ∷ []) ∷ (floor ∷ ceiling ∷ []) ∷ [];
  marks = (spot (pos 0) (pos 0) ∷ spot (pos 0) (pos 19) ∷ []) ∷ (spot (pos 8) (pos 0) ∷ spot (pos 8) (pos 10) ∷ spot (pos 8) (pos 19) ∷ []) ∷ (spot (pos 9) (pos 10) ∷ spot (pos 9) (pos 19) ∷ [])
      ∷ (spot (pos 11) (pos 0) ∷ spot (pos 11) (pos 10) ∷ spot (pos 11) (pos 19) ∷ []) ∷ (spot (pos 19) (pos 0) ∷ spot (pos 19) (pos 19) ∷ []) ∷ [];
}

size_of_bar : size bar_slabs ≡ 20
size_of_bar = refl

-- on the quadrangle's upper side lies no span between the lines 8 and 9, since the piece of the hexagon's, number 1, comes first
later_edge : ¬ (IsSpan (hexagon ∷ quadrangle ∷ []) room bar (spot (pos 8) (pos 0)) (spot (pos 9) (pos 0)) (flat (pos 8) (pos 10) (pos 11) (pos 10)))
later_edge h = by h.number h.reaches h.is h.first
  where
    by : (n : ℕ) → Reaches (spot (pos 8) (pos 0)) (spot (pos 9) (pos 0)) (piece_at bar n) → flat (pos 8) (pos 10) (pos 11) (pos 10) ≡ rightward (edge_of (hexagon ∷ quadrangle ∷ []) room (piece_at bar n))
        → ((j : ℕ) → j < n → Reaches (spot (pos 8) (pos 0)) (spot (pos 9) (pos 0)) (piece_at bar j) → ¬ (LiesOn (flat (pos 8) (pos 10) (pos 11) (pos 10)) (piece_at bar j))) → ⊥
    by zero reach is first = omega (arith, ints, reach.0)
    by (suc zero) reach is first = let e : pos 11 ≡ pos 9 = ap (λ s. s.b.x) is in omega (arith, ints, e)
    by (suc (suc n)) reach is first = first 1 (omega arith) (omega (arith, ints), omega (arith, ints)) (refl, refl)

-- four cells and six walls; the seven regions are the cells and the walls above the bar, 1 1, 2 0 and 3 1
lots_of_bar : lots bar_slabs ≡ cell 0 0 ∷ wall 1 0 ∷ wall 1 1 ∷ cell 1 0 ∷ wall 2 0 ∷ cell 2 0 ∷ wall 3 0 ∷ wall 3 1 ∷ cell 3 0 ∷ wall 4 0 ∷ []
lots_of_bar = refl

-- the point of the wall along the bar's left side is (8, 5)
beside_bar : spot_of bar_slabs (wall 1 0) ≡ record { x = pos 16; y = pos 10; w = pos 2 }
beside_bar = refl

-- (8, 5) is no mark, since the piece that it is on is upright; the ends of that piece are
inner_point : ¬ (IsMark (spot (pos 8) (pos 5)) (piece 5 (flat (pos 8) (pos 0) (pos 8) (pos 10))))
inner_point (inl h) = omega (arith, ints, h.1)
inner_point (inr (inl h)) = omega (arith, ints, h.1)
inner_point (inr (inr h)) = omega (arith, ints, h.0)

-- without the line at 9, at which pieces end, the lines are none
one_line_short : ¬ (AreLines bar (spot (pos 0) (pos 0) ∷ spot (pos 8) (pos 0) ∷ spot (pos 11) (pos 0) ∷ spot (pos 19) (pos 0) ∷ []))
one_line_short h = by ((h.all 0 (piece 0 floor) (omega arith)).0)
  where
    by : Any (SameX (spot (pos 9) (pos 10))) (spot (pos 0) (pos 0) ∷ spot (pos 8) (pos 0) ∷ spot (pos 11) (pos 0) ∷ spot (pos 19) (pos 0) ∷ []) → ⊥
    by (zero, l, within, is, e) = let f = subst (SameX (spot (pos 9) (pos 10))) (sym is) e in omega (arith, ints, f)
    by (suc zero, l, within, is, e) = let f = subst (SameX (spot (pos 9) (pos 10))) (sym is) e in omega (arith, ints, f)
    by (suc (suc zero), l, within, is, e) = let f = subst (SameX (spot (pos 9) (pos 10))) (sym is) e in omega (arith, ints, f)
    by (suc (suc (suc zero)), l, within, is, e) = let f = subst (SameX (spot (pos 9) (pos 10))) (sym is) e in omega (arith, ints, f)
    by (suc (suc (suc (suc k))), l, within, is, e) = omega arith

-- ---- the seven regions of the bar
-- strictly within the room, and strictly right of an edge of each sum
free : (z : Vector) (j k : ℕ) → LtX room.low z → LtX z room.high → LtY room.low z → LtY z room.high → j < 6 → k < 4 → turn (get_or (edges hexagon) j floor).a (get_or (edges hexagon) j floor).b z <ℤ pos 0
    → turn (get_or (edges quadrangle) k floor).a (get_or (edges quadrangle) k floor).b z <ℤ pos 0 → IsClearOf (hexagon ∷ quadrangle ∷ []) room z
free z j k left right below above jh kh h q = record { in_room = inside; in_none = outside }
  where
    inside : OnOrBeyond room z → ⊥
    inside (inl b) = omega (arith, linear, b, left)
    inside (inr (inl b)) = omega (arith, linear, b, right)
    inside (inr (inr (inl b))) = omega (arith, linear, b, below)
    inside (inr (inr (inr b))) = omega (arith, linear, b, above)

    outside : (n : ℕ) (d : List Vector) → n < 2 → ¬ (Inside (get_or (hexagon ∷ quadrangle ∷ []) n d) z)
    outside zero d within held = omega (arith, linear, held j floor jh, h)
    outside (suc zero) d within held = omega (arith, linear, held k floor kh, q)
    outside (suc (suc n)) d within held = omega arith

-- the point (8, 5) of the bar's left side is held by the hexagon, and (11, 5) of its right side by the quadrangle
on_left_side : Inside hexagon (record { x = pos 16; y = pos 10; w = pos 2 })
on_left_side zero d within = omega (arith, ints)
on_left_side (suc zero) d within = omega (arith, ints)
on_left_side (suc (suc zero)) d within = omega (arith, ints)
on_left_side (suc (suc (suc zero))) d within = omega (arith, ints)
on_left_side (suc (suc (suc (suc zero)))) d within = omega (arith, ints)
on_left_side (suc (suc (suc (suc (suc zero))))) d within = omega (arith, ints)
on_left_side (suc (suc (suc (suc (suc (suc k)))))) d within = absurd (omega arith)

on_right_side : Inside quadrangle (record { x = pos 22; y = pos 10; w = pos 2 })
on_right_side zero d within = omega (arith, ints)
on_right_side (suc zero) d within = omega (arith, ints)
on_right_side (suc (suc zero)) d within = omega (arith, ints)
on_right_side (suc (suc (suc zero))) d within = omega (arith, ints)
on_right_side (suc (suc (suc (suc k)))) d within = absurd (omega arith)

seven_regions : AreRegions (hexagon ∷ quadrangle ∷ []) room bar_slabs (cell 0 0 ∷ wall 1 1 ∷ cell 1 0 ∷ wall 2 0 ∷ cell 2 0 ∷ wall 3 1 ∷ cell 3 0 ∷ [])
seven_regions =
    keep (cell 0 0) _ _ (free _ 5 0 (omega (arith, ints)) (omega (arith, ints)) (omega (arith, ints)) (omega (arith, ints)) (omega arith) (omega arith) (omega (arith, ints)) (omega (arith, ints)))
    (drop (wall 1 0) _ _ (λ c. c.in_none 0 hexagon (omega arith) on_left_side)
    (keep (wall 1 1) _ _ (free _ 4 3 (omega (arith, ints)) (omega (arith, ints)) (omega (arith, ints)) (omega (arith, ints)) (omega arith) (omega arith) (omega (arith, ints)) (omega (arith, ints)))
    (keep (cell 1 0) _ _ (free _ 4 3 (omega (arith, ints)) (omega (arith, ints)) (omega (arith, ints)) (omega (arith, ints)) (omega arith) (omega arith) (omega (arith, ints)) (omega (arith, ints)))
    (keep (wall 2 0) _ _ (free _ 4 3 (omega (arith, ints)) (omega (arith, ints)) (omega (arith, ints)) (omega (arith, ints)) (omega arith) (omega arith) (omega (arith, ints)) (omega (arith, ints)))
    (keep (cell 2 0) _ _ (free _ 4 3 (omega (arith, ints)) (omega (arith, ints)) (omega (arith, ints)) (omega (arith, ints)) (omega arith) (omega arith) (omega (arith, ints)) (omega (arith, ints)))
    (drop (wall 3 0) _ _ (λ c. c.in_none 1 hexagon (omega arith) on_right_side)
    (keep (wall 3 1) _ _ (free _ 4 3 (omega (arith, ints)) (omega (arith, ints)) (omega (arith, ints)) (omega (arith, ints)) (omega arith) (omega arith) (omega (arith, ints)) (omega (arith, ints)))
    (keep (cell 3 0) _ _ (free _ 2 2 (omega (arith, ints)) (omega (arith, ints)) (omega (arith, ints)) (omega (arith, ints)) (omega arith) (omega arith) (omega (arith, ints)) (omega (arith, ints)))
    (drop (wall 4 0) [] [] (λ c. c.in_room (inr (inl (omega (arith, ints))))) none)))))))))
