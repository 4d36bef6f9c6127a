-- The definitions, tried on worked cases: each is computed.
use Rattle.std.proofs.Common.{◌≡◌, inl, inr, ⊎_elim, ℤ, pos, negsuc, true, false, List, [], ◌∷◌, refl, arith}
use Rattle.std.specs.Int.Signed.{le_z_yes, lt_z_yes}
use Rattle.std.proofs.lemmas.List.Elements.{All-nil, All-cons}
use Rattle.plan_spec.specs.Vector.{Vector, spot, turn, minus, Same, Before}
use Rattle.plan_spec.specs.Segment.{Segment, segment, On, Common}
use Rattle.plan_spec.specs.Parity.{parity, counted}
use Rattle.plan_spec.specs.Polygon.{edges}
use Rattle.plan_spec.specs.Frame.{Frame, OnOrBeyond}
use Rattle.plan_spec.specs.Placement.{Scene}
use Rattle.plan_spec.specs.Chain.{odd_end}
use Rattle.plan_spec.specs.Route.{legs, StartsAt, EndsAt}
use Rattle.plan_spec.specs.Reply.{empty_path, wrong_start, wrong_goal, loose, unclosed, start_even, flat as flat_at, IsFirstPathFault, AreBeyondOneSide, IsTight, IsSound, IsFirstChainFault}

abbrev flat : ℤ → ℤ → ℤ → ℤ → Segment
flat ax ay bx by = segment (spot ax ay) (spot bx by)

-- ---- parity
-- a box, by four sides: odd inside it, even beyond
abbrev box : List Segment
box = flat (pos 0) (pos 0) (pos 8) (pos 0) ∷ flat (pos 8) (pos 0) (pos 8) (pos 19) ∷ flat (pos 0) (pos 19) (pos 8) (pos 19) ∷ flat (pos 0) (pos 0) (pos 0) (pos 19) ∷ []

inside_box : parity box (spot (pos 2) (pos 2)) ≡ true
inside_box = refl

outside_box : parity box (spot (pos 15) (pos 2)) ≡ false
outside_box = refl

-- a vertical segment stands over nothing
under_vertical : parity (flat (pos 2) (pos 0) (pos 2) (pos 9) ∷ []) (spot (pos 2) (negsuc 0)) ≡ false
under_vertical = refl

-- the left end counts, the right end does not; nor does a point on the segment or above it
under_left_end : parity (flat (pos 0) (pos 2) (pos 4) (pos 2) ∷ []) (spot (pos 0) (pos 1)) ≡ true
under_left_end = refl

under_right_end : parity (flat (pos 0) (pos 2) (pos 4) (pos 2) ∷ []) (spot (pos 4) (pos 1)) ≡ false
under_right_end = refl

on_the_segment : parity (flat (pos 0) (pos 2) (pos 4) (pos 2) ∷ []) (spot (pos 2) (pos 2)) ≡ false
on_the_segment = refl

above_segment : parity (flat (pos 0) (pos 2) (pos 4) (pos 2) ∷ []) (spot (pos 2) (pos 3)) ≡ false
above_segment = refl

-- the ends in the other order, and a point with another weight
reversed : parity (flat (pos 4) (pos 2) (pos 0) (pos 2) ∷ []) (record { x = pos 1; y = pos 3; w = pos 2 }) ≡ true
reversed = refl

-- an end over the way's end counts, one over its start does not
counted_at_goal : counted (spot (pos 0) (pos 0)) (spot (pos 4) (pos 0)) (spot (pos 4) (pos 1)) ≡ true
counted_at_goal = refl

counted_at_start : counted (spot (pos 0) (pos 0)) (spot (pos 4) (pos 0)) (spot (pos 0) (pos 1)) ≡ false
counted_at_start = refl

-- ---- chains
-- the box is closed at its corners, whatever the triple; one side alone is not
corner : odd_end box (record { x = pos 16; y = pos 38; w = pos 2 }) ≡ false
corner = refl

loose_end : odd_end (flat (pos 0) (pos 0) (pos 8) (pos 0) ∷ []) (record { x = pos 16; y = pos 0; w = pos 2 }) ≡ true
loose_end = refl

-- ---- points
left_turn : turn (spot (pos 0) (pos 0)) (spot (pos 1) (pos 0)) (spot (pos 0) (pos 1)) ≡ pos 1
left_turn = refl

-- (1/2, 1) less (1/3, 1/3) is (1/6, 2/3)
difference : minus (record { x = pos 1; y = pos 2; w = pos 2 }) (record { x = pos 1; y = pos 1; w = pos 3 }) ≡ record { x = pos 1; y = pos 4; w = pos 6 }
difference = refl

-- (1, 2) as two triples; and of one x the lower comes first
same_position : Same (spot (pos 1) (pos 2)) (record { x = pos 3; y = pos 6; w = pos 3 })
same_position = (refl, refl)

lower_first : Before (spot (pos 1) (pos 2)) (record { x = pos 3; y = pos 7; w = pos 3 })
lower_first = inr (refl, lt_z_yes tt)

-- ---- segments
-- the ends are on the segment, and so is a point between them
on_end : On (flat (pos 0) (pos 2) (pos 4) (pos 2)) (spot (pos 4) (pos 2))
on_end = record { in_line = refl; within_x = inl (le_z_yes tt, le_z_yes tt); within_y = inl (le_z_yes tt, le_z_yes tt) }

on_middle : On (flat (pos 4) (pos 0) (pos 0) (pos 2)) (record { x = pos 4; y = pos 2; w = pos 2 })
on_middle = record { in_line = refl; within_x = inr (le_z_yes tt, le_z_yes tt); within_y = inl (le_z_yes tt, le_z_yes tt) }

-- beyond an end none is
beyond_end : ¬ (On (flat (pos 0) (pos 2) (pos 4) (pos 2)) (spot (pos 5) (pos 2)))
beyond_end h = ⊎_elim (λ w. w.1.le) (λ w. w.1.le) h.within_x

-- beside the line none is
beside_line : ¬ (On (flat (pos 0) (pos 2) (pos 4) (pos 2)) (spot (pos 2) (pos 3)))
beside_line h = let e = h.in_line in absurd (cc)

-- two that cross, and two that share an end
crossed : Common (flat (pos 0) (pos 0) (pos 4) (pos 4)) (flat (pos 0) (pos 4) (pos 4) (pos 0))
crossed = (spot (pos 2) (pos 2), lt_z_yes tt, record { in_line = refl; within_x = inl (le_z_yes tt, le_z_yes tt); within_y = inl (le_z_yes tt, le_z_yes tt) }, record { in_line = refl; within_x = inl (le_z_yes tt, le_z_yes tt); within_y = inr (le_z_yes tt, le_z_yes tt) })

joined : Common (flat (pos 0) (pos 0) (pos 4) (pos 4)) (flat (pos 4) (pos 4) (pos 8) (pos 0))
joined = (spot (pos 4) (pos 4), lt_z_yes tt, record { in_line = refl; within_x = inl (le_z_yes tt, le_z_yes tt); within_y = inl (le_z_yes tt, le_z_yes tt) }, record { in_line = refl; within_x = inl (le_z_yes tt, le_z_yes tt); within_y = inr (le_z_yes tt, le_z_yes tt) })

-- ---- polygons
-- three vertices have three edges, the last back to the first
three_edges : edges (spot (pos 0) (pos 0) ∷ spot (pos 1) (pos 0) ∷ spot (pos 0) (pos 1) ∷ []) ≡ flat (pos 0) (pos 0) (pos 1) (pos 0) ∷ flat (pos 1) (pos 0) (pos 0) (pos 1) ∷ flat (pos 0) (pos 1) (pos 0) (pos 0) ∷ []
three_edges = refl

-- ---- frames
abbrev hall : Frame
hall = record { low = spot (pos 0) (pos 0); high = spot (pos 10) (pos 8) }

-- a side counts, the inside does not
on_side : OnOrBeyond hall (spot (pos 5) (pos 8))
on_side = inr (inr (inr (le_z_yes tt)))

within : ¬ (OnOrBeyond hall (spot (pos 5) (pos 7)))
within (inl h) = h.le
within (inr (inl h)) = h.le
within (inr (inr (inl h))) = h.le
within (inr (inr (inr h))) = h.le

-- ---- paths
-- a path of one point has one segment, and of three points two
one_leg : legs (spot (pos 2) (pos 2) ∷ []) ≡ flat (pos 2) (pos 2) (pos 2) (pos 2) ∷ []
one_leg = refl

abbrev path : List Vector
path = spot (pos 0) (pos 0) ∷ spot (pos 2) (pos 2) ∷ spot (pos 5) (pos 5) ∷ []

two_legs : legs path ≡ flat (pos 0) (pos 0) (pos 2) (pos 2) ∷ flat (pos 2) (pos 2) (pos 5) (pos 5) ∷ []
two_legs = refl

-- it starts at its first point and ends at its last, whatever the triples
starts : StartsAt (record { x = pos 0; y = pos 0; w = pos 3 }) path
starts = (refl, refl)

ends : EndsAt (record { x = pos 10; y = pos 10; w = pos 2 }) path
ends = (refl, refl)

-- ---- the first fault, in any scene
nothing_there : (scene : Scene) → IsFirstPathFault scene (spot (pos 0) (pos 0)) (spot (pos 5) (pos 5)) [] empty_path
nothing_there scene = refl

-- from (1, 0) to (5, 4) the path starts wrong and ends wrong: the start is the fault, and the goal is not
start_first : (scene : Scene) → IsFirstPathFault scene (spot (pos 1) (pos 0)) (spot (pos 5) (pos 4)) path wrong_start
start_first scene = (λ e. absurd (cc), λ h. let e = h.0 in absurd (cc))

goal_later : (scene : Scene) → ¬ (IsFirstPathFault scene (spot (pos 1) (pos 0)) (spot (pos 5) (pos 4)) path wrong_goal)
goal_later scene h = let e = h.0.0 in absurd (cc)

-- from (0, 0) to (5, 4) it ends wrong
goal_missed : (scene : Scene) → IsFirstPathFault scene (spot (pos 0) (pos 0)) (spot (pos 5) (pos 4)) path wrong_goal
goal_missed scene = ((refl, refl), λ h. let e = h.1 in absurd (cc))

-- ---- chains: which segments are tight, where no sum is
-- along a side, and beyond one; not from one side to another
along_side : AreBeyondOneSide hall (flat (pos 0) (pos 0) (pos 0) (pos 8))
along_side = inl (le_z_yes tt, le_z_yes tt)

beyond_side : AreBeyondOneSide hall (flat (pos 12) (pos 3) (pos 10) (pos 4))
beyond_side = inr (inl (le_z_yes tt, le_z_yes tt))

abbrev Tight : Segment → Type 0
Tight = IsTight [] hall

across : ¬ (Tight (flat (pos 0) (pos 3) (pos 10) (pos 3)))
across (inl (k, vs, lt, e, h)) = absurd (omega arith)
across (inr (inl h)) = h.1.le
across (inr (inr (inl h))) = h.0.le
across (inr (inr (inr (inl h)))) = h.0.le
across (inr (inr (inr (inr h)))) = h.0.le

-- of a loose and of a flat segment the first is the fault
loose_first : IsFirstChainFault Tight (spot (pos 2) (pos 2)) (spot (pos 5) (pos 5)) (flat (pos 0) (pos 3) (pos 10) (pos 3) ∷ flat (pos 1) (pos 1) (pos 1) (pos 1) ∷ []) (loose 0)
loose_first = record { bad = (λ e. let f = e.0 in absurd (cc), across); earlier = λ j below. absurd (omega arith) }

flat_first : IsFirstChainFault Tight (spot (pos 2) (pos 2)) (spot (pos 5) (pos 5)) (flat (pos 1) (pos 1) (pos 1) (pos 1) ∷ flat (pos 0) (pos 3) (pos 10) (pos 3) ∷ []) (flat_at 0)
flat_first = record { bad = (refl, refl); earlier = λ j below. absurd (omega arith) }

-- a chain without segments is closed, and even at the start
no_chain : IsFirstChainFault Tight (spot (pos 2) (pos 2)) (spot (pos 5) (pos 5)) [] start_even
no_chain = (λ k d within. absurd (omega arith), λ z hz. refl, refl)

-- one segment alone is not closed
one_alone : IsFirstChainFault Tight (spot (pos 2) (pos 2)) (spot (pos 5) (pos 5)) (flat (pos 0) (pos 0) (pos 10) (pos 0) ∷ []) (unclosed 0)
one_alone = (All-cons (IsSound Tight) (flat (pos 0) (pos 0) (pos 10) (pos 0)) [] (λ e. let f = e.0 in absurd (cc), inr (inr (inr (inl (le_z_yes tt, le_z_yes tt))))) (All-nil (IsSound Tight)), record { bad = inl refl; earlier = λ j below. absurd (omega arith) })
