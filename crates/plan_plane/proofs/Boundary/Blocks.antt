-- Sums and the room's outside as blocks, lists of covectors: a block holds a point where none of its covectors is negative there, and the point is open in it where all are positive.
use Rattle.std.proofs.Common.{◌≡◌, inl, inr, ⊎_elim, ℕ, zero, suc, ℤ, pos, ◌-ℤ◌, ◌*ℤ◌, neg_ℤ, ◌≤ℤ◌, ◌<ℤ◌, List, [], ◌∷◌, ◌++◌, ◌<◌, get_or, map, All, Any, refl, sym, ◌∙◌, subst, arith}
use Rattle.std.proofs.lemmas.List.Elements.{All-nil, All-cons, All-head, All-map, All-append}
use Rattle.plan_exact.specs.Expr.{con, ◌⊖◌, ◌⊗◌, neg}
use Rattle.plan_exact.specs.Vectors.{dot, cross, env}
use Rattle.plan_exact.specs.Formal as F
use Rattle.plan_exact.specs.Formal.{A, J, K, L, M}
use Rattle.plan_exact.proofs.Laws.{linear}
use Rattle.plan_exact.proofs.Ring.{ring}
use Rattle.plan_exact.proofs.Signs.{mul_of_zero, sign_of, le_of_lt}
use Rattle.plan_spec.specs.Vector.{Vector, spot}
use Rattle.plan_spec.specs.Segment.{Segment, On}
use Rattle.plan_spec.specs.Polygon.{Inside, edges}
use Rattle.plan_spec.specs.Frame.{Frame, OnOrBeyond}
use Rattle.plan_spec.specs.Boundary.{StrictlyInside, InRoom, IsUncovered, IsClearOf, bottom, right, top, left, sides}
use Rattle.plan_plane.proofs.Line.Values.{HeldAt, OpenAt}
use Rattle.plan_plane.proofs.Lists.{any_cases, any_none, all_map, all_left, all_right}
use Rattle.plan_exact.specs.Sign.{is_negative, is_zero, is_positive}

-- ---- a sum
abbrev pub line : Segment → Vector
line s = cross s.a s.b

abbrev pub block : List Vector → List Vector
block vs = map line (edges vs)

pub held_from : (vs : List Vector) (z : Vector) → Inside vs z → HeldAt (block vs) z
held_from vs z h = All-map (λ l. pos 0 ≤ℤ dot l z) line (edges vs) h

pub held_to : (vs : List Vector) (z : Vector) → HeldAt (block vs) z → Inside vs z
held_to vs z h = all_map (λ l. pos 0 ≤ℤ dot l z) line (edges vs) h

pub open_from : (vs : List Vector) (z : Vector) → StrictlyInside vs z → OpenAt (block vs) z
open_from vs z h = All-map (λ l. pos 0 <ℤ dot l z) line (edges vs) h

-- ---- the room's outside: what is not negative on its side or beyond it
abbrev pub rectangle : ℤ → ℤ → ℤ → ℤ → Frame
rectangle lx ly hx hy = record { low = spot lx ly; high = spot hx hy }

abbrev pub below : ℤ → Vector
below ly = record { x = pos 0; y = neg_ℤ (pos 1); w = ly }

abbrev pub beyond_right : ℤ → Vector
beyond_right hx = record { x = pos 1; y = pos 0; w = neg_ℤ hx }

abbrev pub above : ℤ → Vector
above hy = record { x = pos 0; y = pos 1; w = neg_ℤ hy }

abbrev pub beyond_left : ℤ → Vector
beyond_left lx = record { x = neg_ℤ (pos 1); y = pos 0; w = lx }

pub below_is : (ly : ℤ) (z : Vector) → dot (below ly) z ≡ ly *ℤ z.w -ℤ z.y *ℤ pos 1
below_is ly z = ring (env (ly ∷ []) (z ∷ [])) (F.dot (record { x = F.zero; y = neg (con (pos 1)); w = J }) A) (J ⊗ A.w ⊖ A.y ⊗ con (pos 1)) tt

pub right_is : (hx : ℤ) (z : Vector) → dot (beyond_right hx) z ≡ z.x *ℤ pos 1 -ℤ hx *ℤ z.w
right_is hx z = ring (env (hx ∷ []) (z ∷ [])) (F.dot (record { x = con (pos 1); y = F.zero; w = neg J }) A) (A.x ⊗ con (pos 1) ⊖ J ⊗ A.w) tt

pub above_is : (hy : ℤ) (z : Vector) → dot (above hy) z ≡ z.y *ℤ pos 1 -ℤ hy *ℤ z.w
above_is hy z = ring (env (hy ∷ []) (z ∷ [])) (F.dot (record { x = F.zero; y = con (pos 1); w = neg J }) A) (A.y ⊗ con (pos 1) ⊖ J ⊗ A.w) tt

pub left_is : (lx : ℤ) (z : Vector) → dot (beyond_left lx) z ≡ lx *ℤ z.w -ℤ z.x *ℤ pos 1
left_is lx z = ring (env (lx ∷ []) (z ∷ [])) (F.dot (record { x = neg (con (pos 1)); y = F.zero; w = J }) A) (J ⊗ A.w ⊖ A.x ⊗ con (pos 1)) tt

abbrev pub outside : ℤ → ℤ → ℤ → ℤ → List Vector
outside lx ly hx hy = below ly ∷ beyond_right hx ∷ above hy ∷ beyond_left lx ∷ []

-- what each of the four has
pub four : (P : Vector → Type 0) (lx ly hx hy : ℤ) → P (below ly) → P (beyond_right hx) → P (above hy) → P (beyond_left lx) → All P (outside lx ly hx hy)
four P lx ly hx hy b r a l =
    All-cons P (below ly) (beyond_right hx ∷ above hy ∷ beyond_left lx ∷ []) b
    (All-cons P (beyond_right hx) (above hy ∷ beyond_left lx ∷ []) r
    (All-cons P (above hy) (beyond_left lx ∷ []) a
    (All-cons P (beyond_left lx) [] l (All-nil P))))

pub data OneOfFour (P : Vector → Type 0) (lx ly hx hy : ℤ) : Type 0 where
  at_bottom : P (below ly) → OneOfFour P lx ly hx hy
  at_right : P (beyond_right hx) → OneOfFour P lx ly hx hy
  at_top : P (above hy) → OneOfFour P lx ly hx hy
  at_left : P (beyond_left lx) → OneOfFour P lx ly hx hy

pub one_of_four : (P : Vector → Type 0) (lx ly hx hy : ℤ) → Any P (outside lx ly hx hy) → OneOfFour P lx ly hx hy
one_of_four P lx ly hx hy h = elim (any_cases P (below ly) (beyond_right hx ∷ above hy ∷ beyond_left lx ∷ []) h) [
  | inl b ↦ at_bottom b
  | inr h ↦ elim (any_cases P (beyond_right hx) (above hy ∷ beyond_left lx ∷ []) h) [
    | inl r ↦ at_right r
    | inr h ↦ elim (any_cases P (above hy) (beyond_left lx ∷ []) h) [
      | inl a ↦ at_top a
      | inr h ↦ elim (any_cases P (beyond_left lx) [] h) [
        | inl l ↦ at_left l
        | inr h ↦ absurd (any_none P h)
      ]
    ]
  ]
]

abbrev pub single : Vector → List Vector
single l = l ∷ []

-- one block for each side of the room, and one for each sum
abbrev pub blocks : List (List Vector) → ℤ → ℤ → ℤ → ℤ → List (List Vector)
blocks sums lx ly hx hy = map single (outside lx ly hx hy) ++ map block sums

-- ---- clear: held by no block
single_held : (l z : Vector) → HeldAt (single l) z → pos 0 ≤ℤ dot l z
single_held l z h = All-head (λ l. pos 0 ≤ℤ dot l z) l [] h

from_single : (l z : Vector) → pos 0 ≤ℤ dot l z → HeldAt (single l) z
from_single l z h = All-cons (λ l. pos 0 ≤ℤ dot l z) l [] h (All-nil (λ l. pos 0 ≤ℤ dot l z))

from_single_open : (l z : Vector) → pos 0 <ℤ dot l z → OpenAt (single l) z
from_single_open l z h = All-cons (λ l. pos 0 <ℤ dot l z) l [] h (All-nil (λ l. pos 0 <ℤ dot l z))

pub clear_blocks : (sums : List (List Vector)) (lx ly hx hy : ℤ) (z : Vector) → IsClearOf sums (rectangle lx ly hx hy) z → All (λ ls. ¬ (HeldAt ls z)) (blocks sums lx ly hx hy)
clear_blocks sums lx ly hx hy z h =
    All-append (λ ls. ¬ (HeldAt ls z)) (map single (outside lx ly hx hy)) (map block sums)
    (All-map (λ ls. ¬ (HeldAt ls z)) single (outside lx ly hx hy) (four (λ l. ¬ (HeldAt (single l) z)) lx ly hx hy
    (λ b. let g = single_held (below ly) z b in h.in_room (inr (inr (inl (omega (arith, linear, below_is ly z))))))
    (λ b. let g = single_held (beyond_right hx) z b in h.in_room (inr (inl (omega (arith, linear, right_is hx z)))))
    (λ b. let g = single_held (above hy) z b in h.in_room (inr (inr (inr (omega (arith, linear, above_is hy z))))))
    (λ b. let g = single_held (beyond_left lx) z b in h.in_room (inl (omega (arith, linear, left_is lx z))))))
    (All-map (λ ls. ¬ (HeldAt ls z)) block sums (λ k d within held. h.in_none k d within (held_to _ z held)))

-- what the blocks of the room have, and those of the sums
pub room_blocks : (P : List Vector → Type 0) (sums : List (List Vector)) (lx ly hx hy : ℤ) → All P (blocks sums lx ly hx hy) → All (λ l. P (single l)) (outside lx ly hx hy)
room_blocks P sums lx ly hx hy h = all_map P single (outside lx ly hx hy) (all_left P (map single (outside lx ly hx hy)) (map block sums) h)

pub sum_blocks : (P : List Vector → Type 0) (sums : List (List Vector)) (lx ly hx hy : ℤ) → All P (blocks sums lx ly hx hy) → All (λ vs. P (block vs)) sums
sum_blocks P sums lx ly hx hy h = all_map P block sums (all_right P (map single (outside lx ly hx hy)) (map block sums) h)

pub blocks_clear : (sums : List (List Vector)) (lx ly hx hy : ℤ) (z : Vector) → All (λ ls. ¬ (HeldAt ls z)) (blocks sums lx ly hx hy) → IsClearOf sums (rectangle lx ly hx hy) z
blocks_clear sums lx ly hx hy z h = record {
  in_room = by;
  in_none = λ k d within inside. sum_blocks (λ ls. ¬ (HeldAt ls z)) sums lx ly hx hy h k d within (held_from _ z inside);
}
  where
    room : All (λ l. ¬ (HeldAt (single l) z)) (outside lx ly hx hy)
    room = room_blocks (λ ls. ¬ (HeldAt ls z)) sums lx ly hx hy h

    by : OnOrBeyond (rectangle lx ly hx hy) z → ⊥
    by (inl k) = room 3 (beyond_left lx) (omega arith) (from_single (beyond_left lx) z (omega (arith, linear, left_is lx z)))
    by (inr (inl k)) = room 1 (beyond_right hx) (omega arith) (from_single (beyond_right hx) z (omega (arith, linear, right_is hx z)))
    by (inr (inr (inl k))) = room 0 (below ly) (omega arith) (from_single (below ly) z (omega (arith, linear, below_is ly z)))
    by (inr (inr (inr k))) = room 2 (above hy) (omega arith) (from_single (above hy) z (omega (arith, linear, above_is hy z)))

-- ---- uncovered: open in no block
pub blocks_uncovered : (sums : List (List Vector)) (lx ly hx hy : ℤ) (z : Vector) → lx <ℤ hx → ly <ℤ hy → All (λ ls. ¬ (OpenAt ls z)) (blocks sums lx ly hx hy) → IsUncovered sums (rectangle lx ly hx hy) z
blocks_uncovered sums lx ly hx hy z wide tall h = record {
  in_room = record {
    wide = omega (arith, linear);
    tall = omega (arith, linear);
    left = omega (arith, linear, left_is lx z, at (beyond_left lx) (room 3 (beyond_left lx) (omega arith)));
    right = omega (arith, linear, right_is hx z, at (beyond_right hx) (room 1 (beyond_right hx) (omega arith)));
    below = omega (arith, linear, below_is ly z, at (below ly) (room 0 (below ly) (omega arith)));
    above = omega (arith, linear, above_is hy z, at (above hy) (room 2 (above hy) (omega arith)));
  };
  in_none = λ k d within inside. sum_blocks (λ ls. ¬ (OpenAt ls z)) sums lx ly hx hy h k d within (open_from _ z inside);
}
  where
    room : All (λ l. ¬ (OpenAt (single l) z)) (outside lx ly hx hy)
    room = room_blocks (λ ls. ¬ (OpenAt ls z)) sums lx ly hx hy h

    at : (l : Vector) → ¬ (OpenAt (single l) z) → dot l z ≤ℤ pos 0
    at l off = elim (sign_of (dot l z)) [
      | is_negative n ↦ le_of_lt n
      | is_zero e ↦ omega (arith, linear)
      | is_positive p ↦ absurd (off (from_single_open l z p))
    ]

-- ---- on a side of the room
on_bottom : (lx ly hx hy : ℤ) (z : Vector) → InRoom (rectangle lx ly hx hy) z → dot (below ly) z ≡ pos 0 → On (bottom (rectangle lx ly hx hy)) z
on_bottom lx ly hx hy z h e = record {
  in_line = ring (env (lx ∷ hx ∷ ly ∷ []) (z ∷ [])) (F.det (record { x = J; y = L; w = con (pos 1) }) (record { x = K; y = L; w = con (pos 1) }) A) ((J ⊖ K) ⊗ F.dot (record { x = F.zero; y = neg (con (pos 1)); w = L }) A) tt ∙ mul_of_zero (lx -ℤ hx) (dot (below ly) z) e;
  within_x = inl (h.left, h.right);
  within_y = inl (h.below, omega (arith, linear, below_is ly z));
}

on_top : (lx ly hx hy : ℤ) (z : Vector) → InRoom (rectangle lx ly hx hy) z → dot (above hy) z ≡ pos 0 → On (top (rectangle lx ly hx hy)) z
on_top lx ly hx hy z h e = record {
  in_line = ring (env (lx ∷ hx ∷ hy ∷ []) (z ∷ [])) (F.det (record { x = J; y = L; w = con (pos 1) }) (record { x = K; y = L; w = con (pos 1) }) A) ((K ⊖ J) ⊗ F.dot (record { x = F.zero; y = con (pos 1); w = neg L }) A) tt ∙ mul_of_zero (hx -ℤ lx) (dot (above hy) z) e;
  within_x = inl (h.left, h.right);
  within_y = inl (omega (arith, linear, above_is hy z), h.above);
}

on_right : (lx ly hx hy : ℤ) (z : Vector) → InRoom (rectangle lx ly hx hy) z → dot (beyond_right hx) z ≡ pos 0 → On (right (rectangle lx ly hx hy)) z
on_right lx ly hx hy z h e = record {
  in_line = ring (env (ly ∷ hy ∷ hx ∷ []) (z ∷ [])) (F.det (record { x = L; y = J; w = con (pos 1) }) (record { x = L; y = K; w = con (pos 1) }) A) ((J ⊖ K) ⊗ F.dot (record { x = con (pos 1); y = F.zero; w = neg L }) A) tt ∙ mul_of_zero (ly -ℤ hy) (dot (beyond_right hx) z) e;
  within_x = inl (omega (arith, linear, right_is hx z), h.right);
  within_y = inl (h.below, h.above);
}

on_left : (lx ly hx hy : ℤ) (z : Vector) → InRoom (rectangle lx ly hx hy) z → dot (beyond_left lx) z ≡ pos 0 → On (left (rectangle lx ly hx hy)) z
on_left lx ly hx hy z h e = record {
  in_line = ring (env (ly ∷ hy ∷ lx ∷ []) (z ∷ [])) (F.det (record { x = L; y = J; w = con (pos 1) }) (record { x = L; y = K; w = con (pos 1) }) A) ((K ⊖ J) ⊗ F.dot (record { x = neg (con (pos 1)); y = F.zero; w = L }) A) tt ∙ mul_of_zero (hy -ℤ ly) (dot (beyond_left lx) z) e;
  within_x = inl (h.left, omega (arith, linear, left_is lx z));
  within_y = inl (h.below, h.above);
}

pub on_side : (lx ly hx hy : ℤ) (z : Vector) → InRoom (rectangle lx ly hx hy) z → OneOfFour (λ l. dot l z ≡ pos 0) lx ly hx hy → Any (λ e. On e z) (sides (rectangle lx ly hx hy))
on_side lx ly hx hy z h one = by one
  where
    by : OneOfFour (λ l. dot l z ≡ pos 0) lx ly hx hy → Any (λ e. On e z) (sides (rectangle lx ly hx hy))
    by (at_bottom e) = (0, bottom (rectangle lx ly hx hy), omega arith, refl, on_bottom lx ly hx hy z h e)
    by (at_right e) = (1, right (rectangle lx ly hx hy), omega arith, refl, on_right lx ly hx hy z h e)
    by (at_top e) = (2, top (rectangle lx ly hx hy), omega arith, refl, on_top lx ly hx hy z h e)
    by (at_left e) = (3, left (rectangle lx ly hx hy), omega arith, refl, on_left lx ly hx hy z h e)

-- a side is on or beyond itself
pub side_beyond : (lx ly hx hy : ℤ) (z : Vector) → Any (λ e. On e z) (sides (rectangle lx ly hx hy)) → OnOrBeyond (rectangle lx ly hx hy) z
side_beyond lx ly hx hy z (k, e, within, is, h) = by k within (subst (λ e. On e z) (sym is) h)
  where
    by : (k : ℕ) → k < 4 → On (get_or (sides (rectangle lx ly hx hy)) k e) z → OnOrBeyond (rectangle lx ly hx hy) z
    by zero within h = inr (inr (inl (⊎_elim (λ c. c.1) (λ c. c.1) h.within_y)))
    by (suc zero) within h = inr (inl (⊎_elim (λ c. c.0) (λ c. c.0) h.within_x))
    by (suc (suc zero)) within h = inr (inr (inr (⊎_elim (λ c. c.0) (λ c. c.0) h.within_y)))
    by (suc (suc (suc zero))) within h = inl (⊎_elim (λ c. c.1) (λ c. c.1) h.within_x)
    by (suc (suc (suc (suc k)))) within h = absurd (omega arith)

-- both corners are spots
pub record HasSpots (room : Frame) : Type 0 where
  pub low : room.low.w ≡ pos 1
  pub high : room.high.w ≡ pos 1
