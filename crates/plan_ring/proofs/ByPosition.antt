-- What is asked of a chain is asked of the positions of its ends, whatever the triples: a chain with the positions of an accepted one is accepted.
use Rattle.std.proofs.Common.{◌≡◌, ◌⊎◌, inl, inr, pos, ◌*ℤ◌, ◌≤ℤ◌, ◌<ℤ◌, ◌&&◌, ◌||◌, int_le, int_lt, List, [], ◌∷◌, All, refl, sym, ap₂, ◌∙◌, arith}
use Rattle.std.proofs.lemmas.List.Elements.{All-head, All-tail, All-nil, All-cons}
use Rattle.std.specs.List.{AllZip}
use Rattle.plan_exact.specs.Vectors.{cross}
use Rattle.plan_exact.proofs.Laws.{linear}
use Rattle.plan_exact.proofs.Signs.{le_or_lt}
use Rattle.plan_exact.proofs.Tests.{le_true, le_false, lt_true, lt_false}
use Rattle.plan_exact.proofs.Vectors.{det_turned}
use Rattle.plan_spec.specs.Vector.{Vector, IsPoint, Same, SameX, turn}
use Rattle.plan_spec.specs.Segment.{Segment, HasPoints}
use Rattle.plan_spec.specs.Parity.{over_from, over, parity, xor}
use Rattle.plan_spec.specs.Chain.{odd_end}
use Rattle.plan_spec.specs.Frame.{Frame}
use Rattle.plan_spec.specs.Reply.{AreBeyondOneSide, IsTight, IsSound, IsAccepted}
use Rattle.plan_plane.proofs.Boundary.Position.{inside_same}
use Rattle.plan_plane.proofs.Rising.ByCoordinate.{order_x, before_alike, after_alike}
use Rattle.plan_plane.proofs.Segment.Between.{flip}
use Rattle.plan_plane.proofs.Segment.Same.{Same-swapped, Same-trans}
use Rattle.plan_plane.proofs.Segment.SameSign.{nonneg_same}
use Rattle.plan_cross.proofs.ParityLaw.Position.{same_same}

-- both ends have the positions of the other's
abbrev pub SameEnds : Segment → Segment → Type 0
SameEnds s t = Same s.a t.a × Same s.b t.b

-- ---- by x, and by the side of a line
le_alike : (a b z : Vector) → IsPoint a → IsPoint b → IsPoint z → SameX a b → int_le (a.x *ℤ z.w) (z.x *ℤ a.w) ≡ int_le (b.x *ℤ z.w) (z.x *ℤ b.w)
le_alike a b z ha hb hz e = elim (le_or_lt (a.x *ℤ z.w) (z.x *ℤ a.w)) [
  | inl h ↦ le_true h ∙ sym (le_true (before_alike a b z ha hb hz e h))
  | inr h ↦ le_false h ∙ sym (le_false (order_x.less_equal z a b hz ha hb h e))
]

lt_alike : (a b z : Vector) → IsPoint a → IsPoint b → IsPoint z → SameX a b → int_lt (z.x *ℤ a.w) (a.x *ℤ z.w) ≡ int_lt (z.x *ℤ b.w) (b.x *ℤ z.w)
lt_alike a b z ha hb hz e = elim (le_or_lt (a.x *ℤ z.w) (z.x *ℤ a.w)) [
  | inl h ↦ lt_false h ∙ sym (lt_false (before_alike a b z ha hb hz e h))
  | inr h ↦ lt_true h ∙ sym (lt_true (order_x.less_equal z a b hz ha hb h e))
]

turn_alike : (a b c d z : Vector) → IsPoint a → IsPoint b → IsPoint c → IsPoint d → Same a c → Same b d → int_lt (turn a b z) (pos 0) ≡ int_lt (turn c d z) (pos 0)
turn_alike a b c d z ha hb hc hd e f = by (le_or_lt (pos 0) (turn a b z)) (le_or_lt (pos 0) (turn c d z))
  where
    -- each end in turn
    kept : (a b c d : Vector) → IsPoint a → IsPoint b → IsPoint c → IsPoint d → Same a c → Same b d → pos 0 ≤ℤ turn a b z → pos 0 ≤ℤ turn c d z
    kept a b c d ha hb hc hd e f h =
        let one : pos 0 ≤ℤ turn b z c = nonneg_same (cross b z) a c ha hc e (omega (arith, linear, det_turned a b z)) in
        let two : pos 0 ≤ℤ turn z c d = nonneg_same (cross z c) b d hb hd f (omega (arith, linear, det_turned b z c)) in
        omega (arith, linear, det_turned z c d)

    by : (pos 0 ≤ℤ turn a b z) ⊎ (turn a b z <ℤ pos 0) → (pos 0 ≤ℤ turn c d z) ⊎ (turn c d z <ℤ pos 0) → int_lt (turn a b z) (pos 0) ≡ int_lt (turn c d z) (pos 0)
    by (inl h) k = lt_false h ∙ sym (lt_false (kept a b c d ha hb hc hd e f h))
    by (inr h) (inr k) = lt_true h ∙ sym (lt_true k)
    by (inr h) (inl k) = absurd (omega (arith, linear, kept c d a b hc hd ha hb (Same-swapped a c e) (Same-swapped b d f) k))

over_alike : (s t : Segment) (z : Vector) → HasPoints s → HasPoints t → IsPoint z → SameEnds s t → over s z ≡ over t z
over_alike s t z hs ht hz e = ap₂ (λ x y. x || y) (from s.a s.b t.a t.b hs.0 hs.1 ht.0 ht.1 e.0 e.1) (from s.b s.a t.b t.a hs.1 hs.0 ht.1 ht.0 e.1 e.0)
  where
    from : (a b c d : Vector) → IsPoint a → IsPoint b → IsPoint c → IsPoint d → Same a c → Same b d → over_from a b z ≡ over_from c d z
    from a b c d ha hb hc hd e f = ap₂ (λ x y. x && y) (le_alike a c z ha hc hz e.0) (ap₂ (λ x y. x && y) (lt_alike b d z hb hd hz f.0) (turn_alike a b c d z ha hb hc hd e f))

-- ---- tight
beyond_alike : (room : Frame) (s t : Segment) → IsPoint room.low → IsPoint room.high → HasPoints s → HasPoints t → SameEnds s t → AreBeyondOneSide room s → AreBeyondOneSide room t
beyond_alike room s t hl hh hs ht (e, f) (inl (p, q)) = inl (before_alike s.a t.a room.low hs.0 ht.0 hl e.0 p, before_alike s.b t.b room.low hs.1 ht.1 hl f.0 q)
beyond_alike room s t hl hh hs ht (e, f) (inr (inl (p, q))) = inr (inl (after_alike s.a t.a room.high hs.0 ht.0 hh e.0 p, after_alike s.b t.b room.high hs.1 ht.1 hh f.0 q))
beyond_alike room s t hl hh hs ht (e, f) (inr (inr (inl (p, q)))) = inr (inr (inl (before_alike (flip s.a) (flip t.a) (flip room.low) hs.0 ht.0 hl e.1 p, before_alike (flip s.b) (flip t.b) (flip room.low) hs.1 ht.1 hl f.1 q)))
beyond_alike room s t hl hh hs ht (e, f) (inr (inr (inr (p, q)))) = inr (inr (inr (after_alike (flip s.a) (flip t.a) (flip room.high) hs.0 ht.0 hh e.1 p, after_alike (flip s.b) (flip t.b) (flip room.high) hs.1 ht.1 hh f.1 q)))

sound_alike : (sums : List (List Vector)) (room : Frame) (s t : Segment) → IsPoint room.low → IsPoint room.high → HasPoints s → HasPoints t → SameEnds s t → IsSound (IsTight sums room) s → IsSound (IsTight sums room) t
sound_alike sums room s t hl hh hs ht e (proper, tight) = ((λ flat. proper (Same-trans s.a t.a s.b ht.0 e.0 (Same-trans t.a t.b s.b ht.1 flat (Same-swapped s.b t.b e.1)))), by tight)
  where
    by : IsTight sums room s → IsTight sums room t
    by (inl (k, vs, within, is, (p, q))) = inl (k, vs, within, is, (inside_same vs s.a t.a hs.0 ht.0 e.0 p, inside_same vs s.b t.b hs.1 ht.1 e.1 q))
    by (inr h) = inr (beyond_alike room s t hl hh hs ht e h)

-- ---- chains
module _ (sums : List (List Vector)) (room : Frame) (hl : IsPoint room.low) (hh : IsPoint room.high) where
  odd_alike : (c r : List Segment) (z : Vector) → All HasPoints c → All HasPoints r → IsPoint z → AllZip SameEnds c r → odd_end c z ≡ odd_end r z
  odd_alike [] [] z hc hr hz h = refl
  odd_alike [] (t ∷ r) z hc hr hz h = absurd h
  odd_alike (s ∷ c) [] z hc hr hz h = absurd h
  odd_alike (s ∷ c) (t ∷ r) z hc hr hz h =
      let ps = All-head HasPoints s c hc in
      let pt = All-head HasPoints t r hr in
      ap₂ xor (ap₂ xor (same_same z hz s.a t.a ps.0 pt.0 h.0.0) (same_same z hz s.b t.b ps.1 pt.1 h.0.1)) (odd_alike c r z (All-tail HasPoints s c hc) (All-tail HasPoints t r hr) hz h.1)

  parity_alike : (c r : List Segment) (z : Vector) → All HasPoints c → All HasPoints r → IsPoint z → AllZip SameEnds c r → parity c z ≡ parity r z
  parity_alike [] [] z hc hr hz h = refl
  parity_alike [] (t ∷ r) z hc hr hz h = absurd h
  parity_alike (s ∷ c) [] z hc hr hz h = absurd h
  parity_alike (s ∷ c) (t ∷ r) z hc hr hz h = ap₂ xor (over_alike s t z (All-head HasPoints s c hc) (All-head HasPoints t r hr) hz h.0) (parity_alike c r z (All-tail HasPoints s c hc) (All-tail HasPoints t r hr) hz h.1)

  sound_all : (c r : List Segment) → All HasPoints c → All HasPoints r → AllZip SameEnds c r → All (IsSound (IsTight sums room)) r → All (IsSound (IsTight sums room)) c
  sound_all [] [] hc hr h k = All-nil (IsSound (IsTight sums room))
  sound_all [] (t ∷ r) hc hr h k = absurd h
  sound_all (s ∷ c) [] hc hr h k = absurd h
  sound_all (s ∷ c) (t ∷ r) hc hr h k =
      All-cons (IsSound (IsTight sums room)) s c (sound_alike sums room t s hl hh (All-head HasPoints t r hr) (All-head HasPoints s c hc) (Same-swapped s.a t.a h.0.0, Same-swapped s.b t.b h.0.1) (All-head (IsSound (IsTight sums room)) t r k))
      (sound_all c r (All-tail HasPoints s c hc) (All-tail HasPoints t r hr) h.1 (All-tail (IsSound (IsTight sums room)) t r k))

  pub accepted_alike : (c r : List Segment) (s g : Vector) → IsPoint s → IsPoint g → All HasPoints c → All HasPoints r → AllZip SameEnds c r → IsAccepted (IsTight sums room) s g r → IsAccepted (IsTight sums room) s g c
  accepted_alike c r s g hs hg hc hr h k = record {
    sound = sound_all c r hc hr h k.sound;
    closed = λ z hz. odd_alike c r z hc hr hz h ∙ k.closed z hz;
    odd = parity_alike c r s hc hr hs h ∙ k.odd;
    even = parity_alike c r g hc hr hg h ∙ k.even;
  }
