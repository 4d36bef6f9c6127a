-- The ends found so far, followed by those to come, are all ends: a segment's two ends move from the one to the other.
use Rattle.std.proofs.Common.{◌≡◌, ℕ, suc, ◌+◌, ◌<◌, List, [], ◌∷◌, ◌++◌, map, length, get_or, drop, All, ◌∙◌, sym, ap, refl, append_assoc, add-one}
use Rattle.std.proofs.Math.Seq.{drop-cons}
use Rattle.std.proofs.lemmas.List.Elements.{All-append, All-cons, All-nil}
use Rattle.plan_spec.specs.Vector.{Vector, IsPoint}
use Rattle.plan_cross.specs.declared.segment.Segment.{Segment}
use Rattle.plan_cross.specs.Segment.{segment_seen}
use Rattle.plan_cross.specs.Ends.{ends}

-- the segment that comes next, and those behind it
pub next : (s : Segment) (segments : List Segment) (i : ℕ) → i < length segments → s ≡ get_or segments i s → drop i segments ≡ s ∷ drop (i + 1) segments
next s segments i h e = rw add-one (drop-cons segments i s h ∙ ap (λ x. x ∷ drop (suc i) segments) (sym e))

pub two_more : (found : List Vector) (s : Segment) (segments : List Segment) (i : ℕ) → i < length segments → s ≡ get_or segments i s
    → ((found ++ s.a ∷ []) ++ s.b ∷ []) ++ ends (map segment_seen (drop (i + 1) segments)) ≡ found ++ ends (map segment_seen (drop i segments))
two_more found s segments i h e =
    rw (append_assoc, append_assoc, next s segments i h e) refl

pub all_two_more : (found : List Vector) (p q : Vector) → All IsPoint found → IsPoint p → IsPoint q → All IsPoint ((found ++ p ∷ []) ++ q ∷ [])
all_two_more found p q h hp hq = All-append IsPoint (found ++ p ∷ []) (q ∷ []) (All-append IsPoint found (p ∷ []) h (one p hp)) (one q hq)
  where
    one : (p : Vector) → IsPoint p → All IsPoint (p ∷ [])
    one p hp = All-cons IsPoint p [] hp (All-nil IsPoint)
