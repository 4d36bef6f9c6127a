-- The exclusive or of a test of positions over a list of points in which every position comes an even number of times is false: equal answers cancel in pairs.
use Rattle.std.proofs.Common.{◌≡◌, Bool, true, false, ◌&&◌, not, List, [], ◌∷◌, All, refl, sym, ap, ap₂, ◌∙◌}
use Rattle.std.proofs.lemmas.Bool.{and_parts, not-true}
use Rattle.std.proofs.lemmas.List.Elements.{All-head, All-tail}
use Rattle.plan_spec.specs.Vector.{Vector, IsPoint, same}
use Rattle.plan_spec.specs.Parity.{xor}
use Rattle.plan_cross.proofs.ParityLaw.Xor.{xor_middle, and_xor}
use Rattle.plan_cross.proofs.ParityLaw.Position.{IsByPosition, same_same}
use Rattle.plan_plane.proofs.Segment.Same.{same_true, same_from, same_comm}

-- whether an odd number of the points pass the test
abbrev pub tally : (Vector → Bool) → List Vector → Bool
tally f [] = false
tally f (e ∷ es) = xor (f e) (tally f es)

-- whether z is in the list an odd number of times
abbrev pub odd_in : List Vector → Vector → Bool
odd_in es z = tally (λ e. same e z) es

-- the test f, but false at the position of e
abbrev cleared : (Vector → Bool) → Vector → Vector → Bool
cleared f e z = f z && not (same z e)

IsByPosition-cleared : (f : Vector → Bool) (e : Vector) → IsPoint e → IsByPosition f → IsByPosition (cleared f e)
IsByPosition-cleared f e he hf z u hz hu h = ap₂ (λ x y. x && not y) (hf z u hz hu h) (same_same e he z u hz hu h)

-- ---- what is cleared, and what is left
at_one : (f : Vector → Bool) (e z : Vector) → IsByPosition f → IsPoint e → IsPoint z → f z ≡ xor (cleared f e z) (f e && same z e)
at_one f e z hf he hz = by (f z) (f e) (same z e) (λ h. hf z e hz he (same_true z e h))
  where
    by : (x k m : Bool) → (m ≡ true → x ≡ k) → x ≡ xor (x && not m) (k && m)
    by true true true h = refl
    by true true false h = refl
    by true false true h = h refl
    by true false false h = refl
    by false true true h = h refl
    by false true false h = refl
    by false false m h = refl

tally_cleared : (f : Vector → Bool) (e : Vector) → IsByPosition f → IsPoint e → (es : List Vector) → All IsPoint es → tally f es ≡ xor (tally (cleared f e) es) (f e && odd_in es e)
tally_cleared f e hf he [] ps = by (f e)
  where
    by : (k : Bool) → false ≡ (k && false)
    by true = refl
    by false = refl
tally_cleared f e hf he (z ∷ zs) ps =
    ap₂ xor (at_one f e z hf he (All-head IsPoint z zs ps)) (tally_cleared f e hf he zs (All-tail IsPoint z zs ps))
    ∙ xor_middle (cleared f e z) (f e && same z e) (tally (cleared f e) zs) (f e && odd_in zs e)
    ∙ ap (xor (xor (cleared f e z) (tally (cleared f e) zs))) (and_xor (f e) (same z e) (odd_in zs e))

-- ---- all cancels
-- enough: the positions that pass the test come an even number of times
pub even_tally : (es : List Vector) → All IsPoint es → (f : Vector → Bool) → IsByPosition f → ((z : Vector) → IsPoint z → f z ≡ true → odd_in es z ≡ false) → tally f es ≡ false
even_tally [] ps f hf even = refl
even_tally (e ∷ es) ps f hf even =
    let he = All-head IsPoint e es ps in
    let qs = All-tail IsPoint e es ps in
    let rest = even_tally es qs (cleared f e) (IsByPosition-cleared f e he hf) (λ z hz h. left z hz (and_parts (f z) (not (same z e)) h)) in
    tally_cleared f e hf he (e ∷ es) ps ∙ cancels (f e) (same e e) _ _ (same_from e e (refl, refl)) rest (even e he)
  where
    left : (z : Vector) → IsPoint z → (f z ≡ true) × (not (same z e) ≡ true) → odd_in es z ≡ false
    left z hz h =
        let other : same e z ≡ false = same_comm e z ∙ not-true (same z e) h.1 in
        sym (ap (λ x. xor x (odd_in es z)) other) ∙ even z hz h.0

    cancels : (x m t o : Bool) → m ≡ true → t ≡ false → (x ≡ true → o ≡ false) → xor (xor (x && not m) t) (x && o) ≡ false
    cancels true true t o p q h = rw (q, h refl) refl
    cancels false m t o p q h = rw q refl
    cancels true false t o p q h = absurd (cc)
