-- The heights of bars at a line, bar after bar.
use Rattle.std.proofs.Common.{◌≡◌, ℕ, ◌+◌, ◌<◌, sym, subst, ap, ◌∙◌, List, [], ◌∷◌, ◌++◌, append-nil, add-one, take, get_or, length, All}
use Rattle.std.specs.List.{AllZip, flat_map}
use Rattle.std.proofs.lemmas.List.Elements.{All-append}
use Rattle.std.proofs.lemmas.Grind.{flat_map-append}
use Rattle.std.proofs.Math.Seq.{take-suc, take-length}
use Rattle.plan_plane.proofs.Lists.{zip_push, all_unflat}
use Rattle.plan_grid.specs.Fraction.{Fraction}
use Rattle.plan_slab.specs.declared.bar.Bar.{Bar}
use Rattle.plan_slab.specs.Heights.{IsHeight}
use Rattle.plan_slab.specs.LineMarks.{AreHeightsOf, AreHeightsAt}
use Rattle.plan_slab.specs.RisingValues.{IsRisingOf}
use Rattle.plan_slab.proofs.XValues.{all_of_each}

abbrev joined : List (List Fraction) → List Fraction
joined = flat_map (λ fs. fs)

pub record HeightsSoFar (l : Fraction) (bars : List Bar) (i : ℕ) (ms : List Fraction) : Type 0 where
  pub found : List (List Fraction)
  pub each : AllZip (AreHeightsOf l) (take i bars) found
  pub heights : All IsHeight ms
  pub are : ms ≡ flat_map (λ fs. fs) found

joined_push : (xs : List (List Fraction)) (fs : List Fraction) → joined (xs ++ fs ∷ []) ≡ joined xs ++ fs
joined_push xs fs = flat_map-append (λ fs. fs) xs (fs ∷ []) ∙ ap (λ ys. joined xs ++ ys) (append-nil fs)

taken : (bars : List Bar) (i : ℕ) (b : Bar) → i < length bars → b ≡ get_or bars i b → take (i + 1) bars ≡ take i bars ++ b ∷ []
taken bars i b within is = rw add-one (take-suc bars i b within ∙ ap (λ c. take i bars ++ c ∷ []) (sym is))

pub heights_more : (l : Fraction) (bars : List Bar) (i : ℕ) (b : Bar) (ms fs : List Fraction) → HeightsSoFar l bars i ms → i < length bars → b ≡ get_or bars i b → All IsHeight fs → AreHeightsOf l b fs → HeightsSoFar l bars (i + 1) (ms ++ fs)
heights_more l bars i b ms fs h within is hf are = record {
  found = h.found ++ fs ∷ [];
  each = subst (λ bs. AllZip (AreHeightsOf l) bs (h.found ++ fs ∷ [])) (sym (taken bars i b within is)) (zip_push (AreHeightsOf l) (take i bars) h.found b fs h.each are);
  heights = All-append IsHeight ms fs h.heights hf;
  are = ap (λ xs. xs ++ fs) h.are ∙ sym (joined_push h.found fs);
}

pub heights_at : (l : Fraction) (bars : List Bar) (i : ℕ) (xs ys : List Fraction) → i ≡ length bars → HeightsSoFar l bars i xs → IsRisingOf xs ys → AreHeightsAt l bars ys
heights_at l bars i xs ys e h r = record {
  found = h.found;
  each = subst (λ bs. AllZip (AreHeightsOf l) bs h.found) (subst (λ j. take j bars ≡ bars) (sym e) (take-length bars)) h.each;
  bounded = all_unflat IsHeight (λ fs. fs) h.found (subst (All IsHeight) h.are h.heights);
  heights = all_of_each IsHeight xs ys r.each h.heights;
  rising = subst (λ zs. IsRisingOf zs ys) h.are r;
}
