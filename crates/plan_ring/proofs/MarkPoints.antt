-- The points of marks, which have small weights.
use Rattle.std.proofs.Common.{◌≡◌, inl, inr, ◌≤◌, ◌<◌, ◌*◌, ◌^◌, ℕ, [], length, get_or, unsigned_abs, refl, sym, ap, ◌∙◌, arith}
use Rattle.std.proofs.lemmas.Bool.{cases_lt}
use Rattle.std.proofs.lemmas.List.{get_or-map, get_or_past}
use Rattle.std.proofs.Math.Nat.{dvd-mul_left}
use Rattle.std.proofs.lemmas.Int.{ints}
use Rattle.plan_exact.proofs.Sizes.{product_at_most}
use Rattle.plan_spec.specs.Slabs.{nowhere, marks_of, mark_at}
use Rattle.plan_grid.specs.Fraction.{Fraction, IsLcm, point_at}
use Rattle.plan_grid.specs.declared.bounds.TheConstants.{MOST_WEIGHT}
use Rattle.plan_grid.proofs.Multiples.{lcm_at_most}
use Rattle.plan_slab.specs.EventLines.{IsLine}
use Rattle.plan_slab.specs.Heights.{IsHeightOn}
use Rattle.plan_slab.specs.Seen.{marks_seen}
use Rattle.plan_slab.specs.Subdivision.{Subdivision, slabs_of}
use Rattle.plan_slab.proofs.SlabsSeen.{marks_seen_at}

pub few_multiples : (l m : Fraction) → IsLine l → IsHeightOn l m → (n : ℕ) → IsLcm (unsigned_abs l.den) (unsigned_abs m.den) n → n ≤ MOST_WEIGHT
few_multiples l m line on n is =
    let den = unsigned_abs l.den in
    let positive : 0 < den = omega (arith, ints, line.ratio.positive) in
    let product : 0 < on.factor * den = omega (arith, product_at_most 1 1 on.factor den on.positive positive) in
    let least : n ≤ on.factor * den = lcm_at_most den (unsigned_abs m.den) n (on.factor * den) is product (dvd-mul_left den on.factor) on.divides in
    let bounded : on.factor * den ≤ 2 ^ 37 = elim on.small [
      | inl few ↦ omega (arith, product_at_most on.factor den 4092 (2 ^ 25) few (omega (arith, line.bounded)))
      | inr less ↦ omega (arith, less)
    ] in
    omega (arith, least, bounded)

-- the mark of that number, as it is kept
pub mark_seen_at : (s : Subdivision) (k j : ℕ) (x y : Fraction) → k < length s.lines → x ≡ get_or s.lines k x → j < length (get_or s.marks k []) → y ≡ get_or (get_or s.marks k []) j y → point_at x y ≡ mark_at (slabs_of s) k j
mark_seen_at s k j x y within is_x inside is_y = elim (cases_lt k (length s.marks)) [
  | inl there ↦ (
      let ms = get_or s.marks k [] in
      let row : marks_seen x ms ≡ marks_of (slabs_of s) k = marks_seen_at s.lines s.spans s.marks k x ms within there is_x refl in
      ap (point_at x) is_y ∙ sym (get_or-map (point_at x) ms j y nowhere inside) ∙ ap (λ ms. get_or ms j nowhere) row
      )
  | inr past ↦ absurd (omega (arith, inside, ap length (get_or_past s.marks k [] past)))
]
