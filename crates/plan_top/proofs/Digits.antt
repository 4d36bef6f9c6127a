-- More digits make a number no smaller, so one that is above the limit stays above it.
use Rattle.std.specs.Prelude.{◌≡◌, ℕ, ◌+◌, ◌-◌, ◌*◌, ◌<◌, List, [], ◌∷◌, None, option_and_then, if◌then◌else◌, true, false, refl}
use Rattle.std.proofs.Common.{arith}
use Rattle.std.proofs.lemmas.Grind.{common_steps}
use Rattle.plan_top.specs.Command.{is_digit, with_digits, at_most}

pub above : (limit n b : ℕ) (bs : List ℕ) → limit < 10 * n + (b - 48) → option_and_then (at_most limit) (with_digits n (b ∷ bs)) ≡ None
above limit n b [] over =
    elim (is_digit b) as (λ v. option_and_then (at_most limit) (if v then with_digits (10 * n + (b - 48)) [] else None) ≡ None)
    [ true ↦ grind (arith, common_steps) | false ↦ refl ]
above limit n b (d ∷ ds) over =
    elim (is_digit b) as (λ v. option_and_then (at_most limit) (if v then with_digits (10 * n + (b - 48)) (d ∷ ds) else None) ≡ None)
    [ true ↦ above limit (10 * n + (b - 48)) d ds (omega arith) | false ↦ refl ]
