-- Numbers without their factors of two.
use Rattle.std.specs.Prelude.{◌≡◌, ℕ, ◌*◌, ◌%◌, ◌^◌}
use Rattle.std.specs.Int.{w64, trailing_zeros}

-- n is r with as many factors of two as n has zeros at its end
pub record IsOddPart (n r : ℕ) : Type 0 where
  pub odd : r % 2 ≡ 1
  pub of : n ≡ r * 2 ^ trailing_zeros w64 n
