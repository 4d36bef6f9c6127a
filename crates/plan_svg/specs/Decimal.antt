-- Rational numbers as decimal ones, to the thousandth.
use Rattle.std.specs.Prelude.{ℕ, ◌+◌, ◌*◌, ◌/◌, ◌%◌, ℤ, pos, int_lt, unsigned_abs, nat_eq, List, [], ◌++◌, codes, decimal, if◌then◌else◌}

-- the whole number that is nearest to 1000 times x / w; of two that are, the greater
abbrev pub thousandths : ℕ → ℕ → ℕ
thousandths x w = (2000 * x + w) / (2 * w)

-- so many thousandths, fewer than 1000, behind a point and without zeros at the end
unfoldable pub fraction_text : ℕ → List ℕ
fraction_text n =
    if nat_eq n 0 then [] else
    codes "." ++ (decimal (n / 100) ++ (if nat_eq (n % 100) 0 then [] else
    decimal (n / 10 % 10) ++ (if nat_eq (n % 10) 0 then [] else decimal (n % 10))))

unfoldable pub thousandths_text : ℕ → List ℕ
thousandths_text n = decimal (n / 1000) ++ fraction_text (n % 1000)

-- x / w
unfoldable pub decimal_text : ℤ → ℤ → List ℕ
decimal_text x w = (if int_lt x (pos 0) then codes "-" else []) ++ thousandths_text (thousandths (unsigned_abs x) (unsigned_abs w))
