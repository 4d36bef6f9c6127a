-- What is drawn in a demonstration: its state moves on with each draw, and what it gives is below a bound.
use Rattle.std.specs.Prelude.{ℕ, zero, suc, ◌+◌, ◌*◌, ◌/◌, ◌%◌}

-- the state after one draw
unfoldable pub next : ℕ → ℕ
next s = (s * 1103515245 + 12345) % 2147483648

-- the state after n draws
abbrev pub after : ℕ → ℕ → ℕ
after zero s = s
after (suc n) s = after n (next s)

-- what a draw below m gives
abbrev pub draw : ℕ → ℕ → ℕ
draw m s = (next s / 65536) % m
