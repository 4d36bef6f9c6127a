-- How large the way from a spot to a point is, times the point's weight.
use Rattle.std.proofs.Common.{ℕ, ◌+◌, ◌*◌, ◌≤◌, ◌^◌, arith}
use Rattle.plan_exact.proofs.Sizes.{product_at_most}

pub offset_size : (r x k w : ℕ) → r ≤ x + k * w → x ≤ 2046 * w → k ≤ 2046 → w ≤ 2 ^ 51 → r ≤ 4092 * 2 ^ 51
offset_size r x k w h hx hk hw = omega (arith, product_at_most k w 2046 w hk (omega arith))
