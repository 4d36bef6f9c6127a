-- The lowest bit that is set, and those below it.
use Rattle.std.proofs.Common.{◌/◌, ◌^◌, w64, sym, ◌∙◌, arith}
use Rattle.std.specs.Int.{trailing_zeros}
use Rattle.std.proofs.lemmas.Nat.Bits.{bit_at-trailing_zeros}
use Rattle.plan_grid.proofs.OddParts.{halves, doubled_pow}
use Rattle.plan_grid.proofs.gcd.odd_part.Goals as goal

pub returns : goal.returns
returns c =
    let n = c.args.n in
    let k = trailing_zeros w64 n in
    let h = bit_at-trailing_zeros w64 n c.requires (omega (arith, c.ranges.n.fits)) in
    record { odd = h.1; of = halves k n h.2 ∙ sym (doubled_pow k (n / 2 ^ k)) }
