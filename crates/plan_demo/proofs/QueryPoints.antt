-- Starts and goals that are drawn are points.
use Rattle.std.proofs.Common.{ℕ, arith}
use Rattle.std.proofs.lemmas.Int.{ints}
use Rattle.plan_spec.specs.Vector.{IsPoint}
use Rattle.plan_demo.specs.Demo.{query}

pub drawn_are_points : (s : ℕ) → IsPoint (query s).start × IsPoint (query s).goal
unfolding query
drawn_are_points s = (omega (arith, ints), omega (arith, ints))
