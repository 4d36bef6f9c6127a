-- What was put so far stands before the texts of what is left.
use Rattle.std.proofs.Common.{◌≡◌, ◌++◌, drop}
use Rattle.std.specs.List.{flat_map}
use Rattle.plan_svg.specs.Shapes.{escaped_byte}
use Rattle.plan_svg.proofs.text.put_escaped.Given as goal

abbrev pub invariant-loop-byte : goal.invariant-loop-byte
invariant-loop-byte l = l.out.items ++ flat_map escaped_byte (drop l.byte-index l.byte-items) ≡ l.initial.out.items ++ flat_map escaped_byte l.byte-items
