-- The exit codes of the program.
use Rattle.std.specs.Prelude.{ℕ}
use Rattle.plan_top.specs.declared.status.Status.{Status}
use Rattle.plan_top.specs.declared.status.Status.TheVariants.{Done, Usage, Refused, ReadFault, WriteFault, NoMemory, Invalid}

abbrev pub code_of : Status → ℕ
code_of Done = 0
code_of Usage = 1
code_of (Refused _) = 2
code_of ReadFault = 3
code_of WriteFault = 4
code_of NoMemory = 5
code_of (Invalid _) = 6
