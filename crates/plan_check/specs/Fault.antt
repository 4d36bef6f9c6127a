-- A fault as the definitions see it, and its text.
use Rattle.std.specs.Prelude.{ℕ, List, ◌++◌, codes, decimal}
use Rattle.plan_spec.specs.Reply as definition
use Rattle.plan_check.specs.declared.fault.CheckFault.{CheckFault}
use Rattle.plan_check.specs.declared.fault.CheckFault.TheVariants.{EmptyPath, WrongStart, WrongGoal, Touches, Flat, Loose, Unclosed, StartEven, GoalOdd}

abbrev pub fault_seen : CheckFault → definition.Fault
fault_seen EmptyPath = definition.empty_path
fault_seen WrongStart = definition.wrong_start
fault_seen WrongGoal = definition.wrong_goal
fault_seen (Touches k) = definition.touches k
fault_seen (Flat k) = definition.flat k
fault_seen (Loose k) = definition.loose k
fault_seen (Unclosed k) = definition.unclosed k
fault_seen StartEven = definition.start_even
fault_seen GoalOdd = definition.goal_odd

abbrev pub fault_text : CheckFault → List ℕ
fault_text EmptyPath = codes "empty path"
fault_text WrongStart = codes "wrong start"
fault_text WrongGoal = codes "wrong goal"
fault_text (Touches k) = codes "touches " ++ decimal k
fault_text (Flat k) = codes "flat " ++ decimal k
fault_text (Loose k) = codes "loose " ++ decimal k
fault_text (Unclosed k) = codes "unclosed " ++ decimal k
fault_text StartEven = codes "start even"
fault_text GoalOdd = codes "goal odd"
