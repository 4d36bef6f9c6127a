-- The table of words: each line computes, so the definition of a command says what it should of these.
use Rattle.std.specs.Prelude.{◌≡◌, [], ◌∷◌, codes, Some, None, refl}
use Rattle.plan_top.specs.Command.{command_of}
use Rattle.plan_top.specs.declared.command.Command.TheVariants.{Plan, Session, Check, Demo}

plan_3 : command_of (codes "plan" ∷ codes "3" ∷ []) ≡ Some (Plan 3)
plan_3 = refl

plan_16 : command_of (codes "plan" ∷ codes "16" ∷ []) ≡ Some (Plan 16)
plan_16 = refl

plan_0 : command_of (codes "plan" ∷ codes "0" ∷ []) ≡ None
plan_0 = refl

plan_17 : command_of (codes "plan" ∷ codes "17" ∷ []) ≡ None
plan_17 = refl

plan_01 : command_of (codes "plan" ∷ codes "01" ∷ []) ≡ None
plan_01 = refl

plan_signed : command_of (codes "plan" ∷ codes "+3" ∷ []) ≡ None
plan_signed = refl

plan_empty : command_of (codes "plan" ∷ [] ∷ []) ≡ None
plan_empty = refl

plan_spaced : command_of (codes "plan" ∷ codes " 3" ∷ []) ≡ None
plan_spaced = refl

plan_alone : command_of (codes "plan" ∷ []) ≡ None
plan_alone = refl

session_1 : command_of (codes "session" ∷ codes "1" ∷ []) ≡ Some (Session 1)
session_1 = refl

check_alone : command_of (codes "check" ∷ []) ≡ Some Check
check_alone = refl

check_1 : command_of (codes "check" ∷ codes "1" ∷ []) ≡ None
check_1 = refl

check_check : command_of (codes "check" ∷ codes "check" ∷ []) ≡ None
check_check = refl

check_spaced : command_of (codes "check " ∷ []) ≡ None
check_spaced = refl

no_words : command_of [] ≡ None
no_words = refl

empty_word : command_of ([] ∷ []) ≡ None
empty_word = refl

demo_1_17 : command_of (codes "demo" ∷ codes "1" ∷ codes "17" ∷ []) ≡ None
demo_1_17 = refl

demo_1001_1 : command_of (codes "demo" ∷ codes "1001" ∷ codes "1" ∷ []) ≡ None
demo_1001_1 = refl

demo_1000_16 : command_of (codes "demo" ∷ codes "1000" ∷ codes "16" ∷ []) ≡ Some (Demo 1000 16)
demo_1000_16 = refl
