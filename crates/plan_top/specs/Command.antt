-- The words that call the program: plan N, session N, check, or demo K N, with N from 1 to 16 and K from 1 to 1000.
use Rattle.std.specs.Prelude.{ℕ, ◌≤◌, ◌+◌, ◌-◌, ◌*◌, ◌==◌, ◌&&◌, Bool, nat_le, List, [], ◌∷◌, codes}
use Rattle.std.specs.Prelude.{Option, Some, None, option_map, option_and_then, if◌then◌else◌}
use Rattle.std.specs.Str.{bytes_eq}
use Rattle.plan_top.specs.declared.command.Command.{Command}
use Rattle.plan_top.specs.declared.command.Command.TheVariants.{Plan, Session, Check, Demo}

abbrev pub is_digit : ℕ → Bool
is_digit b = nat_le 48 b && nat_le b 57

-- the number that n becomes by the digits behind it
abbrev pub with_digits : ℕ → List ℕ → Option ℕ
with_digits n [] = Some n
with_digits n (b ∷ bs) = if is_digit b then with_digits (10 * n + (b - 48)) bs else None

-- the number that decimal digits write, the first of which is not 0
abbrev pub number_of : List ℕ → Option ℕ
number_of [] = None
number_of (b ∷ bs) = if b == 48 then None else with_digits 0 (b ∷ bs)

-- the number, where it is at most the limit
abbrev pub at_most : ℕ → ℕ → Option ℕ
at_most limit n = if nat_le n limit then Some n else None

abbrev pub number_up_to : ℕ → List ℕ → Option ℕ
number_up_to limit word = option_and_then (at_most limit) (number_of word)

-- the command of the words after the program's name
abbrev pub command_of : List (List ℕ) → Option Command
command_of (verb ∷ []) = if bytes_eq verb (codes "check") then Some Check else None
command_of (verb ∷ n ∷ []) =
    if bytes_eq verb (codes "plan") then option_map Plan (number_up_to 16 n)
    else if bytes_eq verb (codes "session") then option_map Session (number_up_to 16 n)
    else None
command_of (verb ∷ k ∷ n ∷ []) =
    if bytes_eq verb (codes "demo") then option_and_then (λ k. option_map (Demo k) (number_up_to 16 n)) (number_up_to 1000 k) else None
command_of _ = None

-- a command that reads its source
abbrev pub Reads : Option Command → Type 0
Reads (Some Check) = Unit {0}
Reads (Some (Plan _)) = Unit {0}
Reads (Some (Session _)) = Unit {0}
Reads _ = ⊥

-- a command that tells watchers
abbrev pub TellsWatchers : Option Command → Type 0
TellsWatchers (Some (Session _)) = Unit {0}
TellsWatchers _ = ⊥

-- from 1 to the limit
abbrev pub IsUpTo : ℕ → ℕ → Type 0
IsUpTo limit n = (1 ≤ n) × (n ≤ limit)

-- a command whose number of workers is from 1 to 16, and whose number of a demonstration is from 1 to 1000
abbrev pub IsInRange : Option Command → Type 0
IsInRange (Some (Plan n)) = IsUpTo 16 n
IsInRange (Some (Session n)) = IsUpTo 16 n
IsInRange (Some (Demo k n)) = IsUpTo 1000 k × IsUpTo 16 n
IsInRange _ = Unit {0}
