-- The job of the tests and of the rounds by hand: entries and answers are numbers.
use Rattle.std.specs.Prelude.{◌≡◌, ℕ, ◌+◌, ◌==◌, Bool, true, false, if◌then◌else◌}
use Rattle.plan_crew.specs.declared.job.Outcome.{Outcome}
use Rattle.plan_crew.specs.declared.job.Outcome.TheVariants.{Taken, Refused}

abbrev either : Bool → ℕ → Outcome ℕ ℕ
either b entry = if b then Refused entry else Taken (entry + 1)

-- a change of 0 is refused, and any other leads to the next number
abbrev pub counted : ℕ → ℕ → Outcome ℕ ℕ
counted entry change = either (change == 0) entry

by_test : (b : Bool) (entry next : ℕ) → Taken next ≡ either b entry → next ≡ entry + 1
by_test true entry next is = absurd cc
by_test false entry next is = cc is

-- what is taken is the next number
pub counted_rises : (entry change next : ℕ) → Taken next ≡ counted entry change → next ≡ entry + 1
counted_rises entry change next is = by_test (change == 0) entry next is
