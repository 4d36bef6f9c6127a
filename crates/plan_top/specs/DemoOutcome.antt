-- What `demo` did, by its status: to the bytes of the sink before and after.
use Rattle.std.specs.Prelude.{◌≡◌, ◌⊎◌, ℕ, List}
use Rattle.plan_wire.specs.Stream.{Appends, AppendsPart}
use Rattle.plan_top.specs.Demo.{IsDemo, IsDemoBegun, IsDemoRefused}
use Rattle.plan_top.specs.Lines.{refusal_line}
use Rattle.plan_top.specs.Outcome.{Told}
use Rattle.plan_top.specs.declared.status.Refusal.TheVariants.{TooManyRegions}
use Rattle.plan_top.specs.declared.status.Status.{Status}
use Rattle.plan_top.specs.declared.status.Status.TheVariants.{Done, Refused, WriteFault, NoMemory}

-- where the sink fails, a front of lawful lines is written; where there is no memory, nothing or the first line. The one refusal is that the first scene is too large
abbrev pub DemoOutcome : ℕ → Told → Told → Status → Type 0
DemoOutcome number before after Done = (text : List ℕ) × IsDemo number text × Appends before after text
DemoOutcome number before after (Refused TooManyRegions) = IsDemoRefused number TooManyRegions × Appends before after (refusal_line TooManyRegions)
DemoOutcome number before after WriteFault =
    ((text : List ℕ) × IsDemo number text × AppendsPart before after text)
    ⊎ (IsDemoRefused number TooManyRegions × AppendsPart before after (refusal_line TooManyRegions))
DemoOutcome number before after NoMemory = (after ≡ before) ⊎ ((text : List ℕ) × IsDemoBegun number text × Appends before after text)
DemoOutcome number before after _ = ⊥
