-- What a call did is how the text of its answer was written: whole, or cut by a fault of the sink.
use Rattle.std.proofs.Common.{◌≡◌, inl, inr, ℕ, List, Some, None, IfSome, Result, Ok, Err, IfOk, MatchResult, sym, subst}
use Rattle.plan_wire.specs.Stream.{Appends}
use Rattle.plan_wire.specs.declared.no_memory.NoMemory as wire
use Rattle.plan_top.specs.Outcome.{Told, IsReadToEnd}
use Rattle.plan_top.specs.declared.status.Status.{Status}
use Rattle.plan_top.specs.declared.status.Status.TheVariants.{Done, Usage, Refused, ReadFault, WriteFault, NoMemory, Invalid}
use Rattle.plan_picture.specs.Outcome.{IsAnswer, IsReadFor, IsWritten, Outcome}
use Rattle.plan_picture.specs.declared.answer.Answer.{Answer}
use Rattle.plan_picture.specs.declared.command.Command.{Command}
use Rattle.plan_picture.specs.declared.command.Command.TheVariants.{Query, Check}

-- an answer to the bytes that are taken is one to those that are told
pub of_told : (command : Command) (told : Told) (bytes : List ℕ) (status : Status) (text : List ℕ) → IfSome told (λ all. bytes ≡ all) → IsAnswer command (Some bytes) status text → IsAnswer command told status text
of_told command (Some all) bytes status text e h = subst (λ b. IsAnswer command (Some b) status text) e h
of_told command None bytes (Refused refusal) text e h = (tt, h.1)
of_told (Query k) None bytes Done text e h = tt
of_told (Query k) None bytes Usage text e h = (tt, h.1)
of_told (Query k) None bytes (Invalid fault) text e h = absurd h
of_told (Query k) None bytes ReadFault text e h = absurd h
of_told (Query k) None bytes WriteFault text e h = absurd h
of_told (Query k) None bytes NoMemory text e h = absurd h
of_told Check None bytes Done text e h = tt
of_told Check None bytes (Invalid fault) text e h = tt
of_told Check None bytes Usage text e h = absurd h
of_told Check None bytes ReadFault text e h = absurd h
of_told Check None bytes WriteFault text e h = absurd h
of_told Check None bytes NoMemory text e h = absurd h

-- a source that is read to its end is read so for each status
pub read_for : (status : Status) (told left : Told) → IsReadToEnd told left → IsReadFor status told left
read_for Done told left h = h
read_for (Invalid fault) told left h = h
read_for Usage told left h = tt
read_for (Refused refusal) told left h = tt
read_for ReadFault told left h = tt
read_for WriteFault told left h = tt
read_for NoMemory told left h = tt

module _ (command : Command) (told left before after : Told) where
  whole : (status : Status) (text : List ℕ) → IsAnswer command told status text → IsReadFor status told left → Appends before after text → Outcome (Some command) told left before after status
  whole Done text h read put = ((text, h, put), read)
  whole (Invalid fault) text h read put = ((text, h, put), read)
  whole Usage text h read put = ((text, h, put), read)
  whole (Refused refusal) text h read put = ((text, h, put), read)
  whole ReadFault text h read put = absurd h
  whole WriteFault text h read put = absurd h
  whole NoMemory text h read put = absurd h

  one : (status : Status) (text : List ℕ) (result : Status) → IsAnswer command told status text → IsReadFor status told left → IsWritten status text before after result → Outcome (Some command) told left before after result
  one status text result h read (inl (e, put)) = subst (Outcome (Some command) told left before after) (sym e) (whole status text h read put)
  one status text result h read (inr (e, cut)) = subst (Outcome (Some command) told left before after) (sym e) ((status, text, h, cut), tt)

  -- an answer that was written, cut, or not made
  pub of_written : (made : Result Answer wire.NoMemory) (result : Status) → IfOk made (λ a. IsAnswer command told a.status a.text.items × IsReadFor a.status told left)
      → MatchResult made (λ a. IsWritten a.status a.text.items before after result) (λ _. (result ≡ NoMemory) × (after ≡ before)) → Outcome (Some command) told left before after result
  of_written (Ok a) result h written = one a.status a.text.items result h.0 h.1 written
  of_written (Err e) result h (is, still) = subst (Outcome (Some command) told left before after) (sym is) (still, tt)
