-- What `check` did is what it was to answer and how its line was written: whole, or cut by a fault of the sink.
use Rattle.std.specs.Prelude.{◌≡◌, ◌<◌, length, Some, None, IfSome, Err, refl}
use Rattle.std.proofs.Common.{inl, inr}
use Rattle.std.proofs.lemmas.Bool.{lt-leb}
use Rattle.plan_wire.specs.Stream.{Appends}
use Rattle.plan_wire.specs.Reading.{too_long as too_many}
use Rattle.plan_wire.specs.Documents.{document_of, most_bytes}
use Rattle.plan_wire.specs.declared.documents.Want.{Want}
use Rattle.plan_top.specs.Lines.{line_of}
use Rattle.plan_top.specs.Outcome.{Told, IsAnswer, CheckOutcome, LineOutcome}
use Rattle.plan_top.specs.declared.status.Status.{Status}

-- too many bytes are refused as such
pub too_long : (want : Want) (told : Told) → IfSome told (λ all. most_bytes < length all) → IfSome told (λ all. document_of all want ≡ Err too_many)
unfolding document_of
too_long want None long = tt
too_long want (Some all) long = rw (lt-leb (length all) most_bytes long) refl

-- an answer whose line was written, or cut by a fault
pub of_line : (told left before after : Told) (answer status : Status) → IsAnswer told answer → (Appends before after (line_of answer) → CheckOutcome told left before after answer) → LineOutcome answer before after status → CheckOutcome told left before after status
of_line told left before after answer status h done (inl put) = rw put.0 (done put.1)
of_line told left before after answer status h done (inr cut) = rw cut.0 (answer, h, cut.1)
