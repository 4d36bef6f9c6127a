-- Two lawful answers to one list of bytes have one code and one line.
use Rattle.std.proofs.Common.{◌≡◌, ℕ, List, Some, Ok, Err, refl, sym, ap, ◌∙◌}
use Rattle.plan_wire.specs.Reading as reading
use Rattle.plan_wire.specs.Reading.{Read}
use Rattle.plan_wire.specs.Documents.{Document, document_of}
use Rattle.plan_wire.specs.declared.documents.Want.TheVariants.{Check}
use Rattle.plan_check.specs.declared.verdict.Verdict.TheVariants.{Valid, Invalid as InvalidBy}
use Rattle.plan_check.specs.declared.verdict.Verdict.{Verdict}
use Rattle.plan_top.specs.Laws.{IsOfPoints, SameAnswer, OneAnswer}
use Rattle.plan_top.specs.Lines.{line_of}
use Rattle.plan_top.specs.Outcome.{IsJudged, IsRefusedScene, IsAnswer, IsAnswerTo}
use Rattle.plan_top.specs.Status.{code_of}
use Rattle.plan_top.specs.declared.status.Refusal.{Refusal}
use Rattle.plan_top.specs.declared.status.Status.{Status}
use Rattle.plan_top.specs.declared.status.Status.TheVariants.{Done, Usage, Refused, ReadFault, WriteFault, NoMemory, Invalid}
use Rattle.plan_top.proofs.Exclusion.{valid_or_invalid, one_first_fault}
use Rattle.plan_top.proofs.OneReason.{refused_by, no_document, line_of_reason, is_read, refused_scene, one_cause}
use Rattle.plan_top.proofs.ReadsPoints.{ends_are_points}
use Rattle.plan_top.proofs.RefusedSessions.{no_first}

-- ---- bytes that are no document
module _ (bytes : List ℕ) (r : reading.Refusal) (e : document_of bytes Check ≡ Err r) where
  abbrev IsTold : Status → Type 0
  IsTold s = (code_of s ≡ 2) × (line_of s ≡ refused_by r)

  told : (s : Status) → IsAnswer (Some bytes) s → IsTold s
  told Done h = absurd (no_document Check bytes r e _ h)
  told (Invalid f) h = absurd (no_document Check bytes r e _ h)
  told (Refused q) h = (refl, line_of_reason Check bytes r e q h)
  told Usage h = absurd h
  told ReadFault h = absurd h
  told WriteFault h = absurd h
  told NoMemory h = absurd h

-- ---- bytes that are a document
module _ (bytes : List ℕ) (d : Document) (e : document_of bytes Check ≡ Ok d) where
  answers : (s : Status) → IsAnswer (Some bytes) s → IsAnswerTo d s
  answers Done h = is_read Check bytes d e _ h
  answers (Invalid f) h = is_read Check bytes d e _ h
  answers (Refused q) h = refused_scene Check bytes d e q h
  answers Usage h = h
  answers ReadFault h = h
  answers WriteFault h = h
  answers NoMemory h = h

judged_or_refused : (d : Document) (v : Verdict) (r : Refusal) → IsJudged d v → ¬ (IsRefusedScene d r)
judged_or_refused d v r h k = no_first d r h.given h.first k h.is_given h.is_first

one_status : (d : Document) → IsOfPoints d → (s t : Status) → IsAnswerTo d s → IsAnswerTo d t → s ≡ t
one_status d ends Done Done h k = refl
one_status d ends Done (Invalid f) h k = absurd (valid_or_invalid d f ends (h, k))
one_status d ends Done (Refused r) h k = absurd (judged_or_refused d Valid r h k)
one_status d ends (Invalid f) Done h k = absurd (valid_or_invalid d f ends (k, h))
one_status d ends (Invalid f) (Invalid g) h k = ap Invalid (one_first_fault d f g ends h k)
one_status d ends (Invalid f) (Refused r) h k = absurd (judged_or_refused d (InvalidBy f) r h k)
one_status d ends (Refused q) Done h k = absurd (judged_or_refused d Valid q k h)
one_status d ends (Refused q) (Invalid f) h k = absurd (judged_or_refused d (InvalidBy f) q k h)
one_status d ends (Refused q) (Refused r) h k = ap Refused (one_cause d q r h k)
one_status d ends Usage t h k = absurd h
one_status d ends ReadFault t h k = absurd h
one_status d ends WriteFault t h k = absurd h
one_status d ends NoMemory t h k = absurd h
one_status d ends s Usage h k = absurd k
one_status d ends s ReadFault h k = absurd k
one_status d ends s WriteFault h k = absurd k
one_status d ends s NoMemory h k = absurd k

pub one_answer : OneAnswer
one_answer bytes s t h k = by (document_of bytes Check) refl
  where
    by : (o : Read Document) → document_of bytes Check ≡ o → SameAnswer s t
    by (Err r) e = let a = told bytes r e s h in let b = told bytes r e t k in (a.0 ∙ sym b.0, a.1 ∙ sym b.1)
    by (Ok d) e = let same = one_status d (ends_are_points bytes d e) s t (answers bytes d e s h) (answers bytes d e t k) in (ap code_of same, ap line_of same)
