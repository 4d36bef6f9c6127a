-- Bytes are refused for one reason: by the first that no document is read for, or by what their document is refused for.
use Rattle.std.proofs.Common.{◌≡◌, List, ℕ, ◌++◌, Ok, Err, IsOkAnd, sym, ap, subst, ◌∙◌}
use Rattle.std.specs.Prelude.{codes}
use Rattle.plan_wire.specs.Reading as reading
use Rattle.plan_wire.specs.Reading.{Read}
use Rattle.plan_wire.specs.Documents.{Document, document_of}
use Rattle.plan_wire.specs.declared.documents.Want.{Want}
use Rattle.plan_top.specs.First.{IsRefusedBy}
use Rattle.plan_top.specs.Lines.{line, refusal_line}
use Rattle.plan_top.specs.Outcome.{IsRefusal, IsRefusedScene}
use Rattle.plan_top.specs.declared.status.Refusal.{Refusal}
use Rattle.plan_top.specs.declared.status.Refusal.TheVariants.{TooLong, Json, Form, Range, RobotNotSimple, Obstacle, TooManyRegions}
use Rattle.plan_top.proofs.OneFirst.{one_given}
use Rattle.plan_top.proofs.OneRefusal.{one_refusal}

-- ---- bytes that are no document
abbrev pub refused_by : reading.Refusal → List ℕ
refused_by reading.too_long = line (codes "refused: too long")
refused_by reading.json = line (codes "refused: json")
refused_by (reading.form place) = line (codes "refused: form " ++ place)
refused_by (reading.range place) = line (codes "refused: range " ++ place)

one_reason : (q r : reading.Refusal) → (let o : Read Document = Err q in o) ≡ Err r → q ≡ r
one_reason q r e = cc

module _ (want : Want) (bytes : List ℕ) (r : reading.Refusal) (e : document_of bytes want ≡ Err r) where
  by_reason : (q : reading.Refusal) → document_of bytes want ≡ Err q → refused_by q ≡ refused_by r
  by_reason q h = ap refused_by (one_reason q r (sym h ∙ e))

  pub no_document : (P : Document → Type 0) → ¬ (IsOkAnd (document_of bytes want) P)
  no_document P h = subst (λ o. IsOkAnd o P) e h

  pub line_of_reason : (q : Refusal) → IsRefusal want bytes q → refusal_line q ≡ refused_by r
  line_of_reason TooLong h = by_reason reading.too_long h
  line_of_reason Json h = by_reason reading.json h
  line_of_reason (Form p) h = by_reason (reading.form _) h
  line_of_reason (Range p) h = by_reason (reading.range _) h
  line_of_reason (RobotNotSimple i j) h = absurd (no_document _ h)
  line_of_reason (Obstacle at f) h = absurd (no_document _ h)
  line_of_reason TooManyRegions h = absurd (no_document _ h)

-- ---- bytes that are a document
module _ (want : Want) (bytes : List ℕ) (d : Document) (e : document_of bytes want ≡ Ok d) where
  pub is_read : (P : Document → Type 0) → IsOkAnd (document_of bytes want) P → P d
  is_read P h = subst (λ o. IsOkAnd o P) e h

  no_reason : (q : reading.Refusal) → ¬ (document_of bytes want ≡ Err q)
  no_reason q h = cc

  pub refused_scene : (q : Refusal) → IsRefusal want bytes q → IsRefusedScene d q
  refused_scene TooLong h = absurd (no_reason reading.too_long h)
  refused_scene Json h = absurd (no_reason reading.json h)
  refused_scene (Form p) h = absurd (no_reason (reading.form _) h)
  refused_scene (Range p) h = absurd (no_reason (reading.range _) h)
  refused_scene (RobotNotSimple i j) h = is_read _ h
  refused_scene (Obstacle at f) h = is_read _ h
  refused_scene TooManyRegions h = is_read _ h

pub one_cause : (d : Document) (q r : Refusal) → IsRefusedScene d q → IsRefusedScene d r → q ≡ r
one_cause d q r h k = one_refusal h.given q r h.is_refused (subst (λ g. IsRefusedBy g r) (one_given k.given h.given d.scene k.is_given h.is_given) k.is_refused)
