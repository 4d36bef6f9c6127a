-- No text, or a text with its value.
use Rattle.std.proofs.Common.{refl}
use Rattle.plan_wire.proofs.Bytes.{no_text, text}
use Rattle.plan_wire.proofs.documents.read.json_of.Goals as goal

pub returns-in_default : goal.returns-in_default
returns-in_default c = no_text _ c.in_default.ensures.cases.0

pub returns-in-Ok-from_str : goal.returns-in-Ok-from_str
returns-in-Ok-from_str c = rw (text _ _ c.in-Ok.ensures.cases, c.in-Ok-from_str.ensures.ok) refl
