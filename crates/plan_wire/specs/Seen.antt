-- The document that was read, and the fault that was told, as the definition sees them.
use Rattle.std.specs.Prelude.{◌≡◌, map, Option, Some, None, IfSome, string_bytes, Result, Ok, Err}
use Rattle.plan_spec.specs.Placement as placement
use Rattle.plan_grid.specs.Spot.{spot_seen, spots_seen}
use Rattle.plan_grid.specs.Frame.{frame_seen}
use Rattle.plan_cross.specs.declared.certificate.Query as cross
use Rattle.plan_cross.specs.declared.certificate.Certificate.{Certificate}
use Rattle.plan_cross.specs.declared.certificate.Certificate.TheVariants.{Path, Blocked}
use Rattle.plan_wire.specs.Reading.{Refusal, Read, too_long, json, form, range}
use Rattle.plan_wire.specs.Documents as definition
use Rattle.plan_wire.specs.declared.documents.Document.{Document}
use Rattle.plan_wire.specs.declared.documents.Shape.{Shape}
use Rattle.plan_wire.specs.declared.documents.Task.{Task}
use Rattle.plan_wire.specs.declared.documents.Task.TheVariants.{Queries, Rounds, Proof}
use Rattle.plan_wire.specs.declared.documents.Turn.{Turn}
use Rattle.plan_wire.specs.declared.documents.Change.{Change}
use Rattle.plan_wire.specs.declared.documents.Change.TheVariants.{Add, Remove}
use Rattle.plan_wire.specs.declared.documents.fault.WireFault.{WireFault}
use Rattle.plan_wire.specs.declared.documents.fault.WireFault.TheVariants.{TooLong, Json, Form, Range, NoMemory}

abbrev pub shape_seen : Shape → placement.Obstacle
shape_seen s = record { id = s.id; shape = spots_seen s.spots.items }

abbrev pub query_seen : cross.Query → definition.Query
query_seen q = record { start = spot_seen q.start; goal = spot_seen q.goal }

abbrev pub certificate_seen : Certificate → definition.Certificate
certificate_seen (Path points) = definition.path points
certificate_seen (Blocked segments) = definition.chain segments

abbrev pub edit_seen : Change → definition.Edit
edit_seen (Add shape) = definition.add (shape_seen shape)
edit_seen (Remove id) = definition.remove id

abbrev pub round_seen : Turn → definition.Round
round_seen t = record { edits = map edit_seen t.edits.items; lanes = map (λ lane. map query_seen lane.items) t.lanes.items }

abbrev pub task_seen : Task → definition.Task
task_seen (Queries queries) = definition.queries (map query_seen queries.items)
task_seen (Rounds rounds) = definition.rounds (map round_seen rounds.items)
task_seen (Proof query certificate) = definition.proof (query_seen query) (certificate_seen certificate)

abbrev pub document_seen : Document → definition.Document
document_seen d = record {
  scene = record { frame = frame_seen d.frame; robot = spots_seen d.robot.items; obstacles = map shape_seen d.obstacles.items };
  task = task_seen d.task;
}

-- the refusal that a fault tells; want of memory tells none
abbrev pub refusal_seen : WireFault → Option Refusal
refusal_seen TooLong = Some too_long
refusal_seen Json = Some json
refusal_seen (Form place) = Some (form (string_bytes place))
refusal_seen (Range place) = Some (range (string_bytes place))
refusal_seen NoMemory = None

-- what is answered is what the definition reads: its value, or its refusal, or there was no memory
abbrev pub ReadsAs : {T A : Type 0} → (T → A) → Read A → Result T WireFault → Type 0
ReadsAs seen read (Ok t) = read ≡ Ok (seen t)
ReadsAs seen read (Err fault) = IfSome (refusal_seen fault) (λ refusal. read ≡ Err refusal)
