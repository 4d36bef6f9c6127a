-- What every document that is read keeps to.
use Rattle.std.specs.Prelude.{ℕ, ◌≤◌, ◌<ℤ◌, List, length, All}
use Rattle.plan_spec.specs.Segment.{Segment}
use Rattle.plan_grid.specs.declared.bounds.TheConstants.{MOST_CORNER, MOST_COORDINATE}
use Rattle.plan_grid.specs.Spot.{IsWithin}
use Rattle.plan_grid.specs.Bounds.{IsInRange}
use Rattle.plan_grid.specs.declared.spot.Spot.{Spot}
use Rattle.plan_grid.specs.declared.frame.Frame.{Frame}
use Rattle.plan_cross.specs.declared.certificate.Query.{Query}
use Rattle.plan_cross.specs.declared.certificate.Certificate.{Certificate}
use Rattle.plan_cross.specs.declared.certificate.Certificate.TheVariants.{Path, Blocked}
use Rattle.plan_wire.specs.Documents.{most_bytes}
use Rattle.plan_wire.specs.declared.documents.Document.{Document}
use Rattle.plan_wire.specs.declared.documents.Shape.{Shape}
use Rattle.plan_wire.specs.declared.documents.Task.{Task}
use Rattle.plan_wire.specs.declared.documents.Task.TheVariants.{Queries, Rounds, Proof}
use Rattle.plan_wire.specs.declared.documents.Turn.{Turn}
use Rattle.plan_wire.specs.declared.documents.Change.{Change}
use Rattle.plan_wire.specs.declared.documents.Change.TheVariants.{Add, Remove}

-- corners with coordinates of at most 1023 in absolute value, the lower left one strictly below and left of the other
pub record FrameFits (f : Frame) : Type 0 where
  pub low : IsWithin MOST_CORNER f.low
  pub high : IsWithin MOST_CORNER f.high
  pub wide : f.low.x <ℤ f.high.x
  pub tall : f.low.y <ℤ f.high.y

-- 3 to `most` spots with coordinates of at most 1023 in absolute value
pub record SpotsFit (most : ℕ) (spots : List Spot) : Type 0 where
  pub three : 3 ≤ length spots
  pub few : length spots ≤ most
  pub bounded : All (IsWithin MOST_CORNER) spots

-- an id from 1 to 65,535
abbrev pub IdFits : ℕ → Type 0
IdFits id = (1 ≤ id) × (id ≤ 65535)

-- an id, and 3 to 32 spots
pub record ShapeFits (s : Shape) : Type 0 where
  pub id : IdFits s.id
  pub spots : SpotsFit 32 s.spots.items

-- a start and a goal with coordinates of at most 2046 in absolute value
pub record QueryFits (q : Query) : Type 0 where
  pub start : IsWithin MOST_COORDINATE q.start
  pub goal : IsWithin MOST_COORDINATE q.goal

-- at most `most` of them, each of which P holds
pub record AtMost {A : Type 0} (most : ℕ) (P : A → Type 0) (xs : List A) : Type 0 where
  pub few : length xs ≤ most
  pub each : All P xs

abbrev pub ChangeFits : Change → Type 0
ChangeFits (Add shape) = ShapeFits shape
ChangeFits (Remove id) = IdFits id

-- at most 32 edits, and at most 8 lanes of at most 16 queries
pub record TurnFits (t : Turn) : Type 0 where
  pub edits : AtMost 32 ChangeFits t.edits.items
  pub lanes : AtMost 8 (λ lane. AtMost 16 QueryFits lane.items) t.lanes.items

-- both ends are in the range of a point
abbrev pub EndsFit : Segment → Type 0
EndsFit s = IsInRange s.a × IsInRange s.b

-- no more points or segments than a document may have bytes
abbrev pub CertificateFits : Certificate → Type 0
CertificateFits (Path points) = AtMost most_bytes IsInRange points
CertificateFits (Blocked segments) = AtMost most_bytes EndsFit segments

abbrev pub TaskFits : Task → Type 0
TaskFits (Queries queries) = AtMost 64 QueryFits queries.items
TaskFits (Rounds rounds) = AtMost 64 TurnFits rounds.items
TaskFits (Proof query certificate) = QueryFits query × CertificateFits certificate

-- no more obstacles than a document may have bytes
pub record DocumentFits (d : Document) : Type 0 where
  pub frame : FrameFits d.frame
  pub robot : SpotsFit 16 d.robot.items
  pub obstacles : AtMost most_bytes ShapeFits d.obstacles.items
  pub task : TaskFits d.task
