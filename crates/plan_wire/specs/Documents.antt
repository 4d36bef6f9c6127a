-- The three documents, as a function of the bytes: each place with its form and its range, in the order in which they are tested.
-- The kind of a value is tested first, then a list's length, then the parts in order, each wholly before the next.
use Rattle.std.specs.Prelude.{ℕ, suc, zero, ◌*◌, ◌%◌, ◌&&◌, Bool, ℤ, pos, neg_ℤ, int_lt, int_le, int_div, unsigned_abs, nat_le, nat_eq, List, length, get_or, codes, Option, Some, None, option_map, option_and_then, if◌then◌else◌, Ok, Err}
use Rattle.std.specs.Str.{is_utf8}
use Rattle.serde_json.specs.Data.{Data}
use Rattle.serde_json.specs.Read as json_text
use Rattle.plan_spec.specs.Vector.{Vector, spot}
use Rattle.plan_spec.specs.Segment.{Segment, segment}
use Rattle.plan_spec.specs.Frame.{Frame}
use Rattle.plan_spec.specs.Placement.{Obstacle, Scene}
use Rattle.plan_grid.specs.declared.bounds.TheConstants.{MOST_CORNER, MOST_COORDINATE, MOST_WEIGHT}
use Rattle.plan_wire.specs.Reading.{Read, Reader, too_long, json, range, bind, made, some_or, tested, integer, whole, list_of_exactly, list_of_between, list_of_any, object, member, one_of}
use Rattle.plan_wire.specs.declared.documents.Want.{Want}
use Rattle.plan_wire.specs.declared.documents.Want.TheVariants.{Plan, Session, Check}

-- ---- what a document tells

pub record Query : Type 0 where
  pub start : Vector
  pub goal : Vector

pub data Certificate : Type 0 where
  path : List Vector → Certificate
  chain : List Segment → Certificate

pub data Edit : Type 0 where
  add : Obstacle → Edit
  remove : ℕ → Edit

pub record Round : Type 0 where
  pub edits : List Edit
  pub lanes : List (List Query)

pub data Task : Type 0 where
  queries : List Query → Task
  rounds : List Round → Task
  proof : Query → Certificate → Task

pub record Document : Type 0 where
  pub scene : Scene
  pub task : Task

-- ---- spots, shapes and frames

-- whole numbers from -limit to limit, n of them
abbrev pub numbers : ℕ → ℕ → Reader (List ℤ)
numbers n limit = list_of_exactly n (whole (neg_ℤ (pos limit)) (pos limit))

-- the number at place i
abbrev pub nth : List ℤ → ℕ → ℤ
nth zs i = get_or zs i (pos 0)

-- two whole numbers x and y from -1023 to 1023
unfoldable pub spot_of : Reader Vector
spot_of place v = made (λ z. spot (nth z 0) (nth z 1)) (numbers 2 MOST_CORNER place v)

-- 3 to 16 spots
abbrev pub robot_of : Reader (List Vector)
robot_of = list_of_between 3 16 spot_of

-- 3 to 32 spots
abbrev pub shape_of : Reader (List Vector)
shape_of = list_of_between 3 32 spot_of

-- the lower left corner strictly left of the upper right one, and strictly below it
abbrev pub is_frame : Frame → Bool
is_frame f = int_lt f.low.x f.high.x && int_lt f.low.y f.high.y

-- four whole numbers x1, y1, x2, y2 from -1023 to 1023; then x1 < x2 and y1 < y2
unfoldable pub frame_of : Reader Frame
frame_of place v =
    bind (made (λ z. record { low = spot (nth z 0) (nth z 1); high = spot (nth z 2) (nth z 3) }) (numbers 4 MOST_CORNER place v))
    (tested is_frame (range place))

-- ---- obstacles

-- a whole number from 1 to 65,535
unfoldable pub id_of : Reader ℕ
id_of place v = made unsigned_abs (whole (pos 1) (pos 65535) place v)

-- an object with an id and a shape
unfoldable pub obstacle_of : Reader Obstacle
obstacle_of place v =
    bind (object place v) (λ v.
    bind (member (codes "id") id_of place v) (λ id.
    bind (member (codes "shape") shape_of place v) (λ shape.
    Ok (record { id = id; shape = shape }))))

-- any number of obstacles
abbrev pub obstacles_of : Reader (List Obstacle)
obstacles_of = list_of_any obstacle_of

-- ---- queries

-- four whole numbers from -2046 to 2046: x and y of the start, x and y of the goal
unfoldable pub query_of : Reader Query
query_of place v = made (λ z. record { start = spot (nth z 0) (nth z 1); goal = spot (nth z 2) (nth z 3) }) (numbers 4 MOST_COORDINATE place v)

-- 0 to 64 queries
abbrev pub queries_of : Reader (List Query)
queries_of = list_of_between 0 64 query_of

-- ---- rounds

-- an object with exactly one of `add` and `remove`, which holds an id; with `add` also a shape
unfoldable pub edit_of : Reader Edit
edit_of place v =
    bind (one_of (codes "add") (codes "remove") place v) (λ adds.
    if adds
    then bind (member (codes "add") id_of place v) (λ id. made (λ shape. add (record { id = id; shape = shape })) (member (codes "shape") shape_of place v))
    else made remove (member (codes "remove") id_of place v))

-- 0 to 32 edits
abbrev pub edits_of : Reader (List Edit)
edits_of = list_of_between 0 32 edit_of

-- 0 to 16 queries
abbrev pub lane_of : Reader (List Query)
lane_of = list_of_between 0 16 query_of

-- 0 to 8 lanes
abbrev pub lanes_of : Reader (List (List Query))
lanes_of = list_of_between 0 8 lane_of

-- an object with edits and lanes
unfoldable pub round_of : Reader Round
round_of place v =
    bind (object place v) (λ v.
    bind (member (codes "edits") edits_of place v) (λ edits.
    bind (member (codes "lanes") lanes_of place v) (λ lanes.
    Ok (record { edits = edits; lanes = lanes }))))

-- 0 to 64 rounds
abbrev pub rounds_of : Reader (List Round)
rounds_of = list_of_between 0 64 round_of

-- ---- certificates

-- w from 1 to 2 ^ 51, and x and y of at most 2046 * w in absolute value
abbrev pub is_point : Vector → Bool
is_point p =
    (int_le (pos 1) p.w && int_le p.w (pos MOST_WEIGHT))
    && (nat_le (unsigned_abs p.x) (MOST_COORDINATE * unsigned_abs p.w) && nat_le (unsigned_abs p.y) (MOST_COORDINATE * unsigned_abs p.w))

-- the greatest common divisor, by so many steps of Euclid's algorithm
abbrev pub gcd_by : ℕ → ℕ → ℕ → ℕ
gcd_by zero a b = a
gcd_by (suc n) a b = if nat_eq b 0 then a else gcd_by n b (a % b)

-- the greatest common divisor
unfoldable pub gcd : ℕ → ℕ → ℕ
gcd a b = gcd_by (suc b) a b

-- the same point in lowest terms: each number over the greatest common divisor of all three
unfoldable pub lowest : Vector → Vector
lowest p =
    let d = gcd (gcd (unsigned_abs p.x) (unsigned_abs p.y)) (unsigned_abs p.w) in
    record { x = int_div p.x (pos d); y = int_div p.y (pos d); w = int_div p.w (pos d) }

-- the point of three numbers, which need not be in lowest terms; none where they are out of range
unfoldable pub point_at : ℤ → ℤ → ℤ → Option Vector
point_at x y w = if is_point (record { x = x; y = y; w = w }) then Some (lowest (record { x = x; y = y; w = w })) else None

-- three whole numbers x, y, w, and then the range of the point
unfoldable pub point_of : Reader Vector
point_of place v = bind (list_of_exactly 3 integer place v) (λ z. some_or (range place) (point_at (nth z 0) (nth z 1) (nth z 2)))

-- the segment of two points; none where one of them is out of range
abbrev pub segment_at : Option Vector → Option Vector → Option Segment
segment_at a b = option_and_then (λ a. option_map (λ b. segment a b) b) a

-- six whole numbers, x, y, w of one end and then of the other, and then the range of both points
unfoldable pub segment_of : Reader Segment
segment_of place v =
    bind (list_of_exactly 6 integer place v) (λ z.
    some_or (range place) (segment_at (point_at (nth z 0) (nth z 1) (nth z 2)) (point_at (nth z 3) (nth z 4) (nth z 5))))

-- any number of points
abbrev pub path_of : Reader (List Vector)
path_of = list_of_any point_of

-- any number of segments
abbrev pub chain_of : Reader (List Segment)
chain_of = list_of_any segment_of

-- an object with exactly one of `path` and `chain`
unfoldable pub certificate_of : Reader Certificate
certificate_of place v =
    bind (one_of (codes "path") (codes "chain") place v) (λ is_path.
    if is_path
    then made path (member (codes "path") path_of place v)
    else made chain (member (codes "chain") chain_of place v))

-- ---- documents

-- the member or the members of the wanted command
unfoldable pub task_of : Want → Reader Task
task_of Plan place v = made queries (member (codes "queries") queries_of place v)
task_of Session place v = made rounds (member (codes "rounds") rounds_of place v)
task_of Check place v =
    bind (member (codes "query") query_of place v) (λ query.
    made (proof query) (member (codes "certificate") certificate_of place v))

-- an object with the members in this order; all others are passed over
unfoldable pub value_of : Want → Reader Document
value_of want place v =
    bind (object place v) (λ v.
    bind (member (codes "format") (whole (pos 1) (pos 1)) place v) (λ _.
    bind (member (codes "frame") frame_of place v) (λ frame.
    bind (member (codes "robot") robot_of place v) (λ robot.
    bind (member (codes "obstacles") obstacles_of place v) (λ obstacles.
    bind (task_of want place v) (λ task.
    Ok (record { scene = record { frame = frame; robot = robot; obstacles = obstacles }; task = task })))))))

-- the most bytes that a document may have
abbrev pub most_bytes : ℕ
most_bytes = 4194304

-- the bytes as a text of JSON: in UTF-8, with nesting to 127
abbrev pub json_of : List ℕ → Read Data
json_of bytes = if is_utf8 bytes then some_or json (json_text.read bytes) else Err json

-- at most 4,194,304 bytes, which are JSON, and then by the value that they are read as
unfoldable pub document_of : List ℕ → Want → Read Document
document_of bytes want = if nat_le (length bytes) most_bytes then bind (json_of bytes) (value_of want (codes "$")) else Err too_long
