-- The scene that is read keeps to its bounds: spots, shapes, frames and obstacles.
use Rattle.std.proofs.Common.{◌≡◌, ◌<◌, ℕ, ℤ, pos, negsuc, codes, int_lt, int_le, unsigned_abs, true, List, map, Ok, ap, ◌∙◌, arith}
use Rattle.std.proofs.lemmas.Bool.{and_parts}
use Rattle.std.proofs.lemmas.Int.{ints}
use Rattle.serde_json.specs.Data.{Data}
use Rattle.plan_exact.proofs.Tests.{lt_from_true}
use Rattle.plan_spec.specs.Vector.{Vector, spot}
use Rattle.plan_spec.specs.Frame as spec
use Rattle.plan_spec.specs.Placement.{Obstacle}
use Rattle.plan_grid.specs.declared.bounds.TheConstants.{MOST_CORNER}
use Rattle.plan_grid.specs.Spot.{spot_seen, IsWithin}
use Rattle.plan_grid.specs.Frame.{frame_seen}
use Rattle.plan_grid.specs.declared.spot.Spot.{Spot}
use Rattle.plan_wire.specs.Reading.{range, object, member, whole, made, tested, list_of_between}
use Rattle.plan_wire.specs.Documents.{numbers, nth, spot_of, shape_of, robot_of, is_frame, frame_of, id_of, obstacle_of}
use Rattle.plan_wire.specs.Seen.{shape_seen}
use Rattle.plan_wire.specs.Bounds.{FrameFits, SpotsFit, IdFits, ShapeFits}
use Rattle.plan_wire.specs.declared.documents.Shape.{Shape}
use Rattle.plan_wire.proofs.Kept.Reads.{bind_ok, made_ok, tested_ok, same_ok, Keeps, between_keeps, member_ok, whole_ok, numbers_ok}

-- two of the numbers are the coordinates of a spot
pub pair_within : (n limit : ℕ) (place : List ℕ) (v : Data) (zs : List ℤ) → numbers n limit place v ≡ Ok zs → (i j : ℕ) → i < n → j < n → (s : Spot) → spot (nth zs i) (nth zs j) ≡ spot_seen s → IsWithin limit s
pair_within n limit place v zs read i j i_there j_there s is =
    let k = numbers_ok n limit place v zs read in
    record {
      x = rw (← ap (λ p. p.x) is) (k.0 i (pos 0) (omega (arith, k.1)));
      y = rw (← ap (λ p. p.y) is) (k.0 j (pos 0) (omega (arith, k.1)));
    }

spot_kept : Keeps (IsWithin MOST_CORNER) spot_of spot_seen
unfolding spot_of
spot_kept place v s h =
    made_ok (λ z. spot (nth z 0) (nth z 1)) (numbers 2 MOST_CORNER place v) (spot_seen s) h (λ zs read is.
    pair_within 2 MOST_CORNER place v zs read 0 1 (omega arith) (omega arith) s is)

spots_kept : (most : ℕ) → Keeps (SpotsFit most) (list_of_between 3 most spot_of) (map spot_seen)
spots_kept most place v spots h =
    let k = between_keeps (IsWithin MOST_CORNER) spot_of spot_seen spot_kept 3 most place v spots h in
    record { three = k.0; few = k.1; bounded = k.2 }

pub robot_kept : Keeps (SpotsFit 16) robot_of (map spot_seen)
robot_kept = spots_kept 16

pub shape_kept : Keeps (SpotsFit 32) shape_of (map spot_seen)
shape_kept = spots_kept 32

pub frame_kept : Keeps FrameFits frame_of frame_seen
unfolding frame_of
frame_kept place v f h =
    let corners : List ℤ → spec.Frame = λ z. record { low = spot (nth z 0) (nth z 1); high = spot (nth z 2) (nth z 3) } in
    bind_ok (made corners (numbers 4 MOST_CORNER place v)) (tested is_frame (range place)) (frame_seen f) h (λ g made_of test.
    let t = tested_ok is_frame (range place) g (frame_seen f) test in
    let sides = and_parts (int_lt g.low.x g.high.x) (int_lt g.low.y g.high.y) t.0 in
    made_ok corners (numbers 4 MOST_CORNER place v) g made_of (λ zs read is.
    record {
      low = pair_within 4 MOST_CORNER place v zs read 0 1 (omega arith) (omega arith) f.low (ap (λ q. q.low) (is ∙ t.1));
      high = pair_within 4 MOST_CORNER place v zs read 2 3 (omega arith) (omega arith) f.high (ap (λ q. q.high) (is ∙ t.1));
      wide = lt_from_true f.low.x f.high.x (rw (ap (λ q. q.low.x) t.1, ap (λ q. q.high.x) t.1) at sides.0);
      tall = lt_from_true f.low.y f.high.y (rw (ap (λ q. q.low.y) t.1, ap (λ q. q.high.y) t.1) at sides.1);
    }))

between : (z : ℤ) (id : ℕ) → int_le (pos 1) z ≡ true → int_le z (pos 65535) ≡ true → unsigned_abs z ≡ id → IdFits id
between (pos n) id low high is = (grind (arith, ints), grind (arith, ints))
between (negsuc n) id low high is = absurd (grind (arith, ints))

pub id_kept : (place : List ℕ) (v : Data) (id : ℕ) → id_of place v ≡ Ok id → IdFits id
unfolding id_of
id_kept place v id h =
    made_ok unsigned_abs (whole (pos 1) (pos 65535) place v) id h (λ z read is.
    let k = whole_ok (pos 1) (pos 65535) place v z read in
    between z id k.0 k.1 is)

-- an id and a shape, each read of a member
pub parts_kept : (id_name shape_name place : List ℕ) (v : Data) (s : Shape) (id : ℕ) (shape : List Vector) → member id_name id_of place v ≡ Ok id → member shape_name shape_of place v ≡ Ok shape → (let o : Obstacle = record { id = id; shape = shape } in o) ≡ shape_seen s → ShapeFits s
parts_kept id_name shape_name place v s id shape id_read shape_read is =
    record {
      id = member_ok id_name id_of place v id id_read (λ d _ read. id_kept _ d s.id (read ∙ ap (λ o. Ok o.id) is));
      spots = member_ok shape_name shape_of place v shape shape_read (λ d _ read. shape_kept _ d s.spots.items (read ∙ ap (λ o. Ok o.shape) is));
    }

pub obstacle_kept : Keeps ShapeFits obstacle_of shape_seen
unfolding obstacle_of
obstacle_kept place v s h =
    bind_ok (object place v) _ (shape_seen s) h (λ w _ after.
    bind_ok (member (codes "id") id_of place w) _ (shape_seen s) after (λ id id_read rest.
    bind_ok (member (codes "shape") shape_of place w) _ (shape_seen s) rest (λ shape shape_read is.
    parts_kept (codes "id") (codes "shape") place w s id shape id_read shape_read (same_ok _ _ is))))
