-- A whole document keeps to its bounds, by its members.
use Rattle.std.proofs.Common.{◌≡◌, ◌≤◌, ℕ, suc, codes, Bool, true, false, List, map, length, Some, is_some, nat_le, Result, Ok, Err, if◌then◌else◌, pos, IfOk, refl, ap, ◌∙◌, arith}
use Rattle.std.specs.Str.{is_utf8}
use Rattle.std.proofs.lemmas.Bool.{leb-true}
use Rattle.serde_json.specs.Data.{Data}
use Rattle.serde_json.specs.Find.{as_object}
use Rattle.serde_json.specs.Read.{read}
use Rattle.plan_wire.specs.Reading.{Read, form, too_long, json, bind, made, some_or, whole, member, object}
use Rattle.plan_wire.specs.Documents as definition
use Rattle.plan_wire.specs.Documents.{query_of, queries_of, rounds_of, round_of, certificate_of, frame_of, robot_of, obstacle_of, obstacles_of, task_of, value_of, json_of, document_of, most_bytes}
use Rattle.plan_wire.specs.Seen.{query_seen, round_seen, shape_seen, task_seen, document_seen, ReadsAs}
use Rattle.plan_wire.specs.Bounds.{QueryFits, TurnFits, ShapeFits, AtMost, TaskFits, DocumentFits}
use Rattle.plan_wire.specs.declared.documents.Want.{Want}
use Rattle.plan_wire.specs.declared.documents.Want.TheVariants.{Plan, Session, Check}
use Rattle.plan_wire.specs.declared.documents.Task.{Task}
use Rattle.plan_wire.specs.declared.documents.Task.TheVariants.{Queries, Rounds, Proof}
use Rattle.plan_wire.specs.declared.documents.Document.{Document}
use Rattle.plan_wire.specs.declared.documents.fault.WireFault.{WireFault}
use Rattle.plan_wire.proofs.Lengths.{values, values_of_text, member_has_fewer}
use Rattle.plan_wire.proofs.Kept.Reads.{bind_ok, made_ok, some_or_ok, tested_ok, same_ok, member_ok}
use Rattle.plan_wire.proofs.Kept.Scenes.{frame_kept, robot_kept, obstacle_kept}
use Rattle.plan_wire.proofs.Kept.Tasks.{query_kept, at_most, round_kept, few, certificate_kept}

-- ---- what is asked

queries_kept : (place : List ℕ) (v : Data) (t : Task) → made definition.queries (member (codes "queries") queries_of place v) ≡ Ok (task_seen t) → TaskFits t
queries_kept place v (Queries queries) h =
    made_ok definition.queries (member (codes "queries") queries_of place v) (task_seen (Queries queries)) h (λ qs read is.
    member_ok (codes "queries") queries_of place v qs read (λ d _ d_read. at_most 64 QueryFits query_of query_seen query_kept _ d queries.items (d_read ∙ ap Ok (named is))))
  where
    named : {xs ys : List definition.Query} → definition.queries xs ≡ definition.queries ys → xs ≡ ys
    named e = cc
queries_kept place v (Rounds rounds) h = made_ok definition.queries (member (codes "queries") queries_of place v) (task_seen (Rounds rounds)) h (λ _ _ is. absurd cc)
queries_kept place v (Proof query certificate) h = made_ok definition.queries (member (codes "queries") queries_of place v) (task_seen (Proof query certificate)) h (λ _ _ is. absurd cc)

rounds_kept : (place : List ℕ) (v : Data) (t : Task) → made definition.rounds (member (codes "rounds") rounds_of place v) ≡ Ok (task_seen t) → TaskFits t
rounds_kept place v (Rounds rounds) h =
    made_ok definition.rounds (member (codes "rounds") rounds_of place v) (task_seen (Rounds rounds)) h (λ rs read is.
    member_ok (codes "rounds") rounds_of place v rs read (λ d _ d_read. at_most 64 TurnFits round_of round_seen round_kept _ d rounds.items (d_read ∙ ap Ok (named is))))
  where
    named : {xs ys : List definition.Round} → definition.rounds xs ≡ definition.rounds ys → xs ≡ ys
    named e = cc
rounds_kept place v (Queries queries) h = made_ok definition.rounds (member (codes "rounds") rounds_of place v) (task_seen (Queries queries)) h (λ _ _ is. absurd cc)
rounds_kept place v (Proof query certificate) h = made_ok definition.rounds (member (codes "rounds") rounds_of place v) (task_seen (Proof query certificate)) h (λ _ _ is. absurd cc)

proof_kept : (place : List ℕ) (v : Data) (t : Task) (q : definition.Query) → values v ≤ suc most_bytes → member (codes "query") query_of place v ≡ Ok q → made (definition.proof q) (member (codes "certificate") certificate_of place v) ≡ Ok (task_seen t) → TaskFits t
proof_kept place v (Proof query certificate) q small q_read h =
    made_ok (definition.proof q) (member (codes "certificate") certificate_of place v) (task_seen (Proof query certificate)) h (λ c read is. (
      member_ok (codes "query") query_of place v q q_read (λ d _ d_read. query_kept _ d query (d_read ∙ ap Ok (first is))),
      member_ok (codes "certificate") certificate_of place v c read (λ d found d_read. certificate_kept _ d certificate (omega (arith, member_has_fewer (codes "certificate") v d found)) (d_read ∙ ap Ok (second is))),
    ))
  where
    first : {p q : definition.Query} {c d : definition.Certificate} → definition.proof p c ≡ definition.proof q d → p ≡ q
    first e = cc

    second : {p q : definition.Query} {c d : definition.Certificate} → definition.proof p c ≡ definition.proof q d → c ≡ d
    second e = cc
proof_kept place v (Queries queries) q small q_read h = made_ok (definition.proof q) (member (codes "certificate") certificate_of place v) (task_seen (Queries queries)) h (λ _ _ is. absurd cc)
proof_kept place v (Rounds rounds) q small q_read h = made_ok (definition.proof q) (member (codes "certificate") certificate_of place v) (task_seen (Rounds rounds)) h (λ _ _ is. absurd cc)

task_kept : (want : Want) (place : List ℕ) (v : Data) (t : Task) → values v ≤ suc most_bytes → task_of want place v ≡ Ok (task_seen t) → TaskFits t
unfolding task_of
task_kept Plan place v t small h = queries_kept place v t h
task_kept Session place v t small h = rounds_kept place v t h
task_kept Check place v t small h =
    bind_ok (member (codes "query") query_of place v) _ (task_seen t) h (λ q q_read rest. proof_kept place v t q small q_read rest)

-- ---- documents

obstacles_kept : (place : List ℕ) (v : Data) (d : Document) (os : List _) → values v ≤ suc most_bytes → member (codes "obstacles") obstacles_of place v ≡ Ok os → os ≡ map shape_seen d.obstacles.items → AtMost most_bytes ShapeFits d.obstacles.items
obstacles_kept place v d os small h is =
    member_ok (codes "obstacles") obstacles_of place v os h (λ w found read.
    let k = few ShapeFits obstacle_of shape_seen obstacle_kept _ w d.obstacles.items (read ∙ ap Ok is) in
    record { few = omega (arith, k.0, member_has_fewer (codes "obstacles") v w found); each = k.1 })

pub object_is : (place : List ℕ) (v w : Data) → object place v ≡ Ok w → v ≡ w
unfolding object
object_is place v w h = (tested_ok (λ u. is_some (as_object u)) (form place) v w h).1

value_kept : (want : Want) (place : List ℕ) (v : Data) (d : Document) → values v ≤ suc most_bytes → value_of want place v ≡ Ok (document_seen d) → DocumentFits d
unfolding value_of
value_kept want place v d small h =
    bind_ok (object place v) _ (document_seen d) h (λ w w_is after_object.
    let small_w : values w ≤ suc most_bytes = rw (← object_is place v w w_is) small in
    bind_ok (member (codes "format") (whole (pos 1) (pos 1)) place w) _ (document_seen d) after_object (λ _ _ after_format.
    bind_ok (member (codes "frame") frame_of place w) _ (document_seen d) after_format (λ frame frame_read after_frame.
    bind_ok (member (codes "robot") robot_of place w) _ (document_seen d) after_frame (λ robot robot_read after_robot.
    bind_ok (member (codes "obstacles") obstacles_of place w) _ (document_seen d) after_robot (λ obstacles obstacles_read after_obstacles.
    bind_ok (task_of want place w) _ (document_seen d) after_obstacles (λ task task_read last.
    let is = same_ok _ _ last in
    record {
      frame = member_ok (codes "frame") frame_of place w frame frame_read (λ u _ read. frame_kept _ u d.frame (read ∙ ap (λ e. Ok e.scene.frame) is));
      robot = member_ok (codes "robot") robot_of place w robot robot_read (λ u _ read. robot_kept _ u d.robot.items (read ∙ ap (λ e. Ok e.scene.robot) is));
      obstacles = obstacles_kept place w d obstacles small_w obstacles_read (ap (λ e. e.scene.obstacles) is);
      task = task_kept want place w d.task small_w (task_read ∙ ap (λ e. Ok e.task) is);
    }))))))

pub json_ok : (bytes : List ℕ) (v : Data) → json_of bytes ≡ Ok v → read bytes ≡ Some v
json_ok bytes v h = by_test (is_utf8 bytes) h
  where
    by_test : (t : Bool) → (let o : Read Data = if t then some_or json (read bytes) else Err json in o) ≡ Ok v → read bytes ≡ Some v
    by_test true e = some_or_ok json (read bytes) v e
    by_test false e = absurd cc

document_kept : (bytes : List ℕ) (want : Want) (d : Document) → document_of bytes want ≡ Ok (document_seen d) → DocumentFits d
unfolding document_of
document_kept bytes want d h = by_test (nat_le (length bytes) most_bytes) refl h
  where
    by_test : (t : Bool) → nat_le (length bytes) most_bytes ≡ t → (let o : Read definition.Document = if t then bind (json_of bytes) (value_of want (codes "$")) else Err too_long in o) ≡ Ok (document_seen d) → DocumentFits d
    by_test true small e =
        bind_ok (json_of bytes) (value_of want (codes "$")) (document_seen d) e (λ v is read.
        value_kept want (codes "$") v d (omega (arith, leb-true (length bytes) most_bytes small, values_of_text bytes v (json_ok bytes v is))) read)
    by_test false small e = absurd cc

-- what is answered keeps to its bounds where it is what the definition reads
pub fits : (bytes : List ℕ) (want : Want) (r : Result Document WireFault) → ReadsAs document_seen (document_of bytes want) r → IfOk r DocumentFits
fits bytes want (Ok d) h = document_kept bytes want d h
fits bytes want (Err fault) h = tt
