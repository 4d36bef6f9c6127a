-- A document of `check` is read with the certificate whose text stands in it.
use Rattle.std.proofs.Common.{◌≡◌, ℕ, Bool, true, false, List, codes, length, nat_le, if◌then◌else◌, pos, Some, Ok, Err, refl, sym, ap, ◌∙◌}
use Rattle.serde_json.specs.Data.{Data}
use Rattle.serde_json.specs.Find.{get}
use Rattle.plan_wire.specs.Reading.{Read, too_long, bind, made, whole, at_member, member, object}
use Rattle.plan_wire.specs.Documents.{Certificate, Document, Query, Task, proof, query_of, frame_of, robot_of, obstacles_of, task_of, value_of, json_of, document_of, most_bytes}
use Rattle.plan_wire.specs.ReadBack.{IsReadAs, ReadInDocument}
use Rattle.plan_wire.specs.declared.documents.Want.TheVariants.{Check}
use Rattle.plan_wire.proofs.Kept.Reads.{bind_ok, made_ok, same_ok}
use Rattle.plan_wire.proofs.Kept.Whole.{object_is}

module _ (text : List ℕ) (c : Certificate) (r : IsReadAs text c) where
  task_read : (place : List ℕ) (v : Data) → get (codes "certificate") v ≡ Some r.value → task_of Check place v ≡ made (λ query. proof query c) (member (codes "query") query_of place v)
  unfolding task_of
  task_read place v is = rw (is, r.read (at_member place (codes "certificate"))) refl

  task_proves : (place : List ℕ) (v : Data) (t : Task) → get (codes "certificate") v ≡ Some r.value → task_of Check place v ≡ Ok t → (query : Query) × (t ≡ proof query c)
  task_proves place v t is h =
      made_ok (λ query. proof query c) (member (codes "query") query_of place v) t (sym (task_read place v is) ∙ h) (λ query _ same. (query, sym same))

  value_proves : (place : List ℕ) (v : Data) (d : Document) → get (codes "certificate") v ≡ Some r.value → value_of Check place v ≡ Ok d → (query : Query) × (d.task ≡ proof query c)
  unfolding value_of
  value_proves place v d is h =
      bind_ok (object place v) _ d h (λ w w_is after_object.
      bind_ok (member (codes "format") (whole (pos 1) (pos 1)) place w) _ d after_object (λ _ _ after_format.
      bind_ok (member (codes "frame") frame_of place w) _ d after_format (λ frame _ after_frame.
      bind_ok (member (codes "robot") robot_of place w) _ d after_frame (λ robot _ after_robot.
      bind_ok (member (codes "obstacles") obstacles_of place w) _ d after_robot (λ obstacles _ after_obstacles.
      bind_ok (task_of Check place w) _ d after_obstacles (λ task task_read last.
      let there : get (codes "certificate") w ≡ Some r.value = rw (← object_is place v w w_is) is in
      task_proves place w d.task there (task_read ∙ ap (λ e. Ok e.task) (same_ok _ _ last))))))))

  document_proves : (bytes : List ℕ) (v : Data) (d : Document) → json_of bytes ≡ Ok v → get (codes "certificate") v ≡ Some r.value → document_of bytes Check ≡ Ok d → (query : Query) × (d.task ≡ proof query c)
  unfolding document_of
  document_proves bytes v d json is h = by_test (nat_le (length bytes) most_bytes) h
    where
      by_test : (t : Bool) → (let o : Read Document = if t then bind (json_of bytes) (value_of Check (codes "$")) else Err too_long in o) ≡ Ok d → (query : Query) × (d.task ≡ proof query c)
      by_test true e = value_proves (codes "$") v d is (ap (λ o. bind o (value_of Check (codes "$"))) (sym json) ∙ e)
      by_test false e = absurd cc

pub read_in_document : ReadInDocument
read_in_document text c r bytes v json is = record { task = λ place. task_read text c r place v is; document = λ d h. document_proves text c r bytes v d json is h }
