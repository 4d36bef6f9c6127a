-- A document of `check` has a query and a certificate, one of `plan` queries, one of `session` rounds.
use Rattle.std.proofs.Common.{◌≡◌, ℕ, pos, Bool, true, false, List, length, nat_le, if◌then◌else◌, Ok, Err, refl, ap, subst}
use Rattle.std.specs.Prelude.{codes}
use Rattle.serde_json.specs.Data.{Data}
use Rattle.plan_wire.specs.Reading.{Read, bind, object, member, whole, too_long}
use Rattle.plan_wire.specs.Documents.{Document, Task, queries, rounds, proof, document_of, value_of, task_of, json_of, most_bytes, frame_of, robot_of, obstacles_of, query_of, queries_of, rounds_of, certificate_of}
use Rattle.plan_wire.specs.Seen.{task_seen}
use Rattle.plan_wire.specs.declared.documents.Want.{Want}
use Rattle.plan_wire.specs.declared.documents.Want.TheVariants.{Plan, Session, Check}
use Rattle.plan_wire.specs.declared.documents.Task as wire
use Rattle.plan_wire.specs.declared.documents.Task.TheVariants as task
use Rattle.plan_top.specs.Outcome.{IsOfCheck, IsOfPlan}
use Rattle.plan_top.specs.SessionOutcome.{IsOfSession}

abbrev pub IsTaskOf : Want → Task → Type 0
IsTaskOf Plan (queries qs) = Unit {0}
IsTaskOf Session (rounds rs) = Unit {0}
IsTaskOf Check (proof query certificate) = Unit {0}
IsTaskOf _ _ = ⊥

abbrev from_ok : {A : Type 0} → A → Read A → A
from_ok a (Ok b) = b
from_ok a (Err r) = a

-- what is read after something else, was read of that
bind_ok : {A B : Type 0} (o : Read A) (f : A → Read B) (b : B) → bind o f ≡ Ok b → (a : A) × (o ≡ Ok a) × (f a ≡ Ok b)
bind_ok (Ok a) f b e = (a, refl, e)
bind_ok (Err r) f b e = absurd (cc)

of_task : (want : Want) (place : List ℕ) (v : Data) (t : Task) → task_of want place v ≡ Ok t → IsTaskOf want t
unfolding task_of
of_task Plan place v t e =
    let q = bind_ok (member (codes "queries") queries_of place v) _ t e in
    subst (IsTaskOf Plan) (ap (from_ok t) q.2) tt
of_task Session place v t e =
    let r = bind_ok (member (codes "rounds") rounds_of place v) _ t e in
    subst (IsTaskOf Session) (ap (from_ok t) r.2) tt
of_task Check place v t e =
    let q = bind_ok (member (codes "query") query_of place v) _ t e in
    let c = bind_ok (member (codes "certificate") certificate_of place v) _ t q.2 in
    subst (IsTaskOf Check) (ap (from_ok t) c.2) tt

of_value : (want : Want) (place : List ℕ) (v : Data) (d : Document) → value_of want place v ≡ Ok d → IsTaskOf want d.task
unfolding value_of
of_value want place v d e =
    let a = bind_ok (object place v) _ d e in
    let b = bind_ok (member (codes "format") (whole (pos 1) (pos 1)) place a.0) _ d a.2 in
    let f = bind_ok (member (codes "frame") frame_of place a.0) _ d b.2 in
    let r = bind_ok (member (codes "robot") robot_of place a.0) _ d f.2 in
    let o = bind_ok (member (codes "obstacles") obstacles_of place a.0) _ d r.2 in
    let t = bind_ok (task_of want place a.0) _ d o.2 in
    subst (λ d. IsTaskOf want d.task) (ap (from_ok d) t.2) (of_task want place a.0 t.0 t.1)

pub of_document : (want : Want) (bytes : List ℕ) (d : Document) → document_of bytes want ≡ Ok d → IsTaskOf want d.task
unfolding document_of
of_document want bytes d e = by (nat_le (length bytes) most_bytes) e
  where
    by : (t : Bool) → (if t then bind (json_of bytes) (value_of want (codes "$")) else Err too_long) ≡ Ok d → IsTaskOf want d.task
    by true e = let v = bind_ok (json_of bytes) (value_of want (codes "$")) d e in of_value want (codes "$") v.0 d v.2
    by false e = absurd (cc)

pub of_check : (t : wire.Task) → IsTaskOf Check (task_seen t) → IsOfCheck t
of_check (task.Proof query certificate) h = h
of_check (task.Queries qs) h = h
of_check (task.Rounds rs) h = h

pub of_plan : (t : wire.Task) → IsTaskOf Plan (task_seen t) → IsOfPlan t
of_plan (task.Queries qs) h = h
of_plan (task.Proof query certificate) h = h
of_plan (task.Rounds rs) h = h

pub of_session : (t : wire.Task) → IsTaskOf Session (task_seen t) → IsOfSession t
of_session (task.Rounds rs) h = h
of_session (task.Queries qs) h = h
of_session (task.Proof query certificate) h = h
