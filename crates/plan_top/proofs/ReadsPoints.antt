-- The ends of a chain that is read are points, and so are starts and goals of queries.
use Rattle.std.proofs.Common.{◌≡◌, ◌≤◌, ℕ, suc, pos, codes, Bool, true, false, List, length, All, nat_le, Ok, Err, if◌then◌else◌, refl, sym, ap, subst, ◌∙◌, arith}
use Rattle.std.proofs.lemmas.Bool.{leb-true}
use Rattle.std.proofs.lemmas.Int.{ints}
use Rattle.std.proofs.lemmas.List.{map-id}
use Rattle.serde_json.specs.Data.{Data}
use Rattle.plan_spec.specs.Vector.{IsPoint, spot}
use Rattle.plan_grid.specs.declared.bounds.TheConstants.{MOST_COORDINATE}
use Rattle.plan_cross.specs.declared.certificate.Certificate.TheVariants.{Blocked}
use Rattle.plan_wire.specs.Reading.{Read, too_long, bind, whole, member, object}
use Rattle.plan_wire.specs.Documents.{Document, Query, Certificate, path, chain, Task, queries, proof, numbers, nth, query_of, queries_of, certificate_of, frame_of, robot_of, obstacles_of, task_of, value_of, json_of, document_of, most_bytes}
use Rattle.plan_wire.specs.declared.documents.Want.{Want}
use Rattle.plan_wire.specs.declared.documents.Want.TheVariants.{Plan, Check}
use Rattle.plan_wire.proofs.Lengths.{values, values_of_text, member_has_fewer}
use Rattle.plan_wire.proofs.Kept.Reads.{bind_ok, made_ok, same_ok, Keeps, between_keeps, member_ok}
use Rattle.plan_wire.proofs.Kept.Tasks.{certificate_kept}
use Rattle.plan_wire.proofs.Kept.Whole.{object_is, json_ok}
use Rattle.plan_top.specs.Laws.{HasEnds, IsOfPoints}
use Rattle.plan_top.specs.Outcome.{OnProof}
use Rattle.plan_top.specs.Plan.{OnQueries}

-- ---- what is read of the task holds of the document of the bytes
module _ (want : Want) (P : Task → Type 0) (of_task : (place : List ℕ) (v : Data) (t : Task) → values v ≤ suc most_bytes → task_of want place v ≡ Ok t → P t) where
  of_value : (place : List ℕ) (v : Data) (d : Document) → values v ≤ suc most_bytes → value_of want place v ≡ Ok d → P d.task
  unfolding value_of
  of_value place v d small h =
      bind_ok (object place v) _ d h (λ w w_is after_object.
      let small_w : values w ≤ suc most_bytes = rw (← object_is place v w w_is) small in
      bind_ok (member (codes "format") (whole (pos 1) (pos 1)) place w) _ d after_object (λ _ _ after_format.
      bind_ok (member (codes "frame") frame_of place w) _ d after_format (λ _ _ after_frame.
      bind_ok (member (codes "robot") robot_of place w) _ d after_frame (λ _ _ after_robot.
      bind_ok (member (codes "obstacles") obstacles_of place w) _ d after_robot (λ _ _ after_obstacles.
      bind_ok (task_of want place w) _ d after_obstacles (λ t t_read last.
      subst (λ (e : Document). P e.task) (same_ok _ _ last) (of_task place w t small_w t_read)))))))

  pub of_document : (bytes : List ℕ) (d : Document) → document_of bytes want ≡ Ok d → P d.task
  unfolding document_of
  of_document bytes d h = by_test (nat_le (length bytes) most_bytes) refl h
    where
      by_test : (t : Bool) → nat_le (length bytes) most_bytes ≡ t → (let o : Read Document = if t then bind (json_of bytes) (value_of want (codes "$")) else Err too_long in o) ≡ Ok d → P d.task
      by_test true small e =
          bind_ok (json_of bytes) (value_of want (codes "$")) d e (λ v is value_read.
          of_value (codes "$") v d (omega (arith, leb-true (length bytes) most_bytes small, values_of_text bytes v (json_ok bytes v is))) value_read)
      by_test false small e = absurd cc

-- ---- certificates
abbrev OfPoints : Task → Type 0
OfPoints t = OnProof t (λ query certificate. HasEnds certificate)

of_certificate : (place : List ℕ) (v : Data) (c : Certificate) → values v ≤ suc most_bytes → certificate_of place v ≡ Ok c → HasEnds c
of_certificate place v (path points) small h = tt
of_certificate place v (chain segments) small h =
    let k = certificate_kept place v (Blocked segments) small h in
    λ i d within. let e = k.each i d within in (omega (arith, ints, e.0.weight), omega (arith, ints, e.1.weight))

proof_of_points : (place : List ℕ) (v : Data) (t : Task) → values v ≤ suc most_bytes → task_of Check place v ≡ Ok t → OfPoints t
unfolding task_of
proof_of_points place v t small h =
    bind_ok (member (codes "query") query_of place v) _ t h (λ q _ rest.
    made_ok (proof q) (member (codes "certificate") certificate_of place v) t rest (λ c c_read is.
    member_ok (codes "certificate") certificate_of place v c c_read (λ d found d_read.
    subst OfPoints is (of_certificate _ d c (omega (arith, member_has_fewer (codes "certificate") v d found)) d_read))))

pub ends_are_points : (bytes : List ℕ) (d : Document) → document_of bytes Check ≡ Ok d → IsOfPoints d
ends_are_points bytes d h = of_document Check OfPoints proof_of_points bytes d h

-- ---- queries
abbrev IsOfTwoPoints : Query → Type 0
IsOfTwoPoints q = IsPoint q.start × IsPoint q.goal

abbrev pub AskPoints : Task → Type 0
AskPoints t = OnQueries t (All IsOfTwoPoints)

of_query : Keeps IsOfTwoPoints query_of (λ q. q)
unfolding query_of
of_query place v q h =
    made_ok (λ z. record { start = spot (nth z 0) (nth z 1); goal = spot (nth z 2) (nth z 3) }) (numbers 4 MOST_COORDINATE place v) q h (λ z _ is.
    subst IsOfTwoPoints is (omega (arith, ints), omega (arith, ints)))

queries_of_points : (place : List ℕ) (v : Data) (t : Task) → values v ≤ suc most_bytes → task_of Plan place v ≡ Ok t → AskPoints t
unfolding task_of
queries_of_points place v t small h =
    made_ok queries (member (codes "queries") queries_of place v) t h (λ qs read is.
    subst AskPoints is (member_ok (codes "queries") queries_of place v qs read (λ d _ d_read.
    (between_keeps IsOfTwoPoints query_of (λ q. q) of_query 0 64 _ d qs (d_read ∙ ap Ok (sym (map-id qs)))).2)))

pub asks_are_points : (bytes : List ℕ) (d : Document) → document_of bytes Plan ≡ Ok d → AskPoints d.task
asks_are_points bytes d h = of_document Plan AskPoints queries_of_points bytes d h
