-- What is asked keeps to its bounds: queries, edits, rounds and certificates.
use Rattle.std.proofs.Common.{◌≡◌, ◌≤◌, ◌<◌, ℕ, suc, codes, Bool, true, false, List, map, length, All, Option, Some, None, if◌then◌else◌, Ok, option_map, sym, ap, ◌∙◌, arith}
use Rattle.std.proofs.lemmas.List.{map-id}
use Rattle.std.proofs.lemmas.Option.{same_Some}
use Rattle.serde_json.specs.Data.{Data}
use Rattle.serde_json.specs.Find.{as_array}
use Rattle.plan_spec.specs.Vector.{Vector, spot}
use Rattle.plan_spec.specs.Segment.{Segment, segment}
use Rattle.plan_spec.specs.Placement.{Obstacle}
use Rattle.plan_grid.specs.declared.bounds.TheConstants.{MOST_COORDINATE}
use Rattle.plan_grid.specs.Bounds.{IsInRange}
use Rattle.plan_cross.specs.declared.certificate.Certificate.{Certificate}
use Rattle.plan_cross.specs.declared.certificate.Certificate.TheVariants.{Path, Blocked}
use Rattle.plan_wire.specs.Reading.{Reader, range, form, bind, made, elements, list_of, integer, list_of_exactly, list_of_between, list_of_any, member, one_of, object}
use Rattle.plan_wire.specs.Documents as definition
use Rattle.plan_wire.specs.Documents.{numbers, nth, query_of, id_of, shape_of, edit_of, edits_of, lane_of, lanes_of, round_of, point_at, point_of, segment_at, segment_of, path_of, chain_of, certificate_of, most_bytes}
use Rattle.plan_wire.specs.Seen.{query_seen, certificate_seen, edit_seen, round_seen}
use Rattle.plan_wire.specs.Bounds.{QueryFits, ChangeFits, TurnFits, AtMost, EndsFit, CertificateFits}
use Rattle.plan_wire.specs.declared.documents.Change.{Change}
use Rattle.plan_wire.specs.declared.documents.Change.TheVariants.{Add, Remove}
use Rattle.plan_wire.proofs.Lengths.{values, member_has_fewer, elements_are_few}
use Rattle.plan_wire.proofs.Points.{point_in_range}
use Rattle.plan_wire.proofs.Kept.Reads.{bind_ok, made_ok, some_or_ok, same_ok, Keeps, between_keeps, any_keeps, member_ok}
use Rattle.plan_wire.proofs.Kept.Scenes.{pair_within, id_kept, parts_kept}

-- ---- queries

pub query_kept : Keeps QueryFits query_of query_seen
unfolding query_of
query_kept place v q h =
    made_ok (λ z. record { start = spot (nth z 0) (nth z 1); goal = spot (nth z 2) (nth z 3) }) (numbers 4 MOST_COORDINATE place v) (query_seen q) h (λ zs read is.
    record {
      start = pair_within 4 MOST_COORDINATE place v zs read 0 1 (omega arith) (omega arith) q.start (ap (λ p. p.start) is);
      goal = pair_within 4 MOST_COORDINATE place v zs read 2 3 (omega arith) (omega arith) q.goal (ap (λ p. p.goal) is);
    })

-- a list of at most so many
pub at_most : {X B : Type 0} (most : ℕ) (P : X → Type 0) (f : Reader B) (seen : X → B) → Keeps P f seen → Keeps (AtMost most P) (list_of_between 0 most f) (map seen)
at_most most P f seen keeps place v xs h =
    let k = between_keeps P f seen keeps 0 most place v xs h in
    record { few = k.1; each = k.2 }

-- ---- edits and rounds

edit_by : (place : List ℕ) (v : Data) (c : Change) (adds : Bool)
    → (if adds
    then bind (member (codes "add") id_of place v) (λ id. made (λ shape. definition.add (record { id = id; shape = shape })) (member (codes "shape") shape_of place v))
    else made definition.remove (member (codes "remove") id_of place v)) ≡ Ok (edit_seen c)
    → ChangeFits c
edit_by place v (Add s) true h =
    bind_ok (member (codes "add") id_of place v) _ (edit_seen (Add s)) h (λ id id_read rest.
    made_ok _ (member (codes "shape") shape_of place v) (edit_seen (Add s)) rest (λ shape shape_read is.
    parts_kept (codes "add") (codes "shape") place v s id shape id_read shape_read (added is)))
  where
    added : {o p : Obstacle} → definition.add o ≡ definition.add p → o ≡ p
    added e = cc
edit_by place v (Remove id) true h =
    bind_ok (member (codes "add") id_of place v) _ (edit_seen (Remove id)) h (λ _ _ rest.
    made_ok _ (member (codes "shape") shape_of place v) (edit_seen (Remove id)) rest (λ shape _ is. absurd cc))
edit_by place v (Add s) false h = made_ok definition.remove (member (codes "remove") id_of place v) (edit_seen (Add s)) h (λ id _ is. absurd cc)
edit_by place v (Remove id) false h =
    made_ok definition.remove (member (codes "remove") id_of place v) (edit_seen (Remove id)) h (λ id' read is.
    member_ok (codes "remove") id_of place v id' read (λ d _ d_read. id_kept _ d id (d_read ∙ ap Ok (removed is))))
  where
    removed : {m n : ℕ} → definition.remove m ≡ definition.remove n → m ≡ n
    removed e = cc

edit_kept : Keeps ChangeFits edit_of edit_seen
unfolding edit_of
edit_kept place v c h = bind_ok (one_of (codes "add") (codes "remove") place v) _ (edit_seen c) h (λ adds _ rest. edit_by place v c adds rest)

pub round_kept : Keeps TurnFits round_of round_seen
unfolding round_of
round_kept place v t h =
    bind_ok (object place v) _ (round_seen t) h (λ w _ after.
    bind_ok (member (codes "edits") edits_of place w) _ (round_seen t) after (λ edits edits_read rest.
    bind_ok (member (codes "lanes") lanes_of place w) _ (round_seen t) rest (λ lanes lanes_read is.
    let same = same_ok _ _ is in
    record {
      edits = member_ok (codes "edits") edits_of place w edits edits_read (λ d _ read. at_most 32 ChangeFits edit_of edit_seen edit_kept _ d t.edits.items (read ∙ ap (λ r. Ok r.edits) same));
      lanes = member_ok (codes "lanes") lanes_of place w lanes lanes_read (λ d _ read.
          at_most 8 (λ lane. AtMost 16 QueryFits lane.items) lane_of (λ lane. map query_seen lane.items) (λ p e lane lane_read. at_most 16 QueryFits query_of query_seen query_kept p e lane.items lane_read) _ d t.lanes.items (read ∙ ap (λ r. Ok r.lanes) same));
    })))

-- ---- certificates

point_kept : Keeps IsInRange point_of (λ p. p)
unfolding point_of
point_kept place v p h =
    bind_ok (list_of_exactly 3 integer place v) _ p h (λ z _ at.
    point_in_range (nth z 0) (nth z 1) (nth z 2) p (some_or_ok (range place) (point_at (nth z 0) (nth z 1) (nth z 2)) p at))

ends_kept : (a b : Option Vector) (s : Segment) → ((p : Vector) → a ≡ Some p → IsInRange p) → ((p : Vector) → b ≡ Some p → IsInRange p) → segment_at a b ≡ Some s → EndsFit s
ends_kept None b s in_a in_b h = absurd cc
ends_kept (Some p) None s in_a in_b h = absurd cc
ends_kept (Some p) (Some q) s in_a in_b h =
    let is = same_Some (segment p q) s h in
    (in_a s.a (ap (λ t. Some t.a) is), in_b s.b (ap (λ t. Some t.b) is))

segment_kept : Keeps EndsFit segment_of (λ s. s)
unfolding segment_of
segment_kept place v s h =
    bind_ok (list_of_exactly 6 integer place v) _ s h (λ z _ at.
    ends_kept (point_at (nth z 0) (nth z 1) (nth z 2)) (point_at (nth z 3) (nth z 4) (nth z 5)) s (point_in_range (nth z 0) (nth z 1) (nth z 2)) (point_in_range (nth z 3) (nth z 4) (nth z 5))
    (some_or_ok (range place) _ s at))

-- a list of any number has fewer than there are values in it
pub few : {X B : Type 0} (P : X → Type 0) (f : Reader B) (seen : X → B) → Keeps P f seen → (place : List ℕ) (v : Data) (xs : List X) → list_of_any f place v ≡ Ok (map seen xs) → (length xs < values v) × All P xs
unfolding elements
few P f seen keeps place v xs h =
    let k = any_keeps P f seen keeps place v xs h in
    (omega (arith, k.2, elements_are_few v k.0 (some_or_ok (form place) (option_map list_of (as_array v)) k.0 k.1)), k.3)

-- a member that holds a list of any number
list_kept : {A : Type 0} (P : A → Type 0) (f : Reader A) (name : List ℕ) → Keeps P f (λ a. a) → (place : List ℕ) (v : Data) (xs : List A) → values v ≤ suc most_bytes → member name (list_of_any f) place v ≡ Ok xs → AtMost most_bytes P xs
list_kept P f name keeps place v xs small h =
    member_ok name (list_of_any f) place v xs h (λ d found read.
    let k = few P f (λ a. a) keeps _ d xs (read ∙ ap Ok (sym (map-id xs))) in
    record { few = omega (arith, k.0, member_has_fewer name v d found); each = k.1 })

certificate_by : (place : List ℕ) (v : Data) (c : Certificate) (is_path : Bool) → values v ≤ suc most_bytes
    → (if is_path then made definition.path (member (codes "path") path_of place v) else made definition.chain (member (codes "chain") chain_of place v)) ≡ Ok (certificate_seen c)
    → CertificateFits c
certificate_by place v (Path points) true small h =
    made_ok definition.path (member (codes "path") path_of place v) (definition.path points) h (λ ps read is.
    list_kept IsInRange point_of (codes "path") point_kept place v points small (read ∙ ap Ok (named is)))
  where
    named : {xs ys : List Vector} → definition.path xs ≡ definition.path ys → xs ≡ ys
    named e = cc
certificate_by place v (Path points) false small h = made_ok definition.chain (member (codes "chain") chain_of place v) (definition.path points) h (λ _ _ is. absurd cc)
certificate_by place v (Blocked segments) true small h = made_ok definition.path (member (codes "path") path_of place v) (definition.chain segments) h (λ _ _ is. absurd cc)
certificate_by place v (Blocked segments) false small h =
    made_ok definition.chain (member (codes "chain") chain_of place v) (definition.chain segments) h (λ ss read is.
    list_kept EndsFit segment_of (codes "chain") segment_kept place v segments small (read ∙ ap Ok (named is)))
  where
    named : {xs ys : List Segment} → definition.chain xs ≡ definition.chain ys → xs ≡ ys
    named e = cc

pub certificate_kept : (place : List ℕ) (v : Data) (c : Certificate) → values v ≤ suc most_bytes → certificate_of place v ≡ Ok (certificate_seen c) → CertificateFits c
unfolding certificate_of
certificate_kept place v c small h =
    bind_ok (one_of (codes "path") (codes "chain") place v) _ (certificate_seen c) h (λ is_path _ rest. certificate_by place v c is_path small rest)
