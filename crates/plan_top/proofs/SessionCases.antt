-- Two small sessions by hand, and what no session may say.
use Rattle.std.proofs.Common.{◌≡◌, ℕ, List, [], ◌∷◌, ◌++◌, length, true, false, Ok, Err, inl, inr, refl, ap, arith}
use Rattle.std.specs.Prelude.{codes}
use Rattle.std.specs.Fmt.{digits}
use Rattle.plan_spec.specs.Answers.{Answer}
use Rattle.plan_wire.specs.Documents as document
use Rattle.plan_wire.specs.Documents.{Document, Query, Round, rounds}
use Rattle.plan_scene.specs.Scene.{Scene, scene_seen}
use Rattle.plan_scene.specs.declared.fault.EditFault.TheVariants.{Duplicate, Unknown}
use Rattle.plan_reply.specs.First.{IsFirst}
use Rattle.plan_reply.specs.declared.fault.StepFault.TheVariants.{Edit as EditRefused}
use Rattle.plan_top.specs.Plan.{IsReplied, answer_text}
use Rattle.plan_top.specs.Session.{Line, IsEnd, AreRounds, AreSaid, IsSession, round_lines}
use Rattle.plan_top.specs.Watching.{AreLeft, AreTold, Pair, Watched, pairs_of}

-- a session without rounds
no_rounds : (d : Document) (given first : Scene) → scene_seen given ≡ d.scene → IsFirst given first → d.task ≡ rounds [] → IsSession (record { scene = d.scene; task = rounds [] }) (codes "end version 0\n") []
unfolding digits
no_rounds d given first is_given is_first asked =
    record { given = given; is_given = is_given; first = first; is_first = is_first; history = first ∷ []; lines = []; are_rounds = (refl, refl); is_text = refl; are_pairs = refl }

-- three edits of which the first is accepted, and then a query
module _ (first second : Scene) (shape again : document.Edit) (q : Query) (answer : Answer) where
  abbrev edits : Round
  edits = record { edits = shape ∷ again ∷ document.remove 7 ∷ []; lanes = [] }

  abbrev query : Round
  query = record { edits = []; lanes = (q ∷ []) ∷ [] }

  abbrev all_lines : List Line
  all_lines = round_lines 1 0 (Ok second ∷ Err (EditRefused (Duplicate 1)) ∷ Err (EditRefused (Unknown 7)) ∷ []) [] ++ round_lines 2 1 [] (((1, answer) ∷ []) ∷ [])

  two_rounds : IsEnd first shape (Ok second) → IsEnd second again (Err (EditRefused (Duplicate 1))) → IsEnd second (document.remove 7) (Err (EditRefused (Unknown 7))) → IsReplied second q answer
      → AreRounds 1 (first ∷ []) (edits ∷ query ∷ []) (first ∷ second ∷ []) all_lines
  two_rounds taken duplicate unknown replied = (
    first ∷ second ∷ [],
    Ok second ∷ Err (EditRefused (Duplicate 1)) ∷ Err (EditRefused (Unknown 7)) ∷ [],
    [],
    round_lines 2 1 [] (((1, answer) ∷ []) ∷ []),
    record { start = first; is_start = refl; are_ends = (taken, (duplicate, (unknown, tt))); is_after = refl; are_said = tt },
    (
      first ∷ second ∷ [],
      [],
      ((1, answer) ∷ []) ∷ [],
      [],
      record { start = second; is_start = refl; are_ends = tt; is_after = refl; are_said = ((omega arith, record { scene = second; is_scene = refl; is_reply = replied }, tt), tt) },
      (refl, refl),
      refl,
    ),
    refl,
  )

  their_lines : all_lines ≡ codes "round 1\n" ∷ codes "edit 1 version 1\n" ∷ codes "edit 2 refused duplicate 1\n" ∷ codes "edit 3 refused unknown 7\n" ∷ codes "round 2\n" ∷ (codes "lane 1 query 1 version 1 " ++ (answer_text answer ++ codes "\n")) ∷ []
  unfolding digits
  their_lines = refl

  -- one edit was accepted
  their_pairs : pairs_of (first ∷ second ∷ []) ≡ (1, length second.obstacles) ∷ []
  their_pairs = refl

  -- no reply names a version of a round before, nor falls back, nor one that is not there
  no_old_version : AreSaid (first ∷ second ∷ []) 1 (q ∷ []) ((0, answer) ∷ []) → ⊥
  no_old_version h = absurd (let le = h.0 in omega arith)

  no_fall : AreSaid (first ∷ second ∷ []) 0 (q ∷ q ∷ []) ((1, answer) ∷ (0, answer) ∷ []) → ⊥
  no_fall h = absurd (let le = h.2.0 in omega arith)

-- ---- watchers
-- a steady watcher stays and hears the pair, another may go
one_goes : AreLeft ((1, 5) ∷ []) (([], true) ∷ ([], false) ∷ []) (((1, 5) ∷ [], true) ∷ [])
one_goes = inl (refl, (λ is. is), ((λ is. cc is), tt))

abbrev first_number : List Pair → ℕ
first_number [] = 0
first_number (p ∷ pairs) = p.1

abbrev heard_by_first : List Watched → ℕ
heard_by_first [] = 0
heard_by_first (w ∷ watchers) = length w.0

-- no steady one goes, none hears another pair, and where there are no pairs none hears any
no_steady_goes : AreLeft ((1, 5) ∷ []) (([], true) ∷ []) [] → ⊥
no_steady_goes h = h.0 refl

no_other_pair : AreLeft ((1, 5) ∷ []) (([], true) ∷ []) (((1, 6) ∷ [], true) ∷ []) → ⊥
no_other_pair (inl h) = absurd (let same : 6 ≡ 5 = ap first_number h.0 in omega arith)
no_other_pair (inr h) = h.0 refl

nobody_hears : AreTold (([], false) ∷ []) (((1, 5) ∷ [], false) ∷ []) [] → ⊥
nobody_hears h = absurd (let same : 1 ≡ 0 = ap heard_by_first h in omega arith)
