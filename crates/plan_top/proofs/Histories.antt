-- A round of versions is a round of scenes: the number of a version is its place in the history.
use Rattle.std.proofs.Common.{◌≡◌, ℕ, zero, suc, ◌+◌, ◌-◌, ◌<◌, List, Vec, [], ◌∷◌, ◌++◌, Result, Ok, Err, Some, length, map, slice_get, refl, sym, ap, subst, ◌∙◌, append_assoc, append-nil, arith}
use Rattle.std.specs.List.{AllZip}
use Rattle.std.proofs.lemmas.List.{map-append}
use Rattle.plan_cross.specs.declared.certificate.Query.{Query}
use Rattle.plan_wire.specs.Documents as document
use Rattle.plan_wire.specs.Seen.{query_seen}
use Rattle.plan_scene.specs.Scene.{Scene}
use Rattle.plan_scene.specs.declared.edit.Edit.{Edit}
use Rattle.plan_reply.specs.declared.fault.StepFault.{StepFault}
use Rattle.plan_reply.specs.declared.reply.Reply.{Reply}
use Rattle.plan_crew.specs.declared.job.Outcome.{Outcome}
use Rattle.plan_crew.specs.declared.job.Outcome.TheVariants.{Taken, Refused}
use Rattle.plan_crew.specs.Edits.{AreMade, ends_of, taken_of, last_of}
use Rattle.plan_crew.specs.Lane.{Says, Replies}
use Rattle.plan_crew.specs.Round as crew
use Rattle.plan_top.specs.Planning.{Makes, Gives}
use Rattle.plan_top.specs.Played.{ended_lines, round_seen, said_seen}
use Rattle.plan_top.specs.Session.{Line, End, Said, AreEnds, AreRounds, AreSaid, IsRound, IsSaid, edit_lines, edit_seen, lanes_lines, made_of, round_line, round_lines, version_of}
use Rattle.plan_top.specs.declared.planning.Version.{Version}
use Rattle.plan_top.specs.declared.session.Round.{Round}

abbrev pub number_of : Version → ℕ
number_of v = v.number

abbrev pub scenes_of : List Version → List Scene
scenes_of vs = map (λ v. v.stand) vs

-- these versions are numbered from n on
abbrev pub Numbered : ℕ → List Version → Type 0
Numbered n [] = Unit {0}
Numbered n (v ∷ vs) = (v.number ≡ n) × Numbered (suc n) vs

numbered_both : (n : ℕ) (vs ws : List Version) → Numbered n vs → Numbered (n + length vs) ws → Numbered n (vs ++ ws)
numbered_both n [] ws h k = subst (λ m. Numbered m ws) (omega arith) k
numbered_both n (v ∷ vs) ws h k = (h.0, numbered_both (suc n) vs ws h.1 (subst (λ m. Numbered m ws) (omega arith) k))

pub numbered_at : (n : ℕ) (vs : List Version) (k : ℕ) (v : Version) → Numbered n vs → slice_get vs k ≡ Some v → v.number ≡ n + k
numbered_at n [] k v h is = absurd cc
numbered_at n (w ∷ vs) zero v h is = let same : w ≡ v = cc is in let here = h.0 in rw (← same) (omega arith)
numbered_at n (w ∷ vs) (suc k) v h is = let there = numbered_at (suc n) vs k v h.1 is in omega arith

-- ---- edits
-- what a change made, by its scene
abbrev pub end_of : Outcome Version StepFault → End
end_of (Taken next) = Ok next.stand
end_of (Refused why) = Err why

are_ends : (v : Version) (edits : List Edit) (outcomes : List (Outcome Version StepFault)) → AreMade Makes v edits outcomes → AreEnds v.stand (map edit_seen edits) (map end_of outcomes)
are_ends v [] [] made = tt
are_ends v [] (o ∷ outcomes) made = absurd made
are_ends v (e ∷ edits) [] made = absurd made
are_ends v (e ∷ edits) (Taken next ∷ outcomes) made = (record { edit = e; is_edit = refl; is_end = made.0.0 }, are_ends next edits outcomes made.1)
are_ends v (e ∷ edits) (Refused why ∷ outcomes) made = (record { edit = e; is_edit = refl; is_end = made.0 }, are_ends v edits outcomes made.1)

made_scenes : (outcomes : List (Outcome Version StepFault)) → made_of (map end_of outcomes) ≡ scenes_of (taken_of outcomes)
made_scenes [] = refl
made_scenes (Taken next ∷ outcomes) = ap (λ l. next.stand ∷ l) (made_scenes outcomes)
made_scenes (Refused why ∷ outcomes) = made_scenes outcomes

taken_numbered : (v : Version) (edits : List Edit) (outcomes : List (Outcome Version StepFault)) (n : ℕ) → AreMade Makes v edits outcomes → v.number ≡ n → Numbered (suc n) (taken_of outcomes)
taken_numbered v [] [] n made is = tt
taken_numbered v [] (o ∷ outcomes) n made is = absurd made
taken_numbered v (e ∷ edits) [] n made is = absurd made
taken_numbered v (e ∷ edits) (Taken next ∷ outcomes) n made is =
    let up = made.0.1 in
    let here : next.number ≡ suc n = omega arith in
    (here, taken_numbered next edits outcomes (suc n) made.1 here)
taken_numbered v (e ∷ edits) (Refused why ∷ outcomes) n made is = taken_numbered v edits outcomes n made.1 is

-- the lines of the edits
edits_told : (v : Version) (edits : List Edit) (outcomes : List (Outcome Version StepFault)) (k n : ℕ) → AreMade Makes v edits outcomes → v.number ≡ n → ended_lines k (ends_of number_of outcomes) ≡ edit_lines k n (map end_of outcomes)
edits_told v [] [] k n made is = refl
edits_told v [] (o ∷ outcomes) k n made is = absurd made
edits_told v (e ∷ edits) [] k n made is = absurd made
edits_told v (e ∷ edits) (Taken next ∷ outcomes) k n made is =
    let up = made.0.1 in
    let here : next.number ≡ suc n = omega arith in
    cc (here, edits_told next edits outcomes (suc k) (suc n) made.1 here)
edits_told v (e ∷ edits) (Refused why ∷ outcomes) k n made is = cc (edits_told v edits outcomes (suc k) n made.1 is)

-- ---- lanes
-- what stands behind the last of the list before
from_last : {X : Type 0} (before more : List X) (start x : X) (k : ℕ) → slice_get before (length before - 1) ≡ Some start → slice_get (start ∷ more) k ≡ Some x → slice_get (before ++ more) ((length before - 1) + k) ≡ Some x
from_last [] more start x k there is = absurd cc
from_last (b ∷ []) more start x k there is = let same : b ≡ start = cc there in rw same (subst (λ n. slice_get (start ∷ more) n ≡ Some x) (omega arith) is)
from_last (b ∷ c ∷ before) more start x k there is =
    let less : length (b ∷ c ∷ before) - 1 ≡ suc (length (c ∷ before) - 1) = omega arith in
    let last : slice_get (c ∷ before) (length (c ∷ before) - 1) ≡ Some start = subst (λ n. slice_get (b ∷ c ∷ before) n ≡ Some start) less there in
    let rest = from_last (c ∷ before) more start x k last is in
    let at : (length (b ∷ c ∷ before) - 1) + k ≡ suc ((length (c ∷ before) - 1) + k) = omega arith in
    rw at rest

map_get : {X Y : Type 0} (f : X → Y) (xs : List X) (k : ℕ) (x : X) → slice_get xs k ≡ Some x → slice_get (map f xs) k ≡ Some (f x)
map_get f [] k x is = absurd cc
map_get f (y ∷ xs) zero x is = ap Some (ap f (cc is))
map_get f (y ∷ xs) (suc k) x is = map_get f xs k x is

-- what a version in the list said is said by the scene of that number
is_said : (before more : List Version) (start : Version) (q : Query) (s : ℕ × Reply) (k : ℕ) → Numbered 0 (before ++ more) → slice_get before (length before - 1) ≡ Some start → Says number_of Gives (start ∷ more) k q s → IsSaid (scenes_of (before ++ more)) (query_seen q) (said_seen s)
is_said before more start q s k numbered last says =
    let there = from_last before more start says.entry k last says.there in
    let number = numbered_at 0 (before ++ more) ((length before - 1) + k) says.entry numbered there in
    let at : s.0 ≡ (length before - 1) + k = says.version_is ∙ (number ∙ omega arith) in
    record { scene = says.entry.stand; is_scene = rw at (map_get (λ v. v.stand) (before ++ more) ((length before - 1) + k) says.entry there); is_reply = says.answer_is }

are_said : (before more : List Version) (start : Version) (least most : ℕ) (qs : List Query) (said : List (ℕ × Reply)) → Numbered 0 (before ++ more) → slice_get before (length before - 1) ≡ Some start → Replies number_of Gives (start ∷ more) least most qs said → AreSaid (scenes_of (before ++ more)) least (map query_seen qs) (map said_seen said)
are_said before more start least most [] [] numbered last h = tt
are_said before more start least most [] (s ∷ said) numbered last h = absurd h
are_said before more start least most (q ∷ qs) [] numbered last h = absurd h
are_said before more start least most (q ∷ qs) (s ∷ said) numbered last h =
    (h.0, is_said before more start q s h.2.0 numbered last h.2.1, are_said before more start s.0 most qs said numbered last h.3)

lanes_said : (before more : List Version) (start : Version) (least most : ℕ) (lanes : List (List Query)) (said : List (List (ℕ × Reply))) → Numbered 0 (before ++ more) → slice_get before (length before - 1) ≡ Some start → AllZip (Replies number_of Gives (start ∷ more) least most) lanes said → AllZip (AreSaid (scenes_of (before ++ more)) least) (map (λ l. map query_seen l) lanes) (map (λ l. map said_seen l) said)
lanes_said before more start least most [] [] numbered last h = tt
lanes_said before more start least most [] (s ∷ said) numbered last h = absurd h
lanes_said before more start least most (l ∷ lanes) [] numbered last h = absurd h
lanes_said before more start least most (l ∷ lanes) (s ∷ said) numbered last h = (are_said before more start least most l s numbered last h.0, lanes_said before more start least most lanes said numbered last h.1)

pub scenes_length : (vs : List Version) → length (scenes_of vs) ≡ length vs
scenes_length [] = refl
scenes_length (v ∷ vs) = let rest = scenes_length vs in omega arith

pub some_there : {X : Type 0} (xs : List X) (k : ℕ) (x : X) → slice_get xs k ≡ Some x → 0 < length xs
some_there [] k x is = absurd cc
some_there (y ∷ xs) k x is = omega arith

-- ---- a round
pub record Turned (before after : List Version) (edits : List Edit) (ends : List (Result ℕ StepFault)) (lanes : List (List Query)) (said : List (List (ℕ × Reply))) : Type 0 where
  pub numbered : Numbered 0 after
  pub told : List End
  pub is_round : IsRound (scenes_of before) (record { edits = map edit_seen edits; lanes = map (λ l. map query_seen l) lanes }) (scenes_of after) told (map (λ l. map said_seen l) said)
  pub lines : ended_lines 1 ends ≡ edit_lines 1 (version_of (scenes_of before)) told

pub turned : (before after : List Version) (edits : List Edit) (ends : List (Result ℕ StepFault)) (lanes : List (List Query)) (said : List (List (ℕ × Reply))) → Numbered 0 before → crew.IsRound number_of Makes Gives before after edits ends lanes said → Turned before after edits ends lanes said
turned before after edits ends lanes said numbered h =
    let more = taken_of h.outcomes in
    let last = h.start_is in
    let number : h.start.number ≡ length before - 1 = numbered_at 0 before (length before - 1) h.start numbered last ∙ omega arith in
    let some : 0 < length before = some_there before (length before - 1) h.start last in
    let taken = taken_numbered h.start edits h.outcomes (length before - 1) h.are_made number in
    let all : Numbered 0 (before ++ more) = numbered_both 0 before more numbered (subst (λ m. Numbered m more) (omega arith) taken) in
    let first : version_of (scenes_of before) ≡ length before - 1 = ap (λ n. n - 1) (scenes_length before) in
    record {
      numbered = subst (Numbered 0) (sym h.published) all;
      told = map end_of h.outcomes;
      is_round = record {
        start = h.start.stand;
        is_start = rw first (map_get (λ v. v.stand) before (length before - 1) h.start last);
        are_ends = are_ends h.start edits h.outcomes h.are_made;
        is_after = ap scenes_of h.published ∙ (map-append (λ v. v.stand) before more ∙ ap (λ l. scenes_of before ++ l) (sym (made_scenes h.outcomes)));
        are_said = rw first (subst (λ (l : List Version). AllZip (AreSaid (scenes_of l) (length before - 1)) (map (λ l. map query_seen l) lanes) (map (λ l. map said_seen l) said)) (sym h.published) (subst (λ n. AllZip (AreSaid (scenes_of (before ++ more)) n) (map (λ l. map query_seen l) lanes) (map (λ l. map said_seen l) said)) number (lanes_said before more h.start h.start.number (number_of (last_of h.start h.outcomes)) lanes said all last h.lanes_are)));
      };
      lines = rw first (ap (ended_lines 1) h.ends_are ∙ edits_told h.start edits h.outcomes 1 (length before - 1) h.are_made number);
    }

-- ---- lists of lists
map_twice : {X Y Z : Type 0} (f : Y → Z) (g : X → Y) (xs : List X) → map f (map g xs) ≡ map (λ x. f (g x)) xs
map_twice f g [] = refl
map_twice f g (x ∷ xs) = ap (λ l. f (g x) ∷ l) (map_twice f g xs)

lanes_seen : {Z : Type 0} (lanes : List (Vec Query Z)) → map (λ l. map query_seen l) (map (λ v. v.items) lanes) ≡ map (λ v. map query_seen v.items) lanes
lanes_seen lanes = map_twice (λ l. map query_seen l) (λ v. v.items) lanes

said_items : {W Z : Type 0} (f : W → ℕ × Reply) (lanes : List (Vec W Z)) → map (λ l. map said_seen l) (map (λ v. map f v.items) lanes) ≡ map (λ v. map (λ s. said_seen (f s)) v.items) lanes
said_items f [] = refl
said_items f (v ∷ lanes) = cc (map_twice said_seen f v.items, said_items f lanes)

-- the round as the document tells it, and its lines as they are written
pub record Ended {W Z : Type 0} (round : Round) (before after : List Version) (number : ℕ) (ends : List (Result ℕ StepFault)) (f : W → ℕ × Reply) (said : List (Vec W Z)) : Type 0 where
  pub numbered : Numbered 0 after
  pub told : List End
  pub replies : List (List Said)
  pub is_round : IsRound (scenes_of before) (round_seen round) (scenes_of after) told replies
  pub lines : round_line number ∷ (ended_lines 1 ends ++ lanes_lines 1 (map (λ v. map (λ s. said_seen (f s)) v.items) said)) ≡ round_lines number (version_of (scenes_of before)) told replies

pub ended : {W Z : Type 0} (round : Round) (before after : List Version) (number : ℕ) (ends : List (Result ℕ StepFault)) (f : W → ℕ × Reply) (said : List (Vec W Z)) → Numbered 0 before
    → crew.IsRound number_of Makes Gives before after round.edits.items ends (map (λ v. v.items) round.lanes.items) (map (λ v. map f v.items) said) → Ended round before after number ends f said
ended round before after number ends f said numbered h =
    let t = turned before after round.edits.items ends (map (λ v. v.items) round.lanes.items) (map (λ v. map f v.items) said) numbered h in
    record {
      numbered = t.numbered;
      told = t.told;
      replies = map (λ l. map said_seen l) (map (λ v. map f v.items) said);
      is_round = subst (λ (l : List (List document.Query)). IsRound (scenes_of before) (record { edits = map edit_seen round.edits.items; lanes = l }) (scenes_of after) t.told (map (λ l. map said_seen l) (map (λ v. map f v.items) said))) (lanes_seen round.lanes.items) t.is_round;
      lines = cc (t.lines, said_items f said);
    }

-- ---- one round more
pub rounds_more : (r : ℕ) (before : List Scene) (rounds : List document.Round) (between : List Scene) (lines : List Line) (round : document.Round) (after : List Scene) (ends : List End) (lanes : List (List Said))
    → AreRounds r before rounds between lines → IsRound between round after ends lanes → AreRounds r before (rounds ++ round ∷ []) after (lines ++ round_lines (r + length rounds) (version_of between) ends lanes)
rounds_more r before [] between lines round after ends lanes h one =
    let at : r + 0 ≡ r = omega arith in (
      after,
      ends,
      lanes,
      [],
      subst (λ (l : List Scene). IsRound l round after ends lanes) h.0 one,
      (refl, refl),
      rw (h.1, h.0) (sym (append-nil (round_lines (r + 0) (version_of before) ends lanes)) ∙ ap (λ n. round_lines n (version_of before) ends lanes ++ []) at),
    )
rounds_more r before (first ∷ rounds) between lines round after ends lanes h one =
    let rest = rounds_more (suc r) h.0 rounds between h.3 round after ends lanes h.5 one in
    let at : r + length (first ∷ rounds) ≡ suc r + length rounds = omega arith in (
      h.0,
      h.1,
      h.2,
      h.3 ++ round_lines (suc r + length rounds) (version_of between) ends lanes,
      h.4,
      rest,
      rw h.6 (append_assoc (round_lines r (version_of before) h.1 h.2) h.3 (round_lines (r + length (first ∷ rounds)) (version_of between) ends lanes)
          ∙ ap (λ n. round_lines r (version_of before) h.1 h.2 ++ (h.3 ++ round_lines n (version_of between) ends lanes)) at),
    )
