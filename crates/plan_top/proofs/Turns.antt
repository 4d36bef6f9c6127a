-- A round that has ended: its lines, what is told of it, and how many of all there are.
use Rattle.std.proofs.Common.{◌≡◌, ℕ, suc, ◌+◌, ◌-◌, ◌*◌, ◌<◌, ◌≤◌, List, Vec, [], ◌∷◌, ◌++◌, Result, Ok, Err, IfSome, Global, length, map, slice_get, get_or, All, refl, sym, ap, subst, ◌∙◌, length-append, arith}
use Rattle.std.specs.List.{AllZip}
use Rattle.std.proofs.lemmas.List.{length-map, get_or-map}
use Rattle.std.proofs.lemmas.List.Elements.{All-head, All-tail, All-cons, All-nil}
use Rattle.std.proofs.lemmas.Option.{slice_get-get_or}
use mathlib.Core.List.{IsPrefix}
use Rattle.logbook.specs.Pages.{Book}
use Rattle.plan_cross.specs.declared.certificate.Query.{Query}
use Rattle.plan_shelf.specs.Known.{Known}
use Rattle.plan_wire.specs.Bounds.{AtMost, QueryFits}
use Rattle.plan_wire.specs.Documents as document
use Rattle.plan_scene.specs.Scene.{Scene, IsScene}
use Rattle.plan_scene.specs.declared.edit.Edit.{Edit}
use Rattle.plan_reply.specs.declared.fault.StepFault.{StepFault}
use Rattle.plan_reply.specs.declared.reply.Reply.{Reply}
use Rattle.plan_crew.specs.declared.job.Outcome.{Outcome}
use Rattle.plan_crew.specs.declared.job.Outcome.TheVariants.{Taken, Refused}
use Rattle.plan_crew.specs.Edits.{last_of, taken_of}
use Rattle.plan_crew.specs.Lane.{Replies}
use Rattle.plan_crew.specs.Round as crew
use Rattle.plan_top.specs.Outcome.{Told}
use Rattle.plan_top.specs.Planning.{Makes, Gives}
use Rattle.plan_top.specs.Played.{LinesOutcome, RoundFits, RoundsOutcome, ended_lines, round_seen, said_seen}
use Rattle.plan_top.specs.Session.{Line, IsRound, lanes_lines, round_line}
use Rattle.plan_top.specs.Telling.{pairs_told}
use Rattle.plan_top.specs.Watching.{Watched, AreTold}
use Rattle.plan_top.specs.declared.halt.Halt.{Halt}
use Rattle.plan_top.specs.declared.halt.Halt.TheVariants as halt
use Rattle.plan_top.specs.declared.planning.Version.{Version}
use Rattle.plan_top.specs.declared.session.Round.{Round}
use Rattle.plan_top.specs.declared.status.Status.TheVariants.{WriteFault, NoMemory}
use Rattle.plan_top.proofs.Counted.{IsRising}
use Rattle.plan_top.proofs.Histories.{Ended, Numbered, ended, number_of, numbered_at, scenes_of, some_there}
use Rattle.plan_top.proofs.PlayedRounds.{Played, round_written, round_cut, round_without_memory}
use Rattle.plan_top.proofs.ToldRounds.{AreToldOf, LastHas, are_told, is_told}

-- ---- how many there are
replies_long : (entries : List Version) (least most : ℕ) (qs : List Query) (said : List (ℕ × Reply)) → Replies number_of Gives entries least most qs said → length said ≡ length qs
replies_long entries least most [] [] h = refl
replies_long entries least most [] (s ∷ said) h = absurd h
replies_long entries least most (q ∷ qs) [] h = absurd h
replies_long entries least most (q ∷ qs) (s ∷ said) h = ap suc (replies_long entries s.0 most qs said h.3)

module _ {Y W Z : Type 0} (f : W → ℕ × Reply) (entries : List Version) (least most : ℕ) where
  abbrev Zipped : List (Vec Query Y) → List (Vec W Z) → Type 0
  Zipped lanes said = AllZip (Replies number_of Gives entries least most) (map (λ v. v.items) lanes) (map (λ v. map f v.items) said)

  lanes_long : (lanes : List (Vec Query Y)) (said : List (Vec W Z)) → Zipped lanes said → length said ≡ length lanes
  lanes_long [] [] h = refl
  lanes_long [] (s ∷ said) h = absurd h
  lanes_long (l ∷ lanes) [] h = absurd h
  lanes_long (l ∷ lanes) (s ∷ said) h = ap suc (lanes_long lanes said h.1)

  lanes_few : (lanes : List (Vec Query Y)) (said : List (Vec W Z)) → Zipped lanes said → All (λ lane. AtMost 16 QueryFits lane.items) lanes → All (λ v. length v.items ≤ 16) said
  lanes_few [] [] h few = All-nil (λ v. length v.items ≤ 16)
  lanes_few [] (s ∷ said) h few = absurd h
  lanes_few (l ∷ lanes) [] h few = absurd h
  lanes_few (l ∷ lanes) (s ∷ said) h few =
      let long = replies_long entries least most l.items (map f s.items) h.0 in
      let first = All-head (λ lane. AtMost 16 QueryFits lane.items) l lanes few in
      All-cons (λ v. length v.items ≤ 16) s said (omega (arith, long, first.few, length-map s.items f)) (lanes_few lanes said h.1 (All-tail (λ lane. AtMost 16 QueryFits lane.items) l lanes few))

taken_few : (outcomes : List (Outcome Version StepFault)) → length (taken_of outcomes) ≤ length outcomes
taken_few [] = omega arith
taken_few (Taken next ∷ outcomes) = let rest = taken_few outcomes in omega (arith, rest)
taken_few (Refused why ∷ outcomes) = let rest = taken_few outcomes in omega (arith, rest)

-- the last number and so many more
pub room_for : (list : List Version) (n at : ℕ) → Numbered 0 list → length list ≤ 1 + 32 * at → at < 64 → n ≤ 32 → IfSome (slice_get list (length list - 1)) (λ v. v.number + n ≤ 2048)
room_for [] n at numbered long lt few = tt
room_for (v ∷ list) n at numbered long lt few =
    let k = length (v ∷ list) - 1 in
    let last = slice_get-get_or (v ∷ list) k v (omega arith) in
    let is = numbered_at 0 (v ∷ list) k (get_or (v ∷ list) k v) numbered last in
    rw last (omega (arith, is, long, lt, few))

-- what the first version has
pub first_has : (list : List Version) (n : ℕ) → length list ≡ 1 → All (λ v. (v.number ≡ 0) × IsScene v.stand × (n ≡ length v.stand.obstacles)) list → Numbered 0 list × LastHas list n
first_has [] n one h = absurd (omega (arith, one))
first_has (v ∷ w ∷ list) n one h = absurd (omega (arith, one))
first_has (v ∷ []) n one h =
    let has = All-head (λ v. (v.number ≡ 0) × IsScene v.stand × (n ≡ length v.stand.obstacles)) v [] h in
    let scene = has.1 in
    ((has.0, tt), λ w is. let same : v ≡ w = cc is in subst (λ (u : Version). (n ≡ length u.stand.obstacles) × IsRising u.stand.obstacles) same (has.2, scene.rising))

pub fits_at : (rounds : List Round) (at : ℕ) (round : Round) → AtMost 64 RoundFits rounds → at < length rounds → round ≡ get_or rounds at round → RoundFits round
fits_at rounds at round fits lt is = subst RoundFits (sym is) (fits.each at round lt)

-- readers stay with their shelf
pub readers_stay : {E : Type 0} (b c : Book) (rs ss : List (Known E)) → c ≡ b → AllZip (λ r s. (s.shelf ≡ r.shelf) × IsPrefix r.list s.list) rs ss → All (λ r. r.shelf ≡ b) rs → All (λ r. r.shelf ≡ c) ss
readers_stay b c [] [] same h all = All-nil (λ r. r.shelf ≡ c)
readers_stay b c [] (s ∷ ss) same h all = absurd h
readers_stay b c (r ∷ rs) [] same h all = absurd h
readers_stay b c (r ∷ rs) (s ∷ ss) same h all =
    All-cons (λ r. r.shelf ≡ c) s ss (h.0.0 ∙ (All-head (λ r. r.shelf ≡ b) r rs all ∙ sym same)) (readers_stay b c rs ss same h.1 (All-tail (λ r. r.shelf ≡ b) r rs all))

-- ---- the whole: the ends as they are written, and as they are shown to those who tell of them
pub record Turn {X W Z : Type 0} (rounds : List Round) (at : ℕ) (round : Round) (before after : List Version) (count : ℕ) (items shown : List X) (see : X → Result ℕ StepFault) (said : List (Vec W Z)) (f : W → ℕ × Reply) (edits : List Edit) : Type 0 where
  pub lt : at < length rounds
  pub ended : Ended round before after (at + 1) (map see items) f said
  pub is_round : IsRound (scenes_of before) (get_or (map round_seen rounds) at (round_seen round)) (scenes_of after) ended.told ended.replies
  pub told : AreToldOf before after count edits (map see shown)
  pub few_edits : length edits ≤ 32
  pub few_ends : length items ≤ 32
  pub few_lanes : length said ≤ 8
  pub few_said : All (λ v. length v.items ≤ 16) said
  pub longer : length after ≤ length before + 32

pub turn_of : {X W Z : Type 0} (rounds : List Round) (at : ℕ) (round : Round) (before after : List Version) (count : ℕ) (items shown : List X) (see : X → Result ℕ StepFault) (said : List (Vec W Z)) (f : W → ℕ × Reply) (edits : List Edit) (lanes : List (Vec Query Global))
    → AtMost 64 RoundFits rounds → at < length rounds → round ≡ get_or rounds at round → shown ≡ items → edits ≡ round.edits.items → lanes ≡ round.lanes.items → Numbered 0 before → LastHas before count
    → crew.IsRound number_of Makes Gives before after edits (map see items) (map (λ v. v.items) lanes) (map (λ v. map f v.items) said) → Turn rounds at round before after count items shown see said f edits
turn_of rounds at round before after count items shown see said f edits lanes all_fit lt is shown_is edits_are lanes_are numbered last h =
    let fits = fits_at rounds at round all_fit lt is in
    let some = some_there before (length before - 1) h.start h.start_is in
    let number : h.start.number ≡ length before - 1 = numbered_at 0 before (length before - 1) h.start numbered h.start_is ∙ omega arith in
    let has = last h.start h.start_is in
    let made = is_told h.start edits h.outcomes h.are_made has.1 in
    let edits_long : length edits ≡ length round.edits.items = ap (λ l. length l) edits_are in
    let ends_long : length (map see items) ≡ length h.outcomes = ap (λ l. length l) h.ends_are ∙ length-map h.outcomes _ in
    let zipped = subst (λ (l : List (Vec Query Global)). AllZip (Replies number_of Gives (h.start ∷ taken_of h.outcomes) (number_of h.start) (number_of (last_of h.start h.outcomes))) (map (λ v. v.items) l) (map (λ v. map f v.items) said)) lanes_are h.lanes_are in
    let lanes_count = lanes_long f (h.start ∷ taken_of h.outcomes) (number_of h.start) (number_of (last_of h.start h.outcomes)) round.lanes.items said zipped in
    let after_long : length after ≡ length before + length (taken_of h.outcomes) = ap (λ l. length l) h.published ∙ length-append before (taken_of h.outcomes) in
    let of_round = subst (λ (l : List Edit). crew.IsRound number_of Makes Gives before after l (map see items) (map (λ v. v.items) round.lanes.items) (map (λ v. map f v.items) said)) edits_are
    (subst (λ (l : List (Vec Query Global)). crew.IsRound number_of Makes Gives before after edits (map see items) (map (λ v. v.items) l) (map (λ v. map f v.items) said)) lanes_are h) in
    let whole = ended round before after (at + 1) (map see items) f said numbered of_round in
    let here : get_or (map round_seen rounds) at (round_seen round) ≡ round_seen round = get_or-map round_seen rounds at round (round_seen round) lt ∙ ap round_seen (sym is) in
    record {
      lt = lt;
      ended = whole;
      is_round = subst (λ (r : document.Round). IsRound (scenes_of before) r (scenes_of after) whole.told whole.replies) (sym here) whole.is_round;
      told = subst (λ (l : List _). AreToldOf before after count edits (map see l)) (sym shown_is) (are_told before after count h.start edits h.outcomes (map see items) some number h.start_is last h.are_made h.ends_are h.published);
      few_edits = omega (arith, edits_long, fits.edits.few);
      few_ends = omega (arith, length-map items see, ends_long, made.long, edits_long, fits.edits.few);
      few_lanes = omega (arith, lanes_count, fits.lanes.few);
      few_said = lanes_few f (h.start ∷ taken_of h.outcomes) (number_of h.start) (number_of (last_of h.start h.outcomes)) round.lanes.items said zipped fits.lanes.each;
      longer = omega (arith, after_long, taken_few h.outcomes, made.long, edits_long, fits.edits.few);
    }

-- what comes of it, once it is told: its lines are written, or not all of them
module _ {X W Z : Type 0} (rounds : List Round) (at : ℕ) (round : Round) (before after : List Version) (count : ℕ) (items shown : List X) (see : X → Result ℕ StepFault) (said : List (Vec W Z)) (f : W → ℕ × Reply) (edits : List Edit) (t : Turn rounds at round before after count items shown see said f edits)
    (first : Scene) (start mid end : Told) (old now later : List Watched) (p : Played first (map round_seen rounds) before start mid old now at) (told : AreTold now later (pairs_told count edits (map see shown))) where
  abbrev lines : List Line
  lines = round_line (at + 1) ∷ (ended_lines 1 (map see items) ++ lanes_lines 1 (map (λ v. map (λ s. said_seen (f s)) v.items) said))

  lt_seen : at < length (map round_seen rounds)
  lt_seen = omega (arith, length-map rounds round_seen, t.lt)

  pub turn_written : (u : Unit {0}) → LinesOutcome {U = Unit {0}} lines mid end (Ok u) → Played first (map round_seen rounds) after start end old later (at + 1)
  turn_written u put =
      round_written first (map round_seen rounds) before start mid end old now at (round_seen round) after t.ended.told t.ended.replies later (pairs_told count edits (map see shown)) lt_seen p t.is_round t.told.pairs told u t.ended.numbered
      (subst (λ (l : List Line). LinesOutcome {U = Unit {0}} l mid end (Ok u)) t.ended.lines put)

  pub turn_cut : (e : Halt) → e ≡ halt.WriteFault → LinesOutcome {U = Unit {0}} lines mid end (Err e) → RoundsOutcome first (map round_seen rounds) start end (AreTold old later) WriteFault
  turn_cut e is put =
      round_cut first (map round_seen rounds) before start mid end old now at (round_seen round) after t.ended.told t.ended.replies later (pairs_told count edits (map see shown)) lt_seen p t.is_round t.told.pairs told
      (subst (λ (l : List Line). LinesOutcome {U = Unit {0}} l mid end (Err halt.WriteFault)) t.ended.lines (subst (λ (e : Halt). LinesOutcome {U = Unit {0}} lines mid end (Err e)) is put))

  pub turn_without_memory : (e : Halt) → e ≡ halt.NoMemory → LinesOutcome {U = Unit {0}} lines mid end (Err e) → RoundsOutcome first (map round_seen rounds) start end (AreTold old later) NoMemory
  turn_without_memory e is put =
      round_without_memory first (map round_seen rounds) before start mid end old now at (round_seen round) after t.ended.told t.ended.replies later (pairs_told count edits (map see shown)) lt_seen p t.is_round t.told.pairs told
      (subst (λ (l : List Line). LinesOutcome {U = Unit {0}} l mid end (Err halt.NoMemory)) t.ended.lines (subst (λ (e : Halt). LinesOutcome {U = Unit {0}} lines mid end (Err e)) is put))
