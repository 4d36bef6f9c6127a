-- Rounds that are played, told and written one after another.
use Rattle.std.proofs.Common.{◌≡◌, inl, inr, ℕ, zero, suc, ◌+◌, ◌<◌, ◌≤◌, List, [], ◌∷◌, ◌++◌, length, take, get_or, Err, Ok, refl, sym, ap, subst, ◌∙◌, arith}
use Rattle.std.specs.List.{concat}
use Rattle.plan_wire.specs.Documents as document
use Rattle.plan_wire.specs.Stream.{Appends}
use Rattle.plan_scene.specs.Scene.{Scene}
use Rattle.plan_top.specs.Outcome.{Told}
use Rattle.plan_top.specs.Played.{AreAllRounds, AreFirstRounds, EndOutcome, LinesOutcome, RoundsOutcome}
use Rattle.plan_top.specs.Session.{Line, End, Said, AreRounds, IsRound, end_line, round_lines, version_of}
use Rattle.plan_top.specs.Watching.{Pair, Watched, AreTold, pairs_of}
use Rattle.plan_top.specs.declared.halt.Halt.TheVariants as halt
use Rattle.plan_top.specs.declared.planning.Version.{Version}
use Rattle.plan_top.specs.declared.status.Status.{Status}
use Rattle.plan_top.specs.declared.status.Status.TheVariants.{Done, Usage, Refused, ReadFault, WriteFault, NoMemory, Invalid}
use Rattle.plan_top.proofs.Histories.{Numbered, scenes_of, rounds_more}
use Rattle.plan_top.proofs.Replies.{appends_both, part_behind}
use Rattle.plan_top.proofs.Watchers.{told_both}
use Rattle.plan_top.proofs.WrittenLines.{behind, none_more}

take_whole : {X : Type 0} (xs : List X) → take (length xs) xs ≡ xs
take_whole [] = refl
take_whole (x ∷ xs) = ap (λ l. x ∷ l) (take_whole xs)

take_next : {X : Type 0} (xs : List X) (k : ℕ) (d : X) → k < length xs → take (suc k) xs ≡ take k xs ++ get_or xs k d ∷ []
take_next [] k d lt = absurd (omega arith)
take_next (x ∷ xs) zero d lt = refl
take_next (x ∷ xs) (suc k) d lt = ap (λ l. x ∷ l) (take_next xs k d (omega arith))

take_length : {X : Type 0} (xs : List X) (k : ℕ) → k ≤ length xs → length (take k xs) ≡ k
take_length xs zero le = refl
take_length [] (suc k) le = absurd (omega arith)
take_length (x ∷ xs) (suc k) le = let rest = take_length xs k (omega arith) in omega arith

-- the first rounds are played, their versions told and their lines written
pub record Played (first : Scene) (rounds : List document.Round) (list : List Version) (before mid : Told) (old now : List Watched) (at : ℕ) : Type 0 where
  pub numbered : Numbered 0 list
  pub lines : List Line
  pub are_rounds : AreRounds 1 (first ∷ []) (take at rounds) (scenes_of list) lines
  pub appended : Appends before mid (concat lines)
  pub told : AreTold old now (pairs_of (scenes_of list))

-- none is
pub none_played : (v : Version) (rounds : List document.Round) (list : List Version) (before : Told) (old : List Watched) → Numbered 0 list → list ≡ v ∷ [] → Played v.stand rounds list before before old old 0
none_played v rounds list before old numbered is =
    subst (λ (l : List Version). Played v.stand rounds l before before old old 0) (sym is) (record { numbered = subst (Numbered 0) is numbered; lines = []; are_rounds = (refl, refl); appended = none_more before; told = refl })

pub nothing : (first : Scene) (rounds : List document.Round) (before : Told) (old : List Watched) → RoundsOutcome first rounds before before (AreTold old old) NoMemory
nothing first rounds before old = ([], [], record { count = 0; history = first ∷ []; are_rounds = (refl, refl); are_pairs = refl }, 0, none_more before, refl)

module _ (first : Scene) (rounds : List document.Round) (list : List Version) (before mid after : Told) (old now : List Watched) where
  pub stopped : (at : ℕ) → Played first rounds list before mid old now at → RoundsOutcome first rounds before mid (AreTold old now) NoMemory
  stopped at p =
      (p.lines, pairs_of (scenes_of list), record { count = at; history = scenes_of list; are_rounds = p.are_rounds; are_pairs = refl }, length p.lines, subst (λ (l : List Line). Appends before mid (concat l)) (sym (take_whole p.lines)) p.appended, p.told)

  all_of : (version : ℕ) → version ≡ version_of (scenes_of list) → (p : Played first rounds list before mid old now (length rounds)) → AreAllRounds first rounds (concat p.lines ++ end_line version) (pairs_of (scenes_of list))
  all_of version is p = record {
    history = scenes_of list;
    lines = p.lines;
    are_rounds = subst (λ (l : List document.Round). AreRounds 1 (first ∷ []) l (scenes_of list) p.lines) (take_whole rounds) p.are_rounds;
    is_text = ap (λ v. concat p.lines ++ end_line v) is;
    are_pairs = refl;
  }

  -- the last line
  ended : (version : ℕ) (status : Status) → version ≡ version_of (scenes_of list) → Played first rounds list before mid old now (length rounds) → EndOutcome (end_line version) mid after status → RoundsOutcome first rounds before after (AreTold old now) status
  ended version Done is p put = (concat p.lines ++ end_line version, pairs_of (scenes_of list), all_of version is p, appends_both before mid after (concat p.lines) (end_line version) p.appended put, p.told)
  ended version WriteFault is p put = inl (concat p.lines ++ end_line version, pairs_of (scenes_of list), all_of version is p, part_behind before mid after (concat p.lines) (end_line version) p.appended put, p.told)
  ended version NoMemory is p put = subst (λ (a : Told). RoundsOutcome first rounds before a (AreTold old now) NoMemory) (sym put) (stopped (length rounds) p)
  ended version Usage is p put = absurd put
  ended version (Refused refusal) is p put = absurd put
  ended version ReadFault is p put = absurd put
  ended version (Invalid fault) is p put = absurd put

  pub finished : (at version : ℕ) (status : Status) → at ≡ length rounds → version ≡ version_of (scenes_of list) → Played first rounds list before mid old now at → EndOutcome (end_line version) mid after status → RoundsOutcome first rounds before after (AreTold old now) status
  finished at version status all is p put = ended version status is (subst (λ n. Played first rounds list before mid old now n) all p) put

  -- the rounds with the next one
  next_rounds : (at : ℕ) (d : document.Round) (longer : List Version) (ends : List End) (lanes : List (List Said)) → at < length rounds → (p : Played first rounds list before mid old now at)
      → IsRound (scenes_of list) (get_or rounds at d) (scenes_of longer) ends lanes
      → AreRounds 1 (first ∷ []) (take (at + 1) rounds) (scenes_of longer) (p.lines ++ round_lines (at + 1) (version_of (scenes_of list)) ends lanes)
  next_rounds at d longer ends lanes lt p one =
      let more = rounds_more 1 (first ∷ []) (take at rounds) (scenes_of list) p.lines (get_or rounds at d) (scenes_of longer) ends lanes p.are_rounds one in
      let count = take_length rounds at (omega arith) in
      let number : 1 + length (take at rounds) ≡ at + 1 = omega arith in
      let turns : take at rounds ++ get_or rounds at d ∷ [] ≡ take (at + 1) rounds = (let next : suc at ≡ at + 1 = omega arith in sym (take_next rounds at d lt) ∙ ap (λ n. take n rounds) next) in
      subst (λ (l : List document.Round). AreRounds 1 (first ∷ []) l (scenes_of longer) (p.lines ++ round_lines (at + 1) (version_of (scenes_of list)) ends lanes)) turns
      (subst (λ n. AreRounds 1 (first ∷ []) (take at rounds ++ get_or rounds at d ∷ []) (scenes_of longer) (p.lines ++ round_lines n (version_of (scenes_of list)) ends lanes)) number more)

  -- a round that has ended, whose versions are told
  module _ (at : ℕ) (d : document.Round) (longer : List Version) (ends : List End) (lanes : List (List Said)) (later : List Watched) (pairs : List Pair) (lt : at < length rounds) (p : Played first rounds list before mid old now at)
      (one : IsRound (scenes_of list) (get_or rounds at d) (scenes_of longer) ends lanes) (are_pairs : pairs_of (scenes_of longer) ≡ pairs_of (scenes_of list) ++ pairs) (told : AreTold now later pairs) where
    all_told : AreTold old later (pairs_of (scenes_of longer))
    all_told = subst (AreTold old later) (sym are_pairs) (told_both old now later (pairs_of (scenes_of list)) pairs p.told told)

    are_first : AreFirstRounds first rounds (p.lines ++ round_lines (at + 1) (version_of (scenes_of list)) ends lanes) (pairs_of (scenes_of longer))
    are_first = record { count = at + 1; history = scenes_of longer; are_rounds = next_rounds at d longer ends lanes lt p one; are_pairs = refl }

    pub round_written : (u : Unit {0}) → Numbered 0 longer → LinesOutcome {U = Unit {0}} (round_lines (at + 1) (version_of (scenes_of list)) ends lanes) mid after (Ok u) → Played first rounds longer before after old later (at + 1)
    round_written u numbered put = record {
      numbered = numbered;
      lines = p.lines ++ round_lines (at + 1) (version_of (scenes_of list)) ends lanes;
      are_rounds = next_rounds at d longer ends lanes lt p one;
      appended = behind p.lines (round_lines (at + 1) (version_of (scenes_of list)) ends lanes) before mid after (Ok u) p.appended put;
      told = all_told;
    }

    -- one of its lines is not written
    pub round_cut : LinesOutcome {U = Unit {0}} (round_lines (at + 1) (version_of (scenes_of list)) ends lanes) mid after (Err halt.WriteFault) → RoundsOutcome first rounds before after (AreTold old later) WriteFault
    round_cut put =
        inr (
          p.lines ++ round_lines (at + 1) (version_of (scenes_of list)) ends lanes,
          pairs_of (scenes_of longer),
          are_first,
          behind {U = Unit {0}} p.lines (round_lines (at + 1) (version_of (scenes_of list)) ends lanes) before mid after (Err halt.WriteFault) p.appended put,
          all_told,
        )

    pub round_without_memory : LinesOutcome {U = Unit {0}} (round_lines (at + 1) (version_of (scenes_of list)) ends lanes) mid after (Err halt.NoMemory) → RoundsOutcome first rounds before after (AreTold old later) NoMemory
    round_without_memory put =
        let written = round_lines (at + 1) (version_of (scenes_of list)) ends lanes in
        let cut = behind {U = Unit {0}} p.lines written before mid after (Err halt.NoMemory) p.appended put in
        (p.lines ++ written, pairs_of (scenes_of longer), are_first, cut.0, cut.1, all_told)
