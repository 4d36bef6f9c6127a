-- Two rounds by hand: entries and answers are numbers, an entry's version is the entry, a change of 0 is refused, and any other leads to the next number.
use Rattle.std.proofs.Common.{◌≡◌, ℕ, ◌+◌, [], ◌∷◌, Ok, Err, refl, arith}
use Rattle.plan_crew.specs.declared.job.Outcome.{Outcome}
use Rattle.plan_crew.specs.declared.job.Outcome.TheVariants.{Taken, Refused}
use Rattle.plan_crew.specs.Numbers.{counted}
use Rattle.plan_crew.specs.Lane.{Replies}
use Rattle.plan_crew.specs.Round.{IsRound}

abbrev version : ℕ → ℕ
version entry = entry

abbrev by_counting : ℕ → ℕ → Outcome ℕ ℕ → Type 0
by_counting entry change outcome = outcome ≡ counted entry change

abbrev by_adding : ℕ → ℕ → ℕ → Type 0
by_adding entry question answer = answer ≡ entry + question

-- three edits of which one is refused; the first lane looks before and after all edits, the second once between
three_edits : IsRound version by_counting by_adding (0 ∷ []) (0 ∷ 1 ∷ 2 ∷ []) (1 ∷ 0 ∷ 1 ∷ []) (Ok 1 ∷ Err 1 ∷ Ok 2 ∷ []) ((5 ∷ 7 ∷ []) ∷ (9 ∷ []) ∷ []) (((0, 5) ∷ (2, 9) ∷ []) ∷ ((1, 10) ∷ []) ∷ [])
three_edits = record {
  start = 0;
  start_is = refl;
  outcomes = Taken 1 ∷ Refused 1 ∷ Taken 2 ∷ [];
  are_made = (refl, (refl, (refl, tt)));
  ends_are = refl;
  published = refl;
  lanes_are = (
    (omega arith, omega arith, (0, record { entry = 0; there = refl; version_is = refl; answer_is = refl }), (omega arith, omega arith, (2, record { entry = 2; there = refl; version_is = refl; answer_is = refl }), tt)),
    ((omega arith, omega arith, (1, record { entry = 1; there = refl; version_is = refl; answer_is = refl }), tt), tt),
  );
}

-- a round with nothing to do leaves the list as it is
nothing : IsRound version by_counting by_adding (4 ∷ 5 ∷ []) (4 ∷ 5 ∷ []) [] [] [] []
nothing = record { start = 5; start_is = refl; outcomes = []; are_made = tt; ends_are = refl; published = refl; lanes_are = tt }

-- no lane may name a version of a round before, nor fall back
no_old_version : (a : ℕ) → Replies version by_adding (5 ∷ []) 5 5 (7 ∷ []) ((4, a) ∷ []) → ⊥
no_old_version a h = absurd (omega (arith, h.0))

no_fall : Replies version by_adding (0 ∷ 1 ∷ []) 0 1 (7 ∷ 7 ∷ []) ((1, 8) ∷ (0, 7) ∷ []) → ⊥
no_fall h = absurd (omega (arith, h.3.0))

-- nor name a version that is not that of the entry that answered
no_other_answer : Replies version by_adding (0 ∷ 1 ∷ []) 0 1 (7 ∷ []) ((0, 8) ∷ []) → ⊥
no_other_answer h = let says = h.2.1 in absurd (omega (arith, says.version_is, says.answer_is))
