-- What is told of the edits of a round is what their scenes are: each version with its number of obstacles.
use Rattle.std.proofs.Common.{◌≡◌, ℕ, suc, ◌+◌, ◌-◌, ◌<◌, List, [], ◌∷◌, ◌++◌, Result, Some, length, slice_get, refl, sym, ap, subst, ◌∙◌, append_assoc, append-nil, length-append, arith}
use Rattle.std.proofs.lemmas.List.{map-append}
use Rattle.plan_scene.specs.Scene.{Scene}
use Rattle.plan_scene.specs.declared.edit.Edit.{Edit}
use Rattle.plan_reply.specs.declared.fault.StepFault.{StepFault}
use Rattle.plan_crew.specs.declared.job.Outcome.{Outcome}
use Rattle.plan_crew.specs.declared.job.Outcome.TheVariants.{Taken, Refused}
use Rattle.plan_crew.specs.Edits.{AreMade, ends_of, taken_of, last_of}
use Rattle.plan_top.specs.Planning.{Makes}
use Rattle.plan_top.specs.Telling.{CanAllEnd, count_after, count_told, pairs_told}
use Rattle.plan_top.specs.Watching.{pairs_from, pairs_of}
use Rattle.plan_top.specs.declared.planning.Version.{Version}
use Rattle.plan_top.proofs.Counted.{IsRising, counted}
use Rattle.plan_top.proofs.Histories.{number_of, scenes_of, scenes_length}

-- ---- the edits of a round, one after another
pub record IsTold (v : Version) (edits : List Edit) (outcomes : List (Outcome Version StepFault)) : Type 0 where
  pub can : CanAllEnd (length v.stand.obstacles) edits (ends_of number_of outcomes)
  pub pairs : pairs_told (length v.stand.obstacles) edits (ends_of number_of outcomes) ≡ pairs_from (suc v.number) (scenes_of (taken_of outcomes))
  pub count : count_told (length v.stand.obstacles) edits (ends_of number_of outcomes) ≡ length (last_of v outcomes).stand.obstacles
  pub rising : IsRising (last_of v outcomes).stand.obstacles
  pub long : length outcomes ≡ length edits

pub is_told : (v : Version) (edits : List Edit) (outcomes : List (Outcome Version StepFault)) → AreMade Makes v edits outcomes → IsRising v.stand.obstacles → IsTold v edits outcomes
is_told v [] [] made rising = record { can = tt; pairs = refl; count = refl; rising = rising; long = refl }
is_told v [] (o ∷ outcomes) made rising = absurd made
is_told v (e ∷ edits) [] made rising = absurd made
is_told v (e ∷ edits) (Taken next ∷ outcomes) made rising =
    let one = counted v.stand e next.stand rising made.0.0.0 in
    let rest = is_told next edits outcomes made.1 one.rising in
    let ends = ends_of number_of outcomes in
    let up = made.0.1 in
    let number : next.number ≡ suc v.number = omega (arith, up) in
    let then : pairs_told (count_after (length v.stand.obstacles) e) edits ends ≡ pairs_from (suc (suc v.number)) (scenes_of (taken_of outcomes)) =
    subst (λ n. pairs_told n edits ends ≡ pairs_from (suc (suc v.number)) (scenes_of (taken_of outcomes))) one.count (subst (λ n. pairs_told (length next.stand.obstacles) edits ends ≡ pairs_from (suc n) (scenes_of (taken_of outcomes))) number rest.pairs) in
    record {
      can = (one.can, subst (λ n. CanAllEnd n edits ends) one.count rest.can);
      pairs = cc (number, one.count, then);
      count = subst (λ n. count_told n edits ends ≡ length (last_of next outcomes).stand.obstacles) one.count rest.count;
      rising = rest.rising;
      long = omega (arith, rest.long);
    }
is_told v (e ∷ edits) (Refused why ∷ outcomes) made rising =
    let rest = is_told v edits outcomes made.1 rising in
    record { can = (tt, rest.can); pairs = rest.pairs; count = rest.count; rising = rest.rising; long = omega (arith, rest.long) }

-- ---- behind the versions before
push_last : {X : Type 0} (xs : List X) (x : X) → slice_get (xs ++ x ∷ []) (length (xs ++ x ∷ []) - 1) ≡ Some x
push_last [] x = refl
push_last (y ∷ xs) x =
    let long = length-append xs (x ∷ []) in
    let at : length (y ∷ xs ++ x ∷ []) - 1 ≡ suc (length (xs ++ x ∷ []) - 1) = omega (arith, long) in
    rw at (push_last xs x)

last_there : (before : List Version) (start : Version) (outcomes : List (Outcome Version StepFault)) → slice_get before (length before - 1) ≡ Some start → slice_get (before ++ taken_of outcomes) (length (before ++ taken_of outcomes) - 1) ≡ Some (last_of start outcomes)
last_there before start [] last = subst (λ (l : List Version). slice_get l (length l - 1) ≡ Some start) (sym (append-nil before)) last
last_there before start (Taken next ∷ outcomes) last =
    subst (λ (l : List Version). slice_get l (length l - 1) ≡ Some (last_of next outcomes)) (append_assoc before (next ∷ []) (taken_of outcomes)) (last_there (before ++ next ∷ []) next outcomes (push_last before next))
last_there before start (Refused why ∷ outcomes) last = last_there before start outcomes last

pairs_from_both : (n : ℕ) (xs ys : List Scene) → pairs_from n (xs ++ ys) ≡ pairs_from n xs ++ pairs_from (n + length xs) ys
pairs_from_both n [] ys = let at : n ≡ n + 0 = omega arith in ap (λ m. pairs_from m ys) at
pairs_from_both n (x ∷ xs) ys =
    let at : suc n + length xs ≡ n + length (x ∷ xs) = omega arith in
    ap (λ l. (n, length x.obstacles) ∷ l) (pairs_from_both (suc n) xs ys ∙ ap (λ m. pairs_from (suc n) xs ++ pairs_from m ys) at)

pairs_more : (before more : List Version) → 0 < length before → pairs_of (scenes_of (before ++ more)) ≡ pairs_of (scenes_of before) ++ pairs_from (length before) (scenes_of more)
pairs_more [] more some = absurd (omega (arith, some))
pairs_more (first ∷ before) more some =
    let long = scenes_length before in
    let at : 1 + length (scenes_of before) ≡ length (first ∷ before) = omega (arith, long) in
    ap (pairs_from 1) (map-append (λ v. v.stand) before more) ∙ (pairs_from_both 1 (scenes_of before) (scenes_of more) ∙ ap (λ n. pairs_from 1 (scenes_of before) ++ pairs_from n (scenes_of more)) at)

-- the last version has so many obstacles, by rising id
abbrev pub LastHas : List Version → ℕ → Type 0
LastHas list n = (v : Version) → slice_get list (length list - 1) ≡ Some v → (n ≡ length v.stand.obstacles) × IsRising v.stand.obstacles

pub record AreToldOf (before after : List Version) (count : ℕ) (edits : List Edit) (ends : List (Result ℕ StepFault)) : Type 0 where
  pub can : CanAllEnd count edits ends
  pub pairs : pairs_of (scenes_of after) ≡ pairs_of (scenes_of before) ++ pairs_told count edits ends
  pub last : LastHas after (count_told count edits ends)

pub are_told : (before after : List Version) (count : ℕ) (start : Version) (edits : List Edit) (outcomes : List (Outcome Version StepFault)) (ends : List (Result ℕ StepFault)) → 0 < length before → start.number ≡ length before - 1 → slice_get before (length before - 1) ≡ Some start
    → LastHas before count → AreMade Makes start edits outcomes → ends ≡ ends_of number_of outcomes → after ≡ before ++ taken_of outcomes → AreToldOf before after count edits ends
are_told before after count start edits outcomes ends some number start_is last made ends_are published =
    let has = last start start_is in
    let told = is_told start edits outcomes made has.1 in
    let at : suc start.number ≡ length before = omega (arith, some, number) in
    let sames : ends_of number_of outcomes ≡ ends = sym ends_are in
    let size : length start.stand.obstacles ≡ count = sym has.0 in
    let pairs : pairs_told count edits ends ≡ pairs_from (length before) (scenes_of (taken_of outcomes)) =
    subst (λ n. pairs_told count edits ends ≡ pairs_from n (scenes_of (taken_of outcomes))) at
    (subst (λ (l : List (Result ℕ StepFault)). pairs_told count edits l ≡ pairs_from (suc start.number) (scenes_of (taken_of outcomes))) sames
    (subst (λ n. pairs_told n edits (ends_of number_of outcomes) ≡ pairs_from (suc start.number) (scenes_of (taken_of outcomes))) size told.pairs)) in
    let counts : count_told count edits ends ≡ length (last_of start outcomes).stand.obstacles =
    subst (λ (l : List (Result ℕ StepFault)). count_told count edits l ≡ length (last_of start outcomes).stand.obstacles) sames (subst (λ n. count_told n edits (ends_of number_of outcomes) ≡ length (last_of start outcomes).stand.obstacles) size told.count) in
    record {
      can = subst (λ (l : List (Result ℕ StepFault)). CanAllEnd count edits l) sames (subst (λ n. CanAllEnd n edits (ends_of number_of outcomes)) size told.can);
      pairs = ap (λ (l : List Version). pairs_of (scenes_of l)) published ∙ (pairs_more before (taken_of outcomes) some ∙ ap (λ l. pairs_of (scenes_of before) ++ l) (sym pairs));
      last = subst (λ (l : List Version). LastHas l (count_told count edits ends)) (sym published) (λ v is. at_last v is counts told.rising);
    }
  where
    at_last : (v : Version) → slice_get (before ++ taken_of outcomes) (length (before ++ taken_of outcomes) - 1) ≡ Some v → count_told count edits ends ≡ length (last_of start outcomes).stand.obstacles → IsRising (last_of start outcomes).stand.obstacles
        → (count_told count edits ends ≡ length v.stand.obstacles) × IsRising v.stand.obstacles
    at_last v is counts rising =
        let there = last_there before start outcomes start_is in
        let same : last_of start outcomes ≡ v = cc (there, is) in
        subst (λ (v : Version). (count_told count edits ends ≡ length v.stand.obstacles) × IsRising v.stand.obstacles) same (counts, rising)
