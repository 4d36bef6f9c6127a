-- What becomes of readers, and of what their lanes said, in a round.
use Rattle.std.specs.Prelude.{◌≡◌, ℕ, ◌-◌, ◌<◌, ◌⊎◌, List, Vec, Option, None, Result, length, map, slice_index_or, IfSome, IfOk}
use Rattle.std.specs.List.{AllZip}
use mathlib.Core.List.{IsPrefix}
use Rattle.plan_shelf.specs.Known.{Known}
use Rattle.plan_crew.specs.declared.ends.Said.{Said}
use Rattle.plan_crew.specs.declared.work.Work.{Work}
use Rattle.plan_crew.specs.Lane.{Answers}

-- the reader stays with its shelf, and its list goes on
abbrev pub GoesOn : {E : Type 0} → Known E → Known E → Type 0
GoesOn before after = (after.shelf ≡ before.shelf) × IsPrefix before.list after.list

module _ {J E C Q F A : Type 0} where
  abbrev pub AllGoOn : List (Work J E C Q F A) → List (Work J E C Q F A) → Type 0
  AllGoOn before after = AllZip (λ w v. GoesOn w.reader v.reader) before after

  -- what was said is kept where the reader's list was a beginning of this list, and is else let go
  pub record Settles (list : List E) (before after : Work J E C Q F A) : Type 0 where
    pub said : (after.said ≡ None) ⊎ ((after.said ≡ before.said) × IsPrefix before.reader.list list)

  pub record AllSettle (list : List E) (before after : List (Work J E C Q F A)) : Type 0 where
    pub count : length after ≡ length before
    pub each : (k : ℕ) (d : Work J E C Q F A) → k < length before → Settles list (slice_index_or before k d) (slice_index_or after k d)

module _ {J E C Q F A : Type 0} (version_of : E → ℕ) (gives : E → Q → A → Type 0) where
  -- what was said, if anything was, answers these questions for entries of this list, from this place on
  abbrev pub HasSaid : {X Y : Type 0} → List E → ℕ → List Q → Option (Result (Vec (Said J E C Q F A) X) Y) → Type 0
  HasSaid list from questions said = IfSome said (λ r. IfOk r (λ v. Answers version_of gives list from questions (map (λ s. (s.version, s.answer)) v.items)))

  -- the lane with this number has run
  pub record Ran {Z : Type 0} (before after : Work J E C Q F A) (lanes : List (Vec Q Z)) (number : ℕ) : Type 0 where
    pub reader : GoesOn before.reader after.reader
    pub said : (e : Vec Q Z) → number < length lanes → HasSaid after.reader.list (length before.reader.list - 1) (slice_index_or lanes number e).items after.said

  -- all lanes have run
  pub record Worked {Z : Type 0} (before after : List (Work J E C Q F A)) (lanes : List (Vec Q Z)) : Type 0 where
    pub count : length after ≡ length before
    pub each : (k : ℕ) (d : Work J E C Q F A) → k < length before → Ran (slice_index_or before k d) (slice_index_or after k d) lanes k

  -- each lane that has said something answers its questions for entries of this list, from this place on
  pub record AllSaid {Z : Type 0} (list : List E) (from : ℕ) (works : List (Work J E C Q F A)) (lanes : List (Vec Q Z)) : Type 0 where
    pub each : (k : ℕ) (d : Work J E C Q F A) (e : Vec Q Z) → k < length works → k < length lanes → HasSaid list from (slice_index_or lanes k e).items (slice_index_or works k d).said
