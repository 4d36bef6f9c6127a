-- What a read takes and a write adds, where the bytes are told, and when a count of faults has risen.
use Rattle.std.specs.Prelude.{◌≡◌, ℕ, ◌+◌, ◌-◌, ◌^◌, ◌<◌, ◌≤◌, List, [], ◌++◌, length, take, drop, Option, Some, None, MatchOption, IfSome, option_map, min}

-- a count of faults after one more; at its type's end it stands still
abbrev pub count_after : ℕ → ℕ
count_after before = min (before + 1) (2 ^ 64 - 1)

-- the count rose, by one fault at least
abbrev pub Rose : ℕ → ℕ → Type 0
Rose before now = count_after before ≤ now

-- the count rose by one fault
abbrev pub RoseByOne : ℕ → ℕ → Type 0
RoseByOne before now = now ≡ count_after before

-- the first n of the bytes go into the room, and the others are left; none go into a room only where none are left
pub record TakesBytes (bytes : List ℕ) (after : Option (List ℕ)) (room : List ℕ) (n : ℕ) : Type 0 where
  pub there : n ≤ length bytes
  pub read : take n room ≡ take n bytes
  pub left : after ≡ Some (drop n bytes)
  pub at_end : n ≡ 0 → 0 < length room → bytes ≡ []

-- the same where the bytes are told; where they are not, they are not told afterwards
abbrev pub TakesNext : Option (List ℕ) → Option (List ℕ) → List ℕ → ℕ → Type 0
TakesNext before after room n = MatchOption before (after ≡ None) (λ bytes. TakesBytes bytes after room n)

-- the text is added to what was written, where that is told
abbrev pub Appends : Option (List ℕ) → Option (List ℕ) → List ℕ → Type 0
Appends before after text = after ≡ option_map (λ bytes. bytes ++ text) before

-- a front of the text, perhaps none of it, is added to what was written, where that is told
abbrev pub AppendsPart : Option (List ℕ) → Option (List ℕ) → List ℕ → Type 0
AppendsPart before after text = (n : ℕ) × (n ≤ length text) × Appends before after (take n text)

-- at most so many of the bytes are taken from the front, where they are told
abbrev pub TakesAtMost : ℕ → Option (List ℕ) → Option (List ℕ) → Type 0
TakesAtMost most before after = IfSome before (λ bytes. (n : ℕ) × (n ≤ most) × (after ≡ Some (drop n bytes)))

-- the text is what is taken from the front, where the bytes are told
abbrev pub Takes : Option (List ℕ) → Option (List ℕ) → List ℕ → Type 0
Takes before after text = before ≡ option_map (λ rest. text ++ rest) after
