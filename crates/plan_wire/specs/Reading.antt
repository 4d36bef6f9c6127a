-- How a value of JSON is read at its place: as what it stands for, or as the first refusal. Each kind of value has one reader here;
-- a document is made of them.
use Rattle.std.specs.Prelude.{ℕ, ◌+◌, ◌&&◌, Bool, true, false, ℤ, int_le, nat_le, nat_eq, List, [], ◌∷◌, ◌++◌, length, codes, Option, Some, None, option_map, option_and_then, is_some, if◌then◌else◌, Result, Ok, Err}
use Rattle.std.specs.Fmt.{decimal}
use Rattle.serde_json.specs.Data.{Data, Items, no_items, item}
use Rattle.serde_json.specs.Find.{get, as_number, as_i64, as_array, as_object}

-- why a document is refused; a place is told by its path, `$`, then `.name` for a member and `[i]` for an element, counted from 0
pub data Refusal : Type 0 where
  too_long : Refusal
  json : Refusal
  form : List ℕ → Refusal
  range : List ℕ → Refusal

-- what is read, or the first refusal
abbrev pub Read : Type 0 → Type 0
Read A = Result A Refusal

-- a value is read at the place of this path
abbrev pub Reader : Type 0 → Type 0
Reader A = List ℕ → Data → Read A

-- ---- places

abbrev pub at_member : List ℕ → List ℕ → List ℕ
at_member place name = place ++ codes "." ++ name

abbrev pub at_element : List ℕ → ℕ → List ℕ
at_element place i = place ++ codes "[" ++ decimal i ++ codes "]"

-- ---- one after another

-- what is read, and then what f reads
abbrev pub bind : {A B : Type 0} → Read A → (A → Read B) → Read B
bind (Ok a) f = f a
bind (Err r) f = Err r

-- what f makes of what is read
abbrev pub made : {A B : Type 0} → (A → B) → Read A → Read B
made f o = bind o (λ a. Ok (f a))

-- the value, where there is one
abbrev pub some_or : {A : Type 0} → Refusal → Option A → Read A
some_or r None = Err r
some_or r (Some a) = Ok a

-- the value, where it passes the test
abbrev pub tested : {A : Type 0} → (A → Bool) → Refusal → A → Read A
tested test r a = if test a then Ok a else Err r

-- ---- whole numbers

unfoldable pub integer : Reader ℤ
integer place v = some_or (form place) (option_and_then as_i64 (as_number v))

-- from low to high
unfoldable pub whole : ℤ → ℤ → Reader ℤ
whole low high place v = bind (integer place v) (tested (λ z. int_le low z && int_le z high) (range place))

-- ---- lists

abbrev pub list_of : Items → List Data
list_of no_items = []
list_of (item v vs) = v ∷ list_of vs

unfoldable pub elements : Reader (List Data)
elements place v = some_or (form place) (option_map list_of (as_array v))

-- each of them, the first at the number i
abbrev pub each : {A : Type 0} → Reader A → List ℕ → ℕ → List Data → Read (List A)
each f place i [] = Ok []
each f place i (v ∷ vs) = bind (f (at_element place i) v) (λ a. made (λ rest. a ∷ rest) (each f place (i + 1) vs))

-- a list of n, each read by f: another length breaks the form
abbrev pub list_of_exactly : {A : Type 0} → ℕ → Reader A → Reader (List A)
list_of_exactly n f place v = bind (bind (elements place v) (tested (λ vs. nat_eq (length vs) n) (form place))) (each f place 0)

-- a list of low to high, each read by f: another length breaks the range
abbrev pub list_of_between : {A : Type 0} → ℕ → ℕ → Reader A → Reader (List A)
list_of_between low high f place v = bind (bind (elements place v) (tested (λ vs. nat_le low (length vs) && nat_le (length vs) high) (range place))) (each f place 0)

-- a list of any number, each read by f
abbrev pub list_of_any : {A : Type 0} → Reader A → Reader (List A)
list_of_any f place v = bind (elements place v) (each f place 0)

-- ---- objects

-- the value, where it is an object
unfoldable pub object : Reader Data
object place v = tested (λ v. is_some (as_object v)) (form place) v

-- the member of this name, read by f; where it is missing, its own place breaks the form
abbrev pub member : {A : Type 0} → List ℕ → Reader A → Reader A
member name f place v = bind (some_or (form (at_member place name)) (get name v)) (f (at_member place name))

-- exactly one of two members is there, whatever its value: whether it is the first
abbrev pub one_of : List ℕ → List ℕ → Reader Bool
one_of name other place v = only (is_some (get name v)) (is_some (get other v))
  where
    only : Bool → Bool → Read Bool
    only true false = Ok true
    only false true = Ok false
    only _ _ = Err (form place)
