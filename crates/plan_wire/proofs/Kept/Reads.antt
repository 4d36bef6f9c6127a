-- What is read keeps to the bounds that its reader tests: from what was read, its parts and the tests that they passed; for lists,
-- members and whole numbers.
use Rattle.std.proofs.Common.{◌≡◌, ◌≤◌, ◌+◌, ℕ, suc, ℤ, pos, neg_ℤ, int_le, nat_le, nat_eq, unsigned_abs, Bool, true, false, ◌&&◌, List, [], ◌∷◌, length, map, All, Option, None, Some, if◌then◌else◌, Ok, Err, refl, sym, ap, ◌∙◌, arith}
use Rattle.std.proofs.lemmas.Bool.{leb-true, and_parts}
use Rattle.std.proofs.lemmas.Bool.Decides.{nat_tests}
use Rattle.std.proofs.lemmas.Int.{ints}
use Rattle.std.proofs.lemmas.List.{length-map}
use Rattle.std.proofs.lemmas.List.Elements.{All-nil, All-cons}
use Rattle.serde_json.specs.Data.{Data}
use Rattle.serde_json.specs.Find.{get}
use Rattle.plan_plane.proofs.Lists.{all_map}
use Rattle.plan_wire.specs.Reading.{Refusal, Read, Reader, range, form, at_member, at_element, bind, made, some_or, tested, integer, whole, elements, each, list_of_between, list_of_any, member}
use Rattle.plan_wire.specs.Documents.{numbers}

-- ---- one after another

pub bind_ok : {A B P : Type 0} (o : Read A) (f : A → Read B) (b : B) → bind o f ≡ Ok b → ((a : A) → o ≡ Ok a → f a ≡ Ok b → P) → P
bind_ok (Err r) f b h k = absurd cc
bind_ok (Ok a) f b h k = k a refl h

pub same_ok : {A : Type 0} (a b : A) → (let o : Read A = Ok a in o) ≡ Ok b → a ≡ b
same_ok a b h = cc

pub made_ok : {A B P : Type 0} (f : A → B) (o : Read A) (b : B) → made f o ≡ Ok b → ((a : A) → o ≡ Ok a → f a ≡ b → P) → P
made_ok f (Err r) b h k = absurd cc
made_ok f (Ok a) b h k = k a refl (same_ok (f a) b h)

pub tested_ok : {A : Type 0} (test : A → Bool) (r : Refusal) (a b : A) → tested test r a ≡ Ok b → (test a ≡ true) × (a ≡ b)
tested_ok test r a b h = by_test (test a) h
  where
    by_test : (t : Bool) → (if t then Ok a else Err r) ≡ Ok b → (t ≡ true) × (a ≡ b)
    by_test true e = (refl, same_ok a b e)
    by_test false e = absurd cc

pub some_or_ok : {A : Type 0} (r : Refusal) (o : Option A) (a : A) → some_or r o ≡ Ok a → o ≡ Some a
some_or_ok r None a h = absurd cc
some_or_ok r (Some b) a h = ap Some (same_ok b a h)

-- ---- readers

-- what f reads keeps P, as it is seen
abbrev pub Keeps : {X B : Type 0} → (X → Type 0) → Reader B → (X → B) → Type 0
Keeps {X = X} P f seen = (place : List ℕ) (v : Data) (x : X) → f place v ≡ Ok (seen x) → P x

-- the same of a value of the definition, whatever is seen as it
abbrev Seen : {X B : Type 0} → (X → Type 0) → (X → B) → B → Type 0
Seen P seen b = (x : _) → b ≡ seen x → P x

each_all : {B : Type 0} (Q : B → Type 0) (f : Reader B) → ((place : List ℕ) (v : Data) (b : B) → f place v ≡ Ok b → Q b) → (place : List ℕ) (i : ℕ) (vs : List Data) (bs : List B) → each f place i vs ≡ Ok bs → All Q bs × (length bs ≡ length vs)
each_all Q f keeps place i [] bs h = let e : [] ≡ bs = same_ok [] bs h in rw (← e) (All-nil Q, refl)
each_all Q f keeps place i (v ∷ vs) bs h =
    bind_ok (f (at_element place i) v) (λ a. made (λ rest. a ∷ rest) (each f place (i + 1) vs)) bs h (λ a a_read rest_read.
    made_ok (λ rest. a ∷ rest) (each f place (i + 1) vs) bs rest_read (λ rest read is.
    let others = each_all Q f keeps place (i + 1) vs rest read in
    rw (← is) (All-cons Q a rest (keeps (at_element place i) v a a_read) others.0, ap suc others.1)))

pub each_keeps : {X B : Type 0} (P : X → Type 0) (f : Reader B) (seen : X → B) → Keeps P f seen → (place : List ℕ) (i : ℕ) (vs : List Data) (xs : List X) → each f place i vs ≡ Ok (map seen xs) → All P xs × (length xs ≡ length vs)
each_keeps P f seen keeps place i vs xs h =
    let all = each_all (Seen P seen) f (λ p v b read x is. keeps p v x (read ∙ ap Ok is)) place i vs (map seen xs) h in
    let each_of = all_map (Seen P seen) seen xs all.0 in
    (λ k d within. each_of k d within _ refl, sym (length-map xs seen) ∙ all.1)

-- a list of low to high has so many
pub between_keeps : {X B : Type 0} (P : X → Type 0) (f : Reader B) (seen : X → B) → Keeps P f seen → (low high : ℕ) → Keeps (λ xs. (low ≤ length xs) × (length xs ≤ high) × All P xs) (list_of_between low high f) (map seen)
between_keeps P f seen keeps low high place v xs h =
    bind_ok (bind (elements place v) (tested (λ vs. nat_le low (length vs) && nat_le (length vs) high) (range place))) (each f place 0) (map seen xs) h (λ vs passed read.
    bind_ok (elements place v) (tested (λ vs. nat_le low (length vs) && nat_le (length vs) high) (range place)) vs passed (λ ws _ test.
    let t = tested_ok (λ vs. nat_le low (length vs) && nat_le (length vs) high) (range place) ws vs test in
    let bounds = and_parts (nat_le low (length vs)) (nat_le (length vs) high) (rw (← t.1) t.0) in
    let kept = each_keeps P f seen keeps place 0 vs xs read in
    (rw kept.1 (leb-true low (length vs) bounds.0), rw kept.1 (leb-true (length vs) high bounds.1), kept.0)))

-- a list of any number has as many as it has elements
pub any_keeps : {X B : Type 0} (P : X → Type 0) (f : Reader B) (seen : X → B) → Keeps P f seen → (place : List ℕ) (v : Data) (xs : List X) → list_of_any f place v ≡ Ok (map seen xs) → (vs : List Data) × (elements place v ≡ Ok vs) × (length xs ≡ length vs) × All P xs
any_keeps P f seen keeps place v xs h =
    bind_ok (elements place v) (each f place 0) (map seen xs) h (λ vs are read.
    let kept = each_keeps P f seen keeps place 0 vs xs read in
    (vs, are, kept.1, kept.0))

-- what is read of a member is read of its value
pub member_ok : {B P : Type 0} (name : List ℕ) (f : Reader B) (place : List ℕ) (v : Data) (b : B) → member name f place v ≡ Ok b → ((d : Data) → get name v ≡ Some d → f (at_member place name) d ≡ Ok b → P) → P
member_ok name f place v b h k =
    bind_ok (some_or (form (at_member place name)) (get name v)) (f (at_member place name)) b h (λ d found read.
    k d (some_or_ok (form (at_member place name)) (get name v) d found) read)

-- ---- whole numbers

pub whole_ok : (low high : ℤ) (place : List ℕ) (v : Data) (z : ℤ) → whole low high place v ≡ Ok z → (int_le low z ≡ true) × (int_le z high ≡ true)
unfolding whole
whole_ok low high place v z h =
    bind_ok (integer place v) (tested (λ z. int_le low z && int_le z high) (range place)) z h (λ y _ test.
    let t = tested_ok (λ z. int_le low z && int_le z high) (range place) y z test in
    and_parts (int_le low z) (int_le z high) (rw (← t.1) t.0))

bounded : (limit : ℕ) (z : ℤ) → int_le (neg_ℤ (pos limit)) z ≡ true → int_le z (pos limit) ≡ true → unsigned_abs z ≤ limit
bounded limit z low high = grind (arith, ints)

-- n numbers of at most the limit in absolute value
pub numbers_ok : (n limit : ℕ) (place : List ℕ) (v : Data) (zs : List ℤ) → numbers n limit place v ≡ Ok zs → All (λ z. unsigned_abs z ≤ limit) zs × (length zs ≡ n)
numbers_ok n limit place v zs h =
    let f = whole (neg_ℤ (pos limit)) (pos limit) in
    bind_ok (bind (elements place v) (tested (λ vs. nat_eq (length vs) n) (form place))) (each f place 0) zs h (λ vs passed read.
    bind_ok (elements place v) (tested (λ vs. nat_eq (length vs) n) (form place)) vs passed (λ ws _ test.
    let t = tested_ok (λ vs. nat_eq (length vs) n) (form place) ws vs test in
    let passes : nat_eq (length vs) n ≡ true = rw (← t.1) t.0 in
    let as_many : length vs ≡ n = grind (arith, nat_tests) in
    let kept = each_all (λ z. unsigned_abs z ≤ limit) f (λ p d z z_read. let k = whole_ok (neg_ℤ (pos limit)) (pos limit) p d z z_read in bounded limit z k.0 k.1) place 0 vs zs read in
    (kept.0, kept.1 ∙ as_many)))
