-- What a text is read as has no more values in it than the text has tokens, since each of them takes one; so a list in it has no more items than the text has bytes.
use Rattle.std.proofs.Common.{◌≡◌, ◌≤◌, ◌<◌, ◌+◌, ℕ, zero, suc, List, [], ◌∷◌, length, Option, Some, None, IfSome, option_map, option_and_then, Ordering, Less, Equal, Greater, refl, subst, arith}
use Rattle.std.proofs.lemmas.Option.{same_Some}
use Rattle.std.specs.Ordering.{nat_cmp, match_ordering}
use Rattle.std.specs.Cmp.Lexicographic.{slice_cmp}
use Rattle.json.specs.Token.{Token}
use Rattle.json.specs.Lex.{tokens}
use Rattle.json.specs.Json as json
use Rattle.serde_json.specs.Data.{Data, null, boolean, number, string, array, object, Items, no_items, item, Members, no_members, member, put}
use Rattle.serde_json.specs.Find.{get, get_member, as_array}
use Rattle.serde_json.specs.Read.{number_of, of_json, of_items, of_members, max_depth, read}
use Rattle.plan_wire.specs.Reading.{list_of}
use Rattle.plan_wire.proofs.Tokens.{length-tokens}

-- how many values are in a value, it being one of them
abbrev mutual
  pub values : Data → ℕ
  values null = 1
  values (boolean b) = 1
  values (number n) = 1
  values (string s) = 1
  values (array ds) = 1 + item_values ds
  values (object ms) = 1 + member_values ms

  pub item_values : Items → ℕ
  item_values no_items = 0
  item_values (item d ds) = values d + item_values ds

  pub member_values : Members → ℕ
  member_values no_members = 0
  member_values (member k d ms) = values d + member_values ms

-- and how many are in one of the grammar
abbrev mutual
  read_values : json.Json → ℕ
  read_values json.null = 1
  read_values (json.boolean b) = 1
  read_values (json.number s) = 1
  read_values (json.string s) = 1
  read_values (json.array js) = 1 + read_item_values js
  read_values (json.object ms) = 1 + read_member_values ms

  read_item_values : json.Items → ℕ
  read_item_values json.no_items = 0
  read_item_values (json.item j js) = read_values j + read_item_values js

  read_member_values : json.Members → ℕ
  read_member_values json.no_members = 0
  read_member_values (json.member k j ms) = read_values j + read_member_values ms

-- ---- the grammar takes a token for each value

-- what is read, and the tokens behind it, are at most so many
abbrev Takes : {A : Type 0} → (A → ℕ) → ℕ → Option (A × List Token) → Type 0
Takes size n o = IfSome o (λ p. size p.0 + length p.1 ≤ n)

abbrev TakesEach : {A : Type 0} → (A → ℕ) → json.Parse A → Type 0
TakesEach size parse = (ts : List Token) → Takes size (length ts) (parse ts)

one_more : {A : Type 0} (size : A → ℕ) (n : ℕ) (h : A → json.Json) → ((a : A) → read_values (h a) ≡ 1 + size a) → (o : Option (A × List Token)) → Takes size n o → Takes read_values (suc n) (json.parse_map h o)
one_more size n h is None taken = tt
one_more size n h is (Some p) taken = omega (arith, is p.0)

behind : {A : Type 0} (size : A → ℕ) (n m : ℕ) (j : json.Json) (h : A → A) → ((a : A) → size (h a) ≡ read_values j + size a) → (o : Option (A × List Token)) → Takes size m o → read_values j + m ≤ n → Takes size n (json.parse_map h o)
behind size n m j h is None taken within = tt
behind size n m j h is (Some p) taken within = omega (arith, is p.0)

and_more : {A : Type 0} (size : A → ℕ) (m n : ℕ) (h : json.Json → A → A) → ((j : json.Json) (a : A) → size (h j a) ≡ read_values j + size a) → (more : json.Parse A) → TakesEach size more
    → m ≤ n → (o : Option (json.Json × List Token)) → Takes read_values m o → Takes size n (option_and_then (λ q. json.parse_map (h q.0) (more q.1)) o)
and_more size m n h is more each shorter None taken = tt
and_more size m n h is more each shorter (Some q) taken = behind size n (length q.1) q.0 (h q.0) (is q.0) (more q.1) (each q.1) (omega arith)

after_end : (ts : List Token) → IfSome (json.after_end_array ts) (λ rest. length rest ≤ length ts)
after_end [] = tt
after_end (Token.begin_object ∷ ts) = tt
after_end (Token.end_object ∷ ts) = tt
after_end (Token.begin_array ∷ ts) = tt
after_end (Token.end_array ∷ ts) = omega arith
after_end (Token.key s ∷ ts) = tt
after_end (Token.string s ∷ ts) = tt
after_end (Token.number s ∷ ts) = tt
after_end (Token.boolean b ∷ ts) = tt
after_end (Token.null ∷ ts) = tt
after_end (Token.bad ∷ ts) = tt

after_key : (ts : List Token) → IfSome (json.read_key ts) (λ p. length p.1 ≤ length ts)
after_key [] = tt
after_key (Token.begin_object ∷ ts) = tt
after_key (Token.end_object ∷ ts) = omega arith
after_key (Token.begin_array ∷ ts) = tt
after_key (Token.end_array ∷ ts) = tt
after_key (Token.key s ∷ ts) = omega arith
after_key (Token.string s ∷ ts) = tt
after_key (Token.number s ∷ ts) = tt
after_key (Token.boolean b ∷ ts) = tt
after_key (Token.null ∷ ts) = tt
after_key (Token.bad ∷ ts) = tt

module _ (p : json.Parse json.Json) (each : TakesEach read_values p) where
  item_turn : (more : json.Parse json.Items) → TakesEach read_item_values more → (ts : List Token) (o : Option (List Token)) → IfSome o (λ rest. length rest ≤ length ts) → Takes read_item_values (length ts) (json.items_step p more ts o)
  item_turn more again ts (Some rest) shorter = omega arith
  item_turn more again ts None shorter = and_more read_item_values (length ts) (length ts) json.item (λ j a. refl) more again (omega arith) (p ts) (each ts)

  items_take : (n : ℕ) → TakesEach read_item_values (json.items p n)
  unfolding json.items
  items_take zero ts = tt
  items_take (suc n) ts = item_turn (json.items p n) (items_take n) ts (json.after_end_array ts) (after_end ts)

  member_turn : (more : json.Parse json.Members) → TakesEach read_member_values more → (m : ℕ) (o : Option (Option (List ℕ) × List Token)) → IfSome o (λ q. length q.1 ≤ m) → Takes read_member_values m (option_and_then (λ q. json.members_step p more q.0 q.1) o)
  member_turn more again m None shorter = tt
  member_turn more again m (Some (None, ts)) shorter = omega arith
  member_turn more again m (Some (Some k, ts)) shorter = and_more read_member_values (length ts) m (json.member k) (λ j a. refl) more again shorter (p ts) (each ts)

  members_take : (n : ℕ) → TakesEach read_member_values (json.members p n)
  unfolding json.members
  members_take zero ts = tt
  members_take (suc n) ts = member_turn (json.members p n) (members_take n) (length ts) (json.read_key ts) (after_key ts)

one_level : (a : json.Parse json.Items) (o : json.Parse json.Members) → TakesEach read_item_values a → TakesEach read_member_values o → TakesEach read_values (json.value_with a o)
one_level a o items members [] = tt
one_level a o items members (Token.begin_object ∷ ts) = one_more read_member_values (length ts) json.object (λ ms. refl) (o ts) (members ts)
one_level a o items members (Token.end_object ∷ ts) = tt
one_level a o items members (Token.begin_array ∷ ts) = one_more read_item_values (length ts) json.array (λ js. refl) (a ts) (items ts)
one_level a o items members (Token.end_array ∷ ts) = tt
one_level a o items members (Token.key s ∷ ts) = tt
one_level a o items members (Token.string s ∷ ts) = omega arith
one_level a o items members (Token.number s ∷ ts) = omega arith
one_level a o items members (Token.boolean b ∷ ts) = omega arith
one_level a o items members (Token.null ∷ ts) = omega arith
one_level a o items members (Token.bad ∷ ts) = tt

value_takes : (depth : ℕ) → TakesEach read_values (json.value depth)
unfolding json.value
value_takes zero = one_level (λ ts. None) (λ ts. None) (λ ts. tt) (λ ts. tt)
value_takes (suc depth) =
    one_level (λ ts. json.items (json.value depth) (length ts) ts) (λ ts. json.members (json.value depth) (length ts) ts)
    (λ ts. items_take (json.value depth) (value_takes depth) (length ts) ts) (λ ts. members_take (json.value depth) (value_takes depth) (length ts) ts)

-- ---- what is kept of them is no more

abbrev Keeps : {A : Type 0} → (A → ℕ) → ℕ → Option A → Type 0
Keeps size n o = IfSome o (λ a. size a ≤ n)

mapped_on : {A B : Type 0} (f : A → ℕ) (g : B → ℕ) (m n : ℕ) (h : A → B) → ((a : A) → f a ≤ m → g (h a) ≤ n) → (o : Option A) → Keeps f m o → Keeps g n (option_map h o)
mapped_on f g m n h k None x = tt
mapped_on f g m n h k (Some a) x = k a x

then : {A B : Type 0} (f : A → ℕ) (g : B → ℕ) (m n : ℕ) (h : A → Option B) → ((a : A) → f a ≤ m → Keeps g n (h a)) → (o : Option A) → Keeps f m o → Keeps g n (option_and_then h o)
then f g m n h k None x = tt
then f g m n h k (Some a) x = k a x

anything : {A : Type 0} (o : Option A) → Keeps (λ _. 0) 0 o
anything None = tt
anything (Some a) = omega arith

by_order : (o : Ordering) (a b c : Members) (n : ℕ) → member_values a ≤ n → member_values b ≤ n → member_values c ≤ n → member_values (match_ordering o a b c) ≤ n
by_order Less a b c n p q r = p
by_order Equal a b c n p q r = q
by_order Greater a b c n p q r = r

put_adds : (k : List ℕ) (d : Data) (ms : Members) → member_values (put k d ms) ≤ values d + member_values ms
put_adds k d no_members = omega arith
put_adds k d (member l e ms) =
    by_order (slice_cmp nat_cmp k l) (member k d (member l e ms)) (member l d ms) (member l e (put k d ms)) (values d + (values e + member_values ms)) (omega arith) (omega arith) (omega (arith, put_adds k d ms))

mutual
  kept : (j : json.Json) → Keeps values (read_values j) (of_json j)
  kept json.null = omega arith
  kept (json.boolean b) = omega arith
  kept (json.number s) = mapped_on (λ _. 0) values 0 1 number (λ a x. omega arith) (number_of s) (anything _)
  kept (json.string s) = omega arith
  kept (json.array js) = mapped_on item_values values (read_item_values js) (1 + read_item_values js) array (λ a x. omega arith) (of_items js) (items_kept js)
  kept (json.object ms) = mapped_on member_values values (read_member_values ms) (1 + read_member_values ms) object (λ a x. omega arith) (of_members ms no_members) (members_kept ms no_members (read_member_values ms) (omega arith))

  items_kept : (js : json.Items) → Keeps item_values (read_item_values js) (of_items js)
  items_kept json.no_items = omega arith
  items_kept (json.item j js) =
      then values item_values (read_values j) (read_values j + read_item_values js) _ (λ d x. mapped_on item_values item_values (read_item_values js) (read_values j + read_item_values js) (item d) (λ ds y. omega arith) (of_items js) (items_kept js)) (of_json j) (kept j)

  members_kept : (ms : json.Members) (found : Members) (n : ℕ) → member_values found + read_member_values ms ≤ n → Keeps member_values n (of_members ms found)
  members_kept json.no_members found n within = omega arith
  members_kept (json.member k j ms) found n within =
      then values member_values (read_values j) n _ (λ d x. members_kept ms (put k d found) n (omega (arith, put_adds k d found))) (of_json j) (kept j)

last_kept : (n : ℕ) (o : Option (json.Json × List Token)) → Takes read_values n o → Keeps values n (option_and_then of_json (option_and_then (λ p. json.if_last p.0 p.1) o))
last_kept n None taken = tt
last_kept n (Some (j, [])) taken = looser (of_json j) (kept j)
  where
    looser : (o : Option Data) → Keeps values (read_values j) o → Keeps values n o
    looser None within = tt
    looser (Some d) within = omega arith
last_kept n (Some (j, t ∷ ts)) taken = tt

values_read : (text : List ℕ) → Keeps values (length (tokens text)) (read text)
values_read text = last_kept (length (tokens text)) (json.value max_depth (tokens text)) (value_takes max_depth (tokens text))

-- what a text is read as has at most one value more in it than the text has bytes
pub values_of_text : (text : List ℕ) (d : Data) → read text ≡ Some d → values d ≤ suc (length text)
values_of_text text d found =
    let kept : Keeps values (length (tokens text)) (Some d) = subst (Keeps values (length (tokens text))) found (values_read text) in
    omega (arith, length-tokens text)

-- ---- and what is found in it is less

in_member : (k : List ℕ) (ms : Members) → Keeps values (member_values ms) (get_member k ms)
in_member k no_members = tt
in_member k (member l e ms) = chosen (slice_cmp nat_cmp k l) (get_member k ms) (in_member k ms)
  where
    chosen : (o : Ordering) (rest : Option Data) → Keeps values (member_values ms) rest → Keeps values (values e + member_values ms) (match_ordering o rest (Some e) rest)
    chosen Less None within = tt
    chosen Less (Some d) within = omega arith
    chosen Equal rest within = omega arith
    chosen Greater None within = tt
    chosen Greater (Some d) within = omega arith

-- the value of a member has fewer values in it
pub member_has_fewer : (k : List ℕ) (v d : Data) → get k v ≡ Some d → values d < values v
member_has_fewer k null d found = cc
member_has_fewer k (boolean b) d found = cc
member_has_fewer k (number n) d found = cc
member_has_fewer k (string s) d found = cc
member_has_fewer k (array ds) d found = cc
member_has_fewer k (object ms) d found =
    let within : Keeps values (member_values ms) (Some d) = subst (Keeps values (member_values ms)) found (in_member k ms) in
    omega arith

one_at_least : (d : Data) → 1 ≤ values d
one_at_least null = omega arith
one_at_least (boolean b) = omega arith
one_at_least (number n) = omega arith
one_at_least (string s) = omega arith
one_at_least (array ds) = omega arith
one_at_least (object ms) = omega arith

items_are_few : (ds : Items) → length (list_of ds) ≤ item_values ds
items_are_few no_items = omega arith
items_are_few (item d ds) = omega (arith, one_at_least d, items_are_few ds)

-- so a list has fewer items than there are values in it
pub elements_are_few : (v : Data) (vs : List Data) → option_map list_of (as_array v) ≡ Some vs → length vs < values v
elements_are_few null vs found = cc
elements_are_few (boolean b) vs found = cc
elements_are_few (number n) vs found = cc
elements_are_few (string s) vs found = cc
elements_are_few (array ds) vs found =
    let is : list_of ds ≡ vs = same_Some _ _ found in
    rw (← is) (omega (arith, items_are_few ds))
elements_are_few (object ms) vs found = cc
