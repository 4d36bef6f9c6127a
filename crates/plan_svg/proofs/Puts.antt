-- Texts of a list that are put one after another.
use Rattle.std.proofs.Common.{◌≡◌, ℕ, ◌+◌, ◌-◌, ◌<◌, ◌≤◌, List, [], ◌∷◌, ◌++◌, length, get_or, drop, map, refl, sym, ap, ◌∙◌, arith, append_assoc, append-nil}
use Rattle.std.specs.List.{join_by, flat_map}
use Rattle.std.proofs.lemmas.List.{drop_more, drop_all, take_all}
use Rattle.plan_wire.proofs.Puts.{others}

-- one that is put goes to the end of what was put
pub put_next : {A : Type 0} (text : A → List ℕ) (begun out next : List ℕ) (xs : List A) (i : ℕ) (x : A) → i < length xs → x ≡ get_or xs i x → next ≡ out ++ text x
    → out ++ flat_map text (drop i xs) ≡ begun → next ++ flat_map text (drop (i + 1) xs) ≡ begun
put_next text begun out next xs i x within is put h =
    ap (λ l. l ++ flat_map text (drop (i + 1) xs)) put
    ∙ append_assoc out (text x) (flat_map text (drop (i + 1) xs))
    ∙ ap (λ l. out ++ flat_map text l) (sym (drop_more xs i x within ∙ ap (λ y. y ∷ drop (i + 1) xs) (sym is))) ∙ h

-- where nothing is left, all is put
pub all_put : {A : Type 0} (text : A → List ℕ) (begun out : List ℕ) (xs : List A) (i : ℕ) → length xs ≤ i → out ++ flat_map text (drop i xs) ≡ begun → out ≡ begun
all_put text begun out xs i all h = sym (append-nil out) ∙ ap (λ l. out ++ flat_map text l) (sym (drop_all i xs all)) ∙ h

-- the texts of what is seen of each
pub of_seen : {A B : Type 0} (text : B → List ℕ) (seen : A → B) (xs : List A) → flat_map (λ x. text (seen x)) xs ≡ flat_map text (map seen xs)
of_seen text seen [] = refl
of_seen text seen (x ∷ xs) = ap (λ s. text (seen x) ++ s) (of_seen text seen xs)

-- ---- with a text between each and the next
-- each with it before
abbrev pub behind : {A : Type 0} → (A → List ℕ) → List ℕ → A → List ℕ
behind text between x = between ++ text x

pub joined_seen : {A B : Type 0} (text : B → List ℕ) (between : List ℕ) (seen : A → B) (xs : List A) → join_by (λ x. text (seen x)) between xs ≡ join_by text between (map seen xs)
joined_seen text between seen [] = refl
joined_seen text between seen (x ∷ xs) = ap (λ s. text (seen x) ++ s) (of_seen (behind text between) seen xs)

-- where nothing is left behind the first, all is put
pub all_joined : {A : Type 0} (text : A → List ℕ) (between before begun out : List ℕ) (xs : List A) (x : A) (i : ℕ) → 1 ≤ length xs → x ≡ get_or xs 0 x → begun ≡ before ++ text x → length (others xs) ≤ i
    → out ++ flat_map (behind text between) (drop i (others xs)) ≡ begun ++ flat_map (behind text between) (others xs) → out ≡ before ++ join_by text between xs
all_joined text between before begun out [] x i some is first all h = absurd (omega arith)
all_joined text between before begun out (y ∷ ys) x i some is first all h =
    all_put (behind text between) (begun ++ flat_map (behind text between) (others (y ∷ ys))) out (others (y ∷ ys)) i all h
    ∙ ap (λ l. l ++ flat_map (behind text between) (others (y ∷ ys))) (first ∙ ap (λ z. before ++ text z) is)
    ∙ ap (λ l. (before ++ text y) ++ flat_map (behind text between) l) (take_all (length (y ∷ ys) - 1) ys (omega arith))
    ∙ append_assoc before (text y) (flat_map (behind text between) ys)

-- ---- one text behind another
pub put_two : (a t u b c : List ℕ) → b ≡ a ++ t → c ≡ b ++ u → c ≡ a ++ (t ++ u)
put_two a t u b c e f = f ∙ ap (λ l. l ++ u) e ∙ append_assoc a t u

pub put_three : (a t u v b c d : List ℕ) → b ≡ a ++ t → c ≡ b ++ u → d ≡ c ++ v → d ≡ a ++ (t ++ u ++ v)
put_three a t u v b c d e f g = put_two a (t ++ u) v c d (put_two a t u b c e f) g

pub put_four : (a t u v w b c d e : List ℕ) → b ≡ a ++ t → c ≡ b ++ u → d ≡ c ++ v → e ≡ d ++ w → e ≡ a ++ (t ++ u ++ v ++ w)
put_four a t u v w b c d e f g h i = put_two a (t ++ u ++ v) w d e (put_three a t u v b c d f g h) i
