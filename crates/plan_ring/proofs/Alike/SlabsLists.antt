-- Lists that correspond place by place, equal ones among them, and rising lists of numbers with the same members.
use Rattle.std.proofs.Common.{◌≡◌, ◌⊎◌, ◌↔◌, inl, inr, ℕ, zero, suc, ◌<◌, List, [], ◌∷◌, ◌++◌, All, AllPairs, Any, Contains, get_or, length, map, sum_by, refl, sym, ap₂, ◌∙◌, subst, arith}
use Rattle.std.specs.List.{AllZip, flat_map}
use Rattle.std.proofs.lemmas.Bool.{cases_lt, cases_eq}
use Rattle.std.proofs.lemmas.List.{get_or_past}
use Rattle.std.proofs.lemmas.List.Sums.{sum_by-cons}
use Rattle.std.proofs.lemmas.List.Elements.{All-head, All-tail, All-contains_itself, same_from_all_zip}
use Rattle.plan_plane.proofs.Rising.Lists.{IsOrder, same_rising}

pub zip_at : {X Y : Type 0} (R : X → Y → Type 0) (xs : List X) (ys : List Y) (d : X) (e : Y) → R d e → AllZip R xs ys → (k : ℕ) → R (get_or xs k d) (get_or ys k e)
zip_at R [] [] d e r h k = r
zip_at R [] (y ∷ ys) d e r h k = absurd h
zip_at R (x ∷ xs) [] d e r h k = absurd h
zip_at R (x ∷ xs) (y ∷ ys) d e r h zero = h.0
zip_at R (x ∷ xs) (y ∷ ys) d e r h (suc k) = zip_at R xs ys d e r h.1 k

-- each element has P, and so has what is read beyond the end
pub all_at : {X : Type 0} (P : X → Type 0) (xs : List X) (d : X) → P d → All P xs → (k : ℕ) → P (get_or xs k d)
all_at P xs d p h k = elim (cases_lt k (length xs)) [
  | inl less ↦ h k d less
  | inr past ↦ subst P (sym (get_or_past xs k d past)) p
]

-- from the numbers
pub zip_from : {X : Type 0} (R : X → X → Type 0) (d : X) (xs ys : List X) → length xs ≡ length ys → ((k : ℕ) → k < length xs → R (get_or xs k d) (get_or ys k d)) → AllZip R xs ys
zip_from R d [] [] e h = tt
zip_from R d [] (y ∷ ys) e h = absurd (omega arith)
zip_from R d (x ∷ xs) [] e h = absurd (omega arith)
zip_from R d (x ∷ xs) (y ∷ ys) e h = (h 0 (omega arith), zip_from R d xs ys (omega (arith, e)) (λ k within. h (suc k) (omega arith)))

pub zip_trans : {X : Type 0} (R : X → X → Type 0) (P : X → Type 0) → ((x y z : X) → P y → R x y → R y z → R x z) → (xs ys zs : List X) → All P ys → AllZip R xs ys → AllZip R ys zs → AllZip R xs zs
zip_trans R P f [] [] [] h k l = tt
zip_trans R P f [] [] (z ∷ zs) h k l = absurd l
zip_trans R P f [] (y ∷ ys) zs h k l = absurd k
zip_trans R P f (x ∷ xs) [] zs h k l = absurd k
zip_trans R P f (x ∷ xs) (y ∷ ys) [] h k l = absurd l
zip_trans R P f (x ∷ xs) (y ∷ ys) (z ∷ zs) h k l = (f x y z (All-head P y ys h) k.0 l.0, zip_trans R P f xs ys zs (All-tail P y ys h) k.1 l.1)

pub zip_swapped : {X : Type 0} (R : X → X → Type 0) → ((x y : X) → R x y → R y x) → (xs ys : List X) → AllZip R xs ys → AllZip R ys xs
zip_swapped R f [] [] h = tt
zip_swapped R f [] (y ∷ ys) h = absurd h
zip_swapped R f (x ∷ xs) [] h = absurd h
zip_swapped R f (x ∷ xs) (y ∷ ys) h = (f x y h.0, zip_swapped R f xs ys h.1)

pub zip_append : {X : Type 0} (R : X → X → Type 0) (xs ys us vs : List X) → AllZip R xs ys → AllZip R us vs → AllZip R (xs ++ us) (ys ++ vs)
zip_append R [] [] us vs h k = k
zip_append R [] (y ∷ ys) us vs h k = absurd h
zip_append R (x ∷ xs) [] us vs h k = absurd h
zip_append R (x ∷ xs) (y ∷ ys) us vs h k = (h.0, zip_append R xs ys us vs h.1 k)

pub zip_flat : {X Y : Type 0} (R : Y → Y → Type 0) (f g : X → List Y) → ((x : X) → AllZip R (f x) (g x)) → (xs : List X) → AllZip R (flat_map f xs) (flat_map g xs)
zip_flat R f g h [] = tt
zip_flat R f g h (x ∷ xs) = zip_append R (f x) (g x) (flat_map f xs) (flat_map g xs) (h x) (zip_flat R f g h xs)

pub zip_map : {X Y : Type 0} (R : Y → Y → Type 0) (f g : X → Y) → ((x : X) → R (f x) (g x)) → (xs : List X) → AllZip R (map f xs) (map g xs)
zip_map R f g h [] = tt
zip_map R f g h (x ∷ xs) = (h x, zip_map R f g h xs)

-- what corresponds is equal
pub equal_lists : {X : Type 0} (R : X → X → Type 0) (P : X → Type 0) → ((x y : X) → P x → P y → R x y → x ≡ y) → (xs ys : List X) → All P xs → All P ys → AllZip R xs ys → xs ≡ ys
equal_lists R P f [] [] h k e = refl
equal_lists R P f [] (y ∷ ys) h k e = absurd e
equal_lists R P f (x ∷ xs) [] h k e = absurd e
equal_lists R P f (x ∷ xs) (y ∷ ys) h k e = ap₂ (λ z zs. z ∷ zs) (f x y (All-head P x xs h) (All-head P y ys k) e.0) (equal_lists R P f xs ys (All-tail P x xs h) (All-tail P y ys k) e.1)

-- ---- numbers
numbers_in_order : IsOrder (λ n. Unit {0}) (λ i j. i < j) (λ (i j : ℕ). i ≡ j)
numbers_in_order = record {
  refl = λ n hn. refl;
  sym = λ m n hm hn e. sym e;
  trans = λ k m n hk hm hn e f. e ∙ f;
  less = λ k m n hk hm hn h l. omega arith;
  less_equal = λ k m n hk hm hn h e. omega arith;
  equal_less = λ k m n hk hm hn e h. omega arith;
  apart = λ m n hm hn h e. omega arith;
  total = λ m n hm hn. total m n;
}
  where
    total : (m n : ℕ) → (m < n) ⊎ ((m ≡ n) ⊎ (n < m))
    total m n = elim (cases_lt m n) [
      | inl less ↦ inl less
      | inr past ↦ elim (cases_eq m n) [
        | inl same ↦ inr (inl same)
        | inr apart ↦ inr (inr (omega arith))
      ]
    ]

members_in : (ms ns : List ℕ) → ((n : ℕ) → Contains ms n → Contains ns n) → All (λ m. Any (λ n. m ≡ n) ns) ms
members_in ms ns h k d within = let (j, below, is) = h (get_or ms k d) (All-contains_itself ms k d within) in (j, get_or ms k d, below, is, refl)

pub one_rising_list : (ms ns : List ℕ) → AllPairs (λ i j. i < j) ms → AllPairs (λ i j. i < j) ns → ((n : ℕ) → Contains ms n ↔ Contains ns n) → ms ≡ ns
one_rising_list ms ns hm hn h =
    let all : (ks : List ℕ) → All (λ n. Unit {0}) ks = λ ks k d within. tt in
    sym (same_from_all_zip (λ m n. m ≡ n) ms ns (same_rising numbers_in_order ms ns (all ms) (all ns) hm hn (members_in ms ns (λ n. (h n).0)) (members_in ns ms (λ n. (h n).1))) (λ m n e. sym e))

-- ---- lists of lists
pub rows_long : {X : Type 0} (xs ys : List (List X)) → length xs ≡ length ys → ((k : ℕ) → length (get_or xs k []) ≡ length (get_or ys k [])) → sum_by length xs ≡ sum_by length ys
rows_long [] [] e h = refl
rows_long [] (y ∷ ys) e h = absurd (omega arith)
rows_long (x ∷ xs) [] e h = absurd (omega arith)
rows_long (x ∷ xs) (y ∷ ys) e h = omega (arith, sum_by-cons length x xs, sum_by-cons length y ys, h 0, rows_long xs ys (omega (arith, e)) (λ k. h (suc k)))
