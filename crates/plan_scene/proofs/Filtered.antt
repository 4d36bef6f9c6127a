-- The obstacles of lesser ids than one, and those of greater ids: they are apart, and together no more than all.
use Rattle.std.proofs.Common.{◌≡◌, ℕ, ◌+◌, ◌<◌, ◌≤◌, Bool, true, false, cond, nat_lt, List, [], ◌∷◌, ◌++◌, length, map, take, get_or, append-nil, append_assoc, refl, sym, ap, ◌∙◌, arith}
use Rattle.std.specs.List.{filter, sum}
use Rattle.std.proofs.lemmas.Bool.Decides.{nat_tests}
use Rattle.std.proofs.lemmas.List.Elements.{filter_more}
use Rattle.std.proofs.lemmas.List.Sums.{sum-map, sum_by-cons}
use Rattle.plan_scene.specs.Scene.{Obstacle, is_lesser, is_greater}

pub less_true : (a b : ℕ) → a < b → nat_lt a b ≡ true
less_true a b h = grind (arith, nat_tests)

pub less_false : (a b : ℕ) → b ≤ a → nat_lt a b ≡ false
less_false a b h = grind (arith, nat_tests)

pub less_from : (a b : ℕ) → nat_lt a b ≡ true → a < b
less_from a b e = grind (arith, nat_tests)

-- ---- a loop that puts what passes behind
module _ (p : Obstacle → Bool) (start list : List Obstacle) (os : List Obstacle) (i : ℕ) (o : Obstacle) (lt : i < length os) (is : o ≡ get_or os i o) (so_far : list ≡ start ++ filter p (take i os)) where
  step : (b : Bool) → p o ≡ b → filter p (take (i + 1) os) ≡ filter p (take i os) ++ cond b (o ∷ []) []
  step b e = filter_more p os i o lt ∙ ap (λ x. filter p (take i os) ++ cond (p x) (x ∷ []) []) (sym is) ∙ ap (λ t. filter p (take i os) ++ cond t (o ∷ []) []) e

  pub kept : (new : List Obstacle) → p o ≡ true → new ≡ list ++ o ∷ [] → new ≡ start ++ filter p (take (i + 1) os)
  kept new e f = f ∙ ap (λ l. l ++ o ∷ []) so_far ∙ append_assoc start (filter p (take i os)) (o ∷ []) ∙ ap (λ l. start ++ l) (sym (step true e))

  pub passed : p o ≡ false → list ≡ start ++ filter p (take (i + 1) os)
  passed e = so_far ∙ ap (λ l. start ++ l) (sym (step false e ∙ append-nil (filter p (take i os))))

-- ---- together no more than all
pub sum_more : (f : Obstacle → ℕ) (x : Obstacle) (xs : List Obstacle) → sum (map f (x ∷ xs)) ≡ f x + sum (map f xs)
sum_more f x xs = omega (arith, sum-map f (x ∷ xs), sum_by-cons f x xs, sum-map f xs)

pub parted_length : (id : ℕ) (os : List Obstacle) → length (filter (is_lesser id) os) + length (filter (is_greater id) os) ≤ length os
parted_length id [] = omega arith
parted_length id (o ∷ os) = by (parted_length id os) (nat_lt o.id id) (nat_lt id o.id) refl refl
  where
    by : length (filter (is_lesser id) os) + length (filter (is_greater id) os) ≤ length os → (a b : Bool) → nat_lt o.id id ≡ a → nat_lt id o.id ≡ b
        → length (cond a (o ∷ filter (is_lesser id) os) (filter (is_lesser id) os)) + length (cond b (o ∷ filter (is_greater id) os) (filter (is_greater id) os)) ≤ length (o ∷ os)
    by rest true true e f = absurd (let g = less_from o.id id e in let h = less_from id o.id f in omega arith)
    by rest true false e f = omega (arith, rest)
    by rest false true e f = omega (arith, rest)
    by rest false false e f = omega (arith, rest)

pub parted_sum : (f : Obstacle → ℕ) (id : ℕ) (os : List Obstacle) → sum (map f (filter (is_lesser id) os)) + sum (map f (filter (is_greater id) os)) ≤ sum (map f os)
parted_sum f id [] = omega arith
parted_sum f id (o ∷ os) = by (parted_sum f id os) (nat_lt o.id id) (nat_lt id o.id) refl refl
  where
    by : sum (map f (filter (is_lesser id) os)) + sum (map f (filter (is_greater id) os)) ≤ sum (map f os) → (a b : Bool) → nat_lt o.id id ≡ a → nat_lt id o.id ≡ b
        → sum (map f (cond a (o ∷ filter (is_lesser id) os) (filter (is_lesser id) os))) + sum (map f (cond b (o ∷ filter (is_greater id) os) (filter (is_greater id) os))) ≤ sum (map f (o ∷ os))
    by rest true true e g = absurd (let h = less_from o.id id e in let k = less_from id o.id g in omega arith)
    by rest true false e g = omega (arith, rest, sum_more f o os, sum_more f o (filter (is_lesser id) os))
    by rest false true e g = omega (arith, rest, sum_more f o os, sum_more f o (filter (is_greater id) os))
    by rest false false e g = omega (arith, rest, sum_more f o os)
