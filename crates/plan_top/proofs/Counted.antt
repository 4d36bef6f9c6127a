-- An accepted edit makes one obstacle more or one less.
use Rattle.std.proofs.Common.{◌≡◌, ◌⊎◌, inl, inr, ℕ, suc, ◌+◌, ◌-◌, ◌<◌, Bool, true, false, cond, nat_lt, List, [], ◌∷◌, length, get_or, All, Any, AllPairs, refl, sym, ap, subst, ◌∙◌, length-append, arith}
use Rattle.std.specs.List.{filter}
use Rattle.std.proofs.lemmas.Bool.Decides.{nat_tests}
use Rattle.std.proofs.lemmas.List.Elements.{All-cons}
use Rattle.std.proofs.lemmas.List.Kept.{AllPairs-cons, AllPairs-filter}
use Rattle.plan_plane.proofs.Lists.{any_none, any_here, any_there, any_cases}
use Rattle.plan_plane.proofs.Rising.Lists.{rest_after, rising_tail}
use Rattle.plan_scene.specs.Scene.{Obstacle, Scene, obstacle, with_obstacle, without, is_lesser, is_greater}
use Rattle.plan_scene.specs.Edits.{IsEdited}
use Rattle.plan_scene.specs.declared.edit.Edit.{Edit}
use Rattle.plan_scene.specs.declared.edit.Edit.TheVariants.{Add, Remove}
use Rattle.plan_scene.proofs.Edited.{lesser_than, greater_than}
use Rattle.plan_scene.proofs.Filtered.{less_false, less_from}
use Rattle.plan_scene.proofs.Pairs.{pairs_joined}
use Rattle.plan_top.specs.Telling.{Leaves, count_after}

-- how many have other ids
abbrev others : ℕ → List Obstacle → ℕ
others id os = length (filter (is_lesser id) os) + length (filter (is_greater id) os)

abbrev HasThe : ℕ → List Obstacle → Type 0
HasThe id os = Any (λ o. o.id ≡ id) os

other_first : (id : ℕ) (o : Obstacle) (os : List Obstacle) → ¬ (o.id ≡ id) → others id (o ∷ os) ≡ suc (others id os)
other_first id o os other = by (nat_lt o.id id) (nat_lt id o.id) refl refl
  where
    by : (a b : Bool) → nat_lt o.id id ≡ a → nat_lt id o.id ≡ b → length (cond a (o ∷ filter (is_lesser id) os) (filter (is_lesser id) os)) + length (cond b (o ∷ filter (is_greater id) os) (filter (is_greater id) os)) ≡ suc (others id os)
    by true true e f = absurd (let g = less_from o.id id e in let h = less_from id o.id f in omega (arith, g, h))
    by true false e f = omega arith
    by false true e f = omega arith
    by false false e f = absurd (other (grind (arith, nat_tests)))

same_first : (id : ℕ) (o : Obstacle) (os : List Obstacle) → o.id ≡ id → others id (o ∷ os) ≡ others id os
same_first id o os same =
    let low : nat_lt o.id id ≡ false = less_false o.id id (omega (arith, same)) in
    let high : nat_lt id o.id ≡ false = less_false id o.id (omega (arith, same)) in
    rw (low, high) refl

none_has : (id : ℕ) (os : List Obstacle) → ¬ (HasThe id os) → others id os ≡ length os
none_has id [] none = refl
none_has id (o ∷ os) none =
    other_first id o os (λ same. none (any_here (λ o. o.id ≡ id) o os same)) ∙ ap suc (none_has id os (λ there. none (any_there (λ o. o.id ≡ id) o os there)))

abbrev pub IsRising : List Obstacle → Type 0
IsRising os = AllPairs (λ o p. o.id < p.id) os

none_after : (id : ℕ) (o : Obstacle) (os : List Obstacle) → IsRising (o ∷ os) → o.id ≡ id → ¬ (HasThe id os)
none_after id o os rising same (k, p, within, e, is) =
    let later = rest_after (λ o p. o.id < p.id) o os rising k p within in
    let less : o.id < p.id = subst (λ (q : Obstacle). o.id < q.id) e later in
    omega (arith, less, same, is)

one_has : (id : ℕ) (os : List Obstacle) → IsRising os → HasThe id os → suc (others id os) ≡ length os
one_has id [] rising has = absurd (any_none (λ o. o.id ≡ id) has)
one_has id (o ∷ os) rising has = by (any_cases (λ o. o.id ≡ id) o os has) (one_has id os (rising_tail (λ o p. o.id < p.id) o os rising))
  where
    here : o.id ≡ id → suc (others id (o ∷ os)) ≡ length (o ∷ os)
    here same = ap suc (same_first id o os same ∙ none_has id os (none_after id o os rising same))

    by : (o.id ≡ id) ⊎ HasThe id os → (HasThe id os → suc (others id os) ≡ length os) → suc (others id (o ∷ os)) ≡ length (o ∷ os)
    by (inl same) rest = here same
    by (inr there) rest = ap suc (other_first id o os (λ same. none_after id o os rising same there) ∙ rest there)

-- ---- ids rise after an edit too
across : (id : ℕ) (os : List Obstacle) (k : ℕ) (d : Obstacle) → k < length (filter (is_lesser id) os) → All (λ p. (get_or (filter (is_lesser id) os) k d).id < p.id) (filter (is_greater id) os)
across id os k d within j e below = let a = lesser_than id os k d within in let b = greater_than id os j e below in omega (arith, a, b)

without_rising : (id : ℕ) (os : List Obstacle) → IsRising os → IsRising (without id os)
without_rising id os h = pairs_joined (λ o p. o.id < p.id) (filter (is_lesser id) os) (filter (is_greater id) os) (AllPairs-filter (λ o p. o.id < p.id) (is_lesser id) os h) (AllPairs-filter (λ o p. o.id < p.id) (is_greater id) os h) (across id os)

with_rising : (o : Obstacle) (os : List Obstacle) → IsRising os → IsRising (with_obstacle o os)
with_rising o os h =
    pairs_joined (λ o p. o.id < p.id) (filter (is_lesser o.id) os) (o ∷ filter (is_greater o.id) os) (AllPairs-filter (λ o p. o.id < p.id) (is_lesser o.id) os h)
    (AllPairs-cons (λ o p. o.id < p.id) o (filter (is_greater o.id) os) (greater_than o.id os) (AllPairs-filter (λ o p. o.id < p.id) (is_greater o.id) os h))
    (λ k d within. All-cons (λ p. (get_or (filter (is_lesser o.id) os) k d).id < p.id) o (filter (is_greater o.id) os) (lesser_than o.id os k d within) (across o.id os k d within))

-- ---- an accepted edit
pub record Counted (before after : List Obstacle) (e : Edit) : Type 0 where
  pub can : Leaves (length before) e
  pub count : length after ≡ count_after (length before) e
  pub rising : IsRising after

pub counted : (s : Scene) (e : Edit) (t : Scene) → IsRising s.obstacles → IsEdited s e t → Counted s.obstacles t.obstacles e
counted s (Add id spots) t rising (new, few, sums, kept, read, is) =
    let o = obstacle id kept in
    let many = length-append (filter (is_lesser id) s.obstacles) (o ∷ filter (is_greater id) s.obstacles) in
    let long : length (with_obstacle o s.obstacles) ≡ length s.obstacles + 1 = omega (arith, many, none_has id s.obstacles new) in
    subst (λ (t : Scene). Counted s.obstacles t.obstacles (Add id spots)) (sym is) (record { can = few; count = long; rising = with_rising o s.obstacles rising })
counted s (Remove id) t rising (has, is) =
    let many = length-append (filter (is_lesser id) s.obstacles) (filter (is_greater id) s.obstacles) in
    let one = one_has id s.obstacles rising has in
    let long : length (without id s.obstacles) ≡ length s.obstacles - 1 = omega (arith, many, one) in
    subst (λ (t : Scene). Counted s.obstacles t.obstacles (Remove id)) (sym is) (record { can = omega (arith, one); count = long; rising = without_rising id s.obstacles rising })
