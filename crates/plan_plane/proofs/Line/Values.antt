-- Places on a line by weights at its two ends, and the values of covectors there. A covector is known along a line by its values at the two ends; a block is a list of covectors, and holds where none of them is negative.
use Rattle.std.proofs.Common.{◌≡◌, ◌⊎◌, ℤ, pos, ◌+ℤ◌, ◌*ℤ◌, ◌<ℤ◌, ◌≤ℤ◌, List, map, All, Any, get_or, arith}
use Rattle.std.proofs.lemmas.List.Elements.{All-map}
use Rattle.plan_exact.specs.Vectors.{dot}
use Rattle.plan_spec.specs.Vector.{Vector}
use Rattle.plan_exact.proofs.Laws.{linear, one_mul, zero_mul}
use Rattle.plan_exact.proofs.Vectors.{dot_combination_right}
use Rattle.plan_spec.specs.Weights.{Weights, IsWeights, weighted}
use Rattle.plan_plane.proofs.Lists.{all_map}

-- the values at the two ends
pub record Pair : Type 0 where
  pub a : ℤ
  pub b : ℤ

-- the value at the place
abbrev pub value : Pair → Weights → ℤ
value n z = z.s *ℤ n.a +ℤ z.t *ℤ n.b

abbrev pub Held : List Pair → Weights → Type 0
Held K z = All (λ n. pos 0 ≤ℤ value n z) K

abbrev pub Open : List Pair → Weights → Type 0
Open K z = All (λ n. pos 0 <ℤ value n z) K

-- u is nearer to the first end than z
pub record Earlier (u z : Weights) : Type 0 where
  pub less : (u.t *ℤ z.s) <ℤ (z.t *ℤ u.s)

-- z is at the first end, or some pair has the value 0 there
abbrev pub Starts : List Pair → Weights → Type 0
Starts K z = (z.t ≡ pos 0) ⊎ Any (λ n. value n z ≡ pos 0) K

-- where a block first holds, going from the first end: nowhere, or at z
pub data First (K : List Pair) : Type 0 where
  never : ((u : Weights) → IsWeights u → ¬ (Held K u)) → First K
  at : (z : Weights) → IsWeights z → Held K z → Starts K z → ((u : Weights) → IsWeights u → Earlier u z → ¬ (Held K u)) → First K

-- no block holds
abbrev pub NoneHeld : List (List Pair) → Weights → Type 0
NoneHeld Ks z = All (λ K. ¬ (Held K z)) Ks

-- a block that holds, with a pair that is 0
abbrev pub Touched : Weights → List Pair → Type 0
Touched z K = Held K z × Any (λ n. value n z ≡ pos 0) K

pub record FirstHeld (Ks : List (List Pair)) : Type 0 where
  pub place : Weights
  pub weights : IsWeights place
  pub beyond : pos 0 <ℤ place.t
  pub held : Any (Touched place) Ks
  pub not_open : All (λ K. ¬ (Open K place)) Ks

-- ---- of the plane
abbrev pub HeldAt : List Vector → Vector → Type 0
HeldAt ls z = All (λ l. pos 0 ≤ℤ dot l z) ls

abbrev pub OpenAt : List Vector → Vector → Type 0
OpenAt ls z = All (λ l. pos 0 <ℤ dot l z) ls

-- ---- places on the segment from p to q
abbrev pub values : Vector → Vector → Vector → Pair
values p q l = record { a = dot l p; b = dot l q }

pub value_is : (p q l : Vector) (z : Weights) → dot l (weighted p q z) ≡ value (values p q l) z
value_is p q l z = dot_combination_right z.s z.t p q l

pub held_at_place : (p q : Vector) (ls : List Vector) (z : Weights) → Held (map (values p q) ls) z → HeldAt ls (weighted p q z)
held_at_place p q ls z h k d within =
    let l = get_or ls k d in
    let g = all_map (λ n. pos 0 ≤ℤ value n z) (values p q) ls h k d within in
    omega (arith, linear, value_is p q l z)

pub open_from_place : (p q : Vector) (ls : List Vector) (z : Weights) → OpenAt ls (weighted p q z) → Open (map (values p q) ls) z
open_from_place p q ls z h = All-map (λ n. pos 0 <ℤ value n z) (values p q) ls (λ k d within. let l = get_or ls k d in let g = h k d within in omega (arith, linear, value_is p q l z))

pub held_at_start : (p q : Vector) (ls : List Vector) → Held (map (values p q) ls) (record { s = pos 1; t = pos 0 }) → HeldAt ls p
held_at_start p q ls h k d within =
    let l = get_or ls k d in
    let g = all_map (λ n. pos 0 ≤ℤ value n (record { s = pos 1; t = pos 0 })) (values p q) ls h k d within in
    omega (arith, linear, one_mul (dot l p), zero_mul (dot l q))

pub held_from_end : (p q : Vector) (ls : List Vector) → HeldAt ls q → Held (map (values p q) ls) (record { s = pos 0; t = pos 1 })
held_from_end p q ls h = All-map (λ n. pos 0 ≤ℤ value n (record { s = pos 0; t = pos 1 })) (values p q) ls (λ k d within. let l = get_or ls k d in let g = h k d within in omega (arith, linear, zero_mul (dot l p), one_mul (dot l q)))
