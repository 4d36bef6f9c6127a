-- The search for the best of the wanted vertices from the end of a list to its front: what is behind is known, and each vertex in turn is better, or not wanted, or not.
use Rattle.std.proofs.Common.{◌≡◌, ℕ, suc, pos, ◌+◌, ◌<◌, Bool, true, false, cond, List, [], ◌∷◌, Some, None, drop, length, get_or, sym, ap, ◌∙◌, arith}
use Rattle.std.proofs.Math.Seq.{drop-cons}
use Rattle.std.proofs.lemmas.List.{get_or-drop}
use Rattle.plan_spec.specs.Vector.{Vector, spot}
use Rattle.plan_spec.specs.Triangulation.{put_before, earlier, part_at_best}
use Rattle.plan_poly.specs.Part.{part_at}

-- the vertex that stands for those beyond the end
abbrev pub beyond : Vector
beyond = spot (pos 0) (pos 0)

-- of the vertices from i on, the one numbered k is the best
pub record Behind (wanted : Vector → Bool) (better : Vector → Vector → Bool) (xs : List Vector) (i k : ℕ) : Type 0 where
  pub later : ℕ
  pub place : k ≡ i + later
  pub best : part_at_best wanted better (drop i xs) ≡ Some (part_at (drop i xs) later)

-- none of them is wanted
abbrev pub NoneBehind : (Vector → Bool) → (Vector → Vector → Bool) → List Vector → ℕ → Type 0
NoneBehind wanted better xs i = part_at_best wanted better (drop i xs) ≡ None

drop_is : (xs : List Vector) (i : ℕ) → i < length xs → drop i xs ≡ get_or xs i beyond ∷ drop (suc i) xs
drop_is xs i within = drop-cons xs i beyond within

at_drop : (wanted : Vector → Bool) (better : Vector → Vector → Bool) (xs : List Vector) (i : ℕ) → i < length xs → part_at_best wanted better (drop i xs) ≡ earlier (wanted (get_or xs i beyond)) better (get_or xs i beyond) (drop (suc i) xs) (part_at_best wanted better (drop (suc i) xs))
at_drop wanted better xs i within = ap (part_at_best wanted better) (drop_is xs i within)

-- ---- the vertex at i is not wanted
pub still : {wanted : Vector → Bool} {better : Vector → Vector → Bool} {xs : List Vector} {i k : ℕ} → i < length xs → wanted (get_or xs i beyond) ≡ false → Behind wanted better xs (suc i) k → Behind wanted better xs i k
still {wanted} {better} {xs} {i} {k} within off b = record {
  later = suc b.later;
  place = omega (arith, b.place);
  best = at_drop wanted better xs i within ∙ (λ t. earlier (off t) better (get_or xs i beyond) (drop (suc i) xs) (b.best t)) ∙ ap (λ l. Some (part_at l (suc b.later))) (sym (drop_is xs i within));
}

pub still_none : (wanted : Vector → Bool) (better : Vector → Vector → Bool) (xs : List Vector) (i : ℕ) → i < length xs → wanted (get_or xs i beyond) ≡ false → NoneBehind wanted better xs (suc i) → NoneBehind wanted better xs i
still_none wanted better xs i within off none = at_drop wanted better xs i within ∙ (λ t. earlier (off t) better (get_or xs i beyond) (drop (suc i) xs) (none t))

-- ---- it is the first wanted one that is met
here : (xs : List Vector) (i : ℕ) → i < length xs → Some (record { before = []; at = get_or xs i beyond; after = drop (suc i) xs }) ≡ Some (part_at (drop i xs) 0)
here xs i within = ap (λ l. Some (part_at l 0)) (sym (drop_is xs i within))

pub found : (wanted : Vector → Bool) (better : Vector → Vector → Bool) (xs : List Vector) (i : ℕ) → i < length xs → wanted (get_or xs i beyond) ≡ true → NoneBehind wanted better xs (suc i) → Behind wanted better xs i i
found wanted better xs i within on none = record {
  later = 0;
  place = omega arith;
  best = at_drop wanted better xs i within ∙ (λ t. earlier (on t) better (get_or xs i beyond) (drop (suc i) xs) (none t)) ∙ here xs i within;
}

-- ---- it is wanted, and the one behind is better or not
at_place : (xs : List Vector) (i later k : ℕ) → k ≡ suc i + later → get_or (drop (suc i) xs) later beyond ≡ get_or xs k beyond
at_place xs i later k e = get_or-drop (suc i) xs later beyond ∙ ap (λ (n : ℕ). get_or xs n beyond) (sym e)

pub kept : {wanted : Vector → Bool} {better : Vector → Vector → Bool} {xs : List Vector} {i k : ℕ} → i < length xs → wanted (get_or xs i beyond) ≡ true → better (get_or xs k beyond) (get_or xs i beyond) ≡ true → Behind wanted better xs (suc i) k → Behind wanted better xs i k
kept {wanted} {better} {xs} {i} {k} within on better_k b = record {
  later = suc b.later;
  place = omega (arith, b.place);
  best = at_drop wanted better xs i within
      ∙ (λ t. earlier (on t) better (get_or xs i beyond) (drop (suc i) xs) (b.best t))
      ∙ ap (λ r. cond r (Some (put_before (get_or xs i beyond) (part_at (drop (suc i) xs) b.later))) (Some (record { before = []; at = get_or xs i beyond; after = drop (suc i) xs }))) (ap (λ v. better v (get_or xs i beyond)) (at_place xs i b.later k b.place) ∙ better_k)
      ∙ ap (λ l. Some (part_at l (suc b.later))) (sym (drop_is xs i within));
}

pub taken : {wanted : Vector → Bool} {better : Vector → Vector → Bool} {xs : List Vector} {i k : ℕ} → i < length xs → wanted (get_or xs i beyond) ≡ true → better (get_or xs k beyond) (get_or xs i beyond) ≡ false → Behind wanted better xs (suc i) k → Behind wanted better xs i i
taken {wanted} {better} {xs} {i} {k} within on not_better b = record {
  later = 0;
  place = omega arith;
  best = at_drop wanted better xs i within
      ∙ (λ t. earlier (on t) better (get_or xs i beyond) (drop (suc i) xs) (b.best t))
      ∙ ap (λ r. cond r (Some (put_before (get_or xs i beyond) (part_at (drop (suc i) xs) b.later))) (Some (record { before = []; at = get_or xs i beyond; after = drop (suc i) xs }))) (ap (λ v. better v (get_or xs i beyond)) (at_place xs i b.later k b.place) ∙ not_better)
      ∙ here xs i within;
}

pub at_end : {wanted : Vector → Bool} {better : Vector → Vector → Bool} {xs : List Vector} {k : ℕ} → Behind wanted better xs 0 k → part_at_best wanted better xs ≡ Some (part_at xs k)
at_end {xs = xs} b = b.best ∙ ap (λ (n : ℕ). Some (part_at xs n)) (sym (b.place ∙ omega arith))
