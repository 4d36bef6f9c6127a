-- Of a sorted list `dedup` keeps the first element of each run: where earlier ones stand for later ones that count as the same, each element has one that stands for it.
use Rattle.std.proofs.Common.{◌≡◌, Bool, true, false, cond, List, [], ◌∷◌, All, AllPairs, Any, refl}
use Rattle.std.specs.List.{dedup, dedup_from}
use Rattle.std.proofs.lemmas.List.Elements.{All-nil, All-cons, All-head, All-tail, All-weaker}
use Rattle.std.proofs.lemmas.List.Kept.{AllPairs-cons}
use Rattle.plan_plane.proofs.Lists.{any_here, any_there}
use Rattle.plan_plane.proofs.Rising.Lists.{rest_after, rising_tail}

-- the first element stays
stays : {X : Type 0} (same : X → X → Bool) (P : X → Type 0) (k : X) (xs : List X) → P k → Any P (dedup_from same k xs)
stays same P k [] h = any_here P k [] h
stays {X} same P k (x ∷ xs) h = by (same x k) (stays same P k xs h)
  where
    by : (t : Bool) → Any P (dedup_from same k xs) → Any P (cond t (dedup_from same k xs) (k ∷ dedup_from same x xs))
    by true rest = rest
    by false rest = any_here P k (dedup_from same x xs) h

module _ {X : Type 0} (same : X → X → Bool) (Stands : X → X → Type 0) (itself : (x : X) → Stands x x) where
  -- an earlier x stands for a later y that counts as the same
  abbrev Later : X → X → Type 0
  Later x y = same y x ≡ true → Stands x y

  from_first : (k : X) (xs : List X) → AllPairs (λ x y. same y x ≡ true → Stands x y) (k ∷ xs) → All (λ x. Any (λ y. Stands y x) (dedup_from same k xs)) (k ∷ xs)
  from_first k [] h = All-cons (λ x. Any (λ y. Stands y x) (k ∷ [])) k [] (any_here (λ y. Stands y k) k [] (itself k)) (All-nil (λ x. Any (λ y. Stands y x) (k ∷ [])))
  from_first k (x ∷ xs) h = by (same x k) refl (from_first k xs without) (from_first x xs (rising_tail Later k (x ∷ xs) h))
    where
      without : AllPairs (λ x y. same y x ≡ true → Stands x y) (k ∷ xs)
      without = AllPairs-cons Later k xs (All-tail (Later k) x xs (rest_after Later k (x ∷ xs) h)) (rising_tail Later x xs (rising_tail Later k (x ∷ xs) h))

      by : (t : Bool) → same x k ≡ t → All (λ x. Any (λ y. Stands y x) (dedup_from same k xs)) (k ∷ xs) → All (λ x2. Any (λ y. Stands y x2) (dedup_from same x xs)) (x ∷ xs) → All (λ x2. Any (λ y. Stands y x2) (cond t (dedup_from same k xs) (k ∷ dedup_from same x xs))) (k ∷ (x ∷ xs))
      by true e kept next =
          All-cons (λ x. Any (λ y. Stands y x) (dedup_from same k xs)) k (x ∷ xs) (All-head (λ x. Any (λ y. Stands y x) (dedup_from same k xs)) k xs kept)
          (All-cons (λ x. Any (λ y. Stands y x) (dedup_from same k xs)) x xs (stays same (λ y. Stands y x) k xs (All-head (Later k) x xs (rest_after Later k (x ∷ xs) h) e)) (All-tail (λ x. Any (λ y. Stands y x) (dedup_from same k xs)) k xs kept))
      by false e kept next =
          All-cons (λ x2. Any (λ y. Stands y x2) (k ∷ dedup_from same x xs)) k (x ∷ xs) (any_here (λ y. Stands y k) k (dedup_from same x xs) (itself k))
          (All-weaker (λ x2. Any (λ y. Stands y x2) (dedup_from same x xs)) (λ x2. Any (λ y. Stands y x2) (k ∷ dedup_from same x xs)) (λ x2 some. any_there (λ y. Stands y x2) k (dedup_from same x xs) some) (x ∷ xs) next)

  pub first_of_each : (xs : List X) → AllPairs (λ x y. same y x ≡ true → Stands x y) xs → All (λ x. Any (λ y. Stands y x) (dedup same xs)) xs
  first_of_each [] h = All-nil (λ x. Any (λ y. Stands y x) [])
  first_of_each (x ∷ xs) h = from_first x xs h
