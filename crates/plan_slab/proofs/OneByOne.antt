-- A list that is made element by element, each of which has what its number asks.
use Rattle.std.proofs.Common.{◌≡◌, ⊎_elim, ℕ, ◌+◌, ◌<◌, List, [], ◌∷◌, ◌++◌, length, map, get_or, refl, sym, ◌∙◌, subst, arith}
use Rattle.std.proofs.lemmas.List.{get_or_append_left, get_or-map, length-append, length-map}
use Rattle.std.proofs.Math.Seq.{get_or-append_seam}
use Rattle.plan_slab.proofs.XValues.{order_nat}

pub record HasEach {X : Type 0} (P : ℕ → X → Type 0) (i : ℕ) (xs : List X) : Type 0 where
  pub count : length xs ≡ i
  pub each : (j : ℕ) (d : X) → j < i → P j (get_or xs j d)

pub has_none : {X : Type 0} (P : ℕ → X → Type 0) → HasEach P 0 []
has_none P = record { count = refl; each = λ j d less. absurd (omega arith) }

pub has_more : {X : Type 0} (P : ℕ → X → Type 0) (i : ℕ) (xs : List X) (x : X) → HasEach P i xs → P i x → HasEach P (i + 1) (xs ++ x ∷ [])
has_more P i xs x h p = record {
  count = omega (arith, length-append xs (x ∷ []), h.count);
  each = λ j d less. ⊎_elim
      (λ lt. subst (P j) (sym (get_or_append_left xs (x ∷ []) d j (omega (arith, lt, h.count)))) (h.each j d lt))
      (λ e. subst (λ j. P j (get_or (xs ++ x ∷ []) j d)) (sym e) (subst (P i) (sym (last d)) p))
      (order_nat j i less);
}
  where
    last : (d : _) → get_or (xs ++ x ∷ []) i d ≡ x
    last d = subst (λ k. get_or (xs ++ x ∷ []) k d ≡ x) h.count (get_or-append_seam xs x [] d)

-- the same of what is made of each
pub has_mapped : {V X : Type 0} (items : V → X) (P : ℕ → X → Type 0) (i : ℕ) (vs : List V) → HasEach (λ k v. P k (items v)) i vs → HasEach P i (map items vs)
has_mapped items P i [] h = record { count = h.count; each = λ j d less. absurd (omega (arith, less, h.count)) }
has_mapped items P i (v ∷ vs) h = record {
  count = length-map (v ∷ vs) items ∙ h.count;
  each = λ j d less. subst (P j) (sym (get_or-map items (v ∷ vs) j v d (omega (arith, less, h.count)))) (h.each j v less);
}
