-- The number of what is touched: the owner of the first sum that holds the placement is the least id, since the owners of the parts never fall.
use Rattle.std.proofs.Common.{◌≡◌, ◌↔◌, ◌⊎◌, inl, inr, ⊎_elim, ℕ, zero, suc, ◌<◌, ◌≤◌, List, [], ◌∷◌, length, map, get_or, All, Any, AllPairs, refl, sym, ap, ◌∙◌, subst, arith}
use Rattle.std.specs.List.{AllZip, flat_map}
use Rattle.std.proofs.lemmas.List.{get_or_default}
use Rattle.std.proofs.lemmas.List.Elements.{All-map, All-weaker}
use Rattle.plan_spec.specs.Vector.{Vector, IsPoint}
use Rattle.plan_spec.specs.Polygon.{Inside}
use Rattle.plan_spec.specs.Triangulation.{Triangle, triangles}
use Rattle.plan_spec.specs.Frame.{Frame, OnOrBeyond}
use Rattle.plan_spec.specs.Placement.{Obstacle, Scene, Meets, Leaves, IsClear, IsTouched}
use Rattle.plan_spec.specs.Sums.{Part, part, parts_of, parts, IsSum}
use Rattle.plan_plane.proofs.Lists.{all_flat, any_flat, any_unflat, no_one}
use Rattle.plan_tri.proofs.Region.Triangulated.{Triangulated}
use Rattle.plan_scene.proofs.Meeting.{PartMeets, IsReady, each, sum_part, leaves_room, touches}
use Rattle.plan_scene.proofs.Pairs.{pairs_joined}

-- ---- the owners never fall
abbrev NotAbove : Part → Part → Type 0
NotAbove s t = s.owner ≤ t.owner

abbrev all_of : List Triangle → List Obstacle → List Part
all_of rs os = flat_map (λ o. parts_of rs o.id (triangles o.shape)) os

owned : (rs : List Triangle) (n : ℕ) (ts : List Triangle) → All (λ t. t.owner ≡ n) (parts_of rs n ts)
owned rs n ts = all_flat (λ t. t.owner ≡ n) (λ t. map (part n t) rs) ts (λ k d within. All-map (λ t. t.owner ≡ n) (part n (get_or ts k d)) rs (λ j e below. refl))

alike : (n : ℕ) (ss : List Part) → All (λ t. t.owner ≡ n) ss → AllPairs NotAbove ss
alike n ss h i j d less within = le (h i d (omega arith)) (h j d within)
  where
    le : {i j : ℕ} → i ≡ n → j ≡ n → i ≤ j
    le e f = omega arith

above : (rs : List Triangle) (n : ℕ) (os : List Obstacle) → All (λ o. n < o.id) os → All (λ t. n ≤ t.owner) (all_of rs os)
above rs n os h =
    all_flat (λ t. n ≤ t.owner) (λ o. parts_of rs o.id (triangles o.shape)) os
    (λ k d within. let o = get_or os k d in All-weaker (λ t. t.owner ≡ o.id) (λ t. n ≤ t.owner) (λ t e. le e (h k d within)) (parts_of rs o.id (triangles o.shape)) (owned rs o.id (triangles o.shape)))
  where
    le : {i j : ℕ} → i ≡ j → n < j → n ≤ i
    le e f = omega arith

never_fall : (rs : List Triangle) (os : List Obstacle) → AllPairs (λ a b. a.id < b.id) os → AllPairs NotAbove (all_of rs os)
never_fall rs [] h = λ i j d less within. absurd (omega arith)
never_fall rs (o ∷ os) h =
    let own = owned rs o.id (triangles o.shape) in
    let rest = above rs o.id os (λ k d within. h 0 (suc k) d (omega arith) (omega arith)) in
    pairs_joined NotAbove (parts_of rs o.id (triangles o.shape)) (all_of rs os) (alike o.id (parts_of rs o.id (triangles o.shape)) own) (never_fall rs os (λ i j d lt within. h (suc i) (suc j) d (omega arith) (omega arith)))
    (λ k d within j e below. le (own k d within) (rest j e below))
  where
    le : {i j : ℕ} → i ≡ o.id → o.id ≤ j → i ≤ j
    le e f = omega arith

compare : (i j : ℕ) → (i < j) ⊎ ((j ≡ i) ⊎ (j < i))
compare zero zero = inr (inl refl)
compare zero (suc j) = inl (omega arith)
compare (suc i) zero = inr (inr (omega arith))
compare (suc i) (suc j) = ⊎_elim (λ h. inl (omega arith)) (λ h. inr (⊎_elim (λ e. inl (ap suc e)) (λ h. inr (omega arith)) h)) (compare i j)

-- ---- lists that correspond
pub zip_length : {A B : Type 0} (R : A → B → Type 0) (xs : List A) (ys : List B) → AllZip R xs ys → length xs ≡ length ys
zip_length R [] [] h = refl
zip_length R [] (y ∷ ys) h = absurd h
zip_length R (x ∷ xs) [] h = absurd h
zip_length R (x ∷ xs) (y ∷ ys) h = ap suc (zip_length R xs ys h.1)

pub zip_at : {A B : Type 0} (R : A → B → Type 0) (xs : List A) (ys : List B) → AllZip R xs ys → (k : ℕ) (d : A) (e : B) → k < length xs → R (get_or xs k d) (get_or ys k e)
zip_at R [] ys h k d e within = absurd (omega arith)
zip_at R (x ∷ xs) [] h k d e within = absurd h
zip_at R (x ∷ xs) (y ∷ ys) h zero d e within = h.0
zip_at R (x ∷ xs) (y ∷ ys) h (suc k) d e within = zip_at R xs ys h.1 k d e (omega arith)

module _ (s : Scene) (r : Frame) (sums : List (List Vector)) (ready : IsReady s r sums) (p : Vector) (hp : IsPoint p) where
  -- ---- the frame
  pub of_frame : OnOrBeyond r p → IsTouched s p 0
  of_frame beyond = inl (refl, (leaves_room s r sums ready p hp).1 beyond)

  -- ---- nothing
  pub clear : ¬ (OnOrBeyond r p) → All (λ vs. ¬ (Inside vs p)) sums → IsClear s p
  clear inside none t = ⊎_elim inside (no_one (λ vs. Inside vs p) sums none) ((touches s r sums ready p hp).0 t)

  -- ---- the first sum
  within_parts : {j : ℕ} → j < length sums → j < length (parts s)
  within_parts h = omega (arith, zip_length IsSum (parts s) sums ready.are_sums)

  at : (j : ℕ) (t : Part) → j < length (parts s) → PartMeets p (get_or (parts s) j t) ↔ Inside (get_or sums j []) p
  at j t within = sum_part s r sums ready p hp (get_or (parts s) j t) (get_or sums j []) (zip_at IsSum (parts s) sums ready.are_sums j t [] within)

  abbrev of_one : Obstacle → List Part
  of_one o = parts_of (triangles s.robot) o.id (triangles o.shape)

  pub of_first_sum : ¬ (OnOrBeyond r p) → AllPairs (λ a b. a.id < b.id) s.obstacles → (k : ℕ) (d : Part) → k < length sums → Inside (get_or sums k []) p → ((j : ℕ) → j < k → ¬ (Inside (get_or sums j []) p)) → IsTouched s p (get_or (parts s) k d).owner
  of_first_sum inside rising k d within holds earlier = inr (stays, record { met = met; least = least })
    where
      n : ℕ
      n = (get_or (parts s) k d).owner

      stays : ¬ (Leaves s.robot s.frame p)
      stays l = inside ((leaves_room s r sums ready p hp).0 l)

      meets_here : PartMeets p (get_or (parts s) k d)
      meets_here = (at k d (within_parts within)).1 holds

      met : Any (λ o. (o.id ≡ n) × Meets s.robot o.shape p) s.obstacles
      met = by (any_unflat (λ t. (t.owner ≡ n) × PartMeets p t) of_one s.obstacles (k, get_or (parts s) k d, within_parts within, get_or_default (parts s) k (get_or (parts s) k d) d (within_parts within), (refl, meets_here)))
        where
          by : Any (λ o. Any (λ t. (t.owner ≡ n) × PartMeets p t) (of_one o)) s.obstacles → Any (λ o. (o.id ≡ n) × Meets s.robot o.shape p) s.obstacles
          by (i, o, below, e, (j, t, under, f, (own, m))) =
              let is = owned (triangles s.robot) o.id (triangles o.shape) j t under in
              let c = subst (λ q. Triangulated q.shape (triangles q.shape)) e (ready.obstacles i o below) in
              (i, o, below, e, (sym is ∙ ap (λ t. t.owner) f ∙ own, (each s r sums ready p hp o c).1 (j, t, under, f, m)))

      upto : {a b c : ℕ} → a ≤ b → b ≡ c → a ≤ c
      upto e f = omega arith

      at_or_after : (n : ℕ) (j : ℕ) (t : Part) → j < length (parts s) → get_or (parts s) j t ≡ t → t.owner ≡ n → PartMeets p t → (get_or (parts s) k d).owner ≤ n
      at_or_after n j t below f own m = by (compare j k)
        where
          here : Inside (get_or sums j []) p
          here = (at j t below).0 (subst (PartMeets p) (sym f) m)

          owner : (get_or (parts s) j d).owner ≡ n
          owner = ap (λ t. t.owner) (get_or_default (parts s) j d t below) ∙ ap (λ t. t.owner) f ∙ own

          by : (j < k) ⊎ ((k ≡ j) ⊎ (k < j)) → (get_or (parts s) k d).owner ≤ n
          by (inl lt) = absurd (earlier j lt here)
          by (inr (inl e)) = let same = ap (λ (i : ℕ). (get_or (parts s) i d).owner) e ∙ owner in omega arith
          by (inr (inr lt)) = upto (never_fall (triangles s.robot) s.obstacles rising k j d lt below) owner

      least : All (λ o. Meets s.robot o.shape p → n ≤ o.id) s.obstacles
      least i e below m = by (any_flat (λ t. (t.owner ≡ o.id) × PartMeets p t) of_one s.obstacles (i, o, below, get_or_default s.obstacles i o e below, owner ((each s r sums ready p hp o (ready.obstacles i e below)).0 m)))
        where
          o : Obstacle
          o = get_or s.obstacles i e

          owner : Any (PartMeets p) (of_one o) → Any (λ t. (t.owner ≡ o.id) × PartMeets p t) (of_one o)
          owner (j, t, under, f, m) = (j, t, under, f, (ap (λ t. t.owner) (sym f) ∙ owned (triangles s.robot) o.id (triangles o.shape) j t under, m))

          by : Any (λ t. (t.owner ≡ o.id) × PartMeets p t) (parts s) → n ≤ o.id
          by (j, t, under, f, (own, m)) = at_or_after o.id j t under f own m
