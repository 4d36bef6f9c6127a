-- What a cell leaves open are its free walls: an end is odd in what is kept of a cell exactly where it is odd among the cell's free walls.
use Rattle.std.proofs.Common.{◌≡◌, ◌⊎◌, inl, inr, ℕ, zero, suc, ◌+◌, ◌-◌, ◌≤◌, Bool, true, false, ◌&&◌, ◌||◌, List, [], ◌∷◌, length, eqb, refl, sym, ap, ap₂, ◌∙◌, arith, if◌then◌else◌}
use Rattle.std.proofs.lemmas.Bool.{ne_eqb, cases_eq, cases_Bool, false_from_ne_true}
use Rattle.plan_spec.specs.Vector.{Vector, same}
use Rattle.plan_spec.specs.Parity.{xor}
use Rattle.plan_spec.specs.Chain.{odd_end}
use Rattle.plan_spec.specs.Slabs.{Slabs, mark_at}
use Rattle.plan_spec.specs.Regions.{Lot, cell, wall, region_at}
use Rattle.plan_slab.specs.Decomposition.{AreOnce}
use Rattle.plan_slab.proofs.Decomposition.{is_wall_is, wall_is_wall}
use Rattle.plan_map.proofs.Path.Places.{meets_at}
use Rattle.plan_spec.specs.Neighbours.{in_range, beside}
use Rattle.plan_spec.specs.Rings.{is_wall, has_wall, part, side, closed_parts, left_parts, right_parts, kept}
use Rattle.plan_ring.proofs.Sums.{xor_below, xor_alike, xor_both, xor_telescope, xor_none, xor_exchanged, xor_factor, xor_factor_right, xor_single, xor_and, one_of_range}
use Rattle.plan_ring.proofs.Ends.{odd_end_append}

-- whether z is one end of a wall, and not both
abbrev pub open_ends : Slabs → Vector → Lot → Bool
open_ends σ z (wall h j) = xor (same (mark_at σ h j) z) (same (mark_at σ h (suc j)) z)
open_ends σ z (cell k i) = false

-- a wall of line h from mark a on, and before mark b
abbrev pub is_within : ℕ → ℕ → ℕ → Lot → Bool
is_within h a b (wall m j) = eqb m h && in_range a b j
is_within h a b (cell m i) = false

-- the wall x is in the cell's side on the line f k
abbrev pub side_of : Slabs → (ℕ → ℕ) → Lot → Lot → Bool
side_of σ f x (cell k i) = is_within (f k) (meets_at σ k (f k) i) (meets_at σ k (f k) (suc i)) x
side_of σ f x (wall h j) = false

-- in the one or in the other side, and not in both
pub beside_is : (σ : Slabs) (x c : Lot) → beside σ x c ≡ xor (side_of σ (λ k. k) x c) (side_of σ suc x c)
beside_is σ (cell m j) (cell k i) = refl
beside_is σ (cell m j) (wall k i) = refl
beside_is σ (wall m j) (wall k i) = refl
beside_is σ (wall m j) (cell k i) = one_side (eqb m k) _ (eqb m (suc k)) _ (by (cases_eq m k))
  where
    one_side : (x p y q : Bool) → (x ≡ false) ⊎ (y ≡ false) → ((x && p) || (y && q)) ≡ xor (x && p) (y && q)
    one_side true p y q (inl e) = absurd (cc)
    one_side false p y q h = refl
    one_side true true y q (inr e) = rw e refl
    one_side true false y q (inr e) = refl

    by : (m ≡ k) ⊎ (¬ (m ≡ k)) → (eqb m k ≡ false) ⊎ (eqb m (suc k) ≡ false)
    by (inl e) = inr (ne_eqb m (suc k) (λ f. omega arith))
    by (inr d) = inl (ne_eqb m k d)

-- ---- all parts from mark a to mark a + n
parts_odd : (σ : Slabs) (z : Vector) (h a n : ℕ) → xor_below n (λ j. open_ends σ z (wall h (a + j))) ≡ xor (same (mark_at σ h a) z) (same (mark_at σ h (a + n)) z)
parts_odd σ z h a n =
    xor_alike n _ _ (λ j l. ap (λ m. xor (same (mark_at σ h (a + j)) z) (same (mark_at σ h m) z)) (next a j))
    ∙ xor_telescope n (λ j. same (mark_at σ h (a + j)) z)
    ∙ ap (λ m. xor (same (mark_at σ h m) z) (same (mark_at σ h (a + n)) z)) (none a)
  where
    next : (a j : ℕ) → suc (a + j) ≡ a + suc j
    next a j = omega arith

    none : (a : ℕ) → a + 0 ≡ a
    none a = omega arith

-- the closed ones are all but those that are free
closed_odd : (σ : Slabs) (found : List Lot) (z : Vector) (h a n : ℕ) → odd_end (closed_parts σ found h a n) z ≡ xor (xor (same (mark_at σ h a) z) (same (mark_at σ h (a + n)) z)) (xor_below n (λ j. has_wall found h (a + j) && open_ends σ z (wall h (a + j))))
closed_odd σ found z h a n =
    each n
    ∙ xor_both n (λ j. open_ends σ z (wall h (a + j))) (λ j. has_wall found h (a + j) && open_ends σ z (wall h (a + j)))
    ∙ ap (λ x. xor x (xor_below n (λ j. has_wall found h (a + j) && open_ends σ z (wall h (a + j))))) (parts_odd σ z h a n)
  where
    both : (e : Bool) → false ≡ xor e (true && e)
    both true = refl
    both false = refl

    one : (j : ℕ) (f : Bool) → odd_end (if f then [] else part σ h j ∷ []) z ≡ xor (open_ends σ z (wall h j)) (f && open_ends σ z (wall h j))
    one j true = both (open_ends σ z (wall h j))
    one j false = refl

    each : (n : ℕ) → odd_end (closed_parts σ found h a n) z ≡ xor_below n (λ j. xor (open_ends σ z (wall h (a + j))) (has_wall found h (a + j) && open_ends σ z (wall h (a + j))))
    each zero = refl
    each (suc n) = odd_end_append (closed_parts σ found h a n) _ z ∙ ap₂ xor (each n) (one (a + n) (has_wall found h (a + n)))

-- ---- a wall is one region where it is free, and else none
free_is : (σ : Slabs) (found : List Lot) → AreOnce σ found → (h j : ℕ) → xor_below (length found) (λ n. is_wall h j (region_at found n)) ≡ has_wall found h j
free_is σ found once h j = by (cases_Bool (has_wall found h j))
  where
    by : (has_wall found h j ≡ true) ⊎ (has_wall found h j ≡ false) → xor_below (length found) (λ n. is_wall h j (region_at found n)) ≡ has_wall found h j
    by (inl f) =
        let n = once.listed h j f in
        xor_single (length found) n.0 _ n.1 (λ m l d. false_from_ne_true _ (λ e. d (once.once m n.0 l n.1 (is_wall_is h j (region_at found m) e ∙ sym n.2)))) ∙ wall_is_wall h j (region_at found n.0) n.2 ∙ sym f
    by (inr f) = xor_none (length found) _ (λ m l. false_from_ne_true _ (λ e. let t = once.free_walls m h j l (is_wall_is h j (region_at found m) e) in absurd (cc))) ∙ sym f

-- ---- the regions that are walls between two marks of a line, as those marks
among : (h a n : ℕ) (x : Lot) → is_within h a (a + n) x ≡ xor_below n (λ j. is_wall h (a + j) x)
among h a n (cell m i) = sym (xor_none n (λ j. false) (λ j l. refl))
among h a n (wall m i) = ap (λ x. eqb m h && x) (sym (one_of_range a n i)) ∙ sym (xor_factor n (eqb m h) (λ j. eqb i (a + j)))

same_open : (σ : Slabs) (z : Vector) (h j : ℕ) (x : Lot) → (is_wall h j x && open_ends σ z x) ≡ (is_wall h j x && open_ends σ z (wall h j))
same_open σ z h j x = by (cases_Bool (is_wall h j x))
  where
    by : (is_wall h j x ≡ true) ⊎ (is_wall h j x ≡ false) → (is_wall h j x && open_ends σ z x) ≡ (is_wall h j x && open_ends σ z (wall h j))
    by (inl t) = ap (λ y. is_wall h j x && open_ends σ z y) (is_wall_is h j x t)
    by (inr f) = ap (λ b. b && open_ends σ z x) f ∙ sym (ap (λ b. b && open_ends σ z (wall h j)) f)

walls_between : (σ : Slabs) (found : List Lot) (z : Vector) → AreOnce σ found → (h a n : ℕ) → xor_below (length found) (λ m. is_within h a (a + n) (region_at found m) && open_ends σ z (region_at found m)) ≡ xor_below n (λ j. has_wall found h (a + j) && open_ends σ z (wall h (a + j)))
walls_between σ found z once h a n =
    xor_alike (length found) _ _ (λ m l. ap (λ b. b && open_ends σ z (region_at found m)) (among h a n (region_at found m)) ∙ sym (xor_factor_right n (λ j. is_wall h (a + j) (region_at found m)) (open_ends σ z (region_at found m))) ∙ xor_alike n _ _ (λ j k. same_open σ z h (a + j) (region_at found m)))
    ∙ xor_exchanged (length found) n (λ m j. is_wall h (a + j) (region_at found m) && open_ends σ z (wall h (a + j)))
    ∙ xor_alike n _ _ (λ j l. xor_factor_right (length found) (λ m. is_wall h (a + j) (region_at found m)) (open_ends σ z (wall h (a + j))) ∙ ap (λ x. x && open_ends σ z (wall h (a + j))) (free_is σ found once h (a + j)))

-- ---- the law
side_odd : (σ : Slabs) (found : List Lot) (z : Vector) → AreOnce σ found → (k h i : ℕ) → meets_at σ k h i ≤ meets_at σ k h (suc i)
    → odd_end (closed_parts σ found h (meets_at σ k h i) (meets_at σ k h (suc i) - meets_at σ k h i)) z ≡ xor (xor (same (mark_at σ h (meets_at σ k h i)) z) (same (mark_at σ h (meets_at σ k h (suc i))) z)) (xor_below (length found) (λ n. is_within h (meets_at σ k h i) (meets_at σ k h (suc i)) (region_at found n) && open_ends σ z (region_at found n)))
side_odd σ found z once k h i rises =
    closed_odd σ found z h a n
    ∙ ap (λ x. xor (xor (same (mark_at σ h a) z) (same (mark_at σ h (a + n)) z)) x) (sym (walls_between σ found z once h a n))
    ∙ ap (λ m. xor (xor (same (mark_at σ h a) z) (same (mark_at σ h m) z)) (xor_below (length found) (λ n. is_within h a m (region_at found n) && open_ends σ z (region_at found n)))) e
  where
    a : ℕ
    a = meets_at σ k h i

    n : ℕ
    n = meets_at σ k h (suc i) - meets_at σ k h i

    e : a + n ≡ meets_at σ k h (suc i)
    e = omega arith

corners : (a b c d p q : Bool) → xor (xor a b) (xor (xor (xor b d) p) (xor (xor c d) (xor (xor a c) q))) ≡ xor q p
corners a b c d p q = grind arith

pub kept_ends : (σ : Slabs) (found : List Lot) (z : Vector) → AreOnce σ found → (k i : ℕ) → meets_at σ k k i ≤ meets_at σ k k (suc i) → meets_at σ k (suc k) i ≤ meets_at σ k (suc k) (suc i)
    → odd_end (kept σ found (cell k i)) z ≡ xor_below (length found) (λ n. beside σ (region_at found n) (cell k i) && open_ends σ z (region_at found n))
kept_ends σ found z once k i hl hr =
    ap (xor (xor A B)) (odd_end_append (right_parts σ found k i) (side σ k (suc i) ∷ left_parts σ found k i) z ∙ ap₂ (λ x y. xor x (xor (xor C D) y)) (side_odd σ found z once k (suc k) i hr) (side_odd σ found z once k k i hl))
    ∙ corners A B C D (at (suc k)) (at k)
    ∙ sym (xor_alike (length found) _ _ (λ n l. ap (λ b. b && open_ends σ z (region_at found n)) (beside_is σ (region_at found n) (cell k i)) ∙ xor_and (side_of σ (λ k. k) (region_at found n) (cell k i)) (side_of σ suc (region_at found n) (cell k i)) (open_ends σ z (region_at found n))) ∙ xor_both (length found) (λ n. side_of σ (λ k. k) (region_at found n) (cell k i) && open_ends σ z (region_at found n)) (λ n. side_of σ suc (region_at found n) (cell k i) && open_ends σ z (region_at found n)))
  where
    at : ℕ → Bool
    at h = xor_below (length found) (λ n. is_within h (meets_at σ k h i) (meets_at σ k h (suc i)) (region_at found n) && open_ends σ z (region_at found n))

    A : Bool
    A = same (mark_at σ k (meets_at σ k k i)) z

    B : Bool
    B = same (mark_at σ (suc k) (meets_at σ k (suc k) i)) z

    C : Bool
    C = same (mark_at σ k (meets_at σ k k (suc i))) z

    D : Bool
    D = same (mark_at σ (suc k) (meets_at σ k (suc k) (suc i))) z
