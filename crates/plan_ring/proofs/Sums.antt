-- Sums modulo two over the numbers below one: of two summands, in two orders, over a range, and of what is false but at one number.
use Rattle.std.proofs.Common.{◌≡◌, ◌⊎◌, inl, inr, ℕ, zero, suc, ◌+◌, ◌-◌, ◌≤◌, ◌<◌, Bool, true, false, ◌&&◌, ltb, leb, eqb, refl, sym, ap, ap₂, ◌∙◌, arith}
use Rattle.std.proofs.Math.Bool.{and-false}
use Rattle.std.proofs.lemmas.Bool.{lt-ltb, le-ltb, le-leb, lt-leb, eq-eqb, ne_eqb, cases_eq, cases_lt}
use Rattle.plan_spec.specs.Parity.{xor}
use Rattle.plan_spec.specs.Neighbours.{in_range}
use Rattle.plan_cross.proofs.ParityLaw.Xor.{xor_false, xor_same, xor_assoc, xor_middle, and_xor}

-- the exclusive or of f 0 to f (n - 1)
abbrev pub xor_below : ℕ → (ℕ → Bool) → Bool
xor_below zero f = false
xor_below (suc n) f = xor (xor_below n f) (f n)

-- ---- term by term
pub xor_alike : (n : ℕ) (f g : ℕ → Bool) → ((k : ℕ) → k < n → f k ≡ g k) → xor_below n f ≡ xor_below n g
xor_alike zero f g h = refl
xor_alike (suc n) f g h = ap₂ xor (xor_alike n f g (λ k l. h k (omega arith))) (h n (omega arith))

pub xor_none : (n : ℕ) (f : ℕ → Bool) → ((k : ℕ) → k < n → f k ≡ false) → xor_below n f ≡ false
xor_none zero f h = refl
xor_none (suc n) f h = ap₂ xor (xor_none n f (λ k l. h k (omega arith))) (h n (omega arith))

-- the sum of a sum is the sum of both
pub xor_both : (n : ℕ) (f g : ℕ → Bool) → xor_below n (λ k. xor (f k) (g k)) ≡ xor (xor_below n f) (xor_below n g)
xor_both zero f g = refl
xor_both (suc n) f g = ap (λ x. xor x (xor (f n) (g n))) (xor_both n f g) ∙ xor_middle (xor_below n f) (xor_below n g) (f n) (g n)

-- two sums change places
pub xor_exchanged : (m n : ℕ) (f : ℕ → ℕ → Bool) → xor_below m (λ i. xor_below n (f i)) ≡ xor_below n (λ j. xor_below m (λ i. f i j))
xor_exchanged zero n f = sym (xor_none n (λ j. false) (λ k l. refl))
xor_exchanged (suc m) n f = ap (λ x. xor x (xor_below n (f m))) (xor_exchanged m n f) ∙ sym (xor_both n (λ j. xor_below m (λ i. f i j)) (f m))

-- a common factor
pub xor_factor : (n : ℕ) (b : Bool) (f : ℕ → Bool) → xor_below n (λ k. b && f k) ≡ (b && xor_below n f)
xor_factor zero b f = sym (and-false b)
xor_factor (suc n) b f = ap (λ x. xor x (b && f n)) (xor_factor n b f) ∙ and_xor b (xor_below n f) (f n)

pub xor_and : (x y b : Bool) → (xor x y && b) ≡ xor (x && b) (y && b)
xor_and true true true = refl
xor_and true true false = refl
xor_and true false b = sym (xor_false b)
xor_and false y b = refl

pub xor_factor_right : (n : ℕ) (f : ℕ → Bool) (b : Bool) → xor_below n (λ k. f k && b) ≡ (xor_below n f && b)
xor_factor_right zero f b = refl
xor_factor_right (suc n) f b = ap (λ x. xor x (f n && b)) (xor_factor_right n f b) ∙ sym (xor_and (xor_below n f) (f n) b)

-- the sum of a difference telescopes
pub xor_telescope : (n : ℕ) (f : ℕ → Bool) → xor_below n (λ k. xor (f k) (f (suc k))) ≡ xor (f 0) (f n)
xor_telescope zero f = sym (xor_same (f 0))
xor_telescope (suc n) f = ap (λ x. xor x (xor (f n) (f (suc n)))) (xor_telescope n f) ∙ xor_assoc (f 0) (f n) (xor (f n) (f (suc n))) ∙ ap (xor (f 0)) (sym (xor_assoc (f n) (f n) (f (suc n))) ∙ ap (λ x. xor x (f (suc n))) (xor_same (f n)))

-- ---- one number, and a range
-- what is nothing but at m
pub xor_single : (n m : ℕ) (f : ℕ → Bool) → m < n → ((k : ℕ) → k < n → ¬ (k ≡ m) → f k ≡ false) → xor_below n f ≡ f m
xor_single zero m f h none = absurd (omega arith)
xor_single (suc n) m f h none = elim (cases_eq n m) [
  | inl e ↦ ap₂ xor (xor_none n f (λ k l. none k (omega arith) (λ d. omega arith))) (ap f e)
  | inr d ↦ ap₂ xor (xor_single n m f (omega arith) (λ k l. none k (omega arith))) (none n (omega arith) d) ∙ xor_false (f m)
]

-- an indicator of one number, times anything
pub xor_at : (n m : ℕ) (f : ℕ → Bool) → m < n → xor_below n (λ k. eqb k m && f k) ≡ f m
xor_at n m f h =
    xor_single n m (λ k. eqb k m && f k) h (λ k l d. ap (λ x. x && f k) (ne_eqb k m d))
    ∙ ap (λ x. x && f m) (eq-eqb m m refl)

pub range_in : (a b k : ℕ) → a ≤ k → k < b → in_range a b k ≡ true
range_in a b k h l = ap₂ (λ x y. x && y) (le-leb a k h) (lt-ltb k b l)

range_before : (a b k : ℕ) → k < a → in_range a b k ≡ false
range_before a b k h = ap (λ x. x && ltb k b) (lt-leb a k h)

range_past : (a b k : ℕ) → b ≤ k → in_range a b k ≡ false
range_past a b k h = ap (λ x. leb a k && x) (le-ltb k b h) ∙ and-false (leb a k)

-- m is one of the n numbers from a on
pub one_of_range : (a n m : ℕ) → xor_below n (λ j. eqb m (a + j)) ≡ in_range a (a + n) m
one_of_range a n m = by (cases_lt m a) (cases_lt m (a + n))
  where
    by : (m < a) ⊎ (a ≤ m) → (m < a + n) ⊎ (a + n ≤ m) → xor_below n (λ j. eqb m (a + j)) ≡ in_range a (a + n) m
    by (inl h) s = xor_none n _ (λ j l. ne_eqb m (a + j) (λ e. omega arith)) ∙ sym (range_before a (a + n) m h)
    by (inr h) (inr l) = xor_none n _ (λ j k. ne_eqb m (a + j) (λ e. omega arith)) ∙ sym (range_past a (a + n) m l)
    by (inr h) (inl l) = at (m - a) (omega arith)
      where
        at : (d : ℕ) → m ≡ a + d → xor_below n (λ j. eqb m (a + j)) ≡ in_range a (a + n) m
        at d e = xor_single n d (λ j. eqb m (a + j)) (omega arith) (λ j k apart. ne_eqb m (a + j) (λ f. apart (omega arith))) ∙ eq-eqb m (a + d) e ∙ sym (range_in a (a + n) m h l)
