-- The odd ends, and the parity, of chains that are put together, and sums modulo two over a rising list of numbers.
use Rattle.std.proofs.Common.{◌≡◌, ◌⊎◌, inl, inr, ⊎_elim, ℕ, zero, suc, ◌<◌, Bool, true, false, ◌&&◌, ◌||◌, List, [], ◌∷◌, ◌++◌, All, AllPairs, Contains, eqb, refl, sym, ap, ap₂, ◌∙◌, arith}
use Rattle.std.proofs.lemmas.Bool.{ne_eqb, eq-eqb, eqb-true, cases_eq, or_left, or_right, or_cases}
use Rattle.std.proofs.lemmas.List.Elements.{All-tail}
use Rattle.std.specs.List.{flat_map}
use Rattle.plan_spec.specs.Vector.{Vector, same}
use Rattle.plan_spec.specs.Segment.{Segment}
use Rattle.plan_spec.specs.Parity.{parity, xor}
use Rattle.plan_spec.specs.Chain.{odd_end}
use Rattle.plan_cross.proofs.ParityLaw.Xor.{xor_false, xor_assoc}
use Rattle.plan_poly.proofs.EvenOdd.Chains.{parity_append}
use Rattle.plan_ring.proofs.Sums.{xor_below, xor_alike, xor_both, xor_at, xor_none}

pub odd_end_append : (xs ys : List Segment) (z : Vector) → odd_end (xs ++ ys) z ≡ xor (odd_end xs z) (odd_end ys z)
odd_end_append [] ys z = refl
odd_end_append (x ∷ xs) ys z = ap (xor (xor (same x.a z) (same x.b z))) (odd_end_append xs ys z) ∙ sym (xor_assoc (xor (same x.a z) (same x.b z)) (odd_end xs z) (odd_end ys z))

-- ---- a sum over a list of numbers
abbrev pub xor_over : (ℕ → Bool) → List ℕ → Bool
xor_over f [] = false
xor_over f (n ∷ ns) = xor (f n) (xor_over f ns)

pub odd_end_flat : (ss : ℕ → List Segment) (z : Vector) (ns : List ℕ) → odd_end (flat_map ss ns) z ≡ xor_over (λ n. odd_end (ss n) z) ns
odd_end_flat ss z [] = refl
odd_end_flat ss z (n ∷ ns) = odd_end_append (ss n) (flat_map ss ns) z ∙ ap (xor (odd_end (ss n) z)) (odd_end_flat ss z ns)

pub parity_flat : (ss : ℕ → List Segment) (z : Vector) (ns : List ℕ) → parity (flat_map ss ns) z ≡ xor_over (λ n. parity (ss n) z) ns
parity_flat ss z [] = refl
parity_flat ss z (n ∷ ns) = parity_append (ss n) (flat_map ss ns) z ∙ ap (xor (parity (ss n) z)) (parity_flat ss z ns)

-- ---- whether a number is in a list
abbrev pub has : List ℕ → ℕ → Bool
has [] n = false
has (m ∷ ms) n = eqb m n || has ms n

pub has_true : (ns : List ℕ) (n : ℕ) → Contains ns n → has ns n ≡ true
has_true [] n (k, within, is) = absurd (omega arith)
has_true (m ∷ ms) n (zero, within, is) = or_left (eqb m n) (has ms n) (eq-eqb m n is)
has_true (m ∷ ms) n (suc k, within, is) = or_right (eqb m n) (has ms n) (has_true ms n (k, omega arith, is))

pub has_from : (ns : List ℕ) (n : ℕ) → has ns n ≡ true → Contains ns n
has_from [] n e = absurd (cc)
has_from (m ∷ ms) n e = ⊎_elim (λ h. (0, omega arith, eqb-true m n h)) (λ h. let c = has_from ms n h in let within = c.1 in (suc c.0, omega arith, c.2)) (or_cases (eqb m n) (has ms n) e)

has_later : (n : ℕ) (ns : List ℕ) → All (λ m. n < m) ns → has ns n ≡ false
has_later n [] later = refl
has_later n (m ∷ ms) later =
    let l : n < m = later 0 m (omega arith) in
    ap₂ (λ x y. x || y) (ne_eqb m n (λ e. omega arith)) (has_later n ms (All-tail (λ m. n < m) m ms later))

-- over a rising list as over all numbers, with the question whether the number is in it
pub over_rising : (count : ℕ) (f : ℕ → Bool) (ns : List ℕ) → AllPairs (λ m n. m < n) ns → ((n : ℕ) → has ns n ≡ true → n < count) → xor_over f ns ≡ xor_below count (λ n. has ns n && f n)
over_rising count f [] rises within = sym (xor_none count (λ n. false) (λ k l. refl))
over_rising count f (m ∷ ms) rises within =
    ap (xor (f m)) (over_rising count f ms (λ i j d l w. rises (suc i) (suc j) d (omega arith) (omega arith)) (λ n h. within n (or_right (eqb m n) (has ms n) h)))
    ∙ sym (xor_alike count _ _ (λ n l. apart n (cases_eq n m)) ∙ xor_both count (λ n. eqb n m && f n) (λ n. has ms n && f n) ∙ ap (λ x. xor x (xor_below count (λ n. has ms n && f n))) (xor_at count m f (within m (or_left (eqb m m) (has ms m) (eq-eqb m m refl)))))
  where
    later : has ms m ≡ false
    later = has_later m ms (λ k d w. rises 0 (suc k) d (omega arith) (omega arith))

    apart : (n : ℕ) → (n ≡ m) ⊎ (¬ (n ≡ m)) → ((eqb m n || has ms n) && f n) ≡ xor (eqb n m && f n) (has ms n && f n)
    apart n (inl e) =
        let here : has ms n ≡ false = ap (has ms) e ∙ later in
        ap (λ x. x && f n) (or_left (eqb m n) (has ms n) (eq-eqb m n (sym e)))
        ∙ sym (ap₂ xor (ap (λ x. x && f n) (eq-eqb n m e)) (ap (λ x. x && f n) here) ∙ xor_false (f n))
    apart n (inr d) = ap (λ x. (x || has ms n) && f n) (ne_eqb m n (λ e. d (sym e))) ∙ sym (ap (λ x. xor (x && f n) (has ms n && f n)) (ne_eqb n m d))
