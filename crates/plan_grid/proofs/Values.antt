-- The values of fractions: over another denominator, and of what is computed from two of them over a common one.
use Rattle.std.proofs.Common.{◌≡◌, ℕ, ◌*◌, ◌≤◌, ℤ, pos, negsuc, ◌+ℤ◌, ◌*ℤ◌, ◌≤ℤ◌, ◌<ℤ◌, unsigned_abs, ap, ◌∙◌, [], ◌∷◌, arith}
use Rattle.std.proofs.lemmas.Int.{ints}
use Rattle.plan_exact.specs.Expr.{var, con, ◌⊕◌, ◌⊗◌}
use Rattle.plan_exact.proofs.Ring.{ring}
use Rattle.plan_exact.proofs.Sizes.{product_at_most}
use Rattle.plan_exact.proofs.Certificates.{eq_by, from_eq, multiple, add_zero}

-- n / d over the denominator l, which is d times k
pub over_value : (n d : ℤ) (k l : ℕ) → pos 1 ≤ℤ d → unsigned_abs d * k ≡ l → n *ℤ pos k *ℤ d ≡ n *ℤ pos l
over_value n (pos m) k l h e = ring (n ∷ pos k ∷ pos m ∷ []) (var 0 ⊗ var 1 ⊗ var 2) (var 0 ⊗ (var 2 ⊗ var 1)) tt ∙ ap (λ z. n *ℤ pos z) e
over_value n (negsuc m) k l h e = absurd (omega (arith, ints))

pub over_size : (r n d k l : ℕ) → r ≤ n * k → n ≤ 2046 * d → d * k ≡ l → r ≤ 2046 * l
over_size r n d k l h b e = omega (arith, product_at_most n k (2046 * d) k b (omega arith), ap (λ z. 2046 * z) e)

-- rx / rw is n / d, where it is s / l and s is n / d over l
pub coordinate_value : (rx rw n d e s l : ℤ) → pos 0 <ℤ l → s *ℤ d ≡ n *ℤ l → rx *ℤ l ≡ s *ℤ rw → rx *ℤ (d *ℤ e) ≡ n *ℤ e *ℤ rw
coordinate_value rx rw n d e s l positive h k =
    let xs = rx ∷ rw ∷ n ∷ d ∷ e ∷ s ∷ l ∷ [] in
    eq_by {xs = xs} {s = var 6} (record { positive = positive })
    (add_zero (multiple (var 3 ⊗ var 4) (from_eq xs (var 0 ⊗ var 6) (var 5 ⊗ var 1) k)) (multiple (var 1 ⊗ var 4) (from_eq xs (var 5 ⊗ var 3) (var 2 ⊗ var 6) h)))
    (var 0 ⊗ (var 3 ⊗ var 4)) (var 2 ⊗ var 4 ⊗ var 1) tt

-- rn / rd is half the sum of an / ad and bn / bd, where it is (s + t) / 2l and s and t are the two over l
pub middle_value : (rn rd an ad bn bd s t l : ℤ) → pos 0 <ℤ l → s *ℤ ad ≡ an *ℤ l → t *ℤ bd ≡ bn *ℤ l → rn *ℤ (pos 2 *ℤ l) ≡ (s +ℤ t) *ℤ rd → rn *ℤ (pos 2 *ℤ (ad *ℤ bd)) ≡ (an *ℤ bd +ℤ bn *ℤ ad) *ℤ rd
middle_value rn rd an ad bn bd s t l positive h k m =
    let xs = rn ∷ rd ∷ an ∷ ad ∷ bn ∷ bd ∷ s ∷ t ∷ l ∷ [] in
    eq_by {xs = xs} {s = var 8} (record { positive = positive })
    (add_zero (add_zero (multiple (var 3 ⊗ var 5) (from_eq xs (var 0 ⊗ (con (pos 2) ⊗ var 8)) ((var 6 ⊕ var 7) ⊗ var 1) m)) (multiple (var 1 ⊗ var 5) (from_eq xs (var 6 ⊗ var 3) (var 2 ⊗ var 8) h))) (multiple (var 1 ⊗ var 3) (from_eq xs (var 7 ⊗ var 5) (var 4 ⊗ var 8) k)))
    (var 0 ⊗ (con (pos 2) ⊗ (var 3 ⊗ var 5))) ((var 2 ⊗ var 5 ⊕ var 4 ⊗ var 3) ⊗ var 1) tt

-- a sum is in range over the sum of the denominators
pub sum_bounded : (p a q b : ℤ) → pos 1 ≤ℤ a → pos 1 ≤ℤ b → unsigned_abs p ≤ 2046 * unsigned_abs a → unsigned_abs q ≤ 2046 * unsigned_abs b → unsigned_abs (p +ℤ q) ≤ 2046 * unsigned_abs (a +ℤ b)
sum_bounded p a q b ha hb hp hq = omega (arith, ints)
