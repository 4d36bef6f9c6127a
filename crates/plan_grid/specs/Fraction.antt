-- Fractions, compared by cross products, and those that a `Ratio` can hold.
use Rattle.std.specs.Prelude.{◌≡◌, Bool, ℕ, ℤ, pos, ◌+ℤ◌, ◌-ℤ◌, ◌*ℤ◌, ◌≤ℤ◌, ◌≤◌, ◌*◌, unsigned_abs}
use Rattle.std.specs.Int.{◌∣◌, int_max}
use Rattle.std.specs.Ordering.{int_cmp, is_eq}
use Rattle.std.specs.declared.cmp.Ordering.{Ordering}
use Rattle.plan_spec.specs.Vector.{Vector}
use Rattle.plan_grid.specs.declared.bounds.TheConstants.{MOST_COORDINATE, MOST_DENOMINATOR}

-- num / den
pub record Fraction : Type 0 where
  pub num : ℤ
  pub den : ℤ

-- one value, whatever the terms
abbrev pub SameValue : Fraction → Fraction → Type 0
SameValue p q = p.num *ℤ q.den ≡ q.num *ℤ p.den

-- the denominator, and 1 where it is not positive: the laws of an order speak of all pairs of numbers
abbrev pub positive_den : Fraction → ℤ
positive_den p = int_max (pos 1) p.den

-- the order by value
abbrev pub fraction_cmp : Fraction → Fraction → Ordering
fraction_cmp p q = int_cmp (p.num *ℤ positive_den q) (q.num *ℤ positive_den p)

-- whether two have one value
abbrev pub fraction_eq : Fraction → Fraction → Bool
fraction_eq p q = is_eq (fraction_cmp p q)

-- a denominator from 1 to 2 ^ 52, at most 2046 in absolute value, in lowest terms
pub record IsRatio (p : Fraction) : Type 0 where
  pub positive : pos 1 ≤ℤ p.den
  pub den_bounded : unsigned_abs p.den ≤ MOST_DENOMINATOR
  pub num_bounded : unsigned_abs p.num ≤ MOST_COORDINATE * unsigned_abs p.den
  pub lowest : (d : ℕ) → d ∣ unsigned_abs p.num → d ∣ unsigned_abs p.den → d ≡ 1

-- the sum of the numerators over the sum of the denominators
abbrev pub mediant_of : Fraction → Fraction → Fraction
mediant_of p q = record { num = p.num +ℤ q.num; den = p.den +ℤ q.den }

-- half the sum
abbrev pub middle_of : Fraction → Fraction → Fraction
middle_of p q = record { num = p.num *ℤ q.den +ℤ q.num *ℤ p.den; den = pos 2 *ℤ (p.den *ℤ q.den) }

-- the y at x of the line through a and b, which have weight 1
abbrev pub height_of : Vector → Vector → Fraction → Fraction
height_of a b x = record {
  num = a.y *ℤ (b.x *ℤ x.den -ℤ x.num) +ℤ b.y *ℤ (x.num -ℤ a.x *ℤ x.den);
  den = (b.x -ℤ a.x) *ℤ x.den;
}

-- the point with these coordinates
abbrev pub point_at : Fraction → Fraction → Vector
point_at x y = record { x = x.num *ℤ y.den; y = y.num *ℤ x.den; w = x.den *ℤ y.den }

-- the least common multiple
abbrev pub IsLcm : ℕ → ℕ → ℕ → Type 0
IsLcm a b l = (a ∣ l) × (b ∣ l) × ((m : ℕ) → a ∣ m → b ∣ m → l ∣ m)
