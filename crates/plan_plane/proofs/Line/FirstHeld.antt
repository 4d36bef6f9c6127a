-- Where, going along a line from its first end, a block first holds, and where the first of several blocks does. A block holds where each of its pairs has a value that is not negative.
use Rattle.std.proofs.Common.{◌≡◌, ◌⊎◌, inl, inr, ℤ, pos, ◌-ℤ◌, ◌*ℤ◌, neg_ℤ, ◌<ℤ◌, ◌≤ℤ◌, List, [], ◌∷◌, Any, get_or, refl, subst, arith}
use Rattle.std.proofs.lemmas.List.Elements.{All-nil, All-cons, All-head, All-tail, All-weaker}
use Rattle.plan_exact.specs.Expr.{Expr, var, con, ◌⊕◌, ◌⊖◌, ◌⊗◌, neg}
use Rattle.plan_exact.specs.Sign.{Sign, is_negative, is_zero, is_positive}
use Rattle.plan_exact.proofs.Certificates.{lt_from, le_from, eq_from, absurd_by}
use Rattle.plan_exact.proofs.Laws.{linear, one_mul, zero_mul}
use Rattle.plan_exact.proofs.Ring.{ring}
use Rattle.plan_exact.proofs.Signs.{pos_of_pos_mul, sign_of, le_or_lt, signs, zeros, mul_nonneg, mul_pos, mul_pos_neg, le_of_lt, nonneg_of_mul, zero_of_mul_left}
use Rattle.plan_plane.proofs.Lists.{any_here, any_there}
use Rattle.plan_plane.proofs.Line.Values.{Pair, value, Held, Open, Earlier, Starts, First, never, at, NoneHeld, FirstHeld}
use Rattle.plan_spec.specs.Weights.{Weights, IsWeights}

-- ---- the order of places
-- the variables of three weights and two pairs
abbrev variables : Weights → Weights → Weights → Pair → Pair → List ℤ
variables u y z n m = u.s ∷ u.t ∷ y.s ∷ y.t ∷ z.s ∷ z.t ∷ n.a ∷ n.b ∷ m.a ∷ m.b ∷ []

record Place : Type 0 where
  s : Expr
  t : Expr

record Covector : Type 0 where
  a : Expr
  b : Expr

abbrev U : Place
U = record { s = var 0; t = var 1 }

abbrev Y : Place
Y = record { s = var 2; t = var 3 }

abbrev Z : Place
Z = record { s = var 4; t = var 5 }

abbrev N : Covector
N = record { a = var 6; b = var 7 }

abbrev M : Covector
M = record { a = var 8; b = var 9 }

-- how much later z is than u
abbrev later : Place → Place → Expr
later u z = z.t ⊗ u.s ⊖ u.t ⊗ z.s

abbrev worth : Covector → Place → Expr
worth n z = z.s ⊗ n.a ⊕ z.t ⊗ n.b

none : Pair
none = record { a = pos 0; b = pos 0 }

positive_second : (u z : Weights) → IsWeights u → IsWeights z → Earlier u z → pos 0 <ℤ z.t
positive_second u z hu hz e = pos_of_pos_mul z.t u.s hz.second (omega (arith, linear, e.less, mul_nonneg hu.second hz.first))

-- y is not later than z
record NotLater (y z : Weights) : Type 0 where
  least : (y.t *ℤ z.s) ≤ℤ (z.t *ℤ y.s)

not_later : (y z : Weights) → NotLater y z ⊎ Earlier z y
not_later y z = by (le_or_lt (y.t *ℤ z.s) (z.t *ℤ y.s))
  where
    by : ((y.t *ℤ z.s) ≤ℤ (z.t *ℤ y.s)) ⊎ ((z.t *ℤ y.s) <ℤ (y.t *ℤ z.s)) → NotLater y z ⊎ Earlier z y
    by (inl h) = inl (record { least = h })
    by (inr h) = inr (record { less = h })

kept_second : (y z : Weights) → IsWeights y → IsWeights z → pos 0 <ℤ y.t → NotLater y z → pos 0 <ℤ z.t
kept_second y z hy hz h f = by (sign_of z.t)
  where
    by : Sign z.t → pos 0 <ℤ z.t
    by (is_positive p) = p
    by (is_negative n) = absurd (omega (arith, linear, hz.second))
    by (is_zero e) =
        let zs : pos 0 <ℤ z.s = omega (arith, linear, hz.some) in
        absurd (omega (arith, linear, f.least, mul_pos h zs, zero_of_mul_left z.t y.s e))

earlier_trans : (u y z : Weights) → IsWeights u → IsWeights y → IsWeights z → Earlier u y → NotLater y z → Earlier u z
earlier_trans u y z hu hy hz e f =
    let hyt = positive_second u y hu hy e in
    let hzt = kept_second y z hy hz hyt f in
    let hut = hu.second in
    let less = e.less in
    let least = f.least in
    record { less = lt_from (variables u y z none none) Y.t (Z.t ⊗ later U Y ⊕ U.t ⊗ later Y Z) (U.t ⊗ Z.s) (Z.t ⊗ U.s) tt hyt (search signs) }

-- ---- where one block first holds
held_or_not : (K : List Pair) (z : Weights) → Held K z ⊎ (¬ (Held K z))
held_or_not [] z = inl (All-nil (λ n. pos 0 ≤ℤ value n z))
held_or_not (n ∷ K) z = by (le_or_lt (pos 0) (value n z)) (held_or_not K z)
  where
    by : (pos 0 ≤ℤ value n z) ⊎ (value n z <ℤ pos 0) → Held K z ⊎ (¬ (Held K z)) → Held (n ∷ K) z ⊎ (¬ (Held (n ∷ K) z))
    by (inl h) (inl k) = inl (All-cons (λ n. pos 0 ≤ℤ value n z) n K h k)
    by (inl h) (inr k) = inr (λ all. k (All-tail (λ n. pos 0 ≤ℤ value n z) n K all))
    by (inr h) k = inr (λ all. let g = All-head (λ n. pos 0 ≤ℤ value n z) n K all in omega (arith, linear))

starts_more : (n : Pair) (K : List Pair) (z : Weights) → Starts K z → Starts (n ∷ K) z
starts_more n K z (inl e) = inl e
starts_more n K z (inr some) = inr (any_there (λ n. value n z ≡ pos 0) n K some)

-- n is negative at z, and falls towards the second end: it is negative from z on
negative_on : (n : Pair) (z u : Weights) → IsWeights z → IsWeights u → NotLater z u → value n z <ℤ pos 0 → n.b <ℤ pos 0 → value n u <ℤ pos 0
negative_on n z u hz hu f v b = by (sign_of u.s)
  where
    hzs : pos 0 ≤ℤ z.s
    hzs = hz.first

    hut : pos 0 ≤ℤ u.t
    hut = hu.second

    least : (z.t *ℤ u.s) ≤ℤ (u.t *ℤ z.s)
    least = f.least

    negative : pos 0 <ℤ u.s → value n u <ℤ pos 0
    negative h = elim (le_or_lt (pos 0) (value n u)) [
      | inr k ↦ k
      | inl k ↦ absurd (absurd_by {xs = variables u u z n n} {c = Z.s ⊗ worth N U ⊕ U.s ⊗ neg (worth N Z) ⊕ neg N.b ⊗ later Z U} (record { positive = search signs }) tt)
    ]

    by : Sign u.s → value n u <ℤ pos 0
    by (is_positive h) = negative h
    by (is_negative h) = absurd (omega (arith, linear, hu.first))
    by (is_zero e) =
        let t : pos 0 <ℤ u.t = omega (arith, linear, hu.some) in
        omega (arith, linear, zero_of_mul_left u.s n.a e, mul_pos_neg t b)

-- n is negative at z and not at a later u, and m is not negative at both: so it is not where n is 0
apart : (n : Pair) (z u : Weights) → IsWeights z → IsWeights u → value n z <ℤ pos 0 → pos 0 ≤ℤ value n u → n.a <ℤ n.b → (u.s *ℤ z.t) <ℤ (z.s *ℤ u.t)
apart n z u hz hu v w up =
    let hzsome = hz.some in
    let husome = hu.some in
    lt_from (variables z u u n n) (N.b ⊖ N.a) (neg (worth N U) ⊗ (Y.s ⊕ Y.t) ⊕ worth N Y ⊗ (U.s ⊕ U.t)) (Y.s ⊗ U.t) (U.s ⊗ Y.t) tt (search signs) (search signs)

carried : (n m : Pair) (z u : Weights) → (u.s *ℤ z.t) <ℤ (z.s *ℤ u.t) → value n z <ℤ pos 0 → pos 0 ≤ℤ value n u → pos 0 ≤ℤ value m z → pos 0 ≤ℤ value m u → pos 0 ≤ℤ value m (record { s = n.b; t = neg_ℤ n.a })
carried n m z u d v w hz hu =
    le_from (variables z u u n m) (U.s ⊗ Y.t ⊖ Y.s ⊗ U.t) (worth N Y ⊗ worth M U ⊕ neg (worth N U) ⊗ worth M Y) (con (pos 0)) (N.b ⊗ M.a ⊕ neg N.a ⊗ M.b) tt (search signs) (search signs)

-- the next pair of the block, negative at the first place of the rest and not falling: the place where it is 0 is the first one, or there is none
turned : (n : Pair) (K : List Pair) (z : Weights) → IsWeights z → Held K z → ((u : Weights) → IsWeights u → Earlier u z → ¬ (Held K u)) → value n z <ℤ pos 0 → pos 0 ≤ℤ n.b → First (n ∷ K)
turned n K z hz held before v hb = by (held_or_not K w)
  where
    w : Weights
    w = record { s = n.b; t = neg_ℤ n.a }

    falls : n.a <ℤ pos 0
    falls = elim (le_or_lt (pos 0) n.a) [
      | inr k ↦ k
      | inl k ↦ absurd (omega (arith, linear, mul_nonneg hz.first k, mul_nonneg hz.second hb))
    ]

    hw : IsWeights w
    hw = record { first = hb; second = omega (arith, linear, falls); some = omega (arith, linear, falls) }

    zero : value n w ≡ pos 0
    zero = ring (variables z z z n n) (N.b ⊗ N.a ⊕ neg N.a ⊗ N.b) (con (pos 0)) tt

    by : Held K w ⊎ (¬ (Held K w)) → First (n ∷ K)
    by (inl h) = at w hw (All-cons (λ n. pos 0 ≤ℤ value n w) n K (omega (arith, linear, zero)) h) (inr (any_here (λ n. value n w ≡ pos 0) n K zero)) earlier
      where
        earlier : (u : Weights) → IsWeights u → Earlier u w → ¬ (Held (n ∷ K) u)
        earlier u hu e all =
            let g = All-head (λ n. pos 0 ≤ℤ value n u) n K all in
            let less = e.less in
            absurd_by {xs = variables u u u n n} {c = worth N U ⊕ (neg N.a ⊗ U.s ⊖ U.t ⊗ N.b)} (record { positive = search signs }) tt
    by (inr off) = never from
      where
        from : (u : Weights) → IsWeights u → ¬ (Held (n ∷ K) u)
        from u hu all = elim (not_later z u) [
          | inr e ↦ before u hu e (All-tail (λ n. pos 0 ≤ℤ value n u) n K all)
          | inl f ↦
              let g = All-head (λ n. pos 0 ≤ℤ value n u) n K all in
              let d = apart n z u hz hu v g (omega (arith, linear, falls)) in
              off (λ k e within. carried n (get_or K k e) z u d v g (held k e within) (All-tail (λ n. pos 0 ≤ℤ value n u) n K all k e within))
        ]

first_more : (n : Pair) (K : List Pair) → First K → First (n ∷ K)
first_more n K (never h) = never (λ u hu all. h u hu (All-tail (λ n. pos 0 ≤ℤ value n u) n K all))
first_more n K (at z hz held starts before) = by (le_or_lt (pos 0) (value n z)) (le_or_lt (pos 0) n.b)
  where
    by : (pos 0 ≤ℤ value n z) ⊎ (value n z <ℤ pos 0) → (pos 0 ≤ℤ n.b) ⊎ (n.b <ℤ pos 0) → First (n ∷ K)
    by (inl v) b = at z hz (All-cons (λ n. pos 0 ≤ℤ value n z) n K v held) (starts_more n K z starts) (λ u hu e all. before u hu e (All-tail (λ n. pos 0 ≤ℤ value n u) n K all))
    by (inr v) (inl b) = turned n K z hz held before v b
    by (inr v) (inr b) = never from
      where
        from : (u : Weights) → IsWeights u → ¬ (Held (n ∷ K) u)
        from u hu all = elim (not_later z u) [
          | inr e ↦ before u hu e (All-tail (λ n. pos 0 ≤ℤ value n u) n K all)
          | inl f ↦
              let g = All-head (λ n. pos 0 ≤ℤ value n u) n K all in
              let k = negative_on n z u hz hu f v b in
              omega (arith, linear)
        ]

pub first : (K : List Pair) → First K
first [] = at (record { s = pos 1; t = pos 0 }) (record { first = omega (arith, linear); second = omega (arith, linear); some = omega (arith, linear) }) (All-nil (λ n. pos 0 ≤ℤ value n (record { s = pos 1; t = pos 0 }))) (inl refl) earlier
  where
    earlier : (u : Weights) → IsWeights u → Earlier u (record { s = pos 1; t = pos 0 }) → ¬ (Held [] u)
    earlier u hu e all = omega (arith, linear, e.less, hu.second, zero_mul u.s)
first (n ∷ K) = first_more n K (first K)

-- ---- where the first of several blocks holds
abbrev StartsAt : List (List Pair) → Weights → Type 0
StartsAt Ks z = Any (λ K. Held K z × Starts K z) Ks

data FirstOf (Ks : List (List Pair)) : Type 0 where
  nowhere : ((u : Weights) → IsWeights u → NoneHeld Ks u) → FirstOf Ks
  earliest : (z : Weights) → IsWeights z → StartsAt Ks z → ((u : Weights) → IsWeights u → Earlier u z → NoneHeld Ks u) → FirstOf Ks

first_of_more : (K : List Pair) (Ks : List (List Pair)) → First K → FirstOf Ks → FirstOf (K ∷ Ks)
first_of_more K Ks (never h) (nowhere g) = nowhere (λ u hu. All-cons (λ K. ¬ (Held K u)) K Ks (h u hu) (g u hu))
first_of_more K Ks (never h) (earliest z hz starts before) = earliest z hz (any_there (λ K. Held K z × Starts K z) K Ks starts) (λ u hu e. All-cons (λ K. ¬ (Held K u)) K Ks (h u hu) (before u hu e))
first_of_more K Ks (at y hy held starts before) (nowhere g) = earliest y hy (any_here (λ K. Held K y × Starts K y) K Ks (held, starts)) (λ u hu e. All-cons (λ K. ¬ (Held K u)) K Ks (before u hu e) (g u hu))
first_of_more K Ks (at y hy held starts before) (earliest z hz others after) = by (not_later y z)
  where
    by : NotLater y z ⊎ Earlier z y → FirstOf (K ∷ Ks)
    by (inl f) = earliest y hy (any_here (λ K. Held K y × Starts K y) K Ks (held, starts)) (λ u hu e. All-cons (λ K. ¬ (Held K u)) K Ks (before u hu e) (after u hu (earlier_trans u y z hu hy hz e f)))
    by (inr e) =
        let weak : NotLater z y = let less = e.less in record { least = omega (arith, linear) } in
        earliest z hz (any_there (λ K. Held K z × Starts K z) K Ks others) (λ u hu d. All-cons (λ K. ¬ (Held K u)) K Ks (before u hu (earlier_trans u z y hu hz hy d weak)) (after u hu d))

first_of : (Ks : List (List Pair)) → FirstOf Ks
first_of [] = nowhere (λ u hu. All-nil (λ K. ¬ (Held K u)))
first_of (K ∷ Ks) = first_of_more K Ks (first K) (first_of Ks)

-- ---- at the first place no block is open
open_held : (K : List Pair) (z : Weights) → Open K z → Held K z
open_held K z h = All-weaker (λ n. pos 0 <ℤ value n z) (λ n. pos 0 ≤ℤ value n z) (λ n p. le_of_lt p) K h

-- two weights of one place have their values of one sign
level : (y z : Weights) → IsWeights y → IsWeights z → NotLater y z → NotLater z y → (n : Pair) → value n y ≡ pos 0 → value n z ≡ pos 0
level y z hy hz f g n e =
    let some = hy.some in
    let d : z.t *ℤ y.s -ℤ y.t *ℤ z.s ≡ pos 0 = omega (arith, linear, f.least, g.least) in
    eq_from (variables y y z n n) (Y.s ⊕ Y.t) ((Z.s ⊕ Z.t) ⊗ worth N Y ⊕ (N.b ⊖ N.a) ⊗ later Y Z) (worth N Z) (con (pos 0)) tt some (search zeros)

level_second : (y z : Weights) → IsWeights y → IsWeights z → NotLater y z → NotLater z y → y.t ≡ pos 0 → z.t ≡ pos 0
level_second y z hy hz f g e =
    let some = hy.some in
    let d : z.t *ℤ y.s -ℤ y.t *ℤ z.s ≡ pos 0 = omega (arith, linear, f.least, g.least) in
    eq_from (variables y y z none none) (Y.s ⊕ Y.t) ((Z.s ⊕ Z.t) ⊗ Y.t ⊕ later Y Z) Z.t (con (pos 0)) tt some (search zeros)

not_open : (K : List Pair) (z : Weights) → IsWeights z → pos 0 <ℤ z.t → ((u : Weights) → IsWeights u → Earlier u z → ¬ (Held K u)) → First K → ¬ (Open K z)
not_open K z hz ht earlier (never h) all = h z hz (open_held K z all)
not_open K z hz ht earlier (at y hy held starts before) all = by (not_later y z) (not_later z y)
  where
    by : NotLater y z ⊎ Earlier z y → NotLater z y ⊎ Earlier y z → ⊥
    by (inr e) t = before z hz e (open_held K z all)
    by (inl f) (inr e) = earlier y hy e held
    by (inl f) (inl g) = zero starts
      where
        zero : Starts K y → ⊥
        zero (inl e) = omega (arith, linear, level_second y z hy hz f g e)
        zero (inr (k, n, within, is, e)) = let h = subst (λ m. pos 0 <ℤ value m z) is (all k n within) in omega (arith, linear, level y z hy hz f g n e)

-- weights with nothing of the second end are those of the first end
at_start : (K : List Pair) (z : Weights) → IsWeights z → z.t ≡ pos 0 → Held K z → Held K (record { s = pos 1; t = pos 0 })
at_start K z hz e held k d within = from (get_or K k d) (held k d within)
  where
    from : (n : Pair) → pos 0 ≤ℤ value n z → pos 0 ≤ℤ value n (record { s = pos 1; t = pos 0 })
    from n h =
        let some : pos 0 <ℤ z.s = omega (arith, linear, hz.some) in
        let g : pos 0 ≤ℤ (z.s *ℤ n.a) = omega (arith, linear, zero_of_mul_left z.t n.b e) in
        let a = nonneg_of_mul some g in
        omega (arith, linear, one_mul n.a, zero_mul n.b)

pub first_held : (Ks : List (List Pair)) → NoneHeld Ks (record { s = pos 1; t = pos 0 }) → ((z : Weights) → IsWeights z → NoneHeld Ks z) ⊎ FirstHeld Ks
first_held Ks off = by (first_of Ks)
  where
    by : FirstOf Ks → ((z : Weights) → IsWeights z → NoneHeld Ks z) ⊎ FirstHeld Ks
    by (nowhere h) = inl h
    by (earliest z hz (k, K, within, e, (held, starts)) before) = second starts
      where
        off_K : ¬ (Held K (record { s = pos 1; t = pos 0 }))
        off_K = subst (λ K. ¬ (Held K (record { s = pos 1; t = pos 0 }))) e (off k K within)

        beyond : pos 0 <ℤ z.t
        beyond = elim (sign_of z.t) [
          | is_positive p ↦ p
          | is_negative n ↦ absurd (omega (arith, linear, hz.second))
          | is_zero e ↦ absurd (off_K (at_start K z hz e held))
        ]

        second : Starts K z → ((z : Weights) → IsWeights z → NoneHeld Ks z) ⊎ FirstHeld Ks
        second (inl e) = absurd (omega (arith, linear, beyond))
        second (inr some) = inr (record {
          place = z;
          weights = hz;
          beyond = beyond;
          held = (k, K, within, e, (held, some));
          not_open = λ j d below. not_open (get_or Ks j d) z hz beyond (λ u hu e. before u hu e j d below) (first (get_or Ks j d));
        })
