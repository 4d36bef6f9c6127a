-- The first segment of a list that is of some kind, found one by one.
use Rattle.std.proofs.Common.{ℕ, zero, suc, ◌<◌, List, [], ◌∷◌, length, get_or, slice_get, All, IfSome, IsSomeAnd, arith}
use Rattle.plan_spec.specs.Segment.{Segment}
use Rattle.plan_spec.specs.Reply.{IsFirst}

module _ (P : Segment → Type 0) where
  pub some_at : (ss : List Segment) (k : ℕ) (d : Segment) → k < length ss → P (get_or ss k d) → IsSomeAnd (slice_get ss k) P
  some_at [] k d within h = absurd (omega arith)
  some_at (s ∷ ss) zero d within h = h
  some_at (s ∷ ss) (suc k) d within h = some_at ss k d (omega arith) h

  pub if_at : (ss : List Segment) (k : ℕ) (d : Segment) → k < length ss → P (get_or ss k d) → IfSome (slice_get ss k) P
  if_at [] k d within h = absurd (omega arith)
  if_at (s ∷ ss) zero d within h = h
  if_at (s ∷ ss) (suc k) d within h = if_at ss k d (omega arith) h

  pub each_of : (ss : List Segment) → ((k : ℕ) → k < length ss → IfSome (slice_get ss k) P) → All P ss
  each_of [] h k d within = absurd (omega arith)
  each_of (s ∷ ss) h zero d within = h 0 (omega arith)
  each_of (s ∷ ss) h (suc k) d within = each_of ss (λ j w. h (suc j) (omega arith)) k d (omega arith)

-- what follows of each segment follows of the first
module _ (P Q : Segment → Type 0) where
  some_weaker : (ss : List Segment) (k : ℕ) → All (λ s. P s → Q s) ss → IsSomeAnd (slice_get ss k) P → IsSomeAnd (slice_get ss k) Q
  some_weaker [] k f h = h
  some_weaker (s ∷ ss) zero f h = f 0 s (omega arith) h
  some_weaker (s ∷ ss) (suc k) f h = some_weaker ss k (λ i d w. f (suc i) d (omega arith)) h

  if_weaker : (ss : List Segment) (k : ℕ) → All (λ s. P s → Q s) ss → IfSome (slice_get ss k) P → IfSome (slice_get ss k) Q
  if_weaker [] k f h = h
  if_weaker (s ∷ ss) zero f h = f 0 s (omega arith) h
  if_weaker (s ∷ ss) (suc k) f h = if_weaker ss k (λ i d w. f (suc i) d (omega arith)) h

pub first_weaker : (Bad Good Bad' Good' : Segment → Type 0) (ss : List Segment) (k : ℕ) → All (λ s. Bad s → Bad' s) ss → All (λ s. Good s → Good' s) ss → IsFirst Bad Good ss k → IsFirst Bad' Good' ss k
first_weaker Bad Good Bad' Good' ss k f g h = record {
  bad = some_weaker Bad Bad' ss k f h.bad;
  earlier = λ j below. if_weaker Good Good' ss j g (h.earlier j below);
}
