-- The segments of a path by number.
use Rattle.std.proofs.Common.{ℕ, suc, ◌+◌, ◌-◌, ◌<◌, min, max, List, [], ◌∷◌, length, get_or, slice_get, All, IfSome, IsSomeAnd, sym, subst, arith}
use Rattle.std.proofs.lemmas.List.Elements.{All-nil, All-cons}
use Rattle.plan_spec.specs.Vector.{Vector, IsPoint}
use Rattle.plan_spec.specs.Segment.{Segment, HasPoints, segment}
use Rattle.plan_spec.specs.Route.{legs}
use Rattle.plan_cross.proofs.First.{some_at, if_at, each_of}
use Rattle.plan_check.proofs.ClearPaths.{length_legs, leg_at}

-- segment k of the path, from its point k to the next one; the last one again where there is no next
abbrev pub leg : List Vector → ℕ → Vector → Segment
leg path k d = segment (get_or path k d) (get_or path (min (k + 1) (length path - 1)) d)

module _ (P : Segment → Type 0) (path : List Vector) (k : ℕ) (d : Vector) (some : 0 < length path) (within : k < max (length path - 1) 1) (h : P (leg path k d)) where
  here : P (get_or (legs path) k (leg path k d))
  here = subst P (sym (leg_at path k (leg path k d) d within some)) h

  pub some_leg : IsSomeAnd (slice_get (legs path) k) P
  some_leg = some_at P (legs path) k (leg path k d) (omega (arith, length_legs path some)) here

  pub if_leg : IfSome (slice_get (legs path) k) P
  if_leg = if_at P (legs path) k (leg path k d) (omega (arith, length_legs path some)) here

pub each_leg : (P : Segment → Type 0) (path : List Vector) → 0 < length path → ((k : ℕ) → k < max (length path - 1) 1 → IfSome (slice_get (legs path) k) P) → All P (legs path)
each_leg P path some h = each_of P (legs path) (λ k within. h k (omega (arith, length_legs path some)))

-- where the segments have points as ends, so has the path
pub path_points : (path : List Vector) → 0 < length path → All HasPoints (legs path) → All IsPoint path
path_points [] some h = absurd (omega arith)
path_points (p ∷ []) some h = All-cons IsPoint p [] (h 0 (segment p p) (omega arith)).0 (All-nil IsPoint)
path_points (p ∷ (q ∷ [])) some h = All-cons IsPoint p (q ∷ []) (h 0 (segment p q) (omega arith)).0 (All-cons IsPoint q [] (h 0 (segment p q) (omega arith)).1 (All-nil IsPoint))
path_points (p ∷ (q ∷ (r ∷ rest))) some h = All-cons IsPoint p (q ∷ (r ∷ rest)) (h 0 (segment p q) (omega arith)).0 (path_points (q ∷ (r ∷ rest)) (omega arith) (λ k d within. h (suc k) d (omega arith)))
