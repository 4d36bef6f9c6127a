-- The list that is kept of a loop: from its least vertex on, and the other way round where it turns right there.
use Rattle.plan_spec.specs.Triangulation.{from_least, but_last}
use Rattle.std.proofs.Common.{◌≤◌, length, pos, ◌<ℤ◌, List, [], ◌∷◌, sym, subst, ◌≡◌, ◌++◌, reverse, All, ap, ◌∙◌}
use Rattle.plan_exact.specs.Sign.{Sign, is_negative, is_zero, is_positive}
use Rattle.plan_exact.proofs.Signs.{sign_of}
use Rattle.plan_spec.specs.Polygon.{IsFromLeast}
use Rattle.plan_spec.specs.SimplePolygon.{TurnsLeft, last}
use Rattle.plan_spec.specs.Vector.{Vector, turn, Before}
use Rattle.plan_plane.proofs.Backwards.{back, back_is}
use Rattle.plan_plane.proofs.Polygon.Corner.{polygon}
use Rattle.plan_poly.proofs.FromLeast.Ready.{split_last, ready, last_split}
use Rattle.plan_poly.proofs.Loop.Backwards.{reversed, reversed_is}
use Rattle.plan_poly.proofs.Loop.Corner.{AtCorner}
use Rattle.plan_poly.proofs.Loop.Loop.{Loop}
use Rattle.plan_poly.proofs.Loop.Straight.{not_straight}

turns_out : (v w : Vector) (mid : List Vector) (u : Vector) → pos 0 <ℤ turn u v w → TurnsLeft (polygon v w mid u)
turns_out v w [] u h = h
turns_out v w (m ∷ ms) u h = subst (λ u. pos 0 <ℤ turn u v w) (sym (split_last m ms u)) h

-- a loop that begins with its least vertex and turns left there
pub record Left (vs : List Vector) : Type 0 where
  pub loop : Loop vs
  pub least : IsFromLeast vs
  pub turns : TurnsLeft vs

pub from_least_is : (vs : List Vector) → Loop vs → 3 ≤ length vs → Loop (from_least vs) × IsFromLeast (from_least vs)
from_least_is vs l long =
    let r = ready vs l long in
    (subst Loop (sym r.from) r.loop, subst IsFromLeast (sym r.from) r.first)

-- a list of three vertices or more that begins with its least one, by the last vertex
record Listed (v w x : Vector) (xs : List Vector) : Type 0 where
  loop : Loop (polygon v w (but_last x xs) (last x xs))
  least : All (Before v) (w ∷ (but_last x xs ++ last x xs ∷ []))

listed : (v w x : Vector) (xs : List Vector) → Loop (v ∷ (w ∷ (x ∷ xs))) → IsFromLeast (v ∷ (w ∷ (x ∷ xs))) → Listed v w x xs
listed v w x xs l first =
    let list : w ∷ (x ∷ xs) ≡ w ∷ (but_last x xs ++ last x xs ∷ []) = ap (λ zs. w ∷ zs) (last_split x xs) in
    record { loop = subst (λ zs. Loop (v ∷ zs)) list l; least = subst (All (Before v)) list first }

-- where it does not turn right it turns left
pub as_it_is : (v w x : Vector) (xs : List Vector) → Loop (v ∷ (w ∷ (x ∷ xs))) → IsFromLeast (v ∷ (w ∷ (x ∷ xs))) → ¬ (turn (last x xs) v w <ℤ pos 0) → Left (v ∷ (w ∷ (x ∷ xs)))
as_it_is v w x xs l first not_right = record { loop = l; least = first; turns = by (sign_of (turn (last x xs) v w)) }
  where
    by : Sign (turn (last x xs) v w) → pos 0 <ℤ turn (last x xs) v w
    by (is_positive h) = h
    by (is_zero z) = let k = listed v w x xs l first in absurd (not_straight v w (but_last x xs) (last x xs) k.loop k.least z)
    by (is_negative h) = absurd (not_right h)

-- where it turns right, it turns left the other way round
pub the_other_way : (v w x : Vector) (xs : List Vector) → Loop (v ∷ (w ∷ (x ∷ xs))) → IsFromLeast (v ∷ (w ∷ (x ∷ xs))) → turn (last x xs) v w <ℤ pos 0 → Left (v ∷ reverse (w ∷ (x ∷ xs)))
the_other_way v w x xs l first right = subst Left other made
  where
    at : AtCorner v (last x xs) (back (but_last x xs)) w
    at = let k = listed v w x xs l first in reversed v w (but_last x xs) (last x xs) k.loop k.least right

    made : Left (polygon v (last x xs) (back (but_last x xs)) w)
    made = record { loop = at.loop; least = at.least; turns = turns_out v (last x xs) (back (but_last x xs)) w at.turns_left }

    other : polygon v (last x xs) (back (but_last x xs)) w ≡ v ∷ reverse (w ∷ (x ∷ xs))
    other = sym (reversed_is v w (but_last x xs) (last x xs)) ∙ ap (λ zs. v ∷ back zs) (sym (ap (λ zs. w ∷ zs) (last_split x xs))) ∙ ap (λ zs. v ∷ zs) (back_is (w ∷ (x ∷ xs)))
