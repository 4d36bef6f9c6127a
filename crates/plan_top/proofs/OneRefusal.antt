-- A first scene is made or refused, and is refused for one reason.
use Rattle.std.proofs.Common.{◌≡◌, ◌⊎◌, inl, inr, ℕ, zero, suc, ◌<◌, ◌≤◌, List, [], ◌∷◌, refl, sym, ap, ap₂, subst, ◌∙◌, arith}
use Rattle.std.proofs.lemmas.Bool.{cases_lt}
use Rattle.plan_spec.specs.Vector.{Vector}
use Rattle.plan_spec.specs.SimplePolygon.{IsSimple, IsFirstWrongPair}
use Rattle.plan_grid.specs.declared.spot.Spot.{Spot}
use Rattle.plan_grid.specs.Spot.{spots_seen}
use Rattle.plan_spec.specs.Maps.{IsMapped, IsTooLarge}
use Rattle.plan_scene.specs.Scene.{Scene, Obstacle, scene_seen}
use Rattle.plan_scene.specs.Edits.{IsAdded, IsNotAdded}
use Rattle.plan_scene.specs.declared.fault.EditFault.{EditFault}
use Rattle.plan_scene.specs.declared.fault.EditFault.TheVariants.{Duplicate, Unknown, NotSimple, TooManyObstacles, TooManySums, NoMemory}
use Rattle.plan_reply.specs.First.{IsFirst, IsWhole, IsAddedAll, IsRefusedAt}
use Rattle.plan_reply.specs.Step.{IsCause}
use Rattle.plan_top.specs.First.{IsRefusedBy}
use Rattle.plan_top.specs.declared.status.Refusal.{Refusal}
use Rattle.plan_top.specs.declared.status.Refusal.TheVariants.{TooLong, Json, Form, Range, RobotNotSimple, Obstacle as ObstacleAt, TooManyRegions}
use Rattle.plan_top.proofs.OneFirst.{one_added, one_alone, one_whole}

-- ---- the first wrong pair
not_simple : (vs : List Vector) (i j : ℕ) → IsFirstWrongPair vs i j → ¬ (IsSimple vs)
not_simple vs i j h simple = simple i j h.ordered h.within h.wrong

not_earlier : (vs : List Vector) (i j k l : ℕ) → IsFirstWrongPair vs i j → IsFirstWrongPair vs k l → ¬ ((k < i) ⊎ ((k ≡ i) × (l < j)))
not_earlier vs i j k l h g earlier = h.first k l g.ordered g.within earlier g.wrong

one_pair : (vs : List Vector) (i j k l : ℕ) → IsFirstWrongPair vs i j → IsFirstWrongPair vs k l → (i ≡ k) × (j ≡ l)
one_pair vs i j k l h g = by (cases_lt i k) (cases_lt k i)
  where
    level : i ≡ k → (j < l) ⊎ (l ≤ j) → (l < j) ⊎ (j ≤ l) → (i ≡ k) × (j ≡ l)
    level e (inl less) _ = absurd (not_earlier vs k l i j g h (inr (e, less)))
    level e _ (inl less) = absurd (not_earlier vs i j k l h g (inr (sym e, less)))
    level e (inr a) (inr b) = (e, omega arith)

    by : (i < k) ⊎ (k ≤ i) → (k < i) ⊎ (i ≤ k) → (i ≡ k) × (j ≡ l)
    by (inl less) _ = absurd (not_earlier vs k l i j g h (inl less))
    by _ (inl less) = absurd (not_earlier vs i j k l h g (inl less))
    by (inr a) (inr b) = level (omega arith) (cases_lt j l) (cases_lt l j)

-- ---- one obstacle
module _ (s : Scene) (id : ℕ) (spots : List Spot) where
  pub added_or_not : (t : Scene) (f : EditFault) → IsAdded s id spots t → IsNotAdded s id spots f → ¬ (IsCause f)
  added_or_not t (Duplicate n) a h c = a.0 h.1
  added_or_not t (NotSimple i j) a h c = not_simple (spots_seen spots) i j h.1 a.4.given_simple.simple
  added_or_not t TooManyObstacles a h c = omega (arith, a.1, h.2)
  added_or_not t (TooManySums n) a h c = omega (arith, a.2, h.3, h.4)
  added_or_not t NoMemory a h c = c
  added_or_not t (Unknown n) a h c = h

  one_cause : (f g : EditFault) → IsNotAdded s id spots f → IsCause f → IsNotAdded s id spots g → IsCause g → f ≡ g
  one_cause (Duplicate n) (Duplicate m) h _ k _ = ap Duplicate (h.0 ∙ sym k.0)
  one_cause (Duplicate n) (NotSimple i j) h _ k _ = absurd (k.0 h.1)
  one_cause (Duplicate n) TooManyObstacles h _ k _ = absurd (k.0 h.1)
  one_cause (Duplicate n) (TooManySums m) h _ k _ = absurd (k.0 h.1)
  one_cause (NotSimple i j) (Duplicate m) h _ k _ = absurd (h.0 k.1)
  one_cause (NotSimple i j) (NotSimple a b) h _ k _ = let e = one_pair (spots_seen spots) i j a b h.1 k.1 in ap₂ NotSimple e.0 e.1
  one_cause (NotSimple i j) TooManyObstacles h _ k _ = absurd (not_simple (spots_seen spots) i j h.1 k.1)
  one_cause (NotSimple i j) (TooManySums m) h _ k _ = absurd (not_simple (spots_seen spots) i j h.1 k.1)
  one_cause TooManyObstacles (Duplicate m) h _ k _ = absurd (h.0 k.1)
  one_cause TooManyObstacles (NotSimple i j) h _ k _ = absurd (not_simple (spots_seen spots) i j k.1 h.1)
  one_cause TooManyObstacles TooManyObstacles h _ k _ = refl
  one_cause TooManyObstacles (TooManySums m) h _ k _ = absurd (omega (arith, h.2, k.2))
  one_cause (TooManySums n) (Duplicate m) h _ k _ = absurd (h.0 k.1)
  one_cause (TooManySums n) (NotSimple i j) h _ k _ = absurd (not_simple (spots_seen spots) i j k.1 h.1)
  one_cause (TooManySums n) TooManyObstacles h _ k _ = absurd (omega (arith, h.2, k.2))
  one_cause (TooManySums n) (TooManySums m) h _ k _ = ap TooManySums (h.3 ∙ sym k.3)
  one_cause NoMemory g h c k _ = absurd c
  one_cause (Unknown n) g h c k _ = absurd h
  one_cause f NoMemory h _ k c = absurd c
  one_cause f (Unknown n) h _ k c = absurd k

-- ---- one after another
all_or_refused : (os : List Obstacle) (s t : Scene) (i : ℕ) (f : EditFault) → IsAddedAll os s t → ¬ (IsRefusedAt i f os s)
all_or_refused [] s t i f h k = k
all_or_refused (o ∷ os) s t zero f h k = added_or_not s o.id o.spots h.0 f h.1 k.0 k.1
all_or_refused (o ∷ os) s t (suc i) f h k = all_or_refused os h.0 t i f h.2 (subst (IsRefusedAt i f os) (one_added s k.0 h.0 o k.1 h.1) k.2)

one_refused : (os : List Obstacle) (s : Scene) (i j : ℕ) (f g : EditFault) → IsRefusedAt i f os s → IsRefusedAt j g os s → (i ≡ j) × (f ≡ g)
one_refused [] s i j f g h k = absurd h
one_refused (o ∷ os) s zero zero f g h k = (refl, one_cause s o.id o.spots f g h.0 h.1 k.0 k.1)
one_refused (o ∷ os) s zero (suc j) f g h k = absurd (added_or_not s o.id o.spots k.0 f k.1 h.0 h.1)
one_refused (o ∷ os) s (suc i) zero f g h k = absurd (added_or_not s o.id o.spots h.0 g h.1 k.0 k.1)
one_refused (o ∷ os) s (suc i) (suc j) f g h k =
    let e = one_refused os h.0 i j f g h.2 (subst (IsRefusedAt j g os) (one_added s k.0 h.0 o k.1 h.1) k.2) in
    (ap suc e.0, e.1)

-- ---- the first scene
pub mapped_or_large : (s : Scene) → IsMapped (scene_seen s) → ¬ (IsTooLarge (scene_seen s))
mapped_or_large s m large = let over = large m.slabs m.regions m.is_map in let few = m.few in omega arith

whole_or_wrong : (given s : Scene) (i j : ℕ) → IsWhole given s → ¬ (IsFirstWrongPair (spots_seen given.robot) i j)
whole_or_wrong given s i j (a, is_a, h) k = not_simple (spots_seen given.robot) i j k is_a.is_read.given_simple.simple

whole_or_refused : (given s : Scene) (i : ℕ) (f : EditFault) → IsWhole given s → ¬ (IsRefusedBy given (ObstacleAt i f))
whole_or_refused given s i f (a, is_a, h) (b, is_b, k) = all_or_refused given.obstacles a s i f h (subst (IsRefusedAt i f given.obstacles) (one_alone given b a is_b is_a) k)

pub first_or_refused : (given s : Scene) (r : Refusal) → IsFirst given s → ¬ (IsRefusedBy given r)
first_or_refused given s (RobotNotSimple i j) h k = whole_or_wrong given s i j h.0 k
first_or_refused given s (ObstacleAt i f) h k = whole_or_refused given s i f h.0 k
first_or_refused given s TooManyRegions h (t, whole, large) = mapped_or_large t (subst (λ z. IsMapped (scene_seen z)) (one_whole given s t h.0 whole) h.1) large
first_or_refused given s TooLong h k = k
first_or_refused given s Json h k = k
first_or_refused given s (Form p) h k = k
first_or_refused given s (Range p) h k = k

pub one_refusal : (given : Scene) (q r : Refusal) → IsRefusedBy given q → IsRefusedBy given r → q ≡ r
one_refusal given (RobotNotSimple i j) (RobotNotSimple k l) h g = let e = one_pair (spots_seen given.robot) i j k l h g in ap₂ RobotNotSimple e.0 e.1
one_refusal given (RobotNotSimple i j) (ObstacleAt n f) h (a, is_a, g) = absurd (not_simple (spots_seen given.robot) i j h is_a.is_read.given_simple.simple)
one_refusal given (RobotNotSimple i j) TooManyRegions h (s, whole, large) = absurd (whole_or_wrong given s i j whole h)
one_refusal given (ObstacleAt n f) (RobotNotSimple i j) (a, is_a, g) h = absurd (not_simple (spots_seen given.robot) i j h is_a.is_read.given_simple.simple)
one_refusal given (ObstacleAt n f) (ObstacleAt m g) (a, is_a, h) (b, is_b, k) =
    let e = one_refused given.obstacles a n m f g h (subst (IsRefusedAt m g given.obstacles) (one_alone given b a is_b is_a) k) in
    ap₂ ObstacleAt e.0 e.1
one_refusal given (ObstacleAt n f) TooManyRegions h (s, whole, large) = absurd (whole_or_refused given s n f whole h)
one_refusal given TooManyRegions (RobotNotSimple i j) (s, whole, large) h = absurd (whole_or_wrong given s i j whole h)
one_refusal given TooManyRegions (ObstacleAt n f) (s, whole, large) h = absurd (whole_or_refused given s n f whole h)
one_refusal given TooManyRegions TooManyRegions h k = refl
one_refusal given TooLong r h k = absurd h
one_refusal given Json r h k = absurd h
one_refusal given (Form p) r h k = absurd h
one_refusal given (Range p) r h k = absurd h
one_refusal given q TooLong h k = absurd k
one_refusal given q Json h k = absurd k
one_refusal given q (Form p) h k = absurd k
one_refusal given q (Range p) h k = absurd k
