-- An accepted chain leaves no clear polyline; an accepted certificate has no fault; and of two faults the later one says that the earlier one is not there.
use Rattle.std.proofs.Common.{◌≡◌, ◌⊎◌, inl, inr, ℕ, zero, suc, ◌<◌, ◌≤◌, List, [], ◌∷◌, Option, None, Some, slice_get, All, Any, IfSome, IsSomeAnd, ⊎_elim, refl, sym, ap, ◌∙◌, subst, arith}
use Rattle.std.proofs.lemmas.Bool.{cases_lt, true≢false}
use Rattle.plan_exact.proofs.Laws.{linear}
use Rattle.plan_spec.specs.Vector.{Vector, IsPoint, Same, SameX, SameY, LeX, LeY}
use Rattle.plan_spec.specs.Segment.{Segment, On, HasPoints, segment}
use Rattle.plan_spec.specs.Placement.{Scene, Touches}
use Rattle.plan_spec.specs.Route.{IsClearPolyline, OnRoute, StartsAt, legs, segments}
use Rattle.plan_spec.specs.Chain.{IsClosed}
use Rattle.plan_spec.specs.Reply.{Fault, empty_path, wrong_start, wrong_goal, touches, flat, loose, unclosed, start_even, goal_odd, IsFirst, SegmentTouches, IsFlat, IsLoose, IsSound, IsTight, IsAccepted, HasOddEnd, IsFirstPathFault, IsFirstChainFault}
use Rattle.plan_plane.proofs.Lists.{any_here, any_there}
use Rattle.plan_cross.proofs.ParityLaw.Route.{no_clear_polyline}
use Rattle.plan_check.specs.Laws.{AcceptedBlocks, NotBoth, OneFirstFault, AcceptedOrFault}
use Rattle.plan_check.proofs.ChainFaults.{passed, blocks}

pub accepted_blocks : AcceptedBlocks
accepted_blocks scene sums room told s g chain hs hg points h =
    let b = blocks sums room s g chain scene told hs hg (passed sums room s g chain points h) in
    (b, no_clear_polyline scene s g chain hs hg b.blocks)

pub not_both : NotBoth
not_both scene sums room told s g path chain hs hg points (clear, h) = (accepted_blocks scene sums room told s g chain hs hg points h).1 path clear

-- ---- the first of a list
-- what all have, none lacks
none_lacks : (P Q : Segment → Type 0) → ((s : Segment) → P s → ¬ (Q s)) → (ss : List Segment) (k : ℕ) → All P ss → ¬ (IsSomeAnd (slice_get ss k) Q)
none_lacks P Q apart [] k h q = q
none_lacks P Q apart (s ∷ ss) zero h q = apart s (h 0 s (omega arith)) q
none_lacks P Q apart (s ∷ ss) (suc k) h q = none_lacks P Q apart ss k (λ i d w. h (suc i) d (omega arith)) q

module _ (Bad Good Bad' Good' : Segment → Type 0) (ss : List Segment) (j k : ℕ) where
  not_before : ((s : Segment) → Bad s → ¬ (Good' s)) → j < k → IsFirst Bad Good ss j → ¬ (IsFirst Bad' Good' ss k)
  not_before apart below first second = by (slice_get ss j) first.bad (second.earlier j below)
    where
      by : (o : Option Segment) → IsSomeAnd o Bad → ¬ (IfSome o Good')
      by None h g = h
      by (Some s) h g = apart s h g

one_place : (Bad Good Bad' Good' : Segment → Type 0) → ((s : Segment) → Bad s → ¬ (Good' s)) → ((s : Segment) → Bad' s → ¬ (Good s)) → (ss : List Segment) (j k : ℕ) → IsFirst Bad Good ss j → IsFirst Bad' Good' ss k → j ≡ k
one_place Bad Good Bad' Good' f g ss j k first second = by (cases_lt j k) (cases_lt k j)
  where
    by : (j < k) ⊎ (k ≤ j) → (k < j) ⊎ (j ≤ k) → j ≡ k
    by (inl below) o = absurd (not_before Bad Good Bad' Good' ss j k f below first second)
    by o (inl below) = absurd (not_before Bad' Good' Bad Good ss k j g below second first)
    by (inr h) (inr l) = omega arith

-- ---- paths
-- a point of a segment of the path is a point of the route
on_one : (p z : Vector) → On (segment p p) z → Same p z
on_one p z on = (⊎_elim x x on.within_x, ⊎_elim y y on.within_y)
  where
    x : LeX p z × LeX z p → SameX p z
    x (h, k) = omega (arith, linear)

    y : LeY p z × LeY z p → SameY p z
    y (h, k) = omega (arith, linear)

on_segments : (scene : Scene) (ss : List Segment) (k : ℕ) → IsSomeAnd (slice_get ss k) (SegmentTouches scene) → (z : Vector) × IsPoint z × Any (λ s. On s z) ss × Touches scene z
on_segments scene [] k h = absurd h
on_segments scene (s ∷ ss) zero (z, hz, on, t) = (z, hz, any_here (λ s. On s z) s ss on, t)
on_segments scene (s ∷ ss) (suc k) h = let r = on_segments scene ss k h in (r.0, r.1, any_there (λ s. On s r.0) s ss r.2, r.3)

on_route : (scene : Scene) (path : List Vector) (k : ℕ) → IsSomeAnd (slice_get (legs path) k) (SegmentTouches scene) → (z : Vector) × IsPoint z × OnRoute path z × Touches scene z
on_route scene [] k h = absurd h
on_route scene (p ∷ []) zero (z, hz, on, t) = (z, hz, inl (any_here (λ q. Same q z) p [] (on_one p z on)), t)
on_route scene (p ∷ []) (suc k) h = absurd h
on_route scene (p ∷ (q ∷ ps)) k h = let r = on_segments scene (segments (p ∷ (q ∷ ps))) k h in (r.0, r.1, inr r.2, r.3)

no_start : (s : Vector) (path : List Vector) → path ≡ [] → ¬ (StartsAt s path)
no_start s path empty starts = subst (StartsAt s) empty starts

module _ (scene : Scene) (s g : Vector) (path : List Vector) where
  pub clear_or_fault : (fault : Fault) → IsClearPolyline scene s g path → ¬ (IsFirstPathFault scene s g path fault)
  clear_or_fault empty_path clear empty = no_start s path empty clear.is_route.starts
  clear_or_fault wrong_start clear h = h.1 clear.is_route.starts
  clear_or_fault wrong_goal clear h = h.1 clear.is_route.ends
  clear_or_fault (touches k) clear h = let t = on_route scene path k h.2.bad in clear.is_clear t.0 t.1 t.2 t.3
  clear_or_fault (flat k) clear h = h
  clear_or_fault (loose k) clear h = h
  clear_or_fault (unclosed k) clear h = h
  clear_or_fault start_even clear h = h
  clear_or_fault goal_odd clear h = h

  pub one_path_fault : (e f : Fault) → IsFirstPathFault scene s g path e → IsFirstPathFault scene s g path f → e ≡ f
  one_path_fault empty_path empty_path h k = refl
  one_path_fault empty_path wrong_start h k = absurd (k.0 h)
  one_path_fault empty_path wrong_goal h k = absurd (no_start s path h k.0)
  one_path_fault empty_path (touches j) h k = absurd (no_start s path h k.0)
  one_path_fault wrong_start empty_path h k = absurd (h.0 k)
  one_path_fault wrong_start wrong_start h k = refl
  one_path_fault wrong_start wrong_goal h k = absurd (h.1 k.0)
  one_path_fault wrong_start (touches j) h k = absurd (h.1 k.0)
  one_path_fault wrong_goal empty_path h k = absurd (no_start s path k h.0)
  one_path_fault wrong_goal wrong_start h k = absurd (k.1 h.0)
  one_path_fault wrong_goal wrong_goal h k = refl
  one_path_fault wrong_goal (touches j) h k = absurd (h.1 k.1)
  one_path_fault (touches i) empty_path h k = absurd (no_start s path k h.0)
  one_path_fault (touches i) wrong_start h k = absurd (k.1 h.0)
  one_path_fault (touches i) wrong_goal h k = absurd (k.1 h.1)
  one_path_fault (touches i) (touches j) h k =
      let T = SegmentTouches scene in
      let N = λ (leg : Segment). ¬ (SegmentTouches scene leg) in
      ap touches (one_place T N T N (λ leg t n. n t) (λ leg t n. n t) (legs path) i j h.2 k.2)
  one_path_fault (flat i) f h k = absurd h
  one_path_fault (loose i) f h k = absurd h
  one_path_fault (unclosed i) f h k = absurd h
  one_path_fault start_even f h k = absurd h
  one_path_fault goal_odd f h k = absurd h
  one_path_fault e (flat j) h k = absurd k
  one_path_fault e (loose j) h k = absurd k
  one_path_fault e (unclosed j) h k = absurd k
  one_path_fault e start_even h k = absurd k
  one_path_fault e goal_odd h k = absurd k

-- ---- chains
module _ (tight : Segment → Type 0) (s g : Vector) (chain : List Segment) (points : All HasPoints chain) where
  not_flat : (k : ℕ) → All (IsSound tight) chain → ¬ (IsSomeAnd (slice_get chain k) IsFlat)
  not_flat k = none_lacks (IsSound tight) IsFlat (λ t h e. h.0 e) chain k

  not_loose : (k : ℕ) → All (IsSound tight) chain → ¬ (IsSomeAnd (slice_get chain k) (IsLoose tight))
  not_loose k = none_lacks (IsSound tight) (IsLoose tight) (λ t h e. e.1 h.1) chain k

  not_odd : (k : ℕ) → IsClosed chain → ¬ (IsSomeAnd (slice_get chain k) (HasOddEnd chain))
  not_odd k closed = none_lacks HasPoints (HasOddEnd chain) (λ t h e. ⊎_elim (λ o. true≢false (sym o ∙ closed t.a h.0)) (λ o. true≢false (sym o ∙ closed t.b h.1)) e) chain k points

  flat_or_loose : (i j : ℕ) → IsFirst IsFlat (IsSound tight) chain i → ¬ (IsFirst (IsLoose tight) (IsSound tight) chain j)
  flat_or_loose i j h k = by (slice_get chain j) (subst (λ n. IsSomeAnd (slice_get chain n) IsFlat) place h.bad) k.bad
    where
      place : i ≡ j
      place = one_place IsFlat (IsSound tight) (IsLoose tight) (IsSound tight) (λ t e h. h.0 e) (λ t e h. e.1 h.1) chain i j h k

      by : (o : Option Segment) → IsSomeAnd o IsFlat → ¬ (IsSomeAnd o (IsLoose tight))
      by None e l = e
      by (Some t) e l = l.0 e

  pub accepted_or_chain_fault : (fault : Fault) → IsAccepted tight s g chain → ¬ (IsFirstChainFault tight s g chain fault)
  accepted_or_chain_fault (flat k) a h = not_flat k a.sound h.bad
  accepted_or_chain_fault (loose k) a h = not_loose k a.sound h.bad
  accepted_or_chain_fault (unclosed k) a h = not_odd k a.closed h.1.bad
  accepted_or_chain_fault start_even a h = true≢false (sym a.odd ∙ h.2)
  accepted_or_chain_fault goal_odd a h = true≢false (sym h.3 ∙ a.even)
  accepted_or_chain_fault empty_path a h = h
  accepted_or_chain_fault wrong_start a h = h
  accepted_or_chain_fault wrong_goal a h = h
  accepted_or_chain_fault (touches k) a h = h

  pub one_chain_fault : (e f : Fault) → IsFirstChainFault tight s g chain e → IsFirstChainFault tight s g chain f → e ≡ f
  one_chain_fault (flat i) (flat j) h k = ap flat (one_place IsFlat (IsSound tight) IsFlat (IsSound tight) (λ t e h. h.0 e) (λ t e h. h.0 e) chain i j h k)
  one_chain_fault (flat i) (loose j) h k = absurd (flat_or_loose i j h k)
  one_chain_fault (flat i) (unclosed j) h k = absurd (not_flat i k.0 h.bad)
  one_chain_fault (flat i) start_even h k = absurd (not_flat i k.0 h.bad)
  one_chain_fault (flat i) goal_odd h k = absurd (not_flat i k.0 h.bad)
  one_chain_fault (loose i) (flat j) h k = absurd (flat_or_loose j i k h)
  one_chain_fault (loose i) (loose j) h k = ap loose (one_place (IsLoose tight) (IsSound tight) (IsLoose tight) (IsSound tight) (λ t e h. e.1 h.1) (λ t e h. e.1 h.1) chain i j h k)
  one_chain_fault (loose i) (unclosed j) h k = absurd (not_loose i k.0 h.bad)
  one_chain_fault (loose i) start_even h k = absurd (not_loose i k.0 h.bad)
  one_chain_fault (loose i) goal_odd h k = absurd (not_loose i k.0 h.bad)
  one_chain_fault (unclosed i) (flat j) h k = absurd (not_flat j h.0 k.bad)
  one_chain_fault (unclosed i) (loose j) h k = absurd (not_loose j h.0 k.bad)
  one_chain_fault (unclosed i) (unclosed j) h k =
      let O = HasOddEnd chain in
      let N = λ (t : Segment). ¬ (HasOddEnd chain t) in
      ap unclosed (one_place O N O N (λ t o n. n o) (λ t o n. n o) chain i j h.1 k.1)
  one_chain_fault (unclosed i) start_even h k = absurd (not_odd i k.1 h.1.bad)
  one_chain_fault (unclosed i) goal_odd h k = absurd (not_odd i k.1 h.1.bad)
  one_chain_fault start_even (flat j) h k = absurd (not_flat j h.0 k.bad)
  one_chain_fault start_even (loose j) h k = absurd (not_loose j h.0 k.bad)
  one_chain_fault start_even (unclosed j) h k = absurd (not_odd j h.1 k.1.bad)
  one_chain_fault start_even start_even h k = refl
  one_chain_fault start_even goal_odd h k = absurd (true≢false (sym k.2 ∙ h.2))
  one_chain_fault goal_odd (flat j) h k = absurd (not_flat j h.0 k.bad)
  one_chain_fault goal_odd (loose j) h k = absurd (not_loose j h.0 k.bad)
  one_chain_fault goal_odd (unclosed j) h k = absurd (not_odd j h.1 k.1.bad)
  one_chain_fault goal_odd start_even h k = absurd (true≢false (sym h.2 ∙ k.2))
  one_chain_fault goal_odd goal_odd h k = refl
  one_chain_fault empty_path f h k = absurd h
  one_chain_fault wrong_start f h k = absurd h
  one_chain_fault wrong_goal f h k = absurd h
  one_chain_fault (touches i) f h k = absurd h
  one_chain_fault e empty_path h k = absurd k
  one_chain_fault e wrong_start h k = absurd k
  one_chain_fault e wrong_goal h k = absurd k
  one_chain_fault e (touches j) h k = absurd k

pub one_first_fault : OneFirstFault
one_first_fault = (one_path_fault, λ sums room s g chain e f points. one_chain_fault (IsTight sums room) s g chain points e f)

pub accepted_or_fault : AcceptedOrFault
accepted_or_fault = (λ scene s g path fault (clear, h). clear_or_fault scene s g path fault clear h, λ sums room s g chain fault points (a, h). accepted_or_chain_fault (IsTight sums room) s g chain points fault a h)
