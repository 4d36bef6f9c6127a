-- A route between two points of different parity crosses the closed chain: along each of its segments parity is constant, or a common point is found. So where the chain is held, no clear polyline leads past it.
use Rattle.std.proofs.Common.{◌≡◌, ◌⊎◌, inl, inr, true, false, List, [], ◌∷◌, All, Any, sym, subst, ◌∙◌}
use Rattle.std.proofs.lemmas.Bool.{true≢false}
use Rattle.std.proofs.lemmas.List.Elements.{All-head, All-tail, All-nil, All-cons, All-weaker}
use Rattle.plan_spec.specs.Vector.{Vector, IsPoint, Same}
use Rattle.plan_spec.specs.Segment.{Segment, On, segment, HasPoints, Common, Misses}
use Rattle.plan_spec.specs.Parity.{parity}
use Rattle.plan_spec.specs.Chain.{IsClosed, IsProper, Blocks, Crosses}
use Rattle.plan_spec.specs.Placement.{Scene}
use Rattle.plan_spec.specs.Route.{segments, OnRoute, EndsAt, IsRoute, IsClearPolyline}
use Rattle.plan_plane.proofs.Lists.{any_here, any_there}
use Rattle.plan_plane.proofs.Crossing.CommonOrNot.{common_or_not}
use Rattle.plan_cross.proofs.ParityLaw.Position.{parity_same}
use Rattle.plan_cross.proofs.ParityLaw.Closed.{parity_constant}

-- some segment of the chain has a point of the path, or none has
pub any_or_none : (path : Segment) → HasPoints path → (chain : List Segment) → All HasPoints chain → Any (Common path) chain ⊎ Misses path chain
any_or_none path hp [] h = inr (All-nil (λ s. ¬ (Common path s)))
any_or_none path hp (s ∷ ss) h = by (common_or_not path s hp (All-head HasPoints s ss h)) (any_or_none path hp ss (All-tail HasPoints s ss h))
  where
    by : Common path s ⊎ (¬ (Common path s)) → Any (Common path) ss ⊎ Misses path ss → Any (Common path) (s ∷ ss) ⊎ Misses path (s ∷ ss)
    by (inl c) r = inl (any_here (Common path) s ss c)
    by (inr n) (inl m) = inl (any_there (Common path) s ss m)
    by (inr n) (inr m) = inr (All-cons (λ s. ¬ (Common path s)) s ss n m)

-- ---- along the route
crosses_later : (p q : Vector) (qs : List Vector) (chain : List Segment) → Crosses (q ∷ qs) chain → Crosses (p ∷ q ∷ qs) chain
crosses_later p q qs chain c = (c.0, c.1, by c.2, c.3)
  where
    by : OnRoute (q ∷ qs) c.0 → OnRoute (p ∷ q ∷ qs) c.0
    by (inl m) = inl (any_there (λ p. Same p c.0) p (q ∷ qs) m)
    by (inr m) = inr (any_there (λ s. On s c.0) (segment p q) (segments (q ∷ qs)) m)

crosses_along : (chain : List Segment) (g : Vector) → All HasPoints chain → IsClosed chain → IsPoint g → parity chain g ≡ false → (p : Vector) (ps : List Vector) → All IsPoint (p ∷ ps) → parity chain p ≡ true → EndsAt g (p ∷ ps) → Crosses (p ∷ ps) chain
crosses_along chain g h closed hg even p [] points odd ends =
    absurd (true≢false (sym odd ∙ parity_same chain p g (All-head IsPoint p [] points) hg ends ∙ even))
crosses_along chain g h closed hg even p (q ∷ qs) points odd ends =
    by (λ e. crosses_along chain g h closed hg even q qs rest e ends) (any_or_none (segment p q) (hp, hq) chain h)
  where
    hp : IsPoint p
    hp = All-head IsPoint p (q ∷ qs) points

    rest : All IsPoint (q ∷ qs)
    rest = All-tail IsPoint p (q ∷ qs) points

    hq : IsPoint q
    hq = All-head IsPoint q qs rest

    by : (parity chain q ≡ true → Crosses (q ∷ qs) chain) → Any (Common (segment p q)) chain ⊎ Misses (segment p q) chain → Crosses (p ∷ q ∷ qs) chain
    by go (inl m) =
        let c = m.4 in
        (c.0, c.1, inr (any_here (λ s. On s c.0) (segment p q) (segments (q ∷ qs)) c.2), (m.0, m.1, m.2, m.3, c.3))
    by go (inr m) = crosses_later p q qs chain (go (sym (parity_constant chain p q h closed hp hq m) ∙ odd))

pub route_crosses : (chain : List Segment) (s g : Vector) (route : List Vector) → All HasPoints chain → IsClosed chain → IsPoint s → IsPoint g → parity chain s ≡ true → parity chain g ≡ false → IsRoute s g route → Crosses route chain
route_crosses chain s g [] h closed hs hg odd even r = absurd r.starts
route_crosses chain s g (p ∷ ps) h closed hs hg odd even r =
    crosses_along chain g h closed hg even p ps r.points (parity_same chain p s (All-head IsPoint p ps r.points) hs r.starts ∙ odd) r.ends

-- ---- a chain that is held
proper_points : (s : Segment) → IsProper s → HasPoints s
proper_points s h = (h.0, h.1)

pub no_clear_polyline : (scene : Scene) (s g : Vector) (chain : List Segment) → IsPoint s → IsPoint g → Blocks scene s g chain → (route : List Vector) → ¬ (IsClearPolyline scene s g route)
no_clear_polyline scene s g chain hs hg b route c =
    let m = route_crosses chain s g route (All-weaker IsProper HasPoints proper_points chain b.proper) b.closed hs hg b.odd b.even c.is_route in
    let on = m.3 in
    c.is_clear m.0 m.1 m.2 (b.held on.0 on.1 on.2 m.0 m.1 (subst (λ s. On s m.0) (sym on.3) on.4))
