-- A list of points with the positions of a clear polyline is one.
use Rattle.std.proofs.Common.{inl, inr, ⊎_elim, List, [], ◌∷◌, All, Any}
use Rattle.std.specs.List.{AllZip}
use Rattle.std.proofs.lemmas.List.Elements.{All-head, All-tail}
use Rattle.plan_spec.specs.Vector.{Vector, IsPoint, Same}
use Rattle.plan_spec.specs.Segment.{segment, On}
use Rattle.plan_spec.specs.Placement.{Scene}
use Rattle.plan_spec.specs.Route.{segments_from, segments, OnRoute, StartsAt, EndsAt, IsClearPolyline}
use Rattle.plan_plane.proofs.Lists.{any_none, any_here, any_there, any_cases}
use Rattle.plan_plane.proofs.Segment.Same.{Same-swapped, Same-trans}
use Rattle.plan_bound.proofs.Maximal.{ends_same}

-- ---- points on it
module _ (z : Vector) (hz : IsPoint z) where
  at_alike : (ps qs : List Vector) → All IsPoint ps → AllZip Same ps qs → Any (λ p. Same p z) ps → Any (λ p. Same p z) qs
  at_alike [] [] hp h a = a
  at_alike [] (q ∷ qs) hp h a = absurd h
  at_alike (p ∷ ps) [] hp h a = absurd h
  at_alike (p ∷ ps) (q ∷ qs) hp (e, h) a =
      ⊎_elim
      (λ k. any_here (λ p. Same p z) q qs (Same-trans q p z (All-head IsPoint p ps hp) (Same-swapped p q e) k))
      (λ k. any_there (λ p. Same p z) q qs (at_alike ps qs (All-tail IsPoint p ps hp) h k))
      (any_cases (λ p. Same p z) p ps a)

  between_alike : (p u : Vector) (ps us : List Vector) → IsPoint p → IsPoint u → All IsPoint ps → All IsPoint us → Same p u → AllZip Same ps us → Any (λ s. On s z) (segments_from p ps) → Any (λ s. On s z) (segments_from u us)
  between_alike p u [] [] hp hu hps hus e h a = absurd (any_none (λ s. On s z) a)
  between_alike p u [] (v ∷ us) hp hu hps hus e h a = absurd h
  between_alike p u (q ∷ ps) [] hp hu hps hus e h a = absurd h
  between_alike p u (q ∷ ps) (v ∷ us) hp hu hps hus e (f, h) a =
      let hq = All-head IsPoint q ps hps in
      let hv = All-head IsPoint v us hus in
      ⊎_elim
      (λ k. any_here (λ s. On s z) (segment u v) (segments_from v us) (ends_same p q u v z hp hq hu hv hz e f k))
      (λ k. any_there (λ s. On s z) (segment u v) (segments_from v us) (between_alike q v ps us hq hv (All-tail IsPoint q ps hps) (All-tail IsPoint v us hus) f h k))
      (any_cases (λ s. On s z) (segment p q) (segments_from q ps) a)

  legs_alike : (ps qs : List Vector) → All IsPoint ps → All IsPoint qs → AllZip Same ps qs → Any (λ s. On s z) (segments ps) → Any (λ s. On s z) (segments qs)
  legs_alike [] [] hp hq h a = a
  legs_alike [] (q ∷ qs) hp hq h a = absurd h
  legs_alike (p ∷ ps) [] hp hq h a = absurd h
  legs_alike (p ∷ ps) (q ∷ qs) hp hq (e, h) a = between_alike p q ps qs (All-head IsPoint p ps hp) (All-head IsPoint q qs hq) (All-tail IsPoint p ps hp) (All-tail IsPoint q qs hq) e h a

  on_route_alike : (ps qs : List Vector) → All IsPoint ps → All IsPoint qs → AllZip Same ps qs → OnRoute ps z → OnRoute qs z
  on_route_alike ps qs hp hq h (inl a) = inl (at_alike ps qs hp h a)
  on_route_alike ps qs hp hq h (inr a) = inr (legs_alike ps qs hp hq h a)

-- ---- its ends
starts_alike : (s : Vector) (ps qs : List Vector) → All IsPoint qs → AllZip Same ps qs → StartsAt s qs → StartsAt s ps
starts_alike s [] [] hq h k = k
starts_alike s [] (q ∷ qs) hq h k = absurd h
starts_alike s (p ∷ ps) [] hq h k = absurd h
starts_alike s (p ∷ ps) (q ∷ qs) hq (e, h) k = Same-trans p q s (All-head IsPoint q qs hq) e k

ends_alike : (g : Vector) (ps qs : List Vector) → All IsPoint qs → AllZip Same ps qs → EndsAt g qs → EndsAt g ps
ends_alike g [] [] hq h k = k
ends_alike g [] (q ∷ qs) hq h k = absurd h
ends_alike g (p ∷ ps) [] hq h k = absurd h
ends_alike g (p ∷ []) (q ∷ []) hq (e, h) k = Same-trans p q g (All-head IsPoint q [] hq) e k
ends_alike g (p ∷ []) (q ∷ (v ∷ qs)) hq (e, h) k = absurd h
ends_alike g (p ∷ (u ∷ ps)) (q ∷ []) hq (e, h) k = absurd h
ends_alike g (p ∷ (u ∷ ps)) (q ∷ (v ∷ qs)) hq (e, h) k = ends_alike g (u ∷ ps) (v ∷ qs) (All-tail IsPoint q (v ∷ qs) hq) h k

pub clear_alike : (scene : Scene) (s g : Vector) (ps qs : List Vector) → All IsPoint ps → AllZip Same ps qs → IsClearPolyline scene s g qs → IsClearPolyline scene s g ps
clear_alike scene s g ps qs hp h c = record {
  is_route = record { points = hp; starts = starts_alike s ps qs c.is_route.points h c.is_route.starts; ends = ends_alike g ps qs c.is_route.points h c.is_route.ends };
  is_clear = λ z hz o. c.is_clear z hz (on_route_alike z hz ps qs hp c.is_route.points h o);
}
