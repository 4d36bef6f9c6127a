-- An answer that is right in one scene is right in each that touches the same at the same points.
use Rattle.std.proofs.Common.{◌↔◌, ℕ, List}
use Rattle.plan_spec.specs.Vector.{Vector}
use Rattle.plan_spec.specs.Segment.{Segment}
use Rattle.plan_spec.specs.Answers.{Answer, start_touches, goal_touches, by_path, by_chain, IsRight}
use Rattle.plan_spec.specs.Chain.{Blocks}
use Rattle.plan_spec.specs.Placement.{Scene, Touches, IsClear, IsTouched}
use Rattle.plan_spec.specs.Route.{IsClearPolyline}

blocks_there : (a b : Scene) → ((p : Vector) → Touches a p → Touches b p) → (s g : Vector) (chain : List Segment) → Blocks a s g chain → Blocks b s g chain
blocks_there a b touches s g chain h = record {
  proper = h.proper;
  closed = h.closed;
  held = λ k d w z hz on. touches z (h.held k d w z hz on);
  odd = h.odd;
  even = h.even;
}

clear_there : (a b : Scene) → ((p : Vector) → Touches b p → Touches a p) → (s g : Vector) (path : List Vector) → IsClearPolyline a s g path → IsClearPolyline b s g path
clear_there a b touches s g path h = record { is_route = h.is_route; is_clear = λ z hz on t. h.is_clear z hz on (touches z t) }

module _ (a b : Scene) (alike : (p : Vector) → Touches a p ↔ Touches b p) (touched : (p : Vector) (n : ℕ) → IsTouched a p n → IsTouched b p n) (s g : Vector) where
  clear : (p : Vector) → IsClear a p → IsClear b p
  clear p h t = h ((alike p).1 t)

  pub right_alike : (answer : Answer) → IsRight a s g answer → IsRight b s g answer
  right_alike (start_touches n) h = touched s n h
  right_alike (goal_touches n) h = (clear s h.0, touched g n h.1)
  right_alike (by_path path) h = record {
    start = clear s h.start;
    goal = clear g h.goal;
    clear = clear_there a b (λ p. (alike p).1) s g path h.clear;
    none_blocks = λ chain k. h.none_blocks chain (blocks_there b a (λ p. (alike p).1) s g chain k);
  }
  right_alike (by_chain chain) h = record {
    start = clear s h.start;
    goal = clear g h.goal;
    blocks = blocks_there a b (λ p. (alike p).0) s g chain h.blocks;
    all_cross = h.all_cross;
    none_clear = λ route k. h.none_clear route (clear_there b a (λ p. (alike p).0) s g route k);
  }
