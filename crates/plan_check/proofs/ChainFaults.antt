-- A chain that the tests pass is accepted; and where the sums and the room tell what touches, it blocks.
use Rattle.std.proofs.Common.{◌≡◌, inl, inr, true, false, List, All, get_or}
use Rattle.plan_spec.specs.Vector.{Vector, IsPoint}
use Rattle.plan_spec.specs.Segment.{Segment, HasPoints, On}
use Rattle.plan_spec.specs.Parity.{parity}
use Rattle.plan_spec.specs.Frame.{Frame}
use Rattle.plan_spec.specs.Placement.{Scene}
use Rattle.plan_spec.specs.Chain.{IsClosed}
use Rattle.plan_spec.specs.Reply.{IsTight, IsSound, IsAccepted}
use Rattle.plan_plane.proofs.Polygon.Holding.{inside_between}
use Rattle.plan_plane.proofs.Segment.Between.{Between, between, LeX_before, LeX_after, flip, flipped}
use Rattle.plan_cross.proofs.ParityLaw.Route.{route_crosses}
use Rattle.plan_check.specs.Touching.{IsHeldBy, IsToldBy, IsProperAndTight}
use Rattle.plan_check.specs.Verdict.{BlocksRoutes}

-- every point of a tight segment is held
tight_held : (sums : List (List Vector)) (room : Frame) (s : Segment) → HasPoints s → IsTight sums room s → (z : Vector) → IsPoint z → On s z → IsHeldBy sums room z
tight_held sums room s (ha, hb) tight z hz on = by tight (between s.a s.b z ha hb hz on)
  where
    by : IsTight sums room s → Between s.a s.b z → IsHeldBy sums room z
    by (inl (k, vs, within, e, (pa, pb))) b = inr (k, vs, within, e, inside_between vs pa pb b)
    by (inr (inl (pa, pb))) b = inl (inl (LeX_before b room.low pa pb))
    by (inr (inr (inl (pa, pb)))) b = inl (inr (inl (LeX_after b room.high pa pb)))
    by (inr (inr (inr (inl (pa, pb))))) b = inl (inr (inr (inl (LeX_before (flipped b) (flip room.low) pa pb))))
    by (inr (inr (inr (inr (pa, pb))))) b = inl (inr (inr (inr (LeX_after (flipped b) (flip room.high) pa pb))))

-- what the tests have found
pub record Passed (sums : List (List Vector)) (room : Frame) (s g : Vector) (chain : List Segment) : Type 0 where
  pub tight : All (IsProperAndTight sums room) chain
  pub closed : IsClosed chain
  pub odd : parity chain s ≡ true
  pub even : parity chain g ≡ false

module _ (sums : List (List Vector)) (room : Frame) (s g : Vector) (chain : List Segment) where
  pub sound : All (IsProperAndTight sums room) chain → All (IsSound (IsTight sums room)) chain
  sound h k d within = let t = h k d within in (t.0.2, t.1)

  pub accepted : Passed sums room s g chain → IsAccepted (IsTight sums room) s g chain
  accepted h = record { sound = sound h.tight; closed = h.closed; odd = h.odd; even = h.even }

  pub passed : All HasPoints chain → IsAccepted (IsTight sums room) s g chain → Passed sums room s g chain
  passed points h = record {
    tight = λ k d within. let p = points k d within in let t = h.sound k d within in ((p.0, p.1, t.0), t.1);
    closed = h.closed;
    odd = h.odd;
    even = h.even;
  }

  pub blocks : (scene : Scene) → IsToldBy scene sums room → IsPoint s → IsPoint g → Passed sums room s g chain → BlocksRoutes scene s g chain
  blocks scene told hs hg h = record {
    blocks = record {
      proper = λ k d within. (h.tight k d within).0;
      closed = h.closed;
      held = λ k d within z hz on. let t = h.tight k d within in (told z hz).1 (tight_held sums room (get_or chain k d) (t.0.0, t.0.1) t.1 z hz on);
      odd = h.odd;
      even = h.even;
    };
    crossed = λ route. route_crosses chain s g route (λ k d within. let t = h.tight k d within in (t.0.0, t.0.1)) h.closed hs hg h.odd h.even;
  }
