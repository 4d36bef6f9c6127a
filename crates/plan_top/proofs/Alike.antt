-- What is said of a certificate in a scene is said of it in each scene that touches at the same points.
use Rattle.std.proofs.Common.{◌↔◌, List}
use Rattle.plan_spec.specs.Vector.{Vector, IsPoint}
use Rattle.plan_spec.specs.Segment.{Segment}
use Rattle.plan_spec.specs.Placement.{Scene, Touches}
use Rattle.plan_spec.specs.Route.{legs}
use Rattle.plan_spec.specs.Reply.{SegmentTouches}
use Rattle.plan_cross.proofs.First.{first_weaker}
use Rattle.plan_check.specs.Verdict.{IsPathVerdict, BlocksWhereValid}
use Rattle.plan_check.specs.declared.verdict.Verdict.{Verdict}
use Rattle.plan_check.specs.declared.verdict.Verdict.TheVariants.{Valid, Invalid}
use Rattle.plan_check.specs.declared.fault.CheckFault.TheVariants.{EmptyPath, WrongStart, WrongGoal, Touches as TouchesAt, Flat, Loose, Unclosed, StartEven, GoalOdd}

module _ (a b : Scene) (alike : (p : Vector) → IsPoint p → Touches a p ↔ Touches b p) (s g : Vector) where
  segment_alike : (t : Segment) → SegmentTouches a t ↔ SegmentTouches b t
  segment_alike t = (λ (z, hz, on, h). (z, hz, on, (alike z hz).0 h), λ (z, hz, on, h). (z, hz, on, (alike z hz).1 h))

  pub path_alike : (path : List Vector) (verdict : Verdict) → IsPathVerdict a s g path verdict → IsPathVerdict b s g path verdict
  path_alike path Valid h = record { is_route = h.is_route; is_clear = λ z hz on t. h.is_clear z hz on ((alike z hz).1 t) }
  path_alike path (Invalid (TouchesAt k)) h =
      (h.0, h.1, first_weaker (SegmentTouches a) (λ t. ¬ (SegmentTouches a t)) (SegmentTouches b) (λ t. ¬ (SegmentTouches b t)) (legs path) k (λ i d w. (segment_alike _).0) (λ i d w n t. n ((segment_alike _).1 t)) h.2)
  path_alike path (Invalid EmptyPath) h = h
  path_alike path (Invalid WrongStart) h = h
  path_alike path (Invalid WrongGoal) h = h
  path_alike path (Invalid (Flat k)) h = h
  path_alike path (Invalid (Loose k)) h = h
  path_alike path (Invalid (Unclosed k)) h = h
  path_alike path (Invalid StartEven) h = h
  path_alike path (Invalid GoalOdd) h = h

  pub blocks_alike : (chain : List Segment) (verdict : Verdict) → BlocksWhereValid a s g chain verdict → BlocksWhereValid b s g chain verdict
  blocks_alike chain Valid h = record {
    blocks = record {
      proper = h.blocks.proper;
      closed = h.blocks.closed;
      held = λ k d w z hz on. (alike z hz).0 (h.blocks.held k d w z hz on);
      odd = h.blocks.odd;
      even = h.blocks.even;
    };
    crossed = h.crossed;
  }
  blocks_alike chain (Invalid fault) h = h
