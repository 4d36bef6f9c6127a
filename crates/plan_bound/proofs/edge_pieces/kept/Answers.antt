-- A gap that stays adds its piece, and another adds none.
use Rattle.std.proofs.Common.{sym, ◌∙◌, subst, take_all}
use Rattle.std.specs.List.{filter, AllZip}
use Rattle.plan_grid.specs.Spot.{spot_seen}
use Rattle.plan_convex.specs.Parameter.{AtMost}
use Rattle.plan_bound.specs.Edge.{stays}
use Rattle.plan_bound.specs.Pieces.{IsPieceOf}
use Rattle.plan_bound.proofs.Kept.{kept_more, passed_over}
use Rattle.plan_bound.proofs.edge_pieces.kept.Goals as goal
use Rattle.plan_bound.proofs.edge_pieces.kept.Goals.{then-stays+in_ok-push, else-stays}

pub loop-gap-init : goal.loop-gap-init
loop-gap-init c = rw c.new-found.ensures.items tt

pub piece-requires-clause-rising : goal.piece-requires-clause-rising
piece-requires-clause-rising c = subst (λ g. AtMost g.from g.to) (sym c.gap-item.is) (c.requires.rising c.loop-gap.gap-index c.gap-item.result c.loop-gap-test.true)

pub loop-gap-preserved : goal.loop-gap-preserved
loop-gap-preserved c =
    elim c.if-stays.branch [
      | then-stays+in_ok-push w ↦ rw (w.found-is, w.in_ok-push.ensures.items) (kept_more (IsPieceOf c.args.edge (spot_seen c.args.a) (spot_seen c.args.b)) (stays c.args.first c.args.last) c.args.gaps.now c.loop-gap.found.items c.loop-gap.gap-index c.gap-item.result w.piece.result c.loop-gap-test.true c.gap-item.is (sym c.stays.ensures ∙ w.if-stays.true) c.loop-gap.invariant w.piece.ensures)
      | else-stays w ↦ rw w.found-is (passed_over (IsPieceOf c.args.edge (spot_seen c.args.a) (spot_seen c.args.b)) (stays c.args.first c.args.last) c.args.gaps.now c.loop-gap.found.items c.loop-gap.gap-index c.gap-item.result c.loop-gap-test.true c.gap-item.is (sym c.stays.ensures ∙ w.if-stays.false) c.loop-gap.invariant)
    ]

pub returns : goal.returns
returns c =
    subst (λ gs. AllZip (IsPieceOf c.args.edge (spot_seen c.args.a) (spot_seen c.args.b)) (filter (stays c.args.first c.args.last) gs) c.loop-gap.found.items) (take_all c.loop-gap.gap-index c.args.gaps.now c.loop-gap-test.false) c.loop-gap.invariant
