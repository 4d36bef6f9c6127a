-- Two values more for each piece; sorted, the values are the event lines.
use Rattle.std.proofs.Common.{[], ◌∷◌, ◌++◌, ⊎_elim, get_or, subst, sym, ap, ◌∙◌, ◌+◌, arith}
use Rattle.std.proofs.lemmas.List.{get_or_default}
use Rattle.plan_convex.specs.Piece.{IsPieceInRange}
use Rattle.plan_slab.proofs.XValues.{LinesSoFar, order_nat, two_more, event_lines}
use Rattle.plan_slab.proofs.lines.lines_of.Goals as goal

pub loop-piece-init : goal.loop-piece-init
loop-piece-init c = record {
  lines = subst (LinesSoFar c.args.pieces.now 0) (sym c.new-lines.ensures.items) (record { lines = λ k d within. absurd (omega arith); each = λ k d within. absurd (omega arith); all = λ k d less. absurd (omega arith) });
  in_range = λ k d less. absurd (omega arith);
}

pub loop-piece-preserved : goal.loop-piece-preserved
loop-piece-preserved c =
    let e = c.ends_of-from.ensures in
    let f = c.ends_of-from.result.0 in
    let g = c.ends_of-from.result.1 in
    let i = c.loop-piece.piece-index in
    let ps = c.args.pieces.now in
    let p = c.piece-item.result in
    let ls = c.loop-piece.lines.items in
    let pushed = c.in_ok-push-2.ensures.items ∙ ap (λ xs. xs ++ g ∷ []) c.in_ok-push.ensures.items in
    record {
      lines = subst (LinesSoFar ps (i + 1)) (sym pushed) (two_more ps i ls p f g c.loop-piece.invariant.lines c.loop-piece-test.true c.piece-item.is e.first_line e.first e.last_line e.last);
      in_range = λ k d less. ⊎_elim (λ lt. c.loop-piece.invariant.in_range k d lt) (λ at. subst (λ k. IsPieceInRange (get_or ps k d)) (sym at) (subst IsPieceInRange (c.piece-item.is ∙ get_or_default ps i p d c.loop-piece-test.true) e.in_range)) (order_nat k i less);
    }

pub make_rising-requires : goal.make_rising-requires
make_rising-requires c = λ k d within. (c.loop-piece.invariant.lines.lines k d within).ratio

pub returns-clause-lines : goal.returns-clause-lines
returns-clause-lines c = event_lines c.args.pieces.now c.loop-piece.piece-index c.loop-piece.lines.items _ (omega arith) c.requires c.loop-piece.invariant.lines c.make_rising.ensures

pub returns-clause-in_range : goal.returns-clause-in_range
returns-clause-in_range c = λ k d within. c.loop-piece.invariant.in_range k d (omega (arith, within))
