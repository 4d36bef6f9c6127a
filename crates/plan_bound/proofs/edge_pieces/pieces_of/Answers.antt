-- The gaps are found on the edge from its lesser end, and their pieces are those of the edge.
use Rattle.std.proofs.Common.{◌≡◌, ◌⊎◌, inl, inr, refl, sym, subst}
use Rattle.std.proofs.lemmas.List.Elements.{All-weaker}
use Rattle.std.proofs.lemmas.Result.{IfOk-weaker}
use Rattle.plan_grid.specs.declared.bounds.TheConstants.{MOST_COORDINATE}
use Rattle.plan_grid.specs.declared.spot.Spot.{Spot}
use Rattle.plan_grid.specs.Frame.{frame_seen}
use Rattle.plan_grid.specs.Spot.{spot_seen, IsWithin}
use Rattle.plan_convex.specs.Piece.{sums_seen}
use Rattle.plan_convex.specs.Parameter.{AtMost}
use Rattle.plan_bound.specs.Edge.{Spans}
use Rattle.plan_bound.specs.Gaps.{IsGap, gaps}
use Rattle.plan_bound.proofs.GapsLeft.{gaps_are}
use Rattle.plan_bound.proofs.OfEdge.{no_pieces, pieces_either}
use Rattle.plan_bound.proofs.Sorting.{by_start, still_covered}
use Rattle.plan_bound.proofs.edge_pieces.pieces_of.Goals as goal

bounded_too : (p q a b : Spot) → ((a ≡ p) × (b ≡ q)) ⊎ ((a ≡ q) × (b ≡ p)) → IsWithin MOST_COORDINATE p × IsWithin MOST_COORDINATE q → IsWithin MOST_COORDINATE a × IsWithin MOST_COORDINATE b
bounded_too p q a b (inl e) h = (subst (IsWithin MOST_COORDINATE) (sym e.0) h.0, subst (IsWithin MOST_COORDINATE) (sym e.1) h.1)
bounded_too p q a b (inr e) h = (subst (IsWithin MOST_COORDINATE) (sym e.0) h.1, subst (IsWithin MOST_COORDINATE) (sym e.1) h.0)

pub returns-then-not-is_proper : goal.returns-then-not-is_proper
returns-then-not-is_proper c = rw c.new.ensures.items (no_pieces (sums_seen c.args.sums.now) c.args.room c.args.edge (λ h. let e = c.if-not-is_proper.ensures.1 h in absurd (cc)))

pub edge_of-requires : goal.edge_of-requires
edge_of-requires c = c.requires.edge

pub ordered-requires : goal.ordered-requires
ordered-requires c = let proper = c.if-not-is_proper.ensures.0 refl in c.edge_of.ensures.distinct proper.0 proper.1

pub part_in_room-within-requires-clause-wide : goal.part_in_room-within-requires-clause-wide
part_in_room-within-requires-clause-wide c = (c.if-not-is_proper.ensures.0 refl).0

pub part_in_room-within-requires-clause-tall : goal.part_in_room-within-requires-clause-tall
part_in_room-within-requires-clause-tall c = (c.if-not-is_proper.ensures.0 refl).1

pub part_in_room-within-requires-clause-a_bounded : goal.part_in_room-within-requires-clause-a_bounded
part_in_room-within-requires-clause-a_bounded c = (bounded_too c.edge_of.result.0 c.edge_of.result.1 c.ordered.result.0 c.ordered.result.1 c.ordered.ensures.same (c.edge_of.ensures.bounded c.requires.low c.requires.high)).0

pub part_in_room-within-requires-clause-b_bounded : goal.part_in_room-within-requires-clause-b_bounded
part_in_room-within-requires-clause-b_bounded c = (bounded_too c.edge_of.result.0 c.edge_of.result.1 c.ordered.result.0 c.ordered.result.1 c.ordered.ensures.same (c.edge_of.ensures.bounded c.requires.low c.requires.high)).1

pub cover_of-requires-clause-a_bounded : goal.cover_of-requires-clause-a_bounded
cover_of-requires-clause-a_bounded c = (bounded_too c.edge_of.result.0 c.edge_of.result.1 c.ordered.result.0 c.ordered.result.1 c.ordered.ensures.same (c.edge_of.ensures.bounded c.requires.low c.requires.high)).0

pub cover_of-requires-clause-b_bounded : goal.cover_of-requires-clause-b_bounded
cover_of-requires-clause-b_bounded c = (bounded_too c.edge_of.result.0 c.edge_of.result.1 c.ordered.result.0 c.ordered.result.1 c.ordered.ensures.same (c.edge_of.ensures.bounded c.requires.low c.requires.high)).1

pub cover_of-requires-clause-boxes : goal.cover_of-requires-clause-boxes
cover_of-requires-clause-boxes c = c.requires.boxes

pub kept-requires-clause-a_bounded : goal.kept-requires-clause-a_bounded
kept-requires-clause-a_bounded c = (bounded_too c.edge_of.result.0 c.edge_of.result.1 c.ordered.result.0 c.ordered.result.1 c.ordered.ensures.same (c.edge_of.ensures.bounded c.requires.low c.requires.high)).0

pub kept-requires-clause-b_bounded : goal.kept-requires-clause-b_bounded
kept-requires-clause-b_bounded c = (bounded_too c.edge_of.result.0 c.edge_of.result.1 c.ordered.result.0 c.ordered.result.1 c.ordered.ensures.same (c.edge_of.ensures.bounded c.requires.low c.requires.high)).1

pub kept-requires-clause-onward : goal.kept-requires-clause-onward
kept-requires-clause-onward c = c.ordered.ensures.onward

pub kept-requires-clause-rising : goal.kept-requires-clause-rising
kept-requires-clause-rising c =
    let sums = sums_seen c.args.sums.now in
    let u = spot_seen c.ordered.result.0 in
    let v = spot_seen c.ordered.result.1 in
    let within = c.part_in_room-within.result in
    let covered = still_covered sums u v c.in_ok-cover.cover.parts.items c.sort_by_start.new.parts.items c.sort_by_start.ensures.permutation c.in_ok-cover.ensures.parts in
    let left = gaps_are within.from within.to c.sort_by_start.new.parts.items c.part_in_room-within.ensures.from.positive c.part_in_room-within.ensures.to.positive covered.proper (by_start c.sort_by_start.new.parts.items covered.proper c.sort_by_start.ensures.sorted) in
    let rising = All-weaker (IsGap within.from within.to) (λ g. AtMost g.from g.to) (λ g h. h.onward) (gaps within.from within.to c.sort_by_start.new.parts.items) left.proper in
    rw (c.deref-2.ensures.value, c.in_ok-left.ensures, c.deref.ensures.value) rising

pub returns : goal.returns
returns c =
    let sums = sums_seen c.args.sums.now in
    let a = c.ordered.result.0 in
    let b = c.ordered.result.1 in
    let u = spot_seen a in
    let v = spot_seen b in
    let within = c.part_in_room-within.result in
    let parts = c.sort_by_start.new.parts.items in
    let first = c.in_ok-cover.cover.first in
    let last = c.in_ok-cover.cover.last in
    let covered = still_covered sums u v c.in_ok-cover.cover.parts.items parts c.sort_by_start.ensures.permutation c.in_ok-cover.ensures.parts in
    let sorted = by_start parts covered.proper c.sort_by_start.ensures.sorted in
    let spans : Spans sums (frame_seen c.args.room) u v within parts first last = record {
      in_room = c.part_in_room-within.ensures;
      covered = covered;
      sorted = sorted;
      first_covered = c.in_ok-cover.ensures.first;
      last_covered = c.in_ok-cover.ensures.last;
    } in
    IfOk-weaker c.kept.result _ _
    (λ ps made. pieces_either sums c.args.room c.args.edge c.edge_of.result.0 c.edge_of.result.1 a b within parts first last c.ordered.ensures.onward spans c.ordered.ensures.same c.requires.edge c.edge_of.ensures.edge ps.items
    (rw (c.deref-2.ensures.value, c.in_ok-left.ensures, c.deref.ensures.value) at made))
    c.kept.ensures
