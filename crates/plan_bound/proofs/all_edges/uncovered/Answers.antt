-- The pieces of all edges, edge after edge.
use Rattle.plan_convex.specs.Piece.{sums_seen}
use Rattle.plan_grid.specs.Frame.{frame_seen}
use Rattle.plan_bound.proofs.Numbered.{boundary_of}
use Rattle.plan_bound.proofs.all_edges.uncovered.Goals as goal

pub returns : goal.returns
returns g c =
    let sums = sums_seen c.args.sums.now in
    let room = frame_seen c.args.room in
    let each = rw (c.edge_count-count.ensures.value room) at c.in_ok-lists.ensures in
    rw (c.in_ok-list.ensures, c.deref-2.ensures.value) (boundary_of (λ v. v.items) sums room c.in_ok-lists.lists.items each)
