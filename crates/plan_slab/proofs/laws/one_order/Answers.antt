-- The law that pieces that go across a slab are in one order.
use Rattle.plan_spec.specs.Pieces.{piece}
use Rattle.plan_spec.specs.Slabs.{nothing}
use Rattle.plan_plane.proofs.Rising.ByCoordinate.{order_x}
use Rattle.plan_slab.proofs.Order.OneOrder.{is_strand, level_lies, lower_below, pieces_meet}
use Rattle.plan_slab.proofs.Order.Across.{IsSlab}
use Rattle.plan_slab.proofs.Pieces.{has_pieces}
use Rattle.plan_slab.proofs.laws.one_order.Goals as goal

pub returns : goal.returns
returns c = λ sums room pieces floor bound l r m hl hr hm inside i j hi hj ri rj.
    let known = has_pieces floor bound in
    let slab : IsSlab l r = record { left_point = hl; right_point = hr; wide = order_x.less l m r hl hm hr inside.0 inside.1 } in
    let pi = known.each i (piece 0 nothing) hi in
    let pj = known.each j (piece 0 nothing) hj in
    let meets = pieces_meet floor slab pi pj ri rj in
    let a = is_strand slab pi ri in
    (λ lower. lower_below slab a (is_strand slab pj rj) meets m hm inside lower, λ level. level_lies slab a meets m hm inside level)
