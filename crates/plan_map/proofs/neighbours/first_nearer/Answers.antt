use Rattle.std.proofs.Common.{◌≡◌, Some}
use Rattle.std.proofs.lemmas.List.Elements.{Contains-append_left, Contains-append_right}
use Rattle.plan_map.specs.Search.{at, numbers}
use Rattle.plan_map.proofs.Graph.Rows.{among, first_in_both}
use Rattle.plan_map.proofs.neighbours.first_nearer.Goals as goal

pub first_nearer-requires : goal.first_nearer-requires
first_nearer-requires c =
    let l = c.args.row.now.left in
    let r = c.args.row.now.right in
    λ n low high. c.requires n (Contains-append_left (numbers l.start l.end) (numbers r.start r.end) n ((among l.start l.end n).1 (low, high)))

pub first_nearer-requires-2 : goal.first_nearer-requires-2
first_nearer-requires-2 c =
    let l = c.args.row.now.left in
    let r = c.args.row.now.right in
    λ n low high. c.requires n (Contains-append_right (numbers l.start l.end) (numbers r.start r.end) n ((among r.start r.end n).1 (low, high)))

pub returns : goal.returns
returns c =
    let l = c.args.row.now.left in
    let r = c.args.row.now.right in
    first_in_both (λ n. at c.args.distances.now n ≡ Some c.args.left) (numbers l.start l.end) (numbers r.start r.end) c.first_nearer-2.result c.in_default.ensures c.first_nearer-2.ensures
