use Rattle.std.proofs.Common.{◌≡◌, OnOk, ap, sym, ◌∙◌, subst, arith}
use Rattle.std.proofs.lemmas.List.Elements.{Contains-append_left, Contains-append_right}
use Rattle.plan_map.specs.Search.{state, visits, numbers}
use Rattle.plan_map.proofs.Graph.Rows.{among}
use Rattle.plan_map.proofs.Graph.Spreading.{visits_append}
use Rattle.plan_map.proofs.neighbours.spread.Goals as goal

pub spread-requires : goal.spread-requires
spread-requires c =
    let l = c.args.row.now.left in
    let r = c.args.row.now.right in
    λ n low high. c.requires n (Contains-append_left (numbers l.start l.end) (numbers r.start r.end) n ((among l.start l.end n).1 (low, high)))

pub spread-requires-2 : goal.spread-requires-2
spread-requires-2 c =
    let l = c.args.row.now.left in
    let r = c.args.row.now.right in
    λ n low high. omega (arith, c.in_ok-spread.ensures.size, c.requires n (Contains-append_right (numbers l.start l.end) (numbers r.start r.end) n ((among r.start r.end n).1 (low, high))))

pub returns-clause-value : goal.returns-clause-value
returns-clause-value c =
    let l = c.args.row.now.left in
    let r = c.args.row.now.right in
    let before = state c.args.seen.now.items c.args.distances.now.items in
    subst (λ t. OnOk c.spread-2.result (state c.spread-2.new.seen.items c.spread-2.new.distances.items ≡ t))
    (sym (visits_append (numbers l.start l.end) (numbers r.start r.end) c.args.steps before ∙ ap (visits (numbers r.start r.end) c.args.steps) (sym c.in_ok-spread.ensures.value))) c.spread-2.ensures.value
