-- The point of the line at the height of the mark.
use Rattle.std.proofs.Common.{◌≡◌, ◌<◌, [], length, get_or, sym, ap, ◌∙◌, subst, arith}
use Rattle.plan_spec.specs.Vector.{Same}
use Rattle.plan_slab.specs.EventLines.{IsLine}
use Rattle.plan_slab.specs.Heights.{IsHeightOn}
use Rattle.plan_ring.proofs.MarkPoints.{few_multiples, mark_seen_at}
use Rattle.plan_ring.proofs.outline.mark.Goals as goal

pub at-requires : goal.at-requires
at-requires c =
    let s = c.args.slabs.now in
    let x = c.index-lines-line.result in
    let y = c.index-marks-at.result in
    let e : x ≡ get_or s.lines c.args.line x = c.index-lines-line.is ∙ ap (λ xs. get_or xs c.args.line x) c.lines.ensures.value in
    let within : c.args.line < length c.lines.result.now = omega (arith, c.requires.line, ap length c.lines.ensures.value) in
    let inside : c.args.at < length c.marks.result.now = omega (arith, c.requires.at, ap length c.marks.ensures.value) in
    let line : IsLine x = subst IsLine (sym c.index-lines-line.is) (c.lines.ensures.each c.args.line x within) in
    let on : IsHeightOn x (get_or c.marks.result.now c.args.at y) = subst (λ l. IsHeightOn l (get_or c.marks.result.now c.args.at y)) (sym e) (c.marks.ensures.on_line x c.args.at y inside) in
    few_multiples x y line (subst (IsHeightOn x) (sym c.index-marks-at.is) on)

pub returns-clause-same : goal.returns-clause-same
returns-clause-same c =
    let s = c.args.slabs.now in
    let x = c.index-lines-line.result in
    let y = c.index-marks-at.result in
    let e : x ≡ get_or s.lines c.args.line x = c.index-lines-line.is ∙ ap (λ xs. get_or xs c.args.line x) c.lines.ensures.value in
    let f : y ≡ get_or (get_or s.marks c.args.line []) c.args.at y = c.index-marks-at.is ∙ ap (λ ms. get_or ms c.args.at y) c.marks.ensures.value in
    subst (Same c.at.result) (mark_seen_at s c.args.line c.args.at x y c.requires.line e c.requires.at f) c.at.ensures.same
