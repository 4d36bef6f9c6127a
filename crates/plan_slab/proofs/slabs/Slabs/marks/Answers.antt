-- Marks are heights on their line, and at most 131,072.
use Rattle.std.proofs.Common.{◌≡◌, ◌≤◌, [], length, get_or, All, ap, ◌∙◌, subst, sym, arith}
use Rattle.plan_grid.specs.Fraction.{Fraction}
use Rattle.plan_slab.specs.Heights.{IsHeightOn}
use Rattle.plan_slab.specs.Subdivision.{IsSubdivision}
use Rattle.std.proofs.lemmas.List.{length-map}
use Rattle.plan_slab.proofs.SlabsSeen.{row_at}
use Rattle.plan_slab.proofs.slabs.Slabs.marks.Goals as goal

subdivided : (c : goal.After-deref) → IsSubdivision c.args.self.now
subdivided c = subst IsSubdivision c.self.view_is c.self.invariant.subdivision

row : (c : goal.After-deref) → c.deref.result.now ≡ get_or c.args.self.now.marks c.args.line []
row c =
    let rows = c.self.inside.marks.items in
    let count = ap (λ s. length s.marks) c.self.view_is in
    let h = subdivided c in
    row_at (λ v. v.items) rows c.args.line c.index.result.now c.deref.result.now (omega (arith, c.requires, count, length-map rows (λ v. v.items), h.rows.line_count)) c.index.ensures c.deref.ensures.value ∙ ap (λ s. get_or s.marks c.args.line []) c.self.view_is

pub returns-clause-count : goal.returns-clause-count
returns-clause-count c =
    let h = subdivided c in
    subst (λ ms. length ms ≤ 131072) (sym (row c)) (h.rows.few_marks c.args.line [] (omega (arith, c.requires, h.rows.line_count)))

pub returns-clause-on_line : goal.returns-clause-on_line
returns-clause-on_line c =
    let h = subdivided c in
    λ (d : Fraction). subst (All (IsHeightOn (get_or c.args.self.now.lines c.args.line d))) (sym (row c)) (h.on_lines c.args.line d (omega (arith, c.requires, h.rows.line_count)))
