-- A slab has at most 131,072 spans, and each goes across it.
use Rattle.std.proofs.Common.{◌≡◌, [], suc, ◌<◌, ◌≤◌, length, get_or, All, ap, ◌∙◌, subst, sym, arith}
use Rattle.std.proofs.lemmas.List.{length-map}
use Rattle.plan_spec.specs.Slabs.{line_at}
use Rattle.plan_spec.specs.Regions.{mediant}
use Rattle.plan_slab.specs.Heights.{IsOver}
use Rattle.plan_slab.specs.Subdivision.{IsSubdivision, slabs_of}
use Rattle.plan_slab.proofs.SlabsSeen.{row_at}
use Rattle.plan_slab.proofs.slabs.Slabs.spans.Goals as goal

pub returns-clause-count : goal.returns-clause-count
returns-clause-count c =
    let h : IsSubdivision c.args.self.now = subst IsSubdivision c.self.view_is c.self.invariant.subdivision in
    let rows = c.self.inside.spans.items in
    let there : c.args.slab < length rows = omega (arith, c.requires, h.rows.slab_count, ap (λ s. length s.spans) c.self.view_is, length-map rows (λ v. v.items)) in
    let is : c.deref.result.now ≡ get_or c.args.self.now.spans c.args.slab [] = row_at (λ v. v.items) rows c.args.slab c.index.result.now c.deref.result.now there c.index.ensures c.deref.ensures.value ∙ ap (λ s. get_or s.spans c.args.slab []) c.self.view_is in
    subst (λ ss. length ss ≤ 131072) (sym is) (h.rows.few_spans c.args.slab [] (omega (arith, c.requires, h.rows.slab_count)))

pub returns-clause-across : goal.returns-clause-across
returns-clause-across c =
    let s = c.args.self.now in
    let h : IsSubdivision c.args.self.now = subst IsSubdivision c.self.view_is c.self.invariant.subdivision in
    let rows = c.self.inside.spans.items in
    let there : c.args.slab < length rows = omega (arith, c.requires, h.rows.slab_count, ap (λ s. length s.spans) c.self.view_is, length-map rows (λ v. v.items)) in
    let is : c.deref.result.now ≡ get_or c.args.self.now.spans c.args.slab [] = row_at (λ v. v.items) rows c.args.slab c.index.result.now c.deref.result.now there c.index.ensures c.deref.ensures.value ∙ ap (λ s. get_or s.spans c.args.slab []) c.self.view_is in
    subst (All (λ t. IsOver t (mediant (line_at (slabs_of s) c.args.slab) (line_at (slabs_of s) (suc c.args.slab))))) (sym is) (h.rows.across c.args.slab (omega (arith, c.requires, h.rows.slab_count)))
