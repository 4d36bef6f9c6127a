-- The table of ends has a row for each slab, with an entry for each of its spans.
use Rattle.std.proofs.Common.{◌≡◌, [], map, length, subst, vec_len, arith}
use Rattle.plan_slab.specs.Ends.{AreEnds}
use Rattle.plan_slab.specs.Subdivision.{IsSubdivision, slabs_of}
use Rattle.plan_slab.proofs.EndTables.{entry_there, left_entry, right_entry, left_mark, right_mark}
use Rattle.plan_slab.proofs.slabs.Slabs.ends.Goals as goal

pub index-requires-2 : goal.index-requires-2
index-requires-2 c =
    let s = c.args.self.now in
    let h : IsSubdivision s = subst IsSubdivision c.self.view_is c.self.invariant.subdivision in
    let table = subst (λ s. AreEnds (slabs_of s) (map (λ v. v.items) c.self.inside.ends.items)) c.self.view_is c.self.invariant.ends in
    let long : vec_len c.index.result.now ≡ length c.index.result.now.items = search in
    omega (arith, long, entry_there (λ v. v.items) s h c.self.inside.ends.items table c.args.slab c.args.at c.requires.slab c.requires.at c.index.result.now c.index.ensures)

pub returns-clause-left : goal.returns-clause-left
returns-clause-left c =
    let s = c.args.self.now in
    let h : IsSubdivision s = subst IsSubdivision c.self.view_is c.self.invariant.subdivision in
    let table = subst (λ s. AreEnds (slabs_of s) (map (λ v. v.items) c.self.inside.ends.items)) c.self.view_is c.self.invariant.ends in
    left_entry (λ v. v.items) s h c.self.inside.ends.items table c.args.slab c.args.at c.requires.slab c.requires.at c.index.result.now c.index.ensures c.index-2.result.now c.index-2.ensures

pub returns-clause-right : goal.returns-clause-right
returns-clause-right c =
    let s = c.args.self.now in
    let h : IsSubdivision s = subst IsSubdivision c.self.view_is c.self.invariant.subdivision in
    let table = subst (λ s. AreEnds (slabs_of s) (map (λ v. v.items) c.self.inside.ends.items)) c.self.view_is c.self.invariant.ends in
    right_entry (λ v. v.items) s h c.self.inside.ends.items table c.args.slab c.args.at c.requires.slab c.requires.at c.index.result.now c.index.ensures c.index-2.result.now c.index-2.ensures

pub returns-clause-left_mark : goal.returns-clause-left_mark
returns-clause-left_mark c =
    let s = c.args.self.now in
    let h : IsSubdivision s = subst IsSubdivision c.self.view_is c.self.invariant.subdivision in
    let table = subst (λ s. AreEnds (slabs_of s) (map (λ v. v.items) c.self.inside.ends.items)) c.self.view_is c.self.invariant.ends in
    let here = left_entry (λ v. v.items) s h c.self.inside.ends.items table c.args.slab c.args.at c.requires.slab c.requires.at c.index.result.now c.index.ensures c.index-2.result.now c.index-2.ensures in
    omega (arith, here, left_mark s h c.args.slab c.args.at c.requires.slab c.requires.at)

pub returns-clause-right_mark : goal.returns-clause-right_mark
returns-clause-right_mark c =
    let s = c.args.self.now in
    let h : IsSubdivision s = subst IsSubdivision c.self.view_is c.self.invariant.subdivision in
    let table = subst (λ s. AreEnds (slabs_of s) (map (λ v. v.items) c.self.inside.ends.items)) c.self.view_is c.self.invariant.ends in
    let here = right_entry (λ v. v.items) s h c.self.inside.ends.items table c.args.slab c.args.at c.requires.slab c.requires.at c.index.result.now c.index.ensures c.index-2.result.now c.index-2.ensures in
    omega (arith, here, right_mark s h c.args.slab c.args.at c.requires.slab c.requires.at)

pub returns-clause-few_lines : goal.returns-clause-few_lines
returns-clause-few_lines c =
    let h : IsSubdivision c.args.self.now = subst IsSubdivision c.self.view_is c.self.invariant.subdivision in
    h.rows.few_lines

pub returns-clause-few_spans : goal.returns-clause-few_spans
returns-clause-few_spans c =
    let h : IsSubdivision c.args.self.now = subst IsSubdivision c.self.view_is c.self.invariant.subdivision in
    h.rows.few_spans c.args.slab [] (omega (arith, c.requires.slab, h.rows.slab_count))
