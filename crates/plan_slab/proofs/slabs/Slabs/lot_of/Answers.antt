-- Each region is a lot.
use Rattle.std.proofs.Common.{◌≡◌, ◌<◌, length, get_or, sym, ap, ◌∙◌, subst, pos, arith}
use Rattle.std.proofs.lemmas.List.{get_or-map, length-map}
use Rattle.plan_spec.specs.Regions.{IsLot}
use Rattle.plan_slab.specs.Seen.{lot_seen}
use Rattle.plan_slab.specs.Subdivision.{IsSubdivision, slabs_of}
use Rattle.plan_slab.proofs.LotsThere.{lot_there}
use Rattle.plan_slab.proofs.slabs.Slabs.lot_of.Goals as goal

pub returns-clause-lot : goal.returns-clause-lot
returns-clause-lot c =
    let s = c.args.self.now in
    let h : IsSubdivision s = subst IsSubdivision c.self.view_is c.self.invariant.subdivision in
    let lot = c.index.result.now in
    let e : lot ≡ get_or s.lots c.args.region lot = c.index.ensures ∙ ap (λ v. get_or v.lots c.args.region lot) c.self.view_is in
    let less : c.args.region < length s.lots = omega (arith, c.requires, length-map s.lots lot_seen) in
    subst (IsLot (slabs_of s)) (get_or-map lot_seen s.lots c.args.region lot (lot_seen lot) less ∙ ap lot_seen (sym e)) (h.lots c.args.region (lot_seen lot) c.requires)

pub returns-clause-slab_count : goal.returns-clause-slab_count
returns-clause-slab_count c =
    let h : IsSubdivision c.args.self.now = subst IsSubdivision c.self.view_is c.self.invariant.subdivision in
    h.rows.slab_count

pub returns-clause-there : goal.returns-clause-there
returns-clause-there c =
    let s = c.args.self.now in
    let h : IsSubdivision s = subst IsSubdivision c.self.view_is c.self.invariant.subdivision in
    let lot = c.index.result.now in
    let e : lot ≡ get_or s.lots c.args.region lot = c.index.ensures ∙ ap (λ v. get_or v.lots c.args.region lot) c.self.view_is in
    let less : c.args.region < length s.lots = omega (arith, c.requires, length-map s.lots lot_seen) in
    let is : IsLot (slabs_of s) (lot_seen lot) = subst (IsLot (slabs_of s)) (get_or-map lot_seen s.lots c.args.region lot (lot_seen lot) less ∙ ap lot_seen (sym e)) (h.lots c.args.region (lot_seen lot) c.requires) in
    lot_there s (record { num = pos 0; den = pos 1 }) h (lot_seen lot) is
