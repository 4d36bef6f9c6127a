-- The first lot of no lesser key is the lot, or none is.
use Rattle.std.proofs.Common.{◌≡◌, ◌<◌, Bool, true, false, map, length, get_or, ap, ◌∙◌, sym, subst, arith}
use Rattle.std.specs.List.Sorted.{IsNonDecreasingBy}
use Rattle.std.proofs.lemmas.List.{get_or-map, get_or_default, length-map}
use Rattle.plan_spec.specs.Regions.{cell}
use Rattle.plan_slab.specs.LotKeys.{key, IsFirstFrom}
use Rattle.plan_slab.specs.Seen.{lot_seen}
use Rattle.plan_slab.specs.Subdivision.{IsSubdivision}
use Rattle.plan_slab.proofs.LotNumbers.{small, keys_rise, no_number}
use Rattle.plan_slab.proofs.slabs.Slabs.number.Goals as goal
use Rattle.plan_slab.proofs.slabs.Slabs.number.Goals.{else-at-len-via-then-at-len+else-is, else-at-len-via-else-at-len}

-- a test is not both
not_both : {b : Bool} → b ≡ true → ¬ (b ≡ false)
not_both t f = cc

pub first_from-at-requires : goal.first_from-at-requires
first_from-at-requires c =
    let s = c.args.self.now in
    let h : IsSubdivision s = subst IsSubdivision c.self.view_is c.self.invariant.subdivision in
    let lots : c.deref.result.now ≡ s.lots = c.deref.ensures.value ∙ ap (λ v. v.lots) c.self.view_is in
    subst (IsNonDecreasingBy (λ lot. key (lot_seen lot))) (sym lots) (keys_rise s.lots (small s h) h.rising)

pub returns : goal.returns
returns c =
    let s = c.args.self.now in
    let h : IsSubdivision s = subst IsSubdivision c.self.view_is c.self.invariant.subdivision in
    let own : c.deref.result.now ≡ s.lots = c.deref.ensures.value ∙ ap (λ v. v.lots) c.self.view_is in
    let first : IsFirstFrom (map lot_seen s.lots) (key (lot_seen c.args.lot)) c.first_from-at.result = subst (λ xs. IsFirstFrom (map lot_seen xs) (key (lot_seen c.args.lot)) c.first_from-at.result) own (rw c.key.ensures at c.first_from-at.ensures) in
    no_number s.lots (small s h) h.rising c.args.lot c.first_from-at.result first (λ less e. elim c.else-at-len.branch [
      | else-at-len-via-then-at-len+else-is w ↦ (
          let lots = ap (λ v. v.lots) c.self.view_is in
          let f : w.index.result.now ≡ c.args.lot = w.index.ensures ∙ ap (λ xs. get_or xs c.first_from-at.result w.index.result.now) lots ∙ get_or_default s.lots c.first_from-at.result w.index.result.now c.args.lot less ∙ e in
          absurd (not_both (w.is.ensures.1 f) w.if-is.false)
          )
      | else-at-len-via-else-at-len w ↦ absurd (let lots = ap (λ v. length v.lots) c.self.view_is in omega (arith, less, w.if-at-len.false, c.len.ensures, lots))
    ])

pub returns-then-is : goal.returns-then-is
returns-then-is c =
    let s = c.args.self.now in
    let at = c.first_from-at.result in
    let lot = c.index.result.now in
    let e : lot ≡ get_or s.lots at lot = c.index.ensures ∙ ap (λ v. get_or v.lots at lot) c.self.view_is in
    let count = ap (λ v. length v.lots) c.self.view_is in
    let less : at < length s.lots = omega (arith, c.if-at-len.true, c.len.ensures, count) in
    (omega (arith, less, length-map s.lots lot_seen), get_or-map lot_seen s.lots at lot (cell 0 0) less ∙ ap lot_seen (sym e ∙ c.is.ensures.0 c.if-is.true))
