-- One ring more, of the region whose number is the part's.
use Rattle.std.proofs.Common.{◌≡◌, ◌∷◌, [], ◌++◌, refl, sym, subst}
use Rattle.std.proofs.lemmas.List.Elements.{All-push}
use Rattle.plan_reply.specs.Rings.{IsRing, AreRings}
use Rattle.plan_reply.specs.declared.rings.Ring.{Ring}
use Rattle.plan_reply.proofs.Parts.{ring_serves}
use Rattle.plan_reply.proofs.stand.Stand.rings.Goals.{then-part-region+in_ok-chain+in_ok-map_err, else-part-region}
use Rattle.plan_reply.proofs.stand.Stand.rings.Goals as goal

pub loop-region-preserved : goal.loop-region-preserved
loop-region-preserved c = elim c.if-part-region.branch [
  | then-part-region+in_ok-chain+in_ok-map_err w ↦
      let scene = c.args.self.now in
      let part = c.index-part.result.now in
      let chain = w.in_ok-chain.chain in
      let entry : Ring = record { part = part; chain = chain } in
      let serves : IsRing scene part chain = subst (λ s. IsRing s part chain) c.self.view_is (ring_serves c.self.inside.scene c.count.ensures.scene c.self.invariant.is_map chain w.in_ok-chain.ensures.in_range part w.in_ok-chain.ensures.ring) in
      let pushed : w.push.new.self.items ≡ c.loop-region.rings.items ++ entry ∷ [] = rw (w.push.ensures.items, ← w.map_err.ensures.variant, w.in_ok-map_err.was) refl in
      rw w.rings-is (subst (AreRings scene) (sym pushed) (All-push (λ (r : Ring). IsRing scene r.part r.chain) c.loop-region.rings.items entry c.loop-region.invariant serves))
  | else-part-region w ↦ rw w.rings-is c.loop-region.invariant
]
