-- Each turn may add a reader, which has the list that is shown.
use Rattle.std.proofs.Common.{◌≡◌, ◌+◌, ◌∙◌, All, length, rules, arith, ap, length-append, [], ◌∷◌, ◌++◌}
use Rattle.std.proofs.lemmas.List.Elements.{All-push}
use Rattle.plan_shelf.proofs.shelf.hand_out_all.Goals.{in-Ok+in_ok-map_err, in_default}
use Rattle.plan_shelf.proofs.shelf.hand_out_all.Goals as goal

pub loop-place-preserved : goal.loop-place-preserved
loop-place-preserved g c =
    let inv = c.loop-place.invariant in
    let all = c.loop-place.all.items in
    elim c.match-hand_out.branch [
      | in-Ok+in_ok-map_err w ↦
          let pushed : w.push.new.self.items ≡ all ++ w.in-Ok.reader ∷ [] = search rules in
          let grown : c.match-hand_out.all.items ≡ all ++ w.in-Ok.reader ∷ [] = ap (λ v. v.items) w.all-is ∙ pushed in (
            c.hand_out.ensures.writer,
            rw grown (All-push (λ r. (r.shelf ≡ c.args.last.now.seen.book) × (r.list ≡ c.args.last.now.seen.log)) all w.in-Ok.reader inv.1 w.in-Ok.ensures.reader),
            omega (arith, ap length grown, length-append all (w.in-Ok.reader ∷ []), inv.2),
          )
      | in_default w ↦ (
        c.hand_out.ensures.writer,
        rw (w.all-is) inv.1,
        omega (arith, ap (λ v. length v.items) w.all-is, inv.2),
      )
    ]
