-- Each kind of edit is one call.
use Rattle.std.proofs.Common.{MatchResult, sym, subst}
use Rattle.plan_scene.specs.Edits.{IsAdded, IsNotAdded, IsEdited, IsRefused}
use Rattle.plan_scene.proofs.scene.Scene.apply.Goals as goal

pub returns-in-Add : goal.returns-in-Add
returns-in-Add c =
    let s = c.args.self.now in
    subst (λ e. MatchResult c.with.result (IsEdited s e) (IsRefused s e)) (sym c.in-Add.is)
    (subst (λ l. MatchResult c.with.result (IsAdded s c.in-Add.id l) (IsNotAdded s c.in-Add.id l)) c.deref.ensures.value c.with.ensures)
