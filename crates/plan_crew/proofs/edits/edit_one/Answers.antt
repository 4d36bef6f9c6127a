-- What one change makes of the last entry, in each of its three ends.
use Rattle.std.proofs.Common.{rules, ◌≡◌, ◌+◌, length, slice_get, Some, ◌++◌, ◌∷◌, [], sym, ap, ◌∙◌}
use Rattle.plan_crew.proofs.Prefixes.{prefix_self}
use Rattle.plan_crew.proofs.Editing.{edit_taken, edit_refused}
use Rattle.plan_crew.proofs.edits.edit_one.Goals as goal

pub returns-in_err-publish-in-Taken-clause-list : goal.returns-in_err-publish-in-Taken-clause-list
returns-in_err-publish-in-Taken-clause-list g c =
    let same : c.publish.new.self.list ≡ c.args.editor.now.list = search rules in
    rw same (prefix_self _)

pub returns-in-Taken-clause-end : goal.returns-in-Taken-clause-end
returns-in-Taken-clause-end g c =
    let last = c.in_ok-last.last in
    let list : last.seen.log ≡ c.args.editor.now.list = c.in_ok-last.ensures.told.1 in
    let counted : length c.args.editor.now.list ≡ last.place + 1 = ap length (sym list) ∙ last.counted in
    let there : slice_get c.args.editor.now.list last.place ≡ Some c.deref.result.now = rw (sym list) (search rules) in
    let named : c.version-version.result ≡ g.J.Job.version_of c.in-Taken.next = search rules in
    let grown : c.publish.new.self.list ≡ c.args.editor.now.list ++ c.in-Taken.next ∷ [] = search rules in
    edit_taken _ _ _ _ last.place c.deref.result.now c.in-Taken.next _ _ _ counted there c.in_ok-next.ensures c.in-Taken.is named grown

pub returns-clause-end : goal.returns-clause-end
returns-clause-end g c =
    let last = c.in_ok-last.last in
    let list : last.seen.log ≡ c.args.editor.now.list = c.in_ok-last.ensures.told.1 in
    let counted : length c.args.editor.now.list ≡ last.place + 1 = ap length (sym list) ∙ last.counted in
    let there : slice_get c.args.editor.now.list last.place ≡ Some c.deref.result.now = rw (sym list) (search rules) in
    let same : c.told.new.self.list ≡ c.args.editor.now.list = search rules in
    edit_refused _ _ _ _ last.place c.deref.result.now c.in-Refused.why _ _ counted there c.in_ok-next.ensures c.in-Refused.is same

pub returns-in_err-last-clause-list : goal.returns-in_err-last-clause-list
returns-in_err-last-clause-list g c =
    let same : c.told.new.self.list ≡ c.args.editor.now.list = search rules in
    rw same (prefix_self _)

pub returns-in_err-next-clause-list : goal.returns-in_err-next-clause-list
returns-in_err-next-clause-list g c =
    let same : c.told.new.self.list ≡ c.args.editor.now.list = search rules in
    rw same (prefix_self _)

pub returns-in_err-entry-in-Taken-clause-list : goal.returns-in_err-entry-in-Taken-clause-list
returns-in_err-entry-in-Taken-clause-list g c =
    let same : c.told.new.self.list ≡ c.args.editor.now.list = search rules in
    rw same (prefix_self _)

pub returns-in-Taken-clause-list : goal.returns-in-Taken-clause-list
returns-in-Taken-clause-list g c =
    let grown : c.publish.new.self.list ≡ c.args.editor.now.list ++ c.in-Taken.next ∷ [] = search rules in (c.in-Taken.next ∷ [], sym grown)

pub returns-clause-list : goal.returns-clause-list
returns-clause-list g c =
    let same : c.told.new.self.list ≡ c.args.editor.now.list = search rules in
    rw same (prefix_self _)
