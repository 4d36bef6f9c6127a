-- Readers go into the lanes, and come back.
use Rattle.std.proofs.Common.{rules, ◌≡◌, ◌≤◌, List, length, map, All, sym, ap, ◌∙◌, subst}
use Rattle.plan_crew.specs.declared.work.Work.{Work}
use Rattle.plan_crew.specs.Works.{AllGoOn}
use Rattle.plan_crew.proofs.Working.{all_length, readers_self, moved_shelf, moved_goes, written_back}
use Rattle.plan_crew.proofs.rounds.round.Goals as goal

pub returns-in_err-works-clause-readers : goal.returns-in_err-works-clause-readers
returns-in_err-works-clause-readers g c = readers_self c.args.readers.now.items

pub in_works-end-requires-clause-readers : goal.in_works-end-requires-clause-readers
in_works-end-requires-clause-readers g c κs within =
    subst (λ (l : List (Work _ _ _ _ _ _)). All (λ w. w.reader.shelf ≡ c.args.editor.now.shelf) l) (sym c.as_mut_slice.ensures.value)
    (moved_shelf c.move_in.new.works.items c.args.readers.now.items c.args.editor.now.shelf c.move_in.ensures.moved c.requires.readers)

pub returns-clause-readers : goal.returns-clause-readers
returns-clause-readers g c =
    let lent : c.as_mut_slice.result.now ≡ c.move_in.new.works.items = c.as_mut_slice.ensures.value in
    let goes : AllGoOn c.as_mut_slice.result.now c.in_works-end.new.works = c.in_works-end.ensures.readers in
    let long : length c.in_works-end.new.works ≡ length c.move_in.new.works.items = all_length c.as_mut_slice.result.now c.in_works-end.new.works goes ∙ ap length lent in
    let whole : length c.move_in.new.works.items ≤ c.move_in.new.works.len = search rules in
    let back = written_back c.move_in.new.works.len c.in_works-end.new.works c.move_in.new.works.items long whole in
    moved_goes c.as_mut_slice.result.now c.in_works-end.new.works c.args.readers.now.items c.move_out.new.readers.items
    (ap (λ (l : List (Work _ _ _ _ _ _)). map (λ w. w.reader) l) lent ∙ c.move_in.ensures.moved)
    (c.move_out.ensures.readers ∙ ap (λ (l : List (Work _ _ _ _ _ _)). map (λ w. w.reader) l) back) goes
