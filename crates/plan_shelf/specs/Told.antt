-- What contracts see of a told token, beside its place and its entry.
use Rattle.std.specs.Prelude.{List}
use Rattle.logbook.specs.Pages.{Book}
use Rattle.plan_shelf.specs.declared.told.Told.{Told}

-- the shelf that it comes from
abbrev pub told_shelf : {T : Type 0} → Told T → Book
told_shelf t = t.seen.book

-- the editor's list when it told
abbrev pub told_list : {T : Type 0} → Told T → List T
told_list t = t.seen.log
