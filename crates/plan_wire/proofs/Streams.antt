-- Parts that are added or taken one after another are one part: fronts of a list join, and a list without its front is what is left.
use Rattle.std.proofs.Common.{◌≡◌, ℕ, ◌+◌, ◌≤◌, List, ◌++◌, length, take, drop, Option, Some, None, refl, arith, append_assoc, length-append, length-take}
use Rattle.std.proofs.lemmas.List.{take-append-drop}
use Rattle.std.proofs.Math.Seq.{take-add, drop-append_seam}
use Rattle.plan_wire.specs.Stream.{Appends, Takes, TakesNext, TakesAtMost}

-- a front of the line and a front of the rest are a longer front
pub appends_more : (before between after : Option (List ℕ)) (line : List ℕ) (d n : ℕ) → Appends before between (take d line) → Appends between after (take n (drop d line)) → Appends before after (take (d + n) line)
appends_more None between after line d n first then = rw first at then
appends_more (Some bytes) between after line d n first then = rw (take-add, ← append_assoc) (rw first at then)

-- what is read next is taken too
pub takes_more : (before between after : Option (List ℕ)) (text room : List ℕ) (n : ℕ) → Takes before between text → TakesNext between after room n → Takes before after (text ++ take n room)
takes_more before None after text room n taken next = rw next taken
takes_more before (Some bytes) after text room n taken next = rw (next.left, next.read, append_assoc, take-append-drop) taken

-- what was taken is the front
pub takes_at_most : (before after : Option (List ℕ)) (text : List ℕ) (most : ℕ) → length text ≤ most → Takes before after text → TakesAtMost most before after
takes_at_most None after text most small taken = tt
takes_at_most (Some bytes) None text most small taken = cc
takes_at_most (Some bytes) (Some rest) text most small taken =
    let all : bytes ≡ text ++ rest = cc in
    (length text, small, rw (all, drop-append_seam) refl)

-- and so it is where more is read behind it
pub reads_at_most : (before between after : Option (List ℕ)) (text room : List ℕ) (n most : ℕ) → length text + n ≤ most → Takes before between text → TakesNext between after room n → TakesAtMost most before after
reads_at_most before between after text room n most small taken next =
    takes_at_most before after (text ++ take n room) most (simp (length-append, length-take) (omega arith)) (takes_more before between after text room n taken next)
