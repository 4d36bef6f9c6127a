-- The next list goes to the end.
use Rattle.std.proofs.Common.{◌≡◌, ◌∙◌, ℕ, ◌+◌, suc, ◌<◌, ◌≤◌, List, ◌∷◌, ◌++◌, length, get_or, drop, append_assoc, append-nil, add-one, drop-cons, refl, sym, ap}
use Rattle.std.specs.List.{flat_map}
use Rattle.std.proofs.lemmas.List.{drop_all}
use Rattle.plan_bound.proofs.all_edges.joined.Goals as goal

one_more : {X Y : Type 0} (f : X → List Y) (found all : List Y) (xs : List X) (i : ℕ) (x : X) → i < length xs → x ≡ get_or xs i x → found ++ flat_map f (drop i xs) ≡ all → (found ++ f x) ++ flat_map f (drop (i + 1) xs) ≡ all
one_more f found all xs i x within is left =
    let this : drop i xs ≡ x ∷ drop (i + 1) xs = rw add-one (drop-cons xs i x within ∙ ap (λ q. q ∷ drop (suc i) xs) (sym is)) in
    rw append_assoc (ap (λ l. found ++ flat_map f l) (sym this) ∙ left)

at_end : {X Y : Type 0} (f : X → List Y) (found all : List Y) (xs : List X) (i : ℕ) → length xs ≤ i → found ++ flat_map f (drop i xs) ≡ all → found ≡ all
at_end f found all xs i beyond left = sym (append-nil found) ∙ ap (λ l. found ++ flat_map f l) (sym (drop_all i xs beyond)) ∙ left

pub loop-list-init : goal.loop-list-init
loop-list-init c = rw c.new-all.ensures.items refl

pub loop-list-preserved : goal.loop-list-preserved
loop-list-preserved c =
    rw (c.in_ok-extend_from_slice.ensures.items, c.deref.ensures.value)
    (one_more (λ v. v.items) c.loop-list.all.items (flat_map (λ v. v.items) c.args.lists.now) c.args.lists.now c.loop-list.list-index c.list-item.result c.loop-list-test.true c.list-item.is c.loop-list.invariant)

pub returns : goal.returns
returns c = at_end (λ v. v.items) c.loop-list.all.items (flat_map (λ v. v.items) c.args.lists.now) c.args.lists.now c.loop-list.list-index c.loop-list-test.false c.loop-list.invariant
