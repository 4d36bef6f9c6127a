-- Pairs of elements of joined lists: those of each, and one of the first with one of the second.
use Rattle.std.proofs.Common.{◌++◌, ◌∷◌, suc, [], List, All, AllPairs, arith}
use Rattle.std.proofs.lemmas.List.Elements.{All-head, All-tail, All-append}
use Rattle.std.proofs.lemmas.List.Kept.{AllPairs-cons}

pub pairs_joined : {X : Type 0} (R : X → X → Type 0) (xs ys : List X) → AllPairs R xs → AllPairs R ys → All (λ x. All (R x) ys) xs → AllPairs R (xs ++ ys)
pairs_joined R [] ys h k c = k
pairs_joined R (x ∷ xs) ys h k c =
    AllPairs-cons R x (xs ++ ys) (All-append (R x) xs ys (λ j d within. h 0 (suc j) d (omega arith) (omega arith)) (All-head (λ x. All (R x) ys) x xs c))
    (pairs_joined R xs ys (λ i j d less within. h (suc i) (suc j) d (omega arith) (omega arith)) k (All-tail (λ x. All (R x) ys) x xs c))
