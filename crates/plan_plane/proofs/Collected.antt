-- Results that are all `Ok`, one for each number.
use Rattle.std.proofs.Common.{◌≡◌, ℕ, List, [], ◌∷◌, map, sym, subst}
use Rattle.std.specs.List.{AllZip}
use Rattle.std.specs.declared.result.Result.{Result}
use Rattle.std.specs.Result.{MatchResult, IfOk}
use Rattle.std.specs.declared.result.Result.TheVariants.{Ok, Err}

oks : {T E : Type 0} (R : ℕ → Result T E → Type 0) (ks : List ℕ) (ys : List T) → AllZip R ks (map Ok ys) → AllZip (λ k y. R k (Ok y)) ks ys
oks R [] [] h = tt
oks R [] (y ∷ ys) h = absurd h
oks R (k ∷ ks) [] h = absurd h
oks R (k ∷ ks) (y ∷ ys) h = (h.0, oks R ks ys h.1)

pub collected : {T C E : Type 0} (items : C → List T) (R : ℕ → Result T E → Type 0) (ks : List ℕ) (xs : List (Result T E)) (r : Result C E) (Q : E → Type 0) → AllZip R ks xs
    → MatchResult r (λ c. (ys : List T) × (xs ≡ map Ok ys) × (items c ≡ ys)) Q → IfOk r (λ c. AllZip (λ k y. R k (Ok y)) ks (items c))
collected items R ks xs (Ok c) Q h (ys, e, i) = subst (AllZip (λ k y. R k (Ok y)) ks) (sym i) (oks R ks ys (subst (AllZip R ks) e h))
collected items R ks xs (Err d) Q h m = tt
