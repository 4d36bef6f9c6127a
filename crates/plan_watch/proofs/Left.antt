-- What holds of each watcher before holds of each that is left, as a pair changes it.
use Rattle.std.proofs.Common.{zero, suc, Bool, true, false, List, [], ◌∷◌, filter, All, arith}
use Rattle.std.specs.List.{AllZip}
use Rattle.std.specs.Prelude.{cond}

module _ {A : Type 0} (P : A → Type 0) where
  all_of : (x : A) (xs : List A) → P x → All P xs → All P (x ∷ xs)
  all_of x xs p h zero d lt = p
  all_of x xs p h (suc k) d lt = h k d (omega arith)

  -- what holds of all holds of those that a test takes
  pub filtered : (stays : A → Bool) (xs : List A) → All P xs → All P (filter stays xs)
  filtered stays [] h = h
  filtered stays (x ∷ xs) h =
      let rest = filtered stays xs (λ k d lt. h (suc k) d (omega arith)) in
      let this : P x = h 0 x (omega arith) in
      by_test (stays x) x (filter stays xs) this rest
    where
      by_test : (b : Bool) (x : A) (ys : List A) → P x → All P ys → All P (cond b (x ∷ ys) ys)
      by_test true x ys p h = all_of x ys p h
      by_test false x ys p h = h

-- what holds of each of two lists that correspond
pub zipped : {A : Type 0} (P Q : A → Type 0) (R : A → A → Type 0) (xs ys : List A) → ((x y : A) → R x y → P x → Q y) → AllZip R xs ys → All P xs → All Q ys
zipped P Q R [] [] step z h = λ k d lt. absurd (omega arith)
zipped P Q R [] (y ∷ ys) step z h = absurd z
zipped P Q R (x ∷ xs) [] step z h = absurd z
zipped P Q R (x ∷ xs) (y ∷ ys) step z h = all_of Q y ys (step x y z.0 (h 0 x (omega arith))) (zipped P Q R xs ys step z.1 (λ k d lt. h (suc k) d (omega arith)))
