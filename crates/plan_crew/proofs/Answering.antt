-- One more answer of a lane: it is that of the last entry of a list that has grown.
use Rattle.std.proofs.Common.{◌≡◌, ℕ, zero, suc, ◌+◌, ◌-◌, ◌<◌, ◌≤◌, List, [], ◌∷◌, ◌++◌, length, map, take, get_or, refl, sym, ap, arith, add-one}
use mathlib.Core.List.{IsPrefix}
use Rattle.plan_crew.specs.Lane.{Says, Answers}
use Rattle.plan_crew.proofs.Prefixes.{prefix_get, prefix_length, get_within}

take_suc : {X : Type 0} (xs : List X) (k : ℕ) (x : X) → k < length xs → x ≡ get_or xs k x → take (suc k) xs ≡ take k xs ++ x ∷ []
take_suc [] k x lt is = absurd (omega arith)
take_suc (y ∷ xs) zero x lt is = ap (λ z. z ∷ []) (sym is)
take_suc (y ∷ xs) (suc k) x lt is = ap (λ l. y ∷ l) (take_suc xs k x (omega arith) is)

pub take_next : {X : Type 0} (xs : List X) (k : ℕ) (x : X) → k < length xs → x ≡ get_or xs k x → take (k + 1) xs ≡ take k xs ++ x ∷ []
take_next xs k x lt is = rw add-one (take_suc xs k x lt is)

pub take_whole : {X : Type 0} (xs : List X) (k : ℕ) → length xs ≤ k → take k xs ≡ xs
take_whole [] zero le = refl
take_whole [] (suc k) le = refl
take_whole (x ∷ xs) zero le = absurd (omega arith)
take_whole (x ∷ xs) (suc k) le = ap (λ l. x ∷ l) (take_whole xs k (omega arith))

pub map_next : {X Y : Type 0} (f : X → Y) (xs : List X) (x : X) → map f (xs ++ x ∷ []) ≡ map f xs ++ f x ∷ []
map_next f [] x = refl
map_next f (y ∷ xs) x = ap (λ l. f y ∷ l) (map_next f xs x)

module _ {E Q A : Type 0} (version_of : E → ℕ) (gives : E → Q → A → Type 0) where
  -- what was said at a place of a list is said there of a longer one
  pub carried : (list longer : List E) (place : ℕ) (q : Q) (s : ℕ × A) → IsPrefix list longer → Says version_of gives list place q s → Says version_of gives longer place q s
  carried list longer place q s p h = record { entry = h.entry; there = prefix_get list longer place h.entry p h.there; version_is = h.version_is; answer_is = h.answer_is }

  pub one_more : (list longer : List E) (from : ℕ) (questions : List Q) (said : List (ℕ × A)) (q : Q) (s : ℕ × A)
      → IsPrefix list longer → from ≤ length longer - 1 → Answers version_of gives list from questions said → Says version_of gives longer (length longer - 1) q s
      → Answers version_of gives longer from (questions ++ q ∷ []) (said ++ s ∷ [])
  one_more list longer from [] [] q s grown le h new = (length longer - 1, le, new, tt)
  one_more list longer from [] (t ∷ said) q s grown le h new = absurd h
  one_more list longer from (p ∷ questions) [] q s grown le h new = absurd h
  one_more list longer from (p ∷ questions) (t ∷ said) q s grown le h new =
      let within : h.0 < length list = get_within list h.0 h.2.entry h.2.there in
      let wider : length list ≤ length longer = prefix_length list longer grown in
      (h.0, h.1, carried list longer h.0 p t grown h.2, one_more list longer h.0 questions said q s grown (omega arith) h.3 new)
