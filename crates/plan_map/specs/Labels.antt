-- A label for each node of a graph: equal exactly where a walk joins. And the floods that find them.
use Rattle.std.specs.Prelude.{◌≡◌, ℕ, ◌≤◌, ◌<◌, List, length, get_or, Option, Some}
use Rattle.plan_spec.specs.Walks.{AreJoined}
use Rattle.plan_map.specs.Search.{at, nth, Listed, Measured}

-- of each of the numbers below count the least number that a walk joins to it
pub record AreLabels (next : ℕ → ℕ → Type 0) (count : ℕ) (labels : List ℕ) : Type 0 where
  pub size : length labels ≡ count
  pub below : (n : ℕ) → n < count → get_or labels n 0 < count
  pub joined : (n : ℕ) → n < count → AreJoined next (get_or labels n 0) n
  pub same : (m n : ℕ) → m < count → n < count → AreJoined next m n → get_or labels m 0 ≡ get_or labels n 0
  pub least : (m n : ℕ) → m < count → n < count → AreJoined next m n → get_or labels n 0 ≤ m

-- what is seen is what has a label, and stands once; a label is joined to what has it, and not greater; what is before the head has the
-- labels of its neighbours, from the head on all have the label of this flood; and all lesser numbers have labels
pub record IsFlood (next : ℕ → ℕ → Type 0) (count label : ℕ) (seen : List ℕ) (head : ℕ) (labels : List (Option ℕ)) : Type 0 where
  pub size : length labels ≡ count
  pub below : (k : ℕ) → k < length seen → nth seen k < count
  pub once : (i j : ℕ) → i < j → j < length seen → ¬ (nth seen i ≡ nth seen j)
  pub listed : (n l : ℕ) → at labels n ≡ Some l → Listed seen n
  pub labelled : (k : ℕ) → k < length seen → Measured labels (nth seen k)
  pub joined : (n l : ℕ) → at labels n ≡ Some l → AreJoined next l n
  pub low : (n l : ℕ) → at labels n ≡ Some l → l ≤ n
  pub around : (i n : ℕ) → i < head → i < length seen → next n (nth seen i) → at labels n ≡ at labels (nth seen i)
  pub ahead : (i : ℕ) → head ≤ i → i < length seen → at labels (nth seen i) ≡ Some label
  pub lesser : (m : ℕ) → m < label → Measured labels m

-- the list has the labels by themselves
pub record HasLabels (labels : List (Option ℕ)) (found : List ℕ) : Type 0 where
  pub size : length found ≡ length labels
  pub each : (n l : ℕ) → at labels n ≡ Some l → get_or found n 0 ≡ l
