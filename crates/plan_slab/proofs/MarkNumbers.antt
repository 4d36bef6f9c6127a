-- How many marks from the lowest on are below a span, counted from a number that is not beyond it.
use Rattle.std.proofs.Common.{◌≡◌, ℕ, zero, suc, ◌+◌, ◌<◌, ◌≤◌, pos, ◌<ℤ◌, Bool, true, false, cond, int_lt, List, [], ◌∷◌, length, map, get_or, refl, sym, ap, ◌∙◌, subst, arith}
use Rattle.std.proofs.lemmas.Int.{ints}
use Rattle.std.proofs.lemmas.List.{get_or-map, length-map}
use Rattle.plan_spec.specs.Vector.{Vector, turn}
use Rattle.plan_spec.specs.Segment.{Segment}
use Rattle.plan_spec.specs.Slabs.{nowhere, nothing}
use Rattle.plan_spec.specs.Neighbours.{meets}
use Rattle.plan_grid.specs.Fraction.{Fraction, point_at}
use Rattle.plan_slab.specs.declared.strand.Strand.{Strand}
use Rattle.plan_slab.specs.Ends.{AreMeets}
use Rattle.plan_slab.specs.Seen.{marks_seen, strand_seen}
use Rattle.plan_slab.proofs.OneByOne.{HasEach}

pub meets_within : (s : Segment) (ms : List Vector) → meets s ms ≤ length ms
meets_within s [] = omega arith
meets_within s (m ∷ ms) = by (int_lt (turn s.a s.b m) (pos 0)) (meets_within s ms)
  where
    by : (t : Bool) → meets s ms ≤ length ms → cond t (suc (meets s ms)) 0 ≤ suc (length ms)
    by true h = omega arith
    by false h = omega arith

-- one more that is below
pub meets_more : (s : Segment) (ms : List Vector) (j : ℕ) → j ≤ meets s ms → j < length ms → turn s.a s.b (get_or ms j nowhere) <ℤ pos 0 → suc j ≤ meets s ms
meets_more s [] j le within low = absurd (omega arith)
meets_more s (m ∷ ms) zero le within low = by (int_lt (turn s.a s.b m) (pos 0)) refl
  where
    by : (t : Bool) → int_lt (turn s.a s.b m) (pos 0) ≡ t → 1 ≤ cond t (suc (meets s ms)) 0
    by true p = omega arith
    by false p = absurd (omega (arith, ints, p, low))
meets_more s (m ∷ ms) (suc j) le within low = by (int_lt (turn s.a s.b m) (pos 0)) le (λ l. meets_more s ms j l (omega arith) low)
  where
    by : (t : Bool) → suc j ≤ cond t (suc (meets s ms)) 0 → (j ≤ meets s ms → suc j ≤ meets s ms) → suc (suc j) ≤ cond t (suc (meets s ms)) 0
    by true l on = omega (arith, on (omega arith))
    by false l on = absurd (omega arith)

-- the first that is not
pub meets_stop : (s : Segment) (ms : List Vector) (j : ℕ) → j ≤ meets s ms → j < length ms → ¬ (turn s.a s.b (get_or ms j nowhere) <ℤ pos 0) → j ≡ meets s ms
meets_stop s [] j le within off = absurd (omega arith)
meets_stop s (m ∷ ms) zero le within off = by (int_lt (turn s.a s.b m) (pos 0)) refl
  where
    by : (t : Bool) → int_lt (turn s.a s.b m) (pos 0) ≡ t → 0 ≡ cond t (suc (meets s ms)) 0
    by true p = absurd (off (omega (arith, ints, p)))
    by false p = refl
meets_stop s (m ∷ ms) (suc j) le within off = by (int_lt (turn s.a s.b m) (pos 0)) le (λ l. meets_stop s ms j l (omega arith) off)
  where
    by : (t : Bool) → suc j ≤ cond t (suc (meets s ms)) 0 → (j ≤ meets s ms → j ≡ meets s ms) → suc j ≡ cond t (suc (meets s ms)) 0
    by true l on = ap suc (on (omega arith))
    by false l on = absurd (omega arith)

-- ---- of the heights of a line
module _ (s : Segment) (l : Fraction) (ms : List Fraction) (j : ℕ) (le : j ≤ meets s (marks_seen l ms)) where
  module _ (m : Fraction) (within : j < length ms) (is : m ≡ get_or ms j m) where
    mark_at : point_at l m ≡ get_or (marks_seen l ms) j nowhere
    mark_at = ap (point_at l) is ∙ sym (get_or-map (point_at l) ms j m nowhere within)

    pub one_below : turn s.a s.b (point_at l m) <ℤ pos 0 → j + 1 ≤ meets s (marks_seen l ms)
    one_below low = omega (arith, meets_more s (marks_seen l ms) j le (omega (arith, within, length-map ms (point_at l))) (subst (λ z. turn s.a s.b z <ℤ pos 0) mark_at low))

    pub not_below : ¬ (turn s.a s.b (point_at l m) <ℤ pos 0) → j ≡ meets s (marks_seen l ms)
    not_below off = meets_stop s (marks_seen l ms) j le (omega (arith, within, length-map ms (point_at l))) (λ low. off (subst (λ z. turn s.a s.b z <ℤ pos 0) (sym mark_at) low))

  pub all_below : length ms ≤ j → length ms ≡ meets s (marks_seen l ms)
  all_below past = omega (arith, past, meets_within s (marks_seen l ms), length-map ms (point_at l))

-- ---- of the spans of a slab
abbrev pub IsNumberAt : List Segment → List Vector → ℕ → ℕ → Type 0
IsNumberAt ss ms i n = n ≡ meets (get_or ss i nothing) ms

pub strand_at : (spans : List Strand) (i : ℕ) (d : Strand) → i < length spans → strand_seen (get_or spans i d) ≡ get_or (map strand_seen spans) i nothing
strand_at spans i d within = sym (get_or-map strand_seen spans i d nothing within)

pub are_meets : (ss : List Segment) (ms : List Vector) (i : ℕ) (ns : List ℕ) → i ≡ length ss → HasEach (IsNumberAt ss ms) i ns → AreMeets ss ms ns
are_meets ss ms i ns e h = record { count = h.count ∙ e; each = λ j d within. h.each j d (omega (arith, e, within)) }
