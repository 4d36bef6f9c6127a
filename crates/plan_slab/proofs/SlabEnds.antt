-- The ends of the spans of a slab: of each the number on the left, paired with that on the right.
use Rattle.std.proofs.Common.{◌≡◌, ℕ, suc, ◌+◌, ◌<◌, List, [], length, map, get_or, All, sym, ap, ap₂, ◌∙◌, subst, arith}
use Rattle.std.proofs.lemmas.List.{get_or_default}
use Rattle.plan_spec.specs.Vector.{Vector}
use Rattle.plan_spec.specs.Slabs.{Slabs, spans_of, marks_of}
use Rattle.plan_grid.specs.Fraction.{Fraction}
use Rattle.plan_slab.specs.declared.strand.Strand.{Strand}
use Rattle.plan_slab.specs.Decomposition.{AreInOrder}
use Rattle.plan_slab.specs.Ends.{IsSpotted, MeetInOrder, AreMeets, ArePairs, AreEndsOf, AreEnds}
use Rattle.plan_slab.specs.FreeLots.{AreRows}
use Rattle.plan_slab.specs.Seen.{marks_seen, strand_seen}
use Rattle.plan_slab.specs.SlabsSeen.{slabs_seen}
use Rattle.plan_slab.proofs.OneByOne.{HasEach}
use Rattle.plan_slab.proofs.SlabsSeen.{spans_seen_at, marks_seen_at}

-- ---- pairs
abbrev pub IsPairAt : List ℕ → List ℕ → ℕ → ℕ × ℕ → Type 0
IsPairAt ls rs i p = (m n : ℕ) → p ≡ (get_or ls i m, get_or rs i n)

pub pair_at : (ls rs : List ℕ) (i d e : ℕ) → i < length ls → i < length rs → IsPairAt ls rs i (get_or ls i d, get_or rs i e)
pair_at ls rs i d e hl hr m n = ap₂ (λ a b. (a, b)) (get_or_default ls i d m hl) (get_or_default rs i e n hr)

pub are_pairs : (ls rs : List ℕ) (i : ℕ) (ps : List (ℕ × ℕ)) → i ≡ length ls → HasEach (IsPairAt ls rs) i ps → ArePairs ls rs ps
are_pairs ls rs i ps e h = record { count = h.count ∙ e; each = λ j m n d within. h.each j d (omega (arith, e, within)) m n }

-- ---- a slab
module _ (lines : List Fraction) (spans : List (List Strand)) (marks : List (List Fraction)) (rows : AreRows lines spans marks) (order : AreInOrder (slabs_seen lines spans marks)) (k : ℕ) (hk : k < length spans) (ss : List Strand) (es : ss ≡ get_or spans k []) where
  abbrev σ : Slabs
  σ = slabs_seen lines spans marks

  pub spotted : All IsSpotted ss
  spotted = subst (All IsSpotted) (sym es) (λ i d within. let over = rows.across k hk i d within in record { a_bounded = over.a_bounded; b_bounded = over.b_bounded })

  spans_are : map strand_seen ss ≡ spans_of (slabs_seen lines spans marks) k
  spans_are = spans_seen_at lines spans marks k ss hk es

  module _ (l : Fraction) (ms : List Fraction) (el : l ≡ get_or lines k l) (em : ms ≡ get_or marks k []) where
    pub left_marks : marks_seen l ms ≡ marks_of (slabs_seen lines spans marks) k
    left_marks = marks_seen_at lines spans marks k l ms (omega (arith, hk, rows.slab_count)) (omega (arith, hk, rows.slab_count, rows.line_count)) el em

    pub left_in_order : MeetInOrder (map strand_seen ss) (marks_seen l ms)
    left_in_order = subst (λ vs. MeetInOrder (map strand_seen ss) vs) (sym left_marks) (subst (λ ts. MeetInOrder ts (marks_of σ k)) (sym spans_are) (λ i within. order.on_left_rises k i within))

  module _ (r : Fraction) (ns : List Fraction) (er : r ≡ get_or lines (k + 1) r) (en : ns ≡ get_or marks (k + 1) []) where
    pub right_marks : marks_seen r ns ≡ marks_of (slabs_seen lines spans marks) (suc k)
    right_marks =
        let next : k + 1 ≡ suc k = omega arith in
        marks_seen_at lines spans marks (k + 1) r ns (omega (arith, hk, rows.slab_count)) (omega (arith, hk, rows.slab_count, rows.line_count)) er en ∙ ap (marks_of σ) next

    pub right_in_order : MeetInOrder (map strand_seen ss) (marks_seen r ns)
    right_in_order = subst (λ vs. MeetInOrder (map strand_seen ss) vs) (sym right_marks) (subst (λ ts. MeetInOrder ts (marks_of σ (suc k))) (sym spans_are) (λ i within. order.on_right_rises k i within))

  pub ends_of_spans : (us vs : List Vector) (ls rs : List ℕ) (ps : List (ℕ × ℕ)) → us ≡ marks_of (slabs_seen lines spans marks) k → vs ≡ marks_of (slabs_seen lines spans marks) (suc k) → AreMeets (map strand_seen ss) us ls → AreMeets (map strand_seen ss) vs rs → ArePairs ls rs ps
      → AreEndsOf (slabs_seen lines spans marks) k ps
  ends_of_spans us vs ls rs ps eu ev hl hr pairs =
      by (subst (λ ts. AreMeets ts (marks_of σ k) ls) spans_are (subst (λ us. AreMeets (map strand_seen ss) us ls) eu hl)) (subst (λ ts. AreMeets ts (marks_of σ (suc k)) rs) spans_are (subst (λ vs. AreMeets (map strand_seen ss) vs rs) ev hr))
    where
      by : AreMeets (spans_of (slabs_seen lines spans marks) k) (marks_of (slabs_seen lines spans marks) k) ls → AreMeets (spans_of (slabs_seen lines spans marks) k) (marks_of (slabs_seen lines spans marks) (suc k)) rs → AreEndsOf (slabs_seen lines spans marks) k ps
      by gl gr = record {
        count = pairs.count ∙ gl.count;
        left = λ i d within. ap (λ (p : ℕ × ℕ). p.0) (pairs.each i 0 0 d (omega (arith, within, gl.count))) ∙ gl.each i 0 within;
        right = λ i d within. ap (λ (p : ℕ × ℕ). p.1) (pairs.each i 0 0 d (omega (arith, within, gl.count))) ∙ gr.each i 0 within;
      }

-- ---- all slabs
pub are_ends : (σ : Slabs) (i : ℕ) (rows : List (List (ℕ × ℕ))) → i ≡ length σ.spans → HasEach (AreEndsOf σ) i rows → AreEnds σ rows
are_ends σ i rows e h = record {
  slab_count = h.count ∙ e;
  span_count = λ k within. (at k within).count;
  left = λ k i d within. (at k within).left i d;
  right = λ k i d within. (at k within).right i d;
}
  where
    at : (k : ℕ) → k < length σ.spans → AreEndsOf σ k (get_or rows k [])
    at k within = h.each k [] (omega (arith, within, e))
