-- Event lines as the definitions see them: each two neighbours are a slab, and each line has a mark.
use Rattle.std.proofs.Common.{◌≡◌, ◌⊎◌, inl, inr, ℕ, ◌+◌, ◌<◌, ◌≤◌, refl, sym, subst, List, get_or, length, map, All, Any, arith}
use Rattle.std.proofs.lemmas.List.Elements.{All-map}
use Rattle.plan_spec.specs.Vector.{Vector, IsPoint, LtX, SameX}
use Rattle.plan_spec.specs.Pieces.{Piece}
use Rattle.plan_spec.specs.Segment.{HasPoints}
use Rattle.plan_spec.specs.Slabs.{AreLines, AreMarks, IsMark}
use Rattle.plan_plane.proofs.Lists.{any_weaker, any_to_map, all_pairs_map}
use Rattle.plan_grid.specs.Fraction.{Fraction}
use Rattle.plan_slab.specs.EventLines.{IsXOf, IsLine, AreEventLines}
use Rattle.plan_slab.specs.Seen.{line_seen}
use Rattle.plan_slab.proofs.Order.Across.{IsSlab}
use Rattle.plan_slab.proofs.SlabsSeen.{element_at}
use Rattle.plan_slab.proofs.XValues.{line_point}

pub lines_seen : (pieces : List Piece) (ls : List Fraction) → AreEventLines pieces ls → AreLines pieces (map line_seen ls)
lines_seen pieces ls h = record {
  points = All-map IsPoint line_seen ls (λ k d within. line_point (get_or ls k d) (h.lines k d within).ratio);
  rising = all_pairs_map LtX line_seen ls (λ i j d less within. h.rising i j d less within);
  each = All-map (λ l. Any (λ p. SameX l p.part.a ⊎ SameX l p.part.b) pieces) line_seen ls (λ k d within. h.each k d within);
  all = λ k d within. let p = get_or pieces k d in let a = h.all k d within in (found p.part.a a.0, found p.part.b a.1);
}
  where
    found : (z : Vector) → Any (IsXOf z) ls → Any (SameX z) (map line_seen ls)
    found z some = any_to_map (SameX z) line_seen ls (any_weaker (IsXOf z) (λ l. SameX z (line_seen l)) (λ l e. sym e) ls some)

-- ---- a line by its number
pub is_line : (pieces : List Piece) (ls : List Fraction) → AreEventLines pieces ls → (k : ℕ) (l : Fraction) → k < length ls → l ≡ get_or ls k l → IsLine l
is_line pieces ls h k l within is = subst IsLine (sym is) (h.lines k l within)

pub is_slab : (pieces : List Piece) (ls : List Fraction) → AreEventLines pieces ls → (k : ℕ) (l r : Fraction) → k + 1 < length ls → l ≡ get_or ls k l → r ≡ get_or ls (k + 1) r → IsSlab (line_seen l) (line_seen r)
is_slab pieces ls h k l r within is_l is_r = record {
  left_point = line_point l (is_line pieces ls h k l (omega (arith, within)) is_l).ratio;
  right_point = line_point r (is_line pieces ls h (k + 1) r within is_r).ratio;
  wide = subst (λ x. LtX (line_seen x) (line_seen r)) (sym (element_at ls k l r (omega (arith, within)) is_l)) (subst (λ y. LtX (line_seen (get_or ls k r)) (line_seen y)) (sym is_r) (h.rising k (k + 1) r (omega arith) within));
}

-- ---- an end on a line is a mark of it
pub some_mark : (pieces : List Piece) (l : Vector) (ms : List Vector) → All (λ p. HasPoints p.part) pieces → Any (λ p. SameX l p.part.a ⊎ SameX l p.part.b) pieces → AreMarks pieces l ms → 1 ≤ length ms
some_mark pieces l ms points (k, p, within, is, e) are = by e
  where
    hp : HasPoints p.part
    hp = subst (λ p. HasPoints p.part) is (points k p within)

    one : (z : Vector) → IsPoint z → SameX l z → IsMark z p → 1 ≤ length ms
    one z hz on mark = let (j, m, below, at, same) = (are.exact z hz on).0 (k, p, within, is, mark) in omega (arith, below)

    by : SameX l p.part.a ⊎ SameX l p.part.b → 1 ≤ length ms
    by (inl e) = one p.part.a hp.0 e (inl (refl, refl))
    by (inr e) = one p.part.b hp.1 e (inr (inl (refl, refl)))
