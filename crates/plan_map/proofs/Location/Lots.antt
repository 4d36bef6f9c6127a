-- The lot that holds a point by the rows of its line or its slab, and the region that it is.
use Rattle.std.proofs.Common.{◌≡◌, inl, inr, ℕ, suc, ◌<◌, pos, List, length, Contains, Result, Ok, Err, refl, sym, ap, ◌∙◌, subst, arith}
use Rattle.std.proofs.lemmas.Bool.{cases_lt}
use Rattle.std.proofs.lemmas.List.{get_or_default}
use Rattle.plan_exact.proofs.Laws.{linear}
use Rattle.plan_spec.specs.Vector.{Vector, IsPoint, SameX}
use Rattle.plan_spec.specs.Frame.{Frame}
use Rattle.plan_spec.specs.Boundary.{IsClearOf}
use Rattle.plan_spec.specs.Slabs.{Slabs, InSlab, line_at, spans_of, marks_of}
use Rattle.plan_spec.specs.Regions.{Lot, cell, wall, Holds, region_at, IsIn}
use Rattle.plan_slab.specs.Decomposition.{IsDecomposition, IsPlaced, AreInOrder}
use Rattle.plan_slab.proofs.Regions.Falling.{DropsAt, zero_once}
use Rattle.plan_slab.proofs.Regions.Rows.{right_of, above_mark, above_span}
use Rattle.plan_map.specs.Located.{IsThere, IsInNone, IsHeldBy, IsBetween}
use Rattle.plan_map.proofs.Location.Sinking.{Sinks, falls_sinks, IsCut, IsFound, drop_zero, drop_cut, drop_once}
use Rattle.plan_map.proofs.Location.Rows.{lines_fall, marks_sink, spans_sink}

module _ {σ : Slabs} (placed : IsPlaced σ) (z : Vector) (hz : IsPoint z) where
  lines_sink : Sinks (length σ.lines) (right_of σ.lines z)
  lines_sink = falls_sinks (length σ.lines) (right_of σ.lines z) (lines_fall placed z hz)

  -- ---- on line k
  module _ (k : ℕ) (hk : k < length σ.lines) (e : SameX z (line_at σ k)) where
    on_line : right_of σ.lines z k ≡ pos 0
    on_line = omega (arith, linear)

    drop_at : (j : ℕ) → Holds σ (wall k j) z → suc j < length (marks_of σ k) → DropsAt (length (marks_of σ k)) (above_mark (marks_of σ k) z) j
    drop_at j h within = record { within = within; above = omega (arith, linear, h.above); below = omega (arith, linear, h.below) }

    only_walls : (other : Lot) → IsThere σ other → Holds σ other z → (j : ℕ) × DropsAt (length (marks_of σ k)) (above_mark (marks_of σ k) z) j × (other ≡ wall k j)
    only_walls (wall n j) there h =
        let same : n ≡ k = zero_once n k (lines_fall placed z hz) there.0 hk (omega (arith, linear, h.at)) on_line in
        (j, drop_at j (subst (λ n. Holds σ (wall n j) z) same h) (subst (λ n. suc j < length (marks_of σ n)) same there.1), ap (λ n. wall n j) same)
    only_walls (cell n i) there h =
        absurd (drop_zero (length σ.lines) (right_of σ.lines z) k n lines_sink hk on_line (record { within = there.0; above = omega (arith, linear, h.after); below = omega (arith, linear, h.before) }))

    pub wall_holds : (j : ℕ) → DropsAt (length (marks_of σ k)) (above_mark (marks_of σ k) z) j → IsHeldBy σ z (wall k j)
    wall_holds j d = record {
      there = (hk, d.within);
      holds = record { at = e; above = omega (arith, linear, d.above); below = omega (arith, linear, d.below) };
      no_other = λ other there h. let (i, f, is) = only_walls other there h in is ∙ ap (wall k) (drop_once (length (marks_of σ k)) (above_mark (marks_of σ k) z) i j (marks_sink placed z hz k hk) f d);
    }

    pub no_wall : ((j : ℕ) → ¬ (DropsAt (length (marks_of σ k)) (above_mark (marks_of σ k) z) j)) → IsInNone σ z
    no_wall none' other there h = let (i, f, is) = only_walls other there h in none' i f

  -- ---- in slab k
  module _ (k : ℕ) (hk : suc k < length σ.lines) (inside : InSlab (line_at σ k) (line_at σ (suc k)) z) where
    in_slab : DropsAt (length σ.lines) (right_of σ.lines z) k
    in_slab = record { within = hk; above = omega (arith, linear, inside.0); below = omega (arith, linear, inside.1) }

    only_cells : (other : Lot) → IsThere σ other → Holds σ other z → (i : ℕ) × DropsAt (length (spans_of σ k)) (above_span (spans_of σ k) z) i × (other ≡ cell k i)
    only_cells (wall n j) there h =
        absurd (drop_zero (length σ.lines) (right_of σ.lines z) n k lines_sink there.0 (omega (arith, linear, h.at)) in_slab)
    only_cells (cell n i) there h =
        let same : n ≡ k = drop_once (length σ.lines) (right_of σ.lines z) n k lines_sink (record { within = there.0; above = omega (arith, linear, h.after); below = omega (arith, linear, h.before) }) in_slab in
        let g = subst (λ n. Holds σ (cell n i) z) same h in
        (i, record { within = subst (λ n. suc i < length (spans_of σ n)) same there.1; above = g.above; below = g.below }, ap (λ n. cell n i) same)

    pub cell_holds : AreInOrder σ → (i : ℕ) → DropsAt (length (spans_of σ k)) (above_span (spans_of σ k) z) i → IsHeldBy σ z (cell k i)
    cell_holds order i d = record {
      there = (hk, d.within);
      holds = record { after = inside.0; before = inside.1; above = d.above; below = d.below };
      no_other = λ other there h. let (j, f, is) = only_cells other there h in is ∙ ap (cell k) (drop_once (length (spans_of σ k)) (above_span (spans_of σ k) z) j i (spans_sink placed order k hk z hz inside) f d);
    }

    pub no_cell : ((i : ℕ) → ¬ (DropsAt (length (spans_of σ k)) (above_span (spans_of σ k) z) i)) → IsInNone σ z
    no_cell none' other there h = let (i, f, is) = only_cells other there h in none' i f

  -- ---- by what was found among the lines
  pub slab_found : (found : Result ℕ ℕ) (k : ℕ) → IsFound (length σ.lines) (right_of σ.lines z) found → IsBetween (length σ.lines) found k → InSlab (line_at σ k) (line_at σ (suc k)) z
  slab_found found k is between =
      let cut : IsCut (length σ.lines) (right_of σ.lines z) (suc k) = subst (IsFound (length σ.lines) (right_of σ.lines z)) between.1 is in
      let before = cut.before k (omega arith) in
      let after = cut.from (suc k) (omega arith) between.0 in
      (omega (arith, linear), omega (arith, linear))

  pub outside : (found : Result ℕ ℕ) → ((i : ℕ) → ¬ (found ≡ Ok i)) → IsFound (length σ.lines) (right_of σ.lines z) found → ((k : ℕ) → ¬ (IsBetween (length σ.lines) found k)) → IsInNone σ z
  outside (Ok i) other is between lot there h = absurd (other i refl)
  outside (Err i) other cut between (cell n j) there h =
      between n (there.0, ap Err (drop_cut (length σ.lines) (right_of σ.lines z) i n cut (record { within = there.0; above = omega (arith, linear, h.after); below = omega (arith, linear, h.before) })))
  outside (Err i) other cut between (wall n j) there h = elim (cases_lt n i) [
    | inl lt ↦ absurd (omega (arith, linear, h.at, cut.before n lt))
    | inr le ↦ absurd (omega (arith, linear, h.at, cut.from n le there.0))
  ]

-- ---- regions
module _ {sums : List (List Vector)} {room : Frame} {σ : Slabs} {found : List Lot} (d : IsDecomposition sums room σ found) (z : Vector) (hz : IsPoint z) where
  region_there : (n : ℕ) → n < length found → IsThere σ (region_at found n)
  region_there n hn = by (region_at found n) refl
    where
      by : (lot : Lot) → region_at found n ≡ lot → IsThere σ lot
      by (cell k i) e = d.once.cells n k i hn e
      by (wall k j) e = d.once.walls n k j hn e

  pub not_clear : IsInNone σ z → ¬ (IsClearOf sums room z)
  not_clear edges clear = let (n, is) = d.covers z hz clear in edges (region_at found n) (region_there n is.is_region) is.holds

  pub not_free : (lot : Lot) → IsHeldBy σ z lot → ¬ (Contains found lot) → ¬ (IsClearOf sums room z)
  not_free lot held out clear =
      let (n, is) = d.covers z hz clear in
      out (n, is.is_region, get_or_default found n lot (cell 0 0) is.is_region ∙ held.no_other (region_at found n) (region_there n is.is_region) is.holds)

  pub is_in : (lot : Lot) (n : ℕ) → IsHeldBy σ z lot → n < length found → region_at found n ≡ lot → IsIn σ found z n
  is_in lot n held hn e =
      let h : Holds σ (region_at found n) z = subst (λ x. Holds σ x z) (sym e) held.holds in
      let (m, is) = d.covers z hz (d.clear n z hn hz h) in
      subst (IsIn σ found z) (sym (is.no_other n hn h)) is
