-- The free lots of a row, one after another, and those of a slab and of the line on its right.
use Rattle.std.proofs.Common.{◌≡◌, ◌↔◌, pos, ◌-ℤ◌, ◌*ℤ◌, ℕ, suc, ◌+◌, ◌-◌, ◌<◌, List, [], ◌∷◌, ◌++◌, map, length, get_or, All, refl, sym, ap, ap₂, ◌∙◌, subst, arith}
use Rattle.std.specs.List.{range_with_len}
use Rattle.std.proofs.lemmas.List.{get_or-map, map-append}
use Rattle.std.proofs.lemmas.List.Elements.{All-head, All-tail, All-map}
use Rattle.std.proofs.lemmas.List.FromFn.{map-range_with_len_more}
use Rattle.plan_spec.specs.Vector.{Vector, IsPoint, SameX, Same}
use Rattle.plan_spec.specs.Segment.{Segment}
use Rattle.plan_spec.specs.Frame.{Frame}
use Rattle.plan_spec.specs.Boundary.{IsClearOf}
use Rattle.plan_spec.specs.Slabs.{nowhere, nothing, Slabs, line_at, spans_of, marks_of}
use Rattle.plan_spec.specs.Regions as spec
use Rattle.plan_spec.specs.Regions.{Kept, none, keep, drop, cell, wall, mediant, spot_of, cells, walls, foot, halfway}
use Rattle.plan_slab.specs.declared.lot.Lot.{Lot}
use Rattle.plan_slab.specs.declared.strand.Strand.{Strand}
use Rattle.plan_slab.specs.Seen.{lot_seen, line_seen, strand_seen, marks_seen}
use Rattle.plan_slab.specs.FreeLots.{IsFreeCell, IsFreeWall, AreFreeOf}
use Rattle.plan_slab.proofs.Regions.Kept.{kept_append, kept_more}
use Rattle.plan_exact.specs.Expr.{var, con, ◌⊕◌, ◌⊖◌, ◌⊗◌}
use Rattle.plan_exact.specs.Vectors.{env}
use Rattle.plan_exact.specs.Formal.{A, B, C}
use Rattle.plan_exact.proofs.Certificates.{eq_from}
use Rattle.plan_exact.proofs.Laws.{linear}
use Rattle.plan_exact.proofs.Ring.{ring}
use Rattle.plan_exact.proofs.Signs.{signs, zeros, mul_pos}
use Rattle.plan_plane.proofs.Boundary.Blocks.{HasSpots}
use Rattle.plan_plane.proofs.Boundary.Position.{clear_same}
use Rattle.plan_plane.proofs.Rising.ByCoordinate.{order_x}
use Rattle.plan_grid.specs.declared.frame.Frame as grid
use Rattle.plan_grid.specs.Fraction.{Fraction, point_at}
use Rattle.plan_grid.specs.Frame.{frame_seen}
use Rattle.plan_slab.specs.EventLines.{IsLine}
use Rattle.plan_slab.specs.Heights.{IsHeight}
use Rattle.plan_slab.proofs.Regions.Spots.{halfway_point}

-- ---- one after another
module _ (P : spec.Lot → Type 0) (f : ℕ → spec.Lot) (n : ℕ) (found : List Lot) (so_far : Kept P (map f (range_with_len 0 n)) (map lot_seen found)) where
  pub one_more : (lot : Lot) → lot_seen lot ≡ f n → P (f n) → Kept P (map f (range_with_len 0 (n + 1))) (map lot_seen (found ++ lot ∷ []))
  one_more lot e p =
      subst (λ xs. Kept P xs (map lot_seen (found ++ lot ∷ []))) (sym (map-range_with_len_more f 0 n n (omega arith)))
      (subst (Kept P (map f (range_with_len 0 n) ++ f n ∷ [])) (sym (map-append lot_seen found (lot ∷ []))) (subst (λ a. Kept P (map f (range_with_len 0 n) ++ f n ∷ []) (map lot_seen found ++ a ∷ [])) (sym e) (kept_more (f n) so_far p)))

  pub one_less : ¬ (P (f n)) → Kept P (map f (range_with_len 0 (n + 1))) (map lot_seen found)
  one_less off =
      subst (λ xs. Kept P xs (map lot_seen found)) (sym (map-range_with_len_more f 0 n n (omega arith))) (kept_drop so_far)
    where
      kept_drop : {xs ys : List spec.Lot} → Kept P xs ys → Kept P (xs ++ f n ∷ []) ys
      kept_drop none = drop (f n) [] [] off none
      kept_drop (keep a xs ys p rest) = keep a (xs ++ f n ∷ []) ys p (kept_drop rest)
      kept_drop (drop a xs ys away rest) = drop a (xs ++ f n ∷ []) ys away (kept_drop rest)

-- ---- two tests that agree
kept_alike : {X : Type 0} {P : X → Type 0} (Q : X → Type 0) {xs ys : List X} → All (λ x. P x ↔ Q x) xs → Kept P xs ys → Kept Q xs ys
kept_alike Q h none = none
kept_alike {P = P} Q h (keep a xs ys p rest) = keep a xs ys ((All-head (λ x. P x ↔ Q x) a xs h).0 p) (kept_alike Q (All-tail (λ x. P x ↔ Q x) a xs h) rest)
kept_alike {P = P} Q h (drop a xs ys off rest) = drop a xs ys (λ q. off ((All-head (λ x. P x ↔ Q x) a xs h).1 q)) (kept_alike Q (All-tail (λ x. P x ↔ Q x) a xs h) rest)

row_alike : {P : spec.Lot → Type 0} (Q : spec.Lot → Type 0) (f : ℕ → spec.Lot) (n : ℕ) {ys : List spec.Lot} → ((i : ℕ) → P (f i) ↔ Q (f i)) → Kept P (map f (range_with_len 0 n)) ys → Kept Q (map f (range_with_len 0 n)) ys
row_alike {P} Q f n h k = kept_alike Q (All-map (λ x. P x ↔ Q x) f (range_with_len 0 n) (λ i d within. h (get_or (range_with_len 0 n) i d))) k

-- ---- of a slab
module _ (sums : List (List Vector)) (room : Frame) (σ : Slabs) (k : ℕ) where
  abbrev IsFree : spec.Lot → Type 0
  IsFree lot = IsClearOf sums room (spot_of σ lot)

  of_cells : {ys : List spec.Lot} → Kept (IsFreeCell sums room (mediant (line_at σ k) (line_at σ (suc k))) (spans_of σ k)) (cells σ k) ys → Kept IsFree (cells σ k) ys
  of_cells h = row_alike IsFree (cell k) (length (spans_of σ k) - 1) (λ i. (λ p. p, λ p. p)) h

  of_walls : {ys : List spec.Lot} → Kept (IsFreeWall sums room (marks_of σ (suc k))) (walls σ (suc k)) ys → Kept IsFree (walls σ (suc k)) ys
  of_walls h = row_alike IsFree (wall (suc k)) (length (marks_of σ (suc k)) - 1) (λ i. (λ p. p, λ p. p)) h

  pub slab_of : (x : Vector) (ss : List Segment) (ms : List Vector) (found more : List Lot) → x ≡ mediant (line_at σ k) (line_at σ (suc k)) → ss ≡ spans_of σ k → ms ≡ marks_of σ (suc k)
      → Kept (IsFreeCell sums room x ss) (map (cell k) (range_with_len 0 (length ss - 1))) (map lot_seen found) → Kept (IsFreeWall sums room ms) (map (wall (suc k)) (range_with_len 0 (length ms - 1))) (map lot_seen more)
      → AreFreeOf sums room σ k (map lot_seen (found ++ more))
  slab_of x ss ms found more ex es em a b =
      subst (Kept IsFree (cells σ k ++ walls σ (suc k))) (sym (map-append lot_seen found more))
      (kept_append (of_cells (subst (λ y. Kept (IsFreeCell sums room y (spans_of σ k)) (cells σ k) (map lot_seen found)) ex (subst (λ t. Kept (IsFreeCell sums room x t) (map (cell k) (range_with_len 0 (length t - 1))) (map lot_seen found)) es a)))
      (of_walls (subst (λ t. Kept (IsFreeWall sums room t) (map (wall (suc k)) (range_with_len 0 (length t - 1))) (map lot_seen more)) em b)))

-- ---- their points
pub halfway_same_x : (l u v : Vector) → SameX l u → SameX l v → SameX l (halfway u v)
halfway_same_x l u v e f =
    let e0 : l.x *ℤ u.w -ℤ u.x *ℤ l.w ≡ pos 0 = omega (arith, linear, e) in
    let f0 : l.x *ℤ v.w -ℤ v.x *ℤ l.w ≡ pos 0 = omega (arith, linear, f) in
    eq_from (env [] (l ∷ u ∷ v ∷ [])) (con (pos 1)) (C.w ⊗ (A.x ⊗ B.w ⊖ B.x ⊗ A.w) ⊕ B.w ⊗ (A.x ⊗ C.w ⊖ C.x ⊗ A.w)) (A.x ⊗ (con (pos 2) ⊗ (B.w ⊗ C.w))) ((B.x ⊗ C.w ⊕ C.x ⊗ B.w) ⊗ A.w) tt (search signs) (search zeros)

pub mark_same_x : (l m : Fraction) → SameX (line_seen l) (point_at l m)
mark_same_x l m = ring (l.num ∷ l.den ∷ m.den ∷ []) (var 0 ⊗ (var 1 ⊗ var 2)) ((var 0 ⊗ var 2) ⊗ var 1) tt

module _ (l m n : Fraction) (z : Vector) (hl : IsLine l) (hm : IsHeight m) (hn : IsHeight n) (hz : IsPoint z) (same : Same z (halfway (point_at l m) (point_at l n))) where
  point : (h : Fraction) → IsHeight h → IsPoint (point_at l h)
  point h hh = mul_pos {a = l.den} {b = h.den} (omega (arith, linear, hl.ratio.positive)) (omega (arith, linear, hh.ratio.positive))

  half : IsPoint (halfway (point_at l m) (point_at l n))
  half = halfway_point (point_at l m) (point_at l n) (point m hm) (point n hn)

  pub wall_same_x : SameX (line_seen l) z
  wall_same_x = let hl : IsPoint (line_seen l) = omega (arith, linear, hl.ratio.positive) in order_x.trans (line_seen l) (halfway (point_at l m) (point_at l n)) z hl half hz (halfway_same_x (line_seen l) (point_at l m) (point_at l n) (mark_same_x l m) (mark_same_x l n)) (sym same.0)

  pub wall_clear : (sums : List (List Vector)) (room : grid.Frame) → IsClearOf sums (frame_seen room) z ↔ IsClearOf sums (frame_seen room) (halfway (point_at l m) (point_at l n))
  wall_clear sums room = (
    clear_same sums (frame_seen room) z (halfway (point_at l m) (point_at l n)) spots hz half same,
    clear_same sums (frame_seen room) (halfway (point_at l m) (point_at l n)) z spots half hz (sym same.0, sym same.1),
  )
    where
      spots : HasSpots (frame_seen room)
      spots = record { low = refl; high = refl }

-- ---- by number
pub cell_point_at : (spans : List Strand) (x : Vector) (i : ℕ) (d e : Strand) (z : Vector) → i + 1 < length spans → z ≡ halfway (foot (strand_seen (get_or spans i d)) x) (foot (strand_seen (get_or spans (i + 1) e)) x)
    → z ≡ halfway (foot (get_or (map strand_seen spans) i nothing) x) (foot (get_or (map strand_seen spans) (suc i) nothing) x)
cell_point_at spans x i d e z within h = h ∙ ap₂ (λ s t. halfway (foot s x) (foot t x)) (sym (get_or-map strand_seen spans i d nothing (omega arith))) (sym (get_or-map strand_seen spans (i + 1) e nothing within) ∙ (let f : i + 1 ≡ suc i = omega arith in ap (λ j. get_or (map strand_seen spans) j nothing) f))

pub wall_point_at : (l : Fraction) (marks : List Fraction) (i : ℕ) (a b : Fraction) → i + 1 < length marks → a ≡ get_or marks i a → b ≡ get_or marks (i + 1) b → halfway (point_at l a) (point_at l b) ≡ halfway (get_or (marks_seen l marks) i nowhere) (get_or (marks_seen l marks) (suc i) nowhere)
wall_point_at l marks i a b within ea eb =
    ap₂ halfway (ap (point_at l) ea ∙ sym (get_or-map (point_at l) marks i a nowhere (omega arith)))
    (ap (point_at l) eb ∙ sym (get_or-map (point_at l) marks (i + 1) b nowhere within) ∙ (let f : i + 1 ≡ suc i = omega arith in ap (λ j. get_or (map (point_at l) marks) j nowhere) f))
