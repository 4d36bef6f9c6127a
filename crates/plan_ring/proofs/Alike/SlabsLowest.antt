-- Slabs do not depend on the triples of their lines: each line has a point in lowest terms, and by these the slabs are slabs too.
use Rattle.std.proofs.Common.{◌≡◌, ◌⊎◌, inl, inr, ⊎_elim, ℕ, suc, ◌*◌, ◌/◌, ◌<◌, ℤ, pos, ◌*ℤ◌, ◌≤ℤ◌, ◌<ℤ◌, neg_ℤ, unsigned_abs, List, [], ◌∷◌, length, get_or, All, Any, refl, sym, ap, ◌∙◌, subst, arith}
use Rattle.std.specs.Int.{IsGcd, ◌∣◌}
use Rattle.std.specs.List.{AllZip}
use Rattle.std.proofs.lemmas.Int.{ints}
use Rattle.std.proofs.lemmas.Nat.Gcd.{mod-eq-zero_of_dvd}
use Rattle.std.proofs.Math.Nat.{div-add-mod', mul-dvd-mul_left, dvd_of_mul-dvd-mul_left, eq-one_of_dvd-one}
use Rattle.std.proofs.lemmas.List.{get_or_default}
use Rattle.std.proofs.lemmas.List.Elements.{All-nil, All-cons, All-head, All-tail, length_all_zip}
use Rattle.plan_exact.specs.Expr.{var, ◌⊗◌}
use Rattle.plan_exact.proofs.Laws.{linear, mul_comm}
use Rattle.plan_exact.proofs.Ring.{ring}
use Rattle.plan_exact.proofs.Signs.{le_or_lt, mul_neg, pos_of_mul}
use Rattle.plan_spec.specs.Vector.{Vector, IsPoint, SameX}
use Rattle.plan_spec.specs.Segment.{Segment, HasPoints}
use Rattle.plan_spec.specs.Frame.{Frame}
use Rattle.plan_spec.specs.Maps.{IsLowestLine}
use Rattle.plan_spec.specs.Pieces.{Piece, piece}
use Rattle.plan_spec.specs.Slabs.{nowhere, piece_at, Reaches, AreLines, AreSpans, AreMarks, Slabs, AreSlabs, line_at, spans_of, marks_of}
use Rattle.plan_grid.proofs.Lowest.{divisor_is_positive}
use Rattle.plan_grid.proofs.Unique.{gcd_exists}
use Rattle.plan_plane.proofs.Lists.{any_with}
use Rattle.plan_plane.proofs.Rising.ByCoordinate.{order_x, before_alike, after_alike}
use Rattle.plan_slab.proofs.ByNumber.{at_number}
use Rattle.plan_slab.proofs.Pieces.{HasPieces}
use Rattle.plan_ring.proofs.Alike.SlabsLists.{zip_at}
use Rattle.plan_ring.proofs.Alike.SlabsGround.{less_alike}

-- ---- a point in lowest terms
-- x and w over their greatest common divisor
record IsReduced (x w y v : ℤ) : Type 0 where
  positive : pos 0 <ℤ v
  level : x *ℤ v ≡ y *ℤ w
  lowest : (d : ℕ) → d ∣ unsigned_abs y → d ∣ unsigned_abs v → d ≡ 1

-- x over g, where g divides it
over : (x : ℤ) (g a : ℕ) → a * g ≡ unsigned_abs x → (y : ℤ) × (x ≡ y *ℤ pos g) × (unsigned_abs y ≡ a)
over x g a e = by (le_or_lt (pos 0) x)
  where
    back : a * g ≡ unsigned_abs x → g * a ≡ unsigned_abs x
    back e = omega (arith, e)

    by : (pos 0 ≤ℤ x) ⊎ (x <ℤ pos 0) → (y : ℤ) × (x ≡ y *ℤ pos g) × (unsigned_abs y ≡ a)
    by (inl h) = let f : x ≡ pos (unsigned_abs x) = omega (arith, ints) in (pos a, f ∙ ap pos (sym e), refl)
    by (inr h) = let f : x ≡ neg_ℤ (pos (unsigned_abs x)) = omega (arith, ints) in (neg_ℤ (pos a), f ∙ ap (λ k. neg_ℤ (pos k)) (sym (back e)) ∙ sym (mul_neg (pos g) (pos a)) ∙ mul_comm (pos g) (neg_ℤ (pos a)), omega (arith, ints))

-- two multiples by one number
level_from : (x w y v m : ℤ) → x ≡ y *ℤ m → w ≡ v *ℤ m → x *ℤ v ≡ y *ℤ w
level_from x w y v m e f = ap (λ x. x *ℤ v) e ∙ ring (y ∷ m ∷ v ∷ []) ((var 0 ⊗ var 1) ⊗ var 2) (var 0 ⊗ (var 2 ⊗ var 1)) tt ∙ sym (ap (λ w. y *ℤ w) f)

positive_from : (w v : ℤ) (g : ℕ) → pos 0 <ℤ w → 0 < g → w ≡ v *ℤ pos g → pos 0 <ℤ v
positive_from w v g hw hg e = let h : pos 0 <ℤ pos g = omega (arith, ints) in pos_of_mul h (omega (arith, linear, mul_comm (pos g) v, e, hw))

reduced : (x w : ℤ) → pos 0 <ℤ w → (y : ℤ) × (v : ℤ) × IsReduced x w y v
reduced x w hw = by (gcd_exists (unsigned_abs w) (unsigned_abs x) (unsigned_abs w) (omega arith))
  where
    by : (g : ℕ) × IsGcd (unsigned_abs x) (unsigned_abs w) g → (y : ℤ) × (v : ℤ) × IsReduced x w y v
    by (g, (gx, gw, greatest)) =
        let n = unsigned_abs x in
        let m = unsigned_abs w in
        let a = n / g in
        let b = m / g in
        let hm : 0 < m = omega (arith, ints) in
        let hg = divisor_is_positive g m hm gw in
        let na : a * g ≡ n = omega (arith, div-add-mod' n g, mod-eq-zero_of_dvd g gx) in
        let mb : b * g ≡ m = omega (arith, div-add-mod' m g, mod-eq-zero_of_dvd g gw) in
        let (y, yx, ya) = over x g a na in
        let (v, vw, vb) = over w g b mb in (
          y,
          v,
          record {
            positive = positive_from w v g hw hg vw;
            level = level_from x w y v (pos g) yx vw;
            lowest = λ d dy dv.
                let one : g ≡ g * 1 = omega arith in
                let in_n : g * d ∣ n = subst (λ k. g * d ∣ k) (omega (arith, na)) (mul-dvd-mul_left d g (subst (λ k. d ∣ k) ya dy)) in
                let in_m : g * d ∣ m = subst (λ k. g * d ∣ k) (omega (arith, mb)) (mul-dvd-mul_left d g (subst (λ k. d ∣ k) vb dv)) in
                eq-one_of_dvd-one (dvd_of_mul-dvd-mul_left d hg (subst (λ k. g * d ∣ k) one (greatest (g * d) in_n in_m)));
          },
        )

pub record LowestLine (l : Vector) : Type 0 where
  pub line : Vector
  pub point : IsPoint line
  pub lowest : IsLowestLine line
  pub same : SameX l line

lowest_line : (l : Vector) → IsPoint l → LowestLine l
lowest_line l hl =
    let (y, v, r) = reduced l.x l.w hl in
    record { line = record { x = y; y = pos 0; w = v }; point = r.positive; lowest = record { on_axis = refl; lowest = r.lowest }; same = r.level }

-- the lines by these points
record AreLowest (ls ns : List Vector) : Type 0 where
  points : All IsPoint ns
  lowest : All IsLowestLine ns
  same : AllZip SameX ls ns

lowest_lines : (ls : List Vector) → All IsPoint ls → (ns : List Vector) × AreLowest ls ns
lowest_lines [] h = ([], record { points = All-nil IsPoint; lowest = All-nil IsLowestLine; same = tt })
lowest_lines (l ∷ ls) h =
    let n = lowest_line l (All-head IsPoint l ls h) in
    let (ns, r) = lowest_lines ls (All-tail IsPoint l ls h) in
    (n.line ∷ ns, record { points = All-cons IsPoint n.line ns n.point r.points; lowest = All-cons IsLowestLine n.line ns n.lowest r.lowest; same = (n.same, r.same) })

-- ---- rows by other points of their lines
module _ (sums : List (List Vector)) (room : Frame) (pieces : List Piece) (points : All (λ p. HasPoints p.part) pieces) where
  part_at : (n : ℕ) → n < length pieces → HasPoints (piece_at pieces n).part
  part_at n within = points n (piece 0 _) within

  reach : (l r m n : Vector) → IsPoint l → IsPoint r → IsPoint m → IsPoint n → SameX l m → SameX r n → (p : Piece) → HasPoints p.part → Reaches l r p → Reaches m n p
  reach l r m n hl hr hm hn e f p hp h = (after_alike l m p.part.a hl hm hp.0 e h.0, before_alike r n p.part.b hr hn hp.1 f h.1)

  spans_too : (l r m n : Vector) (ss : List Segment) → IsPoint l → IsPoint r → IsPoint m → IsPoint n → SameX l m → SameX r n → AreSpans sums room pieces l r ss → AreSpans sums room pieces m n ss
  spans_too l r m n ss hl hr hm hn e f are = record {
    order = λ i j d less within z hz (h, k) above. are.order i j d less within z hz (less_alike m z l z hm hz hl hz (sym e) refl h, less_alike z n z r hz hn hz hr refl (sym f) k) above;
    each = λ k d within. let s = are.each k d within in record {
      number = s.number;
      within = s.within;
      reaches = reach l r m n hl hr hm hn e f (piece_at pieces s.number) (part_at s.number s.within) s.reaches;
      is = s.is;
      first = λ j less h. s.first j less (reach m n l r hm hn hl hr (sym e) (sym f) (piece_at pieces j) (part_at j (omega (arith, less, s.within))) h);
    };
    all = λ k d within h. are.all k d within (reach m n l r hm hn hl hr (sym e) (sym f) (get_or pieces k d) (points k d within) h);
  }

  marks_too : (l m : Vector) (ms : List Vector) → IsPoint l → IsPoint m → SameX l m → AreMarks pieces l ms → AreMarks pieces m ms
  marks_too l m ms hl hm e are = record {
    points = are.points;
    on_line = λ k d within. order_x.trans m l (get_or ms k d) hm hl (are.points k d within) (sym e) (are.on_line k d within);
    rising = are.rising;
    exact = λ z hz f. are.exact z hz (order_x.trans l m z hl hm hz e f);
  }

  module _ (ls ns : List Vector) (are : AreLines pieces ls) (r : AreLowest ls ns) where
    long : length ls ≡ length ns
    long = length_all_zip SameX ls ns r.same

    level : (k : ℕ) (d : Vector) → SameX (get_or ls k d) (get_or ns k d)
    level k d = zip_at SameX ls ns d d refl r.same k

    lines_too : AreLines pieces ns
    lines_too = record {
      points = r.points;
      rising = λ i j d less within.
          let hj : j < length ls = omega (arith, within, long) in
          let hi : i < length ls = omega (arith, less, within, long) in
          less_alike (get_or ls i d) (get_or ls j d) (get_or ns i d) (get_or ns j d) (are.points i d hi) (are.points j d hj) (r.points i d (omega (arith, less, within))) (r.points j d within) (level i d) (level j d) (are.rising i j d less hj);
      each = λ k d within.
          let hk : k < length ls = omega (arith, within, long) in
          let l = get_or ls k d in
          let n = get_or ns k d in
          let to : (z : Vector) → IsPoint z → SameX l z → SameX n z = λ z hz e. order_x.trans n l z (r.points k d within) (are.points k d hk) hz (sym (level k d)) e in
          any_with (λ p. HasPoints p.part) (λ p. SameX l p.part.a ⊎ SameX l p.part.b) (λ p. SameX n p.part.a ⊎ SameX n p.part.b) (λ p hp h. ⊎_elim (λ e. inl (to p.part.a hp.0 e)) (λ e. inr (to p.part.b hp.1 e)) h) pieces points (are.each k d hk);
      all = λ k d within. let p = get_or pieces k d in let hp = points k d within in let h = are.all k d within in (there p.part.a hp.0 h.0, there p.part.b hp.1 h.1);
    }
      where
        there : (z : Vector) → IsPoint z → Any (SameX z) ls → Any (SameX z) ns
        there z hz some =
            let (k, within, e) = at_number (SameX z) ls nowhere some in
            let hk : k < length ns = omega (arith, within, long) in
            (k, get_or ns k nowhere, hk, get_or_default ns k (get_or ns k nowhere) nowhere hk, order_x.trans z (get_or ls k nowhere) (get_or ns k nowhere) hz (are.points k nowhere within) (r.points k nowhere hk) e (level k nowhere))

-- ---- all of them
pub lowest_slabs : {sums : List (List Vector)} {room : Frame} {pieces : List Piece} → HasPieces sums room pieces → (σ : Slabs) → AreSlabs sums room pieces σ → (τ : Slabs) × (All IsLowestLine τ.lines × AreSlabs sums room pieces τ)
lowest_slabs {sums} {room} {pieces} known σ are = by (lowest_lines σ.lines are.lines.points)
  where
    points : All (λ p. HasPoints p.part) pieces
    points k d within = (known.each k d within).part.points

    by : (ns : List Vector) × AreLowest σ.lines ns → (τ : Slabs) × (All IsLowestLine τ.lines × AreSlabs sums room pieces τ)
    by (ns, r) =
        let count = length_all_zip SameX σ.lines ns r.same in
        let at : (k : ℕ) → SameX (line_at σ k) (get_or ns k nowhere) = λ k. zip_at SameX σ.lines ns nowhere nowhere refl r.same k in (
          record { lines = ns; spans = σ.spans; marks = σ.marks },
          (
            r.lowest,
            record {
              lines = lines_too sums room pieces points σ.lines ns are.lines r;
              slab_count = omega (arith, are.slab_count, count);
              spans = λ k within.
                  let below : suc k < length σ.lines = omega (arith, within, are.slab_count) in
                  spans_too sums room pieces points (line_at σ k) (line_at σ (suc k)) (get_or ns k nowhere) (get_or ns (suc k) nowhere) (spans_of σ k) (are.lines.points k nowhere (omega arith)) (are.lines.points (suc k) nowhere below) (r.points k nowhere (omega (arith, count, below))) (r.points (suc k) nowhere (omega (arith, count, below))) (at k) (at (suc k)) (are.spans k within);
              line_count = omega (arith, are.line_count, count);
              marks = λ k within.
                  let below : k < length σ.lines = omega (arith, within, are.line_count) in
                  marks_too sums room pieces points (line_at σ k) (get_or ns k nowhere) (marks_of σ k) (are.lines.points k nowhere below) (r.points k nowhere (omega (arith, count, below))) (at k) (are.marks k within);
            },
          ),
        )
