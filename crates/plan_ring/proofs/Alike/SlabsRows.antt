-- Lines, spans and marks of pieces that are alike: as many, and place by place of one position.
use Rattle.std.proofs.Common.{◌≡◌, ◌⊎◌, inl, inr, ℕ, ◌<◌, ◌≤◌, List, length, get_or, All, AllPairs, Any, refl, sym, subst, ◌∙◌, arith}
use Rattle.std.specs.List.{AllZip}
use Rattle.std.proofs.lemmas.Bool.{cases_lt}
use Rattle.std.proofs.lemmas.List.{get_or_default}
use Rattle.std.proofs.lemmas.List.Elements.{length_all_zip}
use Rattle.plan_spec.specs.Vector.{Vector, IsPoint, Same, SameX}
use Rattle.plan_spec.specs.Segment.{Segment, HasPoints}
use Rattle.plan_spec.specs.Frame.{Frame}
use Rattle.plan_spec.specs.Boundary.{boundary}
use Rattle.plan_spec.specs.Pieces.{Piece, piece}
use Rattle.plan_spec.specs.Regions.{mediant}
use Rattle.plan_spec.specs.Slabs.{nothing, piece_at, edge_of, InSlab, Reaches, LiesOn, rightward, IsMark, AreLines, AreSpans, AreMarks}
use Rattle.plan_plane.proofs.Lists.{any_with}
use Rattle.plan_plane.proofs.Rising.ByCoordinate.{order_x}
use Rattle.plan_plane.proofs.Rising.Lists.{same_rising}
use Rattle.plan_slab.specs.Levels.{Lower, Level}
use Rattle.plan_slab.proofs.ByNumber.{at_number}
use Rattle.plan_slab.proofs.Order.Across.{IsSlab}
use Rattle.plan_slab.proofs.Order.Feet.{Runs, by_height, mediant_inside, mediant_point}
use Rattle.plan_slab.proofs.Order.OneOrder.{IsStrand, is_strand, run_pos, lies_level}
use Rattle.plan_slab.proofs.Pieces.{HasPieces}
use Rattle.plan_slab.proofs.Regions.SpanLines.{has_piece}
use Rattle.plan_slab.proofs.Sorted.Marks.{on_line}
use Rattle.plan_slab.proofs.Sorted.Size.{below_lower}
use Rattle.plan_ring.specs.Alike.{AlikeSegment, AlikePiece}
use Rattle.plan_ring.proofs.Alike.Boundary.{segment_swapped}
use Rattle.plan_ring.proofs.Alike.SlabsGround.{AlikeGround, rightward_points, rightward_alike, reaches_alike, lies_alike, mark_of_alike, edge_alike, swapped_piece, piece_alike, as_many}
use Rattle.plan_ring.proofs.Alike.SlabsLists.{zip_at, zip_from, zip_swapped}

pub swapped : {vs ws : List (List Vector)} {room : Frame} {ps qs : List Piece} → AlikeGround vs ws room ps qs → AlikeGround ws vs room qs ps
swapped {vs} {ws} {room} {ps} {qs} g = record {
  first = g.second;
  second = g.first;
  edges = zip_swapped AlikeSegment segment_swapped (boundary vs room) (boundary ws room) g.edges;
  pieces = zip_swapped AlikePiece swapped_piece ps qs g.pieces;
  clear = λ z hz. ((g.clear z hz).1, (g.clear z hz).0);
}

-- ---- the spans of one list of pieces
module _ {sums : List (List Vector)} {room : Frame} {pieces : List Piece} (known : HasPieces sums room pieces) (l r : Vector) (slab : IsSlab l r) (ss : List Segment) (are : AreSpans sums room pieces l r ss) where
  spans_run : All Runs ss
  spans_run k d within = run_pos (has_piece l r (get_or ss k d) known slab (are.each k d within)).strand

  spans_rise : (m : Vector) → IsPoint m → InSlab l r m → AllPairs (Lower m) ss
  spans_rise m hm im i j d less within = below_lower (get_or ss i d) (get_or ss j d) m slab (spans_run j d within) hm im (are.order i j d less within)

  -- two that are level are one
  one_level : (m : Vector) → IsPoint m → InSlab l r m → (i j : ℕ) → i < length ss → j < length ss → Level m (get_or ss i nothing) (get_or ss j nothing) → i ≡ j
  one_level m hm im i j hi hj e = elim (cases_lt i j) [
    | inl less ↦ absurd ((by_height m).apart (get_or ss i nothing) (get_or ss j nothing) (spans_run i nothing hi) (spans_run j nothing hj) (spans_rise m hm im i j nothing less hj) e)
    | inr past ↦ elim (cases_lt j i) [
      | inl less ↦ absurd ((by_height m).apart (get_or ss j nothing) (get_or ss i nothing) (spans_run j nothing hj) (spans_run i nothing hi) (spans_rise m hm im j i nothing less hi) (sym e))
      | inr back ↦ omega arith
    ]
  ]

  pub spans_points : All HasPoints ss
  spans_points k d within =
      let span = are.each k d within in
      subst HasPoints (sym span.is) (rightward_points (edge_of sums room (piece_at pieces span.number)) (known.each span.number (piece 0 nothing) span.within).edge_points)

module _ {vs ws : List (List Vector)} {room : Frame} {ps qs : List Piece} (g : AlikeGround vs ws room ps qs) where
  part_points : (n : ℕ) → n < length ps → HasPoints (piece_at ps n).part × HasPoints (piece_at qs n).part
  part_points n within = ((g.first.each n (piece 0 nothing) within).part.points, (g.second.each n (piece 0 nothing) (omega (arith, as_many g))).part.points)

  -- ---- lines
  line_there : (ls ns : List Vector) → AreLines ps ls → AreLines qs ns → All (λ l. Any (SameX l) ns) ls
  line_there ls ns are are2 k d within =
      let l = get_or ls k d in
      let hl = are.points k d within in
      let (n, below, h) = at_number (λ p. SameX l p.part.a ⊎ SameX l p.part.b) ps (piece 0 nothing) (are.each k d within) in
      let (hp, hq) = part_points n below in
      let e = piece_alike g n in
      let p = piece_at ps n in
      let q = piece_at qs n in
      let has = are2.all n (piece 0 nothing) (omega (arith, as_many g)) in
      let to : (a b : Vector) → IsPoint a → IsPoint b → SameX l a → SameX a b → Any (SameX b) ns → Any (SameX l) ns = λ a b ha hb f h some. any_with IsPoint (SameX b) (SameX l) (λ m hm i. order_x.trans l b m hl hb hm (order_x.trans l a b hl ha hb f h) i) ns are2.points some in
      elim h [
        | inl f ↦ to p.part.a q.part.a hp.0 hq.0 f e.1.0.0 has.0
        | inr f ↦ to p.part.b q.part.b hp.1 hq.1 f e.1.1.0 has.1
      ]

  -- ---- the spans of one slab
  module _ (l r : Vector) (slab : IsSlab l r) (ss ts : List Segment) (are : AreSpans vs room ps l r ss) (are2 : AreSpans ws room qs l r ts) where
    -- a span of the other list on which a piece lies, by its number
    span_under : (n : ℕ) → n < length ps → Reaches l r (piece_at ps n) → (j : ℕ) × (j < length ts) × LiesOn (get_or ts j nothing) (piece_at qs n)
    span_under n within reach =
        let (hp, hq) = part_points n within in
        at_number (λ t. LiesOn t (piece_at qs n)) ts nothing (are2.all n (piece 0 nothing) (omega (arith, as_many g)) (reaches_alike (piece_at ps n) (piece_at qs n) hp hq (piece_alike g n) l r slab.left_point slab.right_point reach))

    -- the piece of span number k
    strand_of : (k : ℕ) (within : k < length ss) → IsStrand l r (get_or ss k nothing) (piece_at ps (are.each k nothing within).number)
    strand_of k within =
        let span = are.each k nothing within in
        let p = piece_at ps span.number in
        subst (λ s. IsStrand l r s p) (sym span.is) (is_strand slab (g.first.each span.number (piece 0 nothing) span.within) span.reaches)

    -- so it is level with the span
    level_under : (m : Vector) (k : ℕ) (within : k < length ss) → (j : ℕ) × (j < length ts) × LiesOn (get_or ts j nothing) (piece_at qs (are.each k nothing within).number) × Level m (get_or ts j nothing) (get_or ss k nothing)
    level_under m k within =
        let span = are.each k nothing within in
        let n = span.number in
        let (j, below, lies) = span_under n span.within span.reaches in
        let (hp, hq) = part_points n span.within in
        (j, below, lies, lies_level (get_or ts j nothing) slab (strand_of k within) (lies_alike (piece_at qs n) (piece_at ps n) hq hp (swapped_piece (piece_at ps n) (piece_at qs n) (piece_alike g n)) (get_or ts j nothing) lies) m)

    span_there : (m : Vector) → All (λ s. Any (Level m s) ts) ss
    span_there m k d within =
        let (j, below, lies, e) = level_under m k within in
        subst (λ s. Any (Level m s) ts) (get_or_default ss k nothing d within) (j, get_or ts j nothing, below, get_or_default ts j (get_or ts j nothing) nothing below, sym e)

    -- where two spans are level the piece of the first is not before that of the other
    not_before : (m : Vector) → IsPoint m → InSlab l r m → (k : ℕ) (hk : k < length ss) (hk2 : k < length ts) → Level m (get_or ss k nothing) (get_or ts k nothing) → ¬ ((are.each k nothing hk).number < (are2.each k nothing hk2).number)
    not_before m hm im k hk hk2 e less =
        let span = are.each k nothing hk in
        let n = span.number in
        let (j, below, lies, f) = level_under m k hk in
        let (hp, hq) = part_points n span.within in
        let s = get_or ss k nothing in
        let t = get_or ts k nothing in
        let u = get_or ts j nothing in
        let same = one_level g.second l r slab ts are2 m hm im j k below hk2 ((by_height m).trans u s t (spans_run g.second l r slab ts are2 j nothing below) (spans_run g.first l r slab ss are k nothing hk) (spans_run g.second l r slab ts are2 k nothing hk2) f e) in
        (are2.each k nothing hk2).first n less (reaches_alike (piece_at ps n) (piece_at qs n) hp hq (piece_alike g n) l r slab.left_point slab.right_point span.reaches) (subst (λ j. LiesOn (get_or ts j nothing) (piece_at qs n)) same lies)

  -- ---- the marks of one line
  mark_there : (l : Vector) (ms ns : List Vector) → IsPoint l → AreMarks ps l ms → AreMarks qs l ns → All (λ m. Any (Same m) ns) ms
  mark_there l ms ns hl are are2 k d within =
      let m = get_or ms k d in
      let hm = are.points k d within in
      let e = are.on_line k d within in
      let (n, below, h) = at_number (IsMark m) ps (piece 0 nothing) ((are.exact m hm e).1 (k, m, within, get_or_default ms k m d within, (refl, refl))) in
      let (hp, hq) = part_points n below in
      let there : n < length qs = omega (arith, as_many g) in
      (are2.exact m hm e).0 (n, piece_at qs n, there, get_or_default qs n (piece_at qs n) (piece 0 nothing) there, mark_of_alike (piece_at ps n) (piece_at qs n) hp hq (piece_alike g n) m hm h)

module _ {vs ws : List (List Vector)} {room : Frame} {ps qs : List Piece} (g : AlikeGround vs ws room ps qs) where
  pub lines_alike : (ls ns : List Vector) → AreLines ps ls → AreLines qs ns → AllZip SameX ls ns
  lines_alike ls ns are are2 = same_rising order_x ls ns are.points are2.points are.rising are2.rising (line_there g ls ns are are2) (line_there (swapped g) ns ls are2 are)

  pub marks_alike : (l : Vector) (ms ns : List Vector) → IsPoint l → AreMarks ps l ms → AreMarks qs l ns → AllZip Same ms ns
  marks_alike l ms ns hl are are2 =
      same_rising (on_line l hl) ms ns (λ k d within. (are.points k d within, are.on_line k d within)) (λ k d within. (are2.points k d within, are2.on_line k d within)) are.rising are2.rising (mark_there g l ms ns hl are are2) (mark_there (swapped g) l ns ms hl are2 are)

  module _ (l r : Vector) (slab : IsSlab l r) (ss ts : List Segment) (are : AreSpans vs room ps l r ss) (are2 : AreSpans ws room qs l r ts) where
    levels : (m : Vector) → IsPoint m → InSlab l r m → AllZip (Level m) ss ts
    levels m hm im =
        same_rising (by_height m) ss ts (spans_run g.first l r slab ss are) (spans_run g.second l r slab ts are2) (spans_rise g.first l r slab ss are m hm im) (spans_rise g.second l r slab ts are2 m hm im)
        (span_there g l r slab ss ts are are2 m) (span_there (swapped g) l r slab ts ss are2 are m)

    pub spans_alike : AllZip AlikeSegment ss ts
    spans_alike = zip_from AlikeSegment nothing ss ts long each
      where
        m : Vector
        m = mediant l r

        hm : IsPoint (mediant l r)
        hm = mediant_point l r slab.left_point slab.right_point

        im : InSlab l r (mediant l r)
        im = mediant_inside l r slab.wide

        zipped : AllZip (Level (mediant l r)) ss ts
        zipped = levels (mediant l r) hm im

        long : length ss ≡ length ts
        long = length_all_zip (Level (mediant l r)) ss ts zipped

        each : (k : ℕ) → k < length ss → AlikeSegment (get_or ss k nothing) (get_or ts k nothing)
        each k hk =
            let hk2 : k < length ts = omega (arith, long) in
            let span = are.each k nothing hk in
            let other = are2.each k nothing hk2 in
            let n = span.number in
            let e = zip_at (Level (mediant l r)) ss ts nothing nothing refl zipped k in
            let same : other.number ≡ n = one n other.number (cases_lt n other.number) (cases_lt other.number n) (not_before g l r slab ss ts are are2 (mediant l r) hm im k hk hk2 e) (not_before (swapped g) l r slab ts ss are2 are (mediant l r) hm im k hk2 hk (sym e)) in
            let p = piece_at ps n in
            let q = piece_at qs n in
            let hp = g.first.each n (piece 0 nothing) span.within in
            let hq = g.second.each n (piece 0 nothing) (omega (arith, as_many g, span.within)) in
            let f = rightward_alike (edge_of vs room p) (edge_of ws room q) hp.edge_points hq.edge_points (edge_alike p q hp.part.points hq.part.points (piece_alike g n) vs ws room g.edges) in
            subst (λ s. AlikeSegment s (get_or ts k nothing)) (sym span.is) (subst (AlikeSegment (rightward (edge_of vs room p))) (sym (other.is ∙ (λ i. rightward (edge_of ws room (piece_at qs (same i)))))) f)
          where
            one : (a b : ℕ) → (a < b) ⊎ (b ≤ a) → (b < a) ⊎ (a ≤ b) → ¬ (a < b) → ¬ (b < a) → b ≡ a
            one a b (inl h) k f g = absurd (f h)
            one a b (inr h) (inl k) f g = absurd (g k)
            one a b (inr h) (inr k) f g = omega arith
