-- Each list of pieces has slabs, and these have regions: the lines and the marks sorted, and of the pieces that go across a slab the first of each height.
use Rattle.std.proofs.Common.{◌≡◌, ◌⊎◌, inl, inr, ℕ, zero, suc, ◌-◌, ◌<◌, ◌≤◌, ◌*ℤ◌, List, [], ◌∷◌, map, length, get_or, All, Any, ap, refl, sym, subst, arith}
use Rattle.std.specs.List.{flat_map}
use Rattle.std.proofs.lemmas.Bool.{cases_order}
use Rattle.std.proofs.lemmas.List.Elements.{All-nil, All-cons, All-map, All-weaker}
use Rattle.plan_spec.specs.Vector.{Vector, IsPoint}
use Rattle.plan_spec.specs.Segment.{Segment, HasPoints}
use Rattle.plan_spec.specs.Frame.{Frame}
use Rattle.plan_spec.specs.Pieces.{Piece, piece}
use Rattle.plan_spec.specs.Boundary.{IsClearOf}
use Rattle.plan_spec.specs.Regions.{Lot, Kept, none, keep, drop, mediant, foot, lots, spot_of, AreRegions}
use Rattle.plan_spec.specs.Slabs.{nowhere, nothing, piece_at, Reaches, AreLines, AreSpans, AreMarks, Slabs, AreSlabs}
use Rattle.plan_plane.proofs.Boundary.Decided.{clear_decided}
use Rattle.plan_plane.proofs.Lists.{any_here, any_there, any_to_map, any_with, all_pairs_map}
use Rattle.plan_plane.proofs.Rising.ByCoordinate.{order_x}
use Rattle.plan_plane.proofs.Rising.Lists.{IsOrder, IsRisingOf, rising_of}
use Rattle.plan_plane.proofs.Segment.Decided.{Decided, both_decided, le_decided, eq_decided}
use Rattle.plan_slab.specs.Levels.{run, heights, Lower, Level, strand, AreLevels}
use Rattle.plan_slab.proofs.ByNumber.{at_number}
use Rattle.plan_slab.proofs.Order.Across.{IsSlab}
use Rattle.plan_slab.proofs.Order.Feet.{Runs, by_height}
use Rattle.plan_slab.proofs.Order.OneOrder.{is_strand, run_pos}
use Rattle.plan_slab.proofs.Order.Spans.{levels_are_spans}
use Rattle.plan_slab.proofs.Pieces.{IsPiece, HasPieces}
use Rattle.plan_slab.proofs.Sorted.Lines.{ends, end_points, lines_from}
use Rattle.plan_slab.proofs.Sorted.Marks.{on_line, mark_points, marks_from, of_pieces, each_piece}

-- ---- the first number below n that has P
record First (P : ℕ → Type 0) (n : ℕ) : Type 0 where
  number : ℕ
  below : number < n
  has : P number
  before : (j : ℕ) → j < number → ¬ (P j)

abbrev NoneBelow : (ℕ → Type 0) → ℕ → Type 0
NoneBelow P n = (k : ℕ) → k < n → ¬ (P k)

first : (P : ℕ → Type 0) → ((n : ℕ) → Decided (P n)) → (n : ℕ) → NoneBelow P n ⊎ First P n
first P decide zero = inl (λ k below. absurd (omega arith))
first P decide (suc n) = by (first P decide n) (decide n)
  where
    last : NoneBelow P n → ¬ (P n) → NoneBelow P (suc n)
    last off not k below h = elim (cases_order k n) [
      | inl e ↦ not (subst P e h)
      | inr t ↦ elim t [
        | inl less ↦ off k less h
        | inr more ↦ omega arith
      ]
    ]

    by : NoneBelow P n ⊎ First P n → Decided (P n) → NoneBelow P (suc n) ⊎ First P (suc n)
    by (inr f) d = let below = f.below in inr (record { number = f.number; below = omega arith; has = f.has; before = f.before })
    by (inl off) (inl h) = inr (record { number = n; below = omega arith; has = h; before = off })
    by (inl off) (inr not) = inl (last off not)

-- its number, where there is one
abbrev pick : {P : ℕ → Type 0} {n : ℕ} → ℕ → NoneBelow P n ⊎ First P n → ℕ
pick z (inl off) = z
pick z (inr f) = f.number

picked : {P : ℕ → Type 0} (z : ℕ) → P z → (c : NoneBelow P (suc z) ⊎ First P (suc z)) → (pick z c ≤ z) × P (pick z c) × ((j : ℕ) → j < pick z c → ¬ (P j))
picked z h (inl off) = absurd (off z (omega arith) h)
picked z h (inr f) = let below = f.below in (omega arith, f.has, f.before)

-- ---- rows of n elements
rows : {X : Type 0} (R : ℕ → X → Type 0) (n : ℕ) → ((k : ℕ) → k < n → (x : X) × R k x) → (xs : List X) × (length xs ≡ n) × ((k : ℕ) (d : X) → k < n → R k (get_or xs k d))
rows R zero h = ([], refl, λ k d below. absurd (omega arith))
rows {X} R (suc n) h =
    let x = h 0 (omega arith) in
    let (xs, long, each) = rows (λ k. R (suc k)) n (λ k below. h (suc k) (omega arith)) in
    (x.0 ∷ xs, ap suc long, by x xs each)
  where
    by : (x : (x : X) × R 0 x) (xs : List X) → ((k : ℕ) (d : X) → k < n → R (suc k) (get_or xs k d)) → (k : ℕ) (d : X) → k < suc n → R k (get_or (x.0 ∷ xs) k d)
    by x xs each zero d below = x.1
    by x xs each (suc k) d below = each k d (omega arith)

-- ---- the spans of a slab
module _ {sums : List (List Vector)} {room : Frame} {pieces : List Piece} (known : HasPieces sums room pieces) (l r : Vector) (slab : IsSlab l r) where
  abbrev edge : ℕ → Segment
  edge n = strand sums room (piece_at pieces n)

  abbrev Goes : ℕ → Type 0
  Goes n = (n < length pieces) × Reaches l r (piece_at pieces n)

  abbrev Below : ℕ → ℕ → Type 0
  Below i j = Lower (mediant l r) (edge i) (edge j)

  abbrev Even : ℕ → ℕ → Type 0
  Even i j = Level (mediant l r) (edge i) (edge j)

  runs : (n : ℕ) → Goes n → Runs (edge n)
  runs n g = run_pos (is_strand slab (known.each n (piece 0 nothing) g.0) g.1)

  by_number : IsOrder (λ n. (n < length pieces) × Reaches l r (piece_at pieces n)) (λ i j. Lower (mediant l r) (strand sums room (piece_at pieces i)) (strand sums room (piece_at pieces j))) (λ i j. Level (mediant l r) (strand sums room (piece_at pieces i)) (strand sums room (piece_at pieces j)))
  by_number = let o = by_height (mediant l r) in record {
    refl = λ i gi. o.refl (edge i) (runs i gi);
    sym = λ i j gi gj. o.sym (edge i) (edge j) (runs i gi) (runs j gj);
    trans = λ i j k gi gj gk. o.trans (edge i) (edge j) (edge k) (runs i gi) (runs j gj) (runs k gk);
    less = λ i j k gi gj gk. o.less (edge i) (edge j) (edge k) (runs i gi) (runs j gj) (runs k gk);
    less_equal = λ i j k gi gj gk. o.less_equal (edge i) (edge j) (edge k) (runs i gi) (runs j gj) (runs k gk);
    equal_less = λ i j k gi gj gk. o.equal_less (edge i) (edge j) (edge k) (runs i gi) (runs j gj) (runs k gk);
    apart = λ i j gi gj. o.apart (edge i) (edge j) (runs i gi) (runs j gj);
    total = λ i j gi gj. o.total (edge i) (edge j) (runs i gi) (runs j gj);
  }

  reach_decided : (n : ℕ) → Decided (Reaches l r (piece_at pieces n))
  reach_decided n = both_decided (le_decided _ _) (le_decided _ _)

  -- the numbers below n of pieces that go across
  numbers : (n : ℕ) → n ≤ length pieces → (xs : List ℕ) × All Goes xs × ((j : ℕ) → j < n → Reaches l r (piece_at pieces j) → Any (λ x. x ≡ j) xs)
  numbers zero upto = ([], All-nil Goes, λ j below h. absurd (omega arith))
  numbers (suc n) upto = by (reach_decided n) (numbers n (omega arith))
    where
      by : Decided (Reaches l r (piece_at pieces n)) → (xs : List ℕ) × All Goes xs × ((j : ℕ) → j < n → Reaches l r (piece_at pieces j) → Any (λ x. x ≡ j) xs) → (xs : List ℕ) × All Goes xs × ((j : ℕ) → j < suc n → Reaches l r (piece_at pieces j) → Any (λ x. x ≡ j) xs)
      by (inl h) (xs, go, all) = (
        n ∷ xs,
        All-cons Goes n xs (omega arith, h) go,
        λ j below reach. elim (cases_order j n) [
          | inl e ↦ any_here (λ x. x ≡ j) n xs (sym e)
          | inr t ↦ elim t [
            | inl less ↦ any_there (λ x. x ≡ j) n xs (all j less reach)
            | inr more ↦ absurd (omega arith)
          ]
        ],
      )
      by (inr off) (xs, go, all) = (
        xs,
        go,
        λ j below reach. elim (cases_order j n) [
          | inl e ↦ absurd (off (subst (λ n. Reaches l r (piece_at pieces n)) e reach))
          | inr t ↦ elim t [
            | inl less ↦ all j less reach
            | inr more ↦ absurd (omega arith)
          ]
        ],
      )

  -- the first piece of the height of z
  abbrev Like : ℕ → ℕ → Type 0
  Like z j = Reaches l r (piece_at pieces j) × Level (mediant l r) (strand sums room (piece_at pieces z)) (strand sums room (piece_at pieces j))

  like_decided : (z j : ℕ) → Decided (Like z j)
  like_decided z j = both_decided (reach_decided j) (eq_decided ((foot (edge z) (mediant l r)).y *ℤ run (edge j)) ((foot (edge j) (mediant l r)).y *ℤ run (edge z)))

  abbrev lowest : ℕ → ℕ
  lowest z = pick z (first (Like z) (like_decided z) (suc z))

  -- what is known of it
  record IsLowest (z n : ℕ) : Type 0 where
    goes : (n < length pieces) × Reaches l r (piece_at pieces n)
    level : Level (mediant l r) (strand sums room (piece_at pieces z)) (strand sums room (piece_at pieces n))
    before : (j : ℕ) → j < n → ¬ (Reaches l r (piece_at pieces j) × Level (mediant l r) (strand sums room (piece_at pieces z)) (strand sums room (piece_at pieces j)))

  is_lowest : (z : ℕ) → Goes z → IsLowest z (lowest z)
  is_lowest z g =
      let (upto, (reach, level), before) = picked z (g.1, refl) (first (Like z) (like_decided z) (suc z)) in
      record { goes = (omega (arith, upto, g.0), reach); level = level; before = before }

  levels : (xs : List ℕ) → All Goes xs → ((j : ℕ) → j < length pieces → Reaches l r (piece_at pieces j) → Any (λ x. x ≡ j) xs) → (zs : List ℕ) → IsRisingOf Goes Below Even xs zs → AreLevels sums room pieces l r (map lowest zs)
  levels xs go all zs r2 = record {
    each = All-map Goes lowest zs (λ k d within. (is_lowest (get_or zs k d) (r2.points k d within)).goes);
    rising = all_pairs_map Below lowest zs (λ i j d less within.
        let a = get_or zs i d in
        let b = get_or zs j d in
        let ga = r2.points i d (omega arith) in
        let gb = r2.points j d within in
        let la = is_lowest a ga in
        let lb = is_lowest b gb in
        by_number.equal_less (lowest a) a (lowest b) la.goes ga lb.goes (sym la.level) (by_number.less_equal a b (lowest b) ga gb lb.goes (r2.rising i j d less within) lb.level));
    all = every;
  }
    where
      every : (j : ℕ) → j < length pieces → Reaches l r (piece_at pieces j) → Any (λ n. (n ≤ j) × Even n j) (map lowest zs)
      every j within reach =
          let gj : Goes j = (within, reach) in
          let (k, below, e) = at_number (λ x. x ≡ j) xs 0 (all j within reach) in
          let some = subst (λ x. Any (Even x) zs) e (r2.all k 0 below) in
          any_to_map (λ n. (n ≤ j) × Even n j) lowest zs (any_with Goes (Even j) (λ z. (lowest z ≤ j) × Even (lowest z) j) (λ z gz even. let lz = is_lowest z gz in (upto z lz (sym even), by_number.trans (lowest z) z j lz.goes gz gj (sym lz.level) (sym even))) zs r2.points some)
        where
          upto : (z : ℕ) → IsLowest z (lowest z) → Even z j → lowest z ≤ j
          upto z lz even = elim (cases_order (lowest z) j) [
            | inl e ↦ omega (arith, e)
            | inr t ↦ elim t [
              | inl less ↦ omega (arith, less)
              | inr more ↦ absurd (lz.before j more (reach, even))
            ]
          ]

  pub spans_exist : (ss : List Segment) × AreSpans sums room pieces l r ss
  spans_exist =
      let (xs, go, all) = numbers (length pieces) (omega arith) in
      let (zs, r2) = rising_of by_number xs go in
      (map (λ n. strand sums room (piece_at pieces n)) (map lowest zs), levels_are_spans known slab (levels xs go all zs r2))

-- ---- all slabs
module _ {sums : List (List Vector)} {room : Frame} {pieces : List Piece} (known : HasPieces sums room pieces) where
  lines_exist : (ls : List Vector) × AreLines pieces ls
  lines_exist =
      let (ls, r) = rising_of order_x (flat_map ends pieces) (end_points pieces (All-weaker (IsPiece sums room) (λ p. HasPoints p.part) (λ p h. h.part.points) pieces known.each)) in
      (ls, lines_from pieces ls r)

  marks_exist : (l : Vector) → IsPoint l → (ms : List Vector) × AreMarks pieces l ms
  marks_exist l hl =
      let all = of_pieces known l hl in
      let each = each_piece known l hl in
      let (ms, r) = rising_of (on_line l hl) (flat_map (heights l) pieces) (mark_points pieces l hl (λ p. p) (heights l) pieces all each) in
      (ms, marks_from pieces l hl (λ p. p) (heights l) pieces all each ms r)

  pub slabs_exist : (σ : Slabs) × AreSlabs sums room pieces σ
  slabs_exist =
      let (ls, lines) = lines_exist in
      let (spans, spans_long, spans_each) = rows (λ k ss. AreSpans sums room pieces (get_or ls k nowhere) (get_or ls (suc k) nowhere) ss) (length ls - 1)
      (λ k below. spans_exist known (get_or ls k nowhere) (get_or ls (suc k) nowhere) (record { left_point = lines.points k nowhere (omega arith); right_point = lines.points (suc k) nowhere (omega arith); wide = lines.rising k (suc k) nowhere (omega arith) (omega arith) })) in
      let (marks, marks_long, marks_each) = rows (λ k ms. AreMarks pieces (get_or ls k nowhere) ms) (length ls) (λ k below. marks_exist (get_or ls k nowhere) (lines.points k nowhere below)) in (
        record { lines = ls; spans = spans; marks = marks },
        record {
          lines = lines;
          slab_count = spans_long;
          spans = λ k below. spans_each k [] (omega (arith, below, spans_long));
          line_count = marks_long;
          marks = λ k below. marks_each k [] (omega (arith, below, marks_long));
        },
      )

-- ---- regions
kept_exist : {X : Type 0} (P : X → Type 0) → ((x : X) → Decided (P x)) → (xs : List X) → (ys : List X) × Kept P xs ys
kept_exist P decide [] = ([], none)
kept_exist {X} P decide (x ∷ xs) = by (decide x) (kept_exist P decide xs)
  where
    by : Decided (P x) → (ys : List X) × Kept P xs ys → (ys : List X) × Kept P (x ∷ xs) ys
    by (inl h) (ys, k) = (x ∷ ys, keep x xs ys h k)
    by (inr off) (ys, k) = (ys, drop x xs ys off k)

pub regions_exist : (sums : List (List Vector)) (room : Frame) (σ : Slabs) → (found : List Lot) × AreRegions sums room σ found
regions_exist sums room σ = kept_exist (λ lot. IsClearOf sums room (spot_of σ lot)) (λ lot. clear_decided sums room (spot_of σ lot)) (lots σ)
