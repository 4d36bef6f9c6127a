-- Of the bars that go across a slab the first of each height give its spans.
use Rattle.std.proofs.Common.{◌≡◌, ℕ, ◌<◌, ◌≤◌, refl, sym, subst, ap, ◌∙◌, List, [], ◌∷◌, get_or, length, map, All, Any, arith}
use Rattle.plan_spec.specs.Vector.{Vector, LtY, SameY}
use Rattle.plan_spec.specs.Frame.{Frame}
use Rattle.plan_spec.specs.Pieces.{Piece}
use Rattle.plan_spec.specs.Regions.{foot, mediant}
use Rattle.plan_spec.specs.Slabs.{piece_at, Reaches, AreSpans}
use Rattle.plan_grid.specs.Fraction.{Fraction, SameValue}
use Rattle.plan_convex.specs.Parameter.{Less}
use Rattle.plan_slab.specs.declared.bar.Bar.{Bar}
use Rattle.plan_slab.specs.declared.rungs.Rung.{Rung}
use Rattle.plan_slab.specs.declared.strand.Strand.{Strand}
use Rattle.plan_slab.specs.Bars.{IsBar}
use Rattle.plan_slab.specs.Levels.{strand}
use Rattle.plan_slab.specs.Rungs.{level_at, IsRungOf, AreFirstOf}
use Rattle.plan_slab.specs.Seen.{line_seen, strand_seen}
use Rattle.plan_slab.specs.Sweeps.{BeginsBy, LastsTo}
use Rattle.plan_slab.proofs.Order.Across.{IsSlab}
use Rattle.plan_slab.proofs.Order.Spans.{spans_from}
use Rattle.plan_slab.proofs.Pieces.{HasPieces}

module _ {sums : List (List Vector)} {room : Frame} {pieces : List Piece} (known : HasPieces sums room pieces) (l r : Fraction) (slab : IsSlab (line_seen l) (line_seen r)) (bars : List Bar)
    (across : All (λ b. IsBar sums room pieces b × BeginsBy l b × LastsTo r b) bars)
    (every : (n : ℕ) → n < length pieces → Reaches (line_seen l) (line_seen r) (piece_at pieces n) → Any (λ b. b.number ≡ n) bars) where
  abbrev m : Vector
  m = mediant (line_seen l) (line_seen r)

  -- what a rung has of its bar
  record Known (g : Rung) : Type 0 where
    within : g.number < length pieces
    reaches : Reaches (line_seen l) (line_seen r) (piece_at pieces g.number)
    edge : strand_seen g.strand ≡ strand sums room (piece_at pieces g.number)
    level : g.level ≡ level_at (mediant (line_seen l) (line_seen r)) (strand_seen g.strand)

  known_of : (g : Rung) → Any (IsRungOf (mediant (line_seen l) (line_seen r)) g) bars → Known g
  known_of g (k, b, within, is, rung) =
      let (bar, begins, lasts) = subst (λ b. IsBar sums room pieces b × BeginsBy l b × LastsTo r b) is (across k b within) in
      let at : b.piece ≡ piece_at pieces g.number = bar.is ∙ ap (piece_at pieces) (sym rung.number) in
      record {
        within = omega (arith, rung.number, bar.within);
        reaches = subst (Reaches (line_seen l) (line_seen r)) at (begins, lasts);
        edge = ap strand_seen rung.strand ∙ bar.on_edge.edge ∙ ap (strand sums room) at;
        level = rung.level ∙ ap (λ s. level_at (mediant (line_seen l) (line_seen r)) (strand_seen s)) (sym rung.strand);
      }

  pub spans_of_slab : (hs : List Rung) → AreFirstOf (mediant (line_seen l) (line_seen r)) bars hs → AreSpans sums room pieces (line_seen l) (line_seen r) (map (λ g. strand_seen g.strand) hs)
  spans_of_slab hs first = spans_from (λ g. g.number) (λ g. strand_seen g.strand) hs known slab
      (λ k d within. let h = at k d within in (h.within, h.reaches))
      (λ k d within. (at k d within).edge)
      (λ i j d less within. rises (get_or hs i d) (get_or hs j d) (at i d (omega (arith, less, within))) (at j d within) (first.rising i j d less within))
      all
    where
      at : (k : ℕ) (d : Rung) → k < length hs → Known (get_or hs k d)
      at k d within = known_of (get_or hs k d) (first.each k d within)

      rises : (g h : Rung) → Known g → Known h → Less g.level h.level → LtY (foot (strand_seen g.strand) (mediant (line_seen l) (line_seen r))) (foot (strand_seen h.strand) (mediant (line_seen l) (line_seen r)))
      rises g h kg kh less = subst (λ e. Less e (level_at m (strand_seen h.strand))) kg.level (subst (Less g.level) kh.level less)

      all : (j : ℕ) → j < length pieces → Reaches (line_seen l) (line_seen r) (piece_at pieces j) → Any (λ g. (g.number ≤ j) × SameY (foot (strand_seen g.strand) (mediant (line_seen l) (line_seen r))) (foot (strand sums room (piece_at pieces j)) (mediant (line_seen l) (line_seen r)))) hs
      all j within reach =
          let (k, b, below, is, e) = every j within reach in
          let (bar, begins, lasts) = subst (λ b. IsBar sums room pieces b × BeginsBy l b × LastsTo r b) is (across k b below) in
          let (i, h, under, is-h, (upto, same)) = subst (λ b. Any (λ h. (h.number ≤ b.number) × SameValue h.level (level_at m (strand_seen b.strand))) hs) is (first.all k b below) in
          let kh = subst Known is-h (at i h under) in
          let edge : strand_seen b.strand ≡ strand sums room (piece_at pieces j) = bar.on_edge.edge ∙ ap (strand sums room) (bar.is ∙ ap (piece_at pieces) e) in
          (i, h, under, is-h, (omega (arith, upto, e), subst (λ s. SameY (foot (strand_seen h.strand) m) (foot s m)) edge (subst (λ f. SameValue f (level_at m (strand_seen b.strand))) kh.level same)))

pub seen_strands : (hs : List Rung) (ss : List Strand) → ss ≡ map (λ g. g.strand) hs → map (λ g. strand_seen g.strand) hs ≡ map strand_seen ss
seen_strands hs ss e = twice hs ∙ sym (ap (map strand_seen) e)
  where
    twice : (hs : List Rung) → map (λ g. strand_seen g.strand) hs ≡ map strand_seen (map (λ g. g.strand) hs)
    twice [] = refl
    twice (h ∷ hs) = ap (λ ys. strand_seen h.strand ∷ ys) (twice hs)
