-- The pieces of one edge, whichever of its ends is the lesser; where the room holds nothing there are none.
use Rattle.std.proofs.Common.{◌≡◌, ◌⊎◌, ⊎_elim, ℕ, ◌<◌, Bool, List, [], map, length, slice_index_or, refl, sym, subst, ◌∙◌, arith}
use Rattle.std.specs.List.{filter, AllZip}
use Rattle.std.proofs.lemmas.List.{get_or_default}
use Rattle.std.proofs.lemmas.List.Elements.{All-nil}
use Rattle.plan_exact.specs.Vectors.{Vector}
use Rattle.plan_exact.proofs.Laws.{linear}
use Rattle.plan_spec.specs.Vector.{Before}
use Rattle.plan_spec.specs.Segment.{segment}
use Rattle.plan_spec.specs.Boundary.{boundary}
use Rattle.plan_spec.specs.Pieces.{ArePieces, Piece}
use Rattle.plan_grid.specs.declared.frame.Frame.{Frame}
use Rattle.plan_grid.specs.declared.spot.Spot.{Spot}
use Rattle.plan_grid.specs.Frame.{frame_seen}
use Rattle.plan_grid.specs.Spot.{spot_seen, edge_seen}
use Rattle.plan_convex.specs.declared.part.Part.{Part}
use Rattle.plan_plane.proofs.Lists.{any_none}
use Rattle.plan_bound.specs.Edge.{Spans, stays, piece_of}
use Rattle.plan_bound.specs.Gaps.{gaps}
use Rattle.plan_bound.specs.Pieces.{IsPieceOf, ArePiecesOf, IsProperRoom}
use Rattle.plan_bound.proofs.PiecesOfEdge.{edge_pieces}
use Rattle.plan_bound.proofs.Kept.{SameEnds, pieces_at, pieces_same, pieces_reversed}

pub no_pieces : (sums : List (List Vector)) (room : Frame) (edge : ℕ) → ¬ (IsProperRoom room) → ArePiecesOf sums (frame_seen room) edge []
no_pieces sums room edge off = record {
  numbers = All-nil (λ p. p.edge ≡ edge);
  pieces = λ e. record {
    along = All-nil _;
    apart = λ i j d less within. absurd (omega (arith, within));
    exact = λ z hz on_z. (λ u. absurd (off (omega (arith, linear, u.in_room.wide), omega (arith, linear, u.in_room.tall))), λ some. absurd (any_none _ some));
  };
}

module _ (sums : List (List Vector)) (room : Frame) (edge : ℕ) (p q a b : Spot) (within : Part) (parts : List Part) (first last : Bool) where
  abbrev u : Vector
  u = spot_seen a

  abbrev v : Vector
  v = spot_seen b

  onward_pieces : Before u v → Spans sums (frame_seen room) u v within parts first last → (ps : List Piece) → AllZip SameEnds (map (piece_of u v) (filter (stays first last) (gaps within.from within.to parts))) (map (λ k. k.part) ps)
      → ArePieces sums (frame_seen room) (segment u v) (map (λ k. k.part) ps)
  onward_pieces onward spans ps same =
      pieces_same sums (frame_seen room) (segment u v) (omega (arith, linear), omega (arith, linear)) (map (piece_of u v) (filter (stays first last) (gaps within.from within.to parts))) (map (λ k. k.part) ps)
      (edge_pieces sums (frame_seen room) u v within parts first last (record { low = refl; high = refl }) (omega (arith, linear)) (omega (arith, linear)) onward spans) same

  pub pieces_either : Before u v → Spans sums (frame_seen room) u v within parts first last → ((a ≡ p) × (b ≡ q)) ⊎ ((a ≡ q) × (b ≡ p)) → edge < length (boundary sums (frame_seen room))
      → slice_index_or (boundary sums (frame_seen room)) edge (edge_seen p q) ≡ edge_seen p q → (ps : List Piece) → AllZip (IsPieceOf edge u v) (filter (stays first last) (gaps within.from within.to parts)) ps → ArePiecesOf sums (frame_seen room) edge ps
  pieces_either onward spans either fits at ps made =
      let k = pieces_at edge u v (filter (stays first last) (gaps within.from within.to parts)) ps made in
      let h = onward_pieces onward spans ps k.0 in
      let it : ArePieces sums (frame_seen room) (edge_seen p q) (map (λ k. k.part) ps) =
      ⊎_elim (λ e. subst (λ x. ArePieces sums (frame_seen room) (edge_seen x q) (map (λ k. k.part) ps)) e.0 (subst (λ y. ArePieces sums (frame_seen room) (edge_seen a y) (map (λ k. k.part) ps)) e.1 h))
      (λ e. subst (λ y. ArePieces sums (frame_seen room) (edge_seen p y) (map (λ k. k.part) ps)) e.0 (subst (λ x. ArePieces sums (frame_seen room) (edge_seen x a) (map (λ k. k.part) ps)) e.1 (pieces_reversed sums (frame_seen room) u v (map (λ k. k.part) ps) h))) either in
      record {
        numbers = k.1;
        pieces = λ e. subst (λ s. ArePieces sums (frame_seen room) s (map (λ k. k.part) ps)) (sym at ∙ get_or_default (boundary sums (frame_seen room)) edge (edge_seen p q) e fits) it;
      }
