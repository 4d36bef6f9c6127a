-- Pieces with their numbers and their edges from left to right.
use Rattle.std.specs.Prelude.{◌≡◌, Bool, int_le, ◌*ℤ◌, ℕ, ◌<◌, List, length, All, Any, AllPairs}
use Rattle.plan_spec.specs.Vector.{Vector, LeX}
use Rattle.plan_spec.specs.Frame.{Frame}
use Rattle.plan_spec.specs.Pieces.{Piece}
use Rattle.plan_spec.specs.Slabs.{piece_at, edge_of, rightward}
use Rattle.plan_grid.specs.Fraction.{Fraction}
use Rattle.plan_grid.specs.Spot.{IsWithin}
use Rattle.plan_grid.specs.declared.bounds.TheConstants.{MOST_COORDINATE}
use Rattle.plan_slab.specs.declared.bar.Bar.{Bar}
use Rattle.plan_slab.specs.declared.strand.Strand.{Strand}
use Rattle.plan_slab.specs.Seen.{strand_seen}

-- the edge of the piece, from left to right
pub record IsOnEdge (sums : List (List Vector)) (room : Frame) (p : Piece) (s : Strand) : Type 0 where
  pub edge : strand_seen s ≡ rightward (edge_of sums room p)
  pub a_bounded : IsWithin MOST_COORDINATE s.a
  pub b_bounded : IsWithin MOST_COORDINATE s.b

-- the piece of that number, on its edge
pub record IsBar (sums : List (List Vector)) (room : Frame) (pieces : List Piece) (b : Bar) : Type 0 where
  pub within : b.number < length pieces
  pub is : b.piece ≡ piece_at pieces b.number
  pub on_edge : IsOnEdge sums room b.piece b.strand

-- whether the piece ends on the line or on its right
abbrev pub lasts : Fraction → Piece → Bool
lasts l p = int_le (l.num *ℤ p.part.b.w) (p.part.b.x *ℤ l.den)

-- all pieces, by where they begin
pub record AreBars (sums : List (List Vector)) (room : Frame) (pieces : List Piece) (bars : List Bar) : Type 0 where
  pub each : All (IsBar sums room pieces) bars
  pub all : (n : ℕ) → n < length pieces → Any (λ b. b.number ≡ n) bars
  pub rising : AllPairs (λ b c. LeX b.piece.part.a c.piece.part.a) bars
