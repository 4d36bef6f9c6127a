-- Event lines are the rising list of the ends of pieces by x.
use Rattle.std.proofs.Common.{◌⊎◌, inl, inr, ⊎_elim, List, [], ◌∷◌, All, Any, arith}
use Rattle.std.specs.List.{flat_map}
use Rattle.std.proofs.lemmas.List.Elements.{All-nil, All-cons, All-weaker}
use Rattle.plan_spec.specs.Vector.{Vector, IsPoint, LtX, SameX}
use Rattle.plan_spec.specs.Segment.{HasPoints}
use Rattle.plan_spec.specs.Pieces.{Piece}
use Rattle.plan_spec.specs.Slabs.{AreLines}
use Rattle.plan_plane.proofs.Lists.{any_here, any_there, any_cases, any_none, any_weaker, any_flat, any_unflat, all_flat, all_unflat}
use Rattle.plan_plane.proofs.Rising.Lists.{IsRisingOf}

abbrev pub ends : Piece → List Vector
ends p = p.part.a ∷ p.part.b ∷ []

two : (P : Vector → Type 0) (a b : Vector) → P a → P b → All P (a ∷ b ∷ [])
two P a b ha hb = All-cons P a (b ∷ []) ha (All-cons P b [] hb (All-nil P))

one_of_two : (P : Vector → Type 0) (a b : Vector) → Any P (a ∷ b ∷ []) → P a ⊎ P b
one_of_two P a b h = ⊎_elim inl (λ k. ⊎_elim inr (λ n. absurd (any_none P n)) (any_cases P b [] k)) (any_cases P a (b ∷ []) h)

pub end_points : (pieces : List Piece) → All (λ p. HasPoints p.part) pieces → All IsPoint (flat_map ends pieces)
end_points pieces h = all_flat IsPoint ends pieces (All-weaker (λ p. HasPoints p.part) (λ p. All IsPoint (ends p)) (λ p k. two IsPoint p.part.a p.part.b k.0 k.1) pieces h)

pub lines_from : (pieces : List Piece) (ls : List Vector) → IsRisingOf IsPoint LtX SameX (flat_map ends pieces) ls → AreLines pieces ls
lines_from pieces ls r = record {
  points = r.points;
  rising = r.rising;
  each = All-weaker (λ l. Any (SameX l) (flat_map ends pieces)) (λ l. Any (λ p. SameX l p.part.a ⊎ SameX l p.part.b) pieces) (λ l h. any_weaker (λ p. Any (SameX l) (ends p)) (λ p. SameX l p.part.a ⊎ SameX l p.part.b) (λ p k. one_of_two (SameX l) p.part.a p.part.b k) pieces (any_unflat (SameX l) ends pieces h)) ls r.each;
  all = All-weaker (λ p. All (λ x. Any (SameX x) ls) (ends p)) (λ p. Any (SameX p.part.a) ls × Any (SameX p.part.b) ls) (λ p h. (h 0 p.part.a (omega arith), h 1 p.part.a (omega arith))) pieces (all_unflat (λ x. Any (SameX x) ls) ends pieces r.all);
}

pub lines_to : (pieces : List Piece) (ls : List Vector) → AreLines pieces ls → IsRisingOf IsPoint LtX SameX (flat_map ends pieces) ls
lines_to pieces ls r = record {
  points = r.points;
  rising = r.rising;
  each = All-weaker (λ l. Any (λ p. SameX l p.part.a ⊎ SameX l p.part.b) pieces) (λ l. Any (SameX l) (flat_map ends pieces)) (λ l h. any_flat (SameX l) ends pieces (any_weaker (λ p. SameX l p.part.a ⊎ SameX l p.part.b) (λ p. Any (SameX l) (ends p)) (λ p k. ⊎_elim (any_here (SameX l) p.part.a (p.part.b ∷ [])) (λ e. any_there (SameX l) p.part.a (p.part.b ∷ []) (any_here (SameX l) p.part.b [] e)) k) pieces h)) ls r.each;
  all = all_flat (λ x. Any (SameX x) ls) ends pieces (All-weaker (λ p. Any (SameX p.part.a) ls × Any (SameX p.part.b) ls) (λ p. All (λ x. Any (SameX x) ls) (ends p)) (λ p h. two (λ x. Any (SameX x) ls) p.part.a p.part.b h.0 h.1) pieces r.all);
}
