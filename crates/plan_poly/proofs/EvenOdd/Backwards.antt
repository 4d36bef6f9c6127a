-- A polygon that is read the other way round has its edges in the other order with their ends exchanged, so it holds the same points.
use Rattle.std.proofs.Common.{List, [], ◌∷◌, ◌++◌, ◌≡◌, refl, ap, ◌∙◌, sym, ap₂, inl, inr, ℕ, zero, suc, ◌<◌, Any, get_or, subst, arith, All}
use Rattle.std.proofs.lemmas.List.Elements.{All-nil, All-cons, All-head, All-tail, All-append}
use Rattle.plan_spec.specs.Parity.{over, parity, xor}
use Rattle.plan_spec.specs.Polygon.{edges}
use Rattle.plan_spec.specs.Route.{segments_from}
use Rattle.plan_spec.specs.Segment.{Segment, segment, On}
use Rattle.plan_spec.specs.SimplePolygon.{InPolygon}
use Rattle.plan_spec.specs.Vector.{Vector}
use Rattle.plan_plane.proofs.Lists.{any_here, any_there, any_joined, all_left, all_right}
use Rattle.plan_plane.proofs.Backwards.{back}
use Rattle.plan_plane.proofs.Polygon.Corner.{chain_more}
use Rattle.plan_plane.proofs.Polygon.Edges.{edges_is}
use Rattle.plan_plane.proofs.Segment.Reversed.{on_reversed}
use Rattle.plan_cross.proofs.ParityLaw.Step.{over_reversed}
use Rattle.plan_cross.proofs.ParityLaw.Xor.{xor_comm, xor_false}
use Rattle.plan_poly.proofs.EvenOdd.Chains.{parity_append}

-- ---- segments the other way
abbrev pub turned : Segment → Segment
turned s = segment s.b s.a

abbrev pub rev : List Segment → List Segment
rev [] = []
rev (s ∷ ss) = rev ss ++ turned s ∷ []

segments_back : (a : Vector) (vs : List Vector) (f : Vector) → segments_from f (back vs ++ a ∷ []) ≡ rev (segments_from a (vs ++ f ∷ []))
segments_back a [] f = refl
segments_back a (b ∷ vs) f = chain_more f (back vs) b a ∙ ap (λ ss. ss ++ segment b a ∷ []) (segments_back b vs f)

pub edges_back : (v : Vector) (vs : List Vector) → edges (v ∷ back vs) ≡ rev (edges (v ∷ vs))
edges_back v vs = edges_is v (back vs) ∙ segments_back v vs v ∙ ap rev (sym (edges_is v vs))

parity_rev : (ss : List Segment) (z : Vector) → parity (rev ss) z ≡ parity ss z
parity_rev [] z = refl
parity_rev (s ∷ ss) z =
    parity_append (rev ss) (turned s ∷ []) z
    ∙ ap₂ xor (parity_rev ss z) (xor_false (over (turned s) z) ∙ over_reversed s.b s.a z)
    ∙ xor_comm (parity ss z) (over s z)

any_rev : (z : Vector) (ss : List Segment) → Any (λ s. On s z) (rev ss) → Any (λ s. On s z) ss
any_rev z [] m = m
any_rev z (s ∷ ss) m = elim (any_joined (λ s. On s z) (rev ss) (turned s ∷ []) m) [
  | inl a ↦ any_there (λ s. On s z) s ss (any_rev z ss a)
  | inr b ↦ any_here (λ s. On s z) s ss (on_reversed s.b s.a z (All-one b))
]
  where
    All-one : Any (λ s. On s z) (turned s ∷ []) → On (turned s) z
    All-one b = only b.0 b.1 b.2 b.3 b.4
      where
        only : (k : ℕ) (t : Segment) → k < 1 → get_or (turned s ∷ []) k t ≡ t → On t z → On (turned s) z
        only zero t within e o = subst (λ t. On t z) (sym e) o
        only (suc k) t within e o = absurd (omega arith)

pub all_rev : (P Q : Segment → Type 0) → ((s : Segment) → P s → Q (turned s)) → (ss : List Segment) → All P ss → All Q (rev ss)
all_rev P Q f [] h = All-nil Q
all_rev P Q f (s ∷ ss) h = All-append Q (rev ss) (turned s ∷ []) (all_rev P Q f ss (All-tail P s ss h)) (All-cons Q (turned s) [] (f s (All-head P s ss h)) (All-nil Q))

pub all_from_rev : (Q : Segment → Type 0) (ss : List Segment) → All Q (rev ss) → All (λ s. Q (turned s)) ss
all_from_rev Q [] h = All-nil (λ s. Q (turned s))
all_from_rev Q (s ∷ ss) h = All-cons (λ s. Q (turned s)) s ss (All-head Q (turned s) [] (all_right Q (rev ss) (turned s ∷ []) h)) (all_from_rev Q ss (all_left Q (rev ss) (turned s ∷ []) h))

pub in_polygon_back : (v : Vector) (vs : List Vector) (z : Vector) → InPolygon (v ∷ back vs) z → InPolygon (v ∷ vs) z
in_polygon_back v vs z (inl m) = inl (any_rev z (edges (v ∷ vs)) (subst (Any (λ s. On s z)) (edges_back v vs) m))
in_polygon_back v vs z (inr odd) = inr (sym (parity_rev (edges (v ∷ vs)) z) ∙ sym (ap (λ ss. parity ss z) (edges_back v vs)) ∙ odd)
