-- A polygon that is cut between two vertices, where the parts fit: its points and triangles are those of the two parts.
use Rattle.std.proofs.Common.{◌≡◌, Bool, true, false, List, [], ◌∷◌, refl, sym, ap, ap₂, subst, ◌∙◌, All, ◌⊎◌, inl, inr, Any, ◌++◌, pos, ◌<ℤ◌, length-append, Contains, get_or, arith}
use Rattle.std.proofs.lemmas.Bool.{true≢false}
use Rattle.std.proofs.lemmas.List.Elements.{All-nil, All-cons, All-append, All-contains, All-contains_itself, All-weaker}
use Rattle.plan_spec.specs.Parity.{over, parity, xor}
use Rattle.plan_spec.specs.Polygon.{edges, Inside}
use Rattle.plan_spec.specs.Segment.{segment, Segment, On}
use Rattle.plan_spec.specs.SimplePolygon.{InPolygon}
use Rattle.plan_spec.specs.Triangulation.{Triangle, corners}
use Rattle.plan_spec.specs.Vector.{Vector, IsPoint, Before, turn}
use Rattle.plan_plane.proofs.Lists.{no_one, all_left, all_right, any_left, any_joined, any_right}
use Rattle.plan_plane.proofs.Polygon.Cut.{whole, part_one, chain, edges_part, all_one, all_two}
use Rattle.plan_plane.proofs.Polygon.Edges.{edges_cut}
use Rattle.plan_plane.proofs.Segment.Decided.{Decided, on_decided}
use Rattle.plan_plane.proofs.Segment.Reversed.{on_reversed}
use Rattle.plan_plane.proofs.Segment.Whether.{any_on}
use Rattle.plan_cross.proofs.ParityLaw.Step.{over_reversed}
use Rattle.plan_poly.proofs.EvenOdd.Chains.{parity_append}
use Rattle.plan_tri.proofs.Region.Triangulated.{HasSide, Triangulated}

-- ---- parities
pub parities : (p : Vector) (xs : List Vector) (q : Vector) (ys : List Vector) (z : Vector) → parity (edges (whole p xs q ys)) z ≡ xor (parity (edges (part_one p xs q)) z) (parity (edges (part_one q ys p)) z)
parities p xs q ys z =
    let a = chain p xs q in
    let b = chain q ys p in
    let one = ap (λ ss. parity ss z) (edges_part p xs q) ∙ parity_append a (segment q p ∷ []) z in
    let two = ap (λ ss. parity ss z) (edges_part q ys p) ∙ parity_append b (segment p q ∷ []) z in
    ap (λ ss. parity ss z) (edges_cut p xs q ys)
    ∙ parity_append a b z
    ∙ twice (parity a z) (parity b z) (over (segment q p) z) (over (segment p q) z) (over_reversed q p z)
    ∙ sym (ap₂ xor one two)
  where
    by : (x y d : Bool) → xor x y ≡ xor (xor x (xor d false)) (xor y (xor d false))
    by true true true = refl
    by true true false = refl
    by true false true = refl
    by true false false = refl
    by false true true = refl
    by false true false = refl
    by false false true = refl
    by false false false = refl

    twice : (x y d e : Bool) → d ≡ e → xor x y ≡ xor (xor x (xor d false)) (xor y (xor e false))
    twice x y d e same = subst (λ e. xor x y ≡ xor (xor x (xor d false)) (xor y (xor e false))) same (by x y d)

-- ---- points of the edges
on_whole : (p : Vector) (xs : List Vector) (q : Vector) (ys : List Vector) (z : Vector) → All (λ s. ¬ (On s z)) (edges (whole p xs q ys)) → ¬ (On (segment p q) z) → All (λ s. ¬ (On s z)) (edges (part_one p xs q)) × All (λ s. ¬ (On s z)) (edges (part_one q ys p))
on_whole p xs q ys z off not_d =
    let P = λ (s : Segment). ¬ (On s z) in
    let h = subst (All P) (edges_cut p xs q ys) off in
    let a = all_left P (chain p xs q) (chain q ys p) h in
    let b = all_right P (chain p xs q) (chain q ys p) h in
    let not_e : ¬ (On (segment q p) z) = λ o. not_d (on_reversed q p z o) in (
      subst (All P) (sym (edges_part p xs q)) (All-append P (chain p xs q) (segment q p ∷ []) a (All-cons P (segment q p) [] not_e (All-nil P))),
      subst (All P) (sym (edges_part q ys p)) (All-append P (chain q ys p) (segment p q ∷ []) b (All-cons P (segment p q) [] not_d (All-nil P))),
    )

-- ---- what makes the parts fit: a point of the first is even in the second, off its edges, and the diagonal is held by the whole
pub record Fit (p : Vector) (xs : List Vector) (q : Vector) (ys : List Vector) : Type 0 where
  pub even : (z : Vector) → IsPoint z → InPolygon (part_one p xs q) z → All (λ s. ¬ (On s z)) (edges (part_one q ys p)) → parity (edges (part_one q ys p)) z ≡ false
  pub diagonal : (z : Vector) → IsPoint z → On (segment p q) z → InPolygon (whole p xs q ys) z

pub from_parts : (p : Vector) (xs : List Vector) (q : Vector) (ys : List Vector) → Fit p xs q ys → (z : Vector) → IsPoint z → InPolygon (part_one p xs q) z ⊎ InPolygon (part_one q ys p) z → InPolygon (whole p xs q ys) z
from_parts p xs q ys fit z hz m = by (any_on (edges (whole p xs q ys)) z) (on_decided (segment p q) z)
  where
    one : List Segment
    one = edges (part_one p xs q)

    two : List Segment
    two = edges (part_one q ys p)

    odd : (s t : Bool) → parity (edges (part_one p xs q)) z ≡ s → parity (edges (part_one q ys p)) z ≡ t → xor s t ≡ true → InPolygon (whole p xs q ys) z
    odd s t e f g = inr (parities p xs q ys z ∙ ap₂ xor e f ∙ g)

    off : All (λ s. ¬ (On s z)) (edges (part_one p xs q)) → All (λ s. ¬ (On s z)) (edges (part_one q ys p)) → InPolygon (part_one p xs q) z ⊎ InPolygon (part_one q ys p) z → (s : Bool) → parity (edges (part_one p xs q)) z ≡ s → InPolygon (whole p xs q ys) z
    off a b (inl (inl k)) s e = absurd (no_one (λ s. On s z) _ a k)
    off a b (inr (inl k)) s e = absurd (no_one (λ s. On s z) _ b k)
    off a b (inl (inr k)) s e = odd true false k (fit.even z hz (inr k) b) refl
    off a b (inr (inr k)) false e = odd false true e k refl
    off a b (inr (inr k)) true e = absurd (true≢false (sym k ∙ fit.even z hz (inr e) b))

    by : Any (λ s. On s z) (edges (whole p xs q ys)) ⊎ All (λ s. ¬ (On s z)) (edges (whole p xs q ys)) → Decided (On (segment p q) z) → InPolygon (whole p xs q ys) z
    by (inl k) d = inl k
    by (inr n) (inl o) = fit.diagonal z hz o
    by (inr n) (inr d) = let h = on_whole p xs q ys z n d in off h.0 h.1 m (parity (edges (part_one p xs q)) z) refl

pub to_parts : (p : Vector) (xs : List Vector) (q : Vector) (ys : List Vector) (z : Vector) → InPolygon (whole p xs q ys) z → InPolygon (part_one p xs q) z ⊎ InPolygon (part_one q ys p) z
to_parts p xs q ys z = by
  where
    -- an edge of the whole is one of a part
    on : Any (λ s. On s z) (chain p xs q ++ chain q ys p) → InPolygon (part_one p xs q) z ⊎ InPolygon (part_one q ys p) z
    on m = elim (any_joined (λ s. On s z) (chain p xs q) (chain q ys p) m) [
      | inl a ↦ inl (inl (subst (Any (λ s. On s z)) (sym (edges_part p xs q)) (any_left (λ s. On s z) (chain p xs q) (segment q p ∷ []) a)))
      | inr b ↦ inr (inl (subst (Any (λ s. On s z)) (sym (edges_part q ys p)) (any_left (λ s. On s z) (chain q ys p) (segment p q ∷ []) b)))
    ]

    odd : (s t : Bool) → parity (edges (part_one p xs q)) z ≡ s → parity (edges (part_one q ys p)) z ≡ t → xor s t ≡ true → InPolygon (part_one p xs q) z ⊎ InPolygon (part_one q ys p) z
    odd true t e f g = inl (inr e)
    odd false t e f g = inr (inr (f ∙ g))

    by : InPolygon (whole p xs q ys) z → InPolygon (part_one p xs q) z ⊎ InPolygon (part_one q ys p) z
    by (inl m) = on (subst (Any (λ s. On s z)) (edges_cut p xs q ys) m)
    by (inr h) = odd _ _ refl refl (sym (parities p xs q ys z) ∙ h)

-- ---- triangles
pub of_parts : (p : Vector) (xs : List Vector) (q : Vector) (ys : List Vector) (ts us : List Triangle) → Fit p xs q ys → Triangulated (part_one p xs q) ts → Triangulated (part_one q ys p) us → Triangulated (whole p xs q ys) (ts ++ us)
of_parts p xs q ys ts us fit d e = record {
  left = All-append (λ t. pos 0 <ℤ turn t.a t.b t.c) ts us d.left e.left;
  least = All-append (λ t. Before t.a t.b × Before t.a t.c) ts us d.least e.least;
  vertices = All-append (Corners (whole p xs q ys)) ts us (All-weaker (Corners (part_one p xs q)) (Corners (whole p xs q ys)) (λ t c. (one t.a c.0, one t.b c.1, one t.c c.2)) ts d.vertices) (All-weaker (Corners (part_one q ys p)) (Corners (whole p xs q ys)) (λ t c. (two t.a c.0, two t.b c.1, two t.c c.2)) us e.vertices);
  covered = subst (All (λ s. Any (HasSide s) (ts ++ us))) (sym (edges_cut p xs q ys)) (All-append (λ s. Any (HasSide s) (ts ++ us)) (chain p xs q) (chain q ys p)
      (λ k s below. any_left (HasSide (get_or (chain p xs q) k s)) ts us (cover_one k s below))
      (λ k s below. any_right (HasSide (get_or (chain q ys p) k s)) ts us (cover_two k s below)));
  within = All-append (Within (whole p xs q ys)) ts us (All-weaker (Within (part_one p xs q)) (Within (whole p xs q ys)) (λ t w z hz i. from_parts p xs q ys fit z hz (inl (w z hz i))) ts d.within) (All-weaker (Within (part_one q ys p)) (Within (whole p xs q ys)) (λ t w z hz i. from_parts p xs q ys fit z hz (inr (w z hz i))) us e.within);
  held = λ z hz m. elim (to_parts p xs q ys z m) [
    | inl a ↦ any_left (λ t. Inside (corners t) z) ts us (d.held z hz a)
    | inr b ↦ any_right (λ t. Inside (corners t) z) ts us (e.held z hz b)
  ];
  count = omega (arith, d.count, e.count, length-append ts us, length-append xs (q ∷ ys), length-append xs (q ∷ []), length-append ys (p ∷ []));
}
  where
    Corners : List Vector → Triangle → Type 0
    Corners vs t = Contains vs t.a × Contains vs t.b × Contains vs t.c

    Within : List Vector → Triangle → Type 0
    Within vs t = (z : Vector) → IsPoint z → Inside (corners t) z → InPolygon vs z

    one : (y : Vector) → Contains (part_one p xs q) y → Contains (whole p xs q ys) y
    one y = All-contains (Contains (whole p xs q ys)) (part_one p xs q) y (all_one (Contains (whole p xs q ys)) p xs q ys (All-contains_itself (whole p xs q ys)))

    two : (y : Vector) → Contains (part_one q ys p) y → Contains (whole p xs q ys) y
    two y = All-contains (Contains (whole p xs q ys)) (part_one q ys p) y (all_two (Contains (whole p xs q ys)) p xs q ys (All-contains_itself (whole p xs q ys)))

    cover_one : All (λ s. Any (HasSide s) ts) (chain p xs q)
    cover_one = all_left (λ s. Any (HasSide s) ts) (chain p xs q) (segment q p ∷ []) (subst (All (λ s. Any (HasSide s) ts)) (edges_part p xs q) d.covered)

    cover_two : All (λ s. Any (HasSide s) us) (chain q ys p)
    cover_two = all_left (λ s. Any (HasSide s) us) (chain q ys p) (segment p q ∷ []) (subst (All (λ s. Any (HasSide s) us)) (edges_part q ys p) e.covered)
