-- What a sum covers of an edge, and what the sums so far cover: one sum more covers what it covers itself.
use Rattle.std.proofs.Common.{◌≡◌, ◌↔◌, ◌⊎◌, inl, inr, ⊎_elim, ℕ, suc, ◌+◌, ◌*◌, ◌<◌, ◌≤◌, pos, ◌*ℤ◌, ◌<ℤ◌, Bool, ◌||◌, Decides, List, [], ◌∷◌, ◌++◌, length, get_or, All, Any, sym, ◌∙◌, subst, eq-or-lt_of_le, arith}
use Rattle.std.proofs.lemmas.Int.{ints}
use Rattle.std.proofs.lemmas.List.Elements.{All-push, All-weaker}
use Rattle.std.proofs.lemmas.Bool.Decides.{Decides-like, Decides-or}
use Rattle.std.proofs.lemmas.List.{length-map, get_or-map}
use Rattle.plan_exact.specs.Vectors.{Vector}
use Rattle.plan_exact.proofs.Laws.{linear}
use Rattle.plan_exact.proofs.Signs.{le_of_lt}
use Rattle.plan_spec.specs.Vector.{IsPoint}
use Rattle.plan_spec.specs.Polygon.{Inside, OnOrLeft, edges}
use Rattle.plan_spec.specs.Boundary.{IsLeft, StrictlyInside}
use Rattle.plan_spec.specs.Weights.{Weights, IsWeights, IsInner, weighted}
use Rattle.plan_plane.proofs.Lists.{any_here, any_none, any_left, any_right, any_joined, any_cases}
use Rattle.plan_plane.proofs.Segment.Between.{on, between_first, between_second}
use Rattle.plan_plane.proofs.Segment.Combination.{on_combination}
use Rattle.plan_plane.proofs.Segment.Weights.{weights_point}
use Rattle.plan_grid.specs.declared.spot.Spot.{Spot}
use Rattle.plan_grid.specs.Spot.{spots_seen}
use Rattle.plan_convex.specs.declared.clip.Span.{Span}
use Rattle.plan_convex.specs.declared.part.Part.{Part}
use Rattle.plan_convex.specs.Parameter.{IsShare, IsParameter, fraction_at}
use Rattle.plan_convex.specs.Part.{InOpen}
use Rattle.plan_convex.specs.Piece.{sums_seen}
use Rattle.plan_convex.specs.Span.{start, finish, IsSpanOf, IsOutside, IsProper}
use Rattle.plan_bound.specs.Cover.{IsCoverOf}
use Rattle.plan_bound.specs.Edge.{AreCovered, Covered}
use Rattle.plan_bound.specs.Gaps.{IsOpenPart}

pub strictly_held : (vs : List Vector) (z : Vector) → StrictlyInside vs z → Inside vs z
strictly_held vs z h = All-weaker (IsLeft z) (OnOrLeft z) (λ s k. le_of_lt k) (edges vs) h

-- ---- one sum
products_less : (a b c d : ℕ) → a * d < b * c → (pos a *ℤ pos d) <ℤ (pos b *ℤ pos c)
products_less a b c d h = omega (arith, ints, h)

pub cover_of_span : (a b : Vector) (vs : List Vector) (c : Span) → IsProper c → IsParameter (start c) → IsParameter (finish c) → IsSpanOf a b vs c → IsCoverOf a b vs (record { from = start c; to = finish c })
cover_of_span a b vs c h hf ht is = record {
  from = hf.share;
  to = ht.share;
  proper = record { from = hf.share.positive; to = ht.share.positive; less = products_less c.n0 c.n1 c.d0 c.d1 h.less };
  exact = is;
}

-- ---- the first sums
-- one of them has it
abbrev pub OneOf : List (List Spot) → ℕ → (List Vector → Type 0) → Type 0
OneOf sums i P = (k : ℕ) × (k < i) × P (spots_seen (get_or sums k []))

pub one_more : (sums : List (List Spot)) (i : ℕ) (P : List Vector → Type 0) → OneOf sums (i + 1) P ↔ (OneOf sums i P ⊎ P (spots_seen (get_or sums i [])))
one_more sums i P = (into, out)
  where
    into : OneOf sums (i + 1) P → OneOf sums i P ⊎ P (spots_seen (get_or sums i []))
    into (k, less, h) = by (eq-or-lt_of_le below)
      where
        below : suc k ≤ suc i
        below = omega (arith, less)

        by : (suc k ≡ suc i) ⊎ (suc k < suc i) → OneOf sums i P ⊎ P (spots_seen (get_or sums i []))
        by (inl e) = let same : k ≡ i = omega (arith, e) in inr (subst (λ (j : ℕ). P (spots_seen (get_or sums j []))) same h)
        by (inr l) = inl (k, omega (arith, l), h)

    out : OneOf sums i P ⊎ P (spots_seen (get_or sums i [])) → OneOf sums (i + 1) P
    out (inl (k, less, h)) = (k, omega (arith, less), h)
    out (inr h) = (i, omega arith, h)

pub one_of_all : (sums : List (List Spot)) (i : ℕ) (P : List Vector → Type 0) → i ≡ length sums → OneOf sums i P ↔ Any P (sums_seen sums)
one_of_all sums i P e = (into, out)
  where
    into : OneOf sums i P → Any P (sums_seen sums)
    into (k, less, h) = (k, spots_seen (get_or sums k []), omega (arith, less, e, length-map sums spots_seen), get_or-map spots_seen sums k [] (spots_seen (get_or sums k [])) (omega (arith, less, e)), h)

    out : Any P (sums_seen sums) → OneOf sums i P
    out (k, vs, within, is, h) = (k, omega (arith, within, e, length-map sums spots_seen), subst P (sym is ∙ get_or-map spots_seen sums k [] vs (omega (arith, within, length-map sums spots_seen))) h)

-- ---- what the first sums cover
pub record CoverSoFar (sums : List (List Spot)) (a b : Vector) (i : ℕ) (parts : List Part) (first last : Bool) : Type 0 where
  pub shares : All (λ p. IsShare p.from × IsShare p.to) parts
  pub proper : All IsOpenPart parts
  pub exact : (z : Weights) → IsInner z → OneOf sums i (λ vs. StrictlyInside vs (weighted a b z)) ↔ Any (λ p. InOpen p (fraction_at z)) parts
  pub covers_first : Decides first (OneOf sums i (λ vs. StrictlyInside vs a))
  pub covers_last : Decides last (OneOf sums i (λ vs. StrictlyInside vs b))

-- a sum that covers nothing
still : (sums : List (List Spot)) (i : ℕ) (P : List Vector → Type 0) → ¬ (P (spots_seen (get_or sums i []))) → OneOf sums i P ↔ OneOf sums (i + 1) P
still sums i P off = let m = one_more sums i P in (λ h. m.1 (inl h), λ h. ⊎_elim (λ k. k) (λ k. absurd (off k)) (m.0 h))

pub outside_so_far : (sums : List (List Spot)) (a b : Vector) (i : ℕ) (parts : List Part) (first last : Bool) → IsPoint a → IsPoint b → CoverSoFar sums a b i parts first last → IsOutside a b (spots_seen (get_or sums i [])) → CoverSoFar sums a b (i + 1) parts first last
outside_so_far sums a b i parts first last ha hb h out = record {
  shares = h.shares;
  proper = h.proper;
  exact = λ z inner. let s = still sums i (λ vs. StrictlyInside vs (weighted a b z)) (off z inner) in let e = h.exact z inner in (λ k. e.0 (s.1 k), λ k. s.0 (e.1 k));
  covers_first = let s = still sums i (λ vs. StrictlyInside vs a) (out a ha (on (between_first a b ha))) in Decides-like first s.0 s.1 h.covers_first;
  covers_last = let s = still sums i (λ vs. StrictlyInside vs b) (out b hb (on (between_second a b hb))) in Decides-like last s.0 s.1 h.covers_last;
}
  where
    off : (z : Weights) → IsInner z → ¬ (StrictlyInside (spots_seen (get_or sums i [])) (weighted a b z))
    off z inner =
        let w : IsWeights z = record { first = le_of_lt inner.0; second = le_of_lt inner.1; some = omega (arith, linear, inner.0, inner.1) } in
        out (weighted a b z) (weights_point a b z ha hb w) (on_combination z.s z.t a b w.first w.second)

-- a sum that covers a part
any_push : {X : Type 0} (P : X → Type 0) (xs : List X) (x : X) → Any P (xs ++ x ∷ []) ↔ (Any P xs ⊎ P x)
any_push P xs x = (
  λ h. ⊎_elim inl (λ k. ⊎_elim inr (λ n. absurd (any_none P n)) (any_cases P x [] k)) (any_joined P xs (x ∷ []) h),
  λ h. ⊎_elim (any_left P xs (x ∷ [])) (λ k. any_right P xs (x ∷ []) (any_here P x [] k)) h,
)

pub covered_so_far : (sums : List (List Spot)) (a b : Vector) (i : ℕ) (parts : List Part) (p : Part) (first last fa lb : Bool) → CoverSoFar sums a b i parts first last → IsCoverOf a b (spots_seen (get_or sums i [])) p
    → Decides fa (StrictlyInside (spots_seen (get_or sums i [])) a) → Decides lb (StrictlyInside (spots_seen (get_or sums i [])) b) → CoverSoFar sums a b (i + 1) (parts ++ p ∷ []) (first || fa) (last || lb)
covered_so_far sums a b i parts p first last fa lb h c da db = record {
  shares = All-push (λ p. IsShare p.from × IsShare p.to) parts p h.shares (c.from, c.to);
  proper = All-push IsOpenPart parts p h.proper c.proper;
  exact = λ z inner.
      let m = one_more sums i (λ vs. StrictlyInside vs (weighted a b z)) in
      let e = h.exact z inner in
      let q = any_push (λ p. InOpen p (fraction_at z)) parts p in
      let here = c.exact z inner in
      (λ k. q.1 (⊎_elim (λ l. inl (e.0 l)) (λ l. inr (here.0 l)) (m.0 k)), λ k. m.1 (⊎_elim (λ l. inl (e.1 l)) (λ l. inr (here.1 l)) (q.0 k)));
  covers_first = let m = one_more sums i (λ vs. StrictlyInside vs a) in Decides-like (first || fa) m.1 m.0 (Decides-or first fa h.covers_first da);
  covers_last = let m = one_more sums i (λ vs. StrictlyInside vs b) in Decides-like (last || lb) m.1 m.0 (Decides-or last lb h.covers_last db);
}

pub so_far_all : (sums : List (List Spot)) (a b : Vector) (i : ℕ) (parts : List Part) (first last : Bool) → i ≡ length sums → CoverSoFar sums a b i parts first last
    → AreCovered (sums_seen sums) a b parts × Decides first (Covered (sums_seen sums) a) × Decides last (Covered (sums_seen sums) b)
so_far_all sums a b i parts first last e h = (
  record {
    shares = h.shares;
    proper = h.proper;
    exact = λ z inner. let o = one_of_all sums i (λ vs. StrictlyInside vs (weighted a b z)) e in let x = h.exact z inner in (λ k. x.0 (o.1 k), λ k. o.0 (x.1 k));
  },
  let o = one_of_all sums i (λ vs. StrictlyInside vs a) e in Decides-like first o.0 o.1 h.covers_first,
  let o = one_of_all sums i (λ vs. StrictlyInside vs b) e in Decides-like last o.0 o.1 h.covers_last,
)
