-- What is kept of a list: it has what passes, in its order; and it is made one element, or one part, after another.
use Rattle.std.proofs.Common.{inl, inr, ℕ, List, [], ◌∷◌, ◌++◌, All, Any}
use Rattle.std.specs.List.{AllZip, flat_map}
use Rattle.std.proofs.lemmas.List.Elements.{All-nil, All-cons, All-head, All-tail}
use Rattle.plan_spec.specs.Regions.{Kept, none, keep, drop}
use Rattle.plan_plane.proofs.Lists.{any_here, any_there, any_none, any_cases}
use Rattle.plan_plane.proofs.Pairs.{Pairs}

pub kept_all : {X : Type 0} {P : X → Type 0} (Q : X → Type 0) {xs ys : List X} → Kept P xs ys → All Q xs → All Q ys
kept_all Q none h = All-nil Q
kept_all Q (keep a xs ys p rest) h = All-cons Q a ys (All-head Q a xs h) (kept_all Q rest (All-tail Q a xs h))
kept_all Q (drop a xs ys off rest) h = kept_all Q rest (All-tail Q a xs h)

pub kept_has : {X : Type 0} {P : X → Type 0} {xs ys : List X} → Kept P xs ys → All P ys
kept_has {P = P} none = All-nil P
kept_has {P = P} (keep a xs ys p rest) = All-cons P a ys p (kept_has rest)
kept_has (drop a xs ys off rest) = kept_has rest

pub kept_any : {X : Type 0} {P : X → Type 0} (Q : X → Type 0) {xs ys : List X} → Kept P xs ys → Any (λ x. Q x × P x) xs → Any Q ys
kept_any {P = P} Q none h = absurd (any_none (λ x. Q x × P x) h)
kept_any {P = P} Q (keep a xs ys p rest) h = elim (any_cases (λ x. Q x × P x) a xs h) [
  | inl q ↦ any_here Q a ys q.0
  | inr t ↦ any_there Q a ys (kept_any Q rest t)
]
kept_any {P = P} Q (drop a xs ys off rest) h = elim (any_cases (λ x. Q x × P x) a xs h) [
  | inl q ↦ absurd (off q.1)
  | inr t ↦ kept_any Q rest t
]

pub kept_pairs : {X : Type 0} {P : X → Type 0} (R : X → X → Type 0) {xs ys : List X} → Kept P xs ys → Pairs R xs → Pairs R ys
kept_pairs R none h = tt
kept_pairs R (keep a xs ys p rest) h = (kept_all (R a) rest h.0, kept_pairs R rest h.1)
kept_pairs R (drop a xs ys off rest) h = kept_pairs R rest h.1

-- ---- made one after another
pub kept_append : {X : Type 0} {P : X → Type 0} {xs ys us vs : List X} → Kept P xs ys → Kept P us vs → Kept P (xs ++ us) (ys ++ vs)
kept_append none k = k
kept_append {us = us} {vs} (keep a xs ys p rest) k = keep a (xs ++ us) (ys ++ vs) p (kept_append rest k)
kept_append {us = us} {vs} (drop a xs ys off rest) k = drop a (xs ++ us) (ys ++ vs) off (kept_append rest k)

pub kept_more : {X : Type 0} {P : X → Type 0} {xs ys : List X} (x : X) → Kept P xs ys → P x → Kept P (xs ++ x ∷ []) (ys ++ x ∷ [])
kept_more x h p = kept_append h (keep x [] [] p none)

-- part by part, each part of a list that a number gives
pub kept_parts : {X : Type 0} (P : X → Type 0) (f : ℕ → List X) (ks : List ℕ) (parts : List (List X)) → AllZip (λ k ys. Kept P (f k) ys) ks parts → Kept P (flat_map f ks) (flat_map (λ ys. ys) parts)
kept_parts P f [] [] h = none
kept_parts P f [] (ys ∷ parts) h = absurd h
kept_parts P f (k ∷ ks) [] h = absurd h
kept_parts P f (k ∷ ks) (ys ∷ parts) h = kept_append h.0 (kept_parts P f ks parts h.1)
