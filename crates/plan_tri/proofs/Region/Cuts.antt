-- The triangles of a polygon after its first cut: those of what is left, with one cut fewer.
use Rattle.std.proofs.Common.{◌≡◌, ℕ, zero, suc, ◌<◌, ◌≤◌, List, [], ◌∷◌, ◌++◌, append_assoc, Result, Ok, Err, IfOk, length, refl, sym, ap, ◌∙◌, arith}
use Rattle.plan_spec.specs.Vector.{Vector}
use Rattle.plan_spec.specs.Triangulation.{Triangle, from_corner, from_least, triangles_within}
use Rattle.plan_tri.proofs.Region.Steps.{two_none}

pub few_none : (k : ℕ) (vs : List Vector) → length vs < 3 → triangles_within k vs ≡ []
few_none zero vs few = refl
few_none (suc k) [] few = refl
few_none (suc k) (v ∷ []) few = refl
few_none (suc k) (v ∷ (w ∷ [])) few = two_none (suc k) v w
few_none (suc k) (v ∷ (w ∷ (x ∷ xs))) few = absurd (omega arith)

-- what a list is made of, whatever more cuts than n are allowed
abbrev pub Adds : List Triangle → List Triangle → ℕ → List Vector → Type 0
Adds old new n vs = (k : ℕ) → n ≤ k → new ≡ old ++ triangles_within k vs

pub ear_adds : (old new : List Triangle) (n m : ℕ) (vs rest : List Vector) (t : Triangle) → 0 < n → m < n → ((f : List Vector → List Triangle) → from_corner f (from_least vs) ≡ t ∷ f rest) → Adds (old ++ t ∷ []) new m rest → Adds old new n vs
ear_adds old new n m vs rest t some less value h zero size = absurd (omega (arith, some, size))
ear_adds old new n m vs rest t some less value h (suc k) size =
    h k (omega (arith, less, size)) ∙ append_assoc old (t ∷ []) (triangles_within k rest) ∙ ap (λ ts. old ++ ts) (sym (value (triangles_within k)))

pub parts_add : (old between new : List Triangle) (n m l : ℕ) (vs first second : List Vector) → 0 < n → m < n → l < n → ((f : List Vector → List Triangle) → from_corner f (from_least vs) ≡ f first ++ f second) → Adds old between m first → Adds between new l second → Adds old new n vs
parts_add old between new n m l vs first second some less_m less_l value h i zero size = absurd (omega (arith, some, size))
parts_add old between new n m l vs first second some less_m less_l value h i (suc k) size =
    i k (omega (arith, less_l, size)) ∙ ap (λ ts. ts ++ triangles_within k second) (h k (omega (arith, less_m, size))) ∙ append_assoc old (triangles_within k first) (triangles_within k second) ∙ ap (λ ts. old ++ ts) (sym (value (triangles_within k)))

-- ---- an answer that says more
pub ok_more : {X E : Type 0} (r : Result X E) (P Q : X → Type 0) → ((x : X) → P x → Q x) → IfOk r P → IfOk r Q
ok_more (Ok x) P Q f h = f x h
ok_more (Err e) P Q f h = h
