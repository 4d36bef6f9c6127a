-- The part of a list at the best of its wanted vertices, for any order of points by a test.
use Rattle.std.proofs.Common.{◌≡◌, false, Bool, true, refl, List, ◌∷◌, ◌++◌, All, Option, Some, None, cond, [], get_or, sym, ap, subst, ◌∙◌}
use Rattle.std.proofs.lemmas.Bool.{true≢false}
use Rattle.std.proofs.lemmas.List.Elements.{All-cons, All-head, All-nil, All-tail}
use Rattle.plan_spec.specs.Triangulation.{Parted, earlier, part_at_best}
use Rattle.plan_spec.specs.Vector.{Vector, IsPoint}
use Rattle.plan_plane.proofs.Lists.{all_right}

-- ---- an order of points by a test
pub record IsOrder (better : Vector → Vector → Bool) : Type 0 where
  pub one_way : (x y : Vector) → IsPoint x → IsPoint y → better x y ≡ true → better y x ≡ false
  pub through : (x y z : Vector) → IsPoint x → IsPoint y → IsPoint z → better y x ≡ false → better x z ≡ false → better y z ≡ false

itself : {better : Vector → Vector → Bool} → IsOrder better → (x : Vector) → IsPoint x → better x x ≡ false
itself {better} o x hx = by (better x x) refl
  where
    by : (t : Bool) → better x x ≡ t → better x x ≡ false
    by false e = e
    by true e = o.one_way x x hx hx e

-- ---- the best
pub record Found (wanted : Vector → Bool) (better : Vector → Vector → Bool) (xs : List Vector) (p : Parted) : Type 0 where
  pub parts : xs ≡ p.before ++ p.at ∷ p.after
  pub is_wanted : wanted p.at ≡ true
  pub best : All (λ y. wanted y ≡ true → better y p.at ≡ false) xs

abbrev pub IsBest : (Vector → Bool) → (Vector → Vector → Bool) → List Vector → Option Parted → Type 0
IsBest wanted better xs None = All (λ y. wanted y ≡ false) xs
IsBest wanted better xs (Some p) = Found wanted better xs p

abbrev pub AtMost : (Vector → Bool) → (Vector → Vector → Bool) → Vector → Vector → Type 0
AtMost wanted better z y = wanted y ≡ true → better y z ≡ false

one_more : (wanted : Vector → Bool) (better : Vector → Vector → Bool) → IsOrder better → (x : Vector) (xs : List Vector) → IsPoint x → All IsPoint xs → (t : Bool) → wanted x ≡ t → (r : Option Parted) → IsBest wanted better xs r → IsBest wanted better (x ∷ xs) (earlier t better x xs r)
one_more wanted better o x xs hx hs true e None h = record {
  parts = refl;
  is_wanted = e;
  best = All-cons (AtMost wanted better x) x xs (λ w. itself o x hx) (λ k d within w. absurd (true≢false (sym w ∙ h k d within)));
}
one_more wanted better o x xs hx hs false e None h = All-cons (λ y. wanted y ≡ false) x xs e h
one_more wanted better o x xs hx hs false e (Some p) h = record {
  parts = ap (λ ys. x ∷ ys) h.parts;
  is_wanted = h.is_wanted;
  best = All-cons (AtMost wanted better p.at) x xs (λ w. absurd (true≢false (sym w ∙ e))) h.best;
}
one_more wanted better o x xs hx hs true e (Some p) h = by (better p.at x) refl
  where
    hp : IsPoint p.at
    hp = All-head IsPoint p.at p.after (all_right IsPoint p.before (p.at ∷ p.after) (subst (All IsPoint) h.parts hs))

    by : (b : Bool) → better p.at x ≡ b → IsBest wanted better (x ∷ xs) (cond b (Some (record { before = x ∷ p.before; at = p.at; after = p.after })) (Some (record { before = []; at = x; after = xs })))
    by true f = record {
      parts = ap (λ ys. x ∷ ys) h.parts;
      is_wanted = h.is_wanted;
      best = All-cons (AtMost wanted better p.at) x xs (λ w. o.one_way p.at x hp hx f) h.best;
    }
    by false f = record {
      parts = refl;
      is_wanted = e;
      best = All-cons (AtMost wanted better x) x xs (λ w. itself o x hx) (λ k d within w. o.through p.at (get_or xs k d) x hp (hs k d within) hx (h.best k d within w) f);
    }

pub best : (wanted : Vector → Bool) (better : Vector → Vector → Bool) → IsOrder better → (xs : List Vector) → All IsPoint xs → IsBest wanted better xs (part_at_best wanted better xs)
best wanted better o [] hs = All-nil (λ y. wanted y ≡ false)
best wanted better o (x ∷ xs) hs =
    let tail = All-tail IsPoint x xs hs in
    one_more wanted better o x xs (All-head IsPoint x xs hs) tail (wanted x) refl (part_at_best wanted better xs) (best wanted better o xs tail)
