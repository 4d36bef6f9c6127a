-- A loop that takes the items of a list out one by one, and makes one thing of each.
use Rattle.std.proofs.Common.{◌≡◌, ℕ, ◌+◌, List, [], ◌∷◌, ◌++◌, suc, length, map, All, refl, sym, ap, subst, ◌∙◌, append_assoc, append-nil, arith}
use Rattle.std.proofs.lemmas.List.{length-map, map-append}
use Rattle.std.proofs.lemmas.List.Elements.{All-push}

nothing_left : {X : Type 0} (l : List X) → length l ≡ 0 → l ≡ []
nothing_left [] h = refl
nothing_left (x ∷ xs) h = absurd (omega arith)

-- each of these items is P, some are taken and some left, so many; what is made of those taken is Q, and is seen as they are
pub record Making {X Y Z : Type 0} (P : X → Type 0) (Q : Y → Type 0) (item_seen : X → Z) (thing_seen : Y → Z) (all taken left : List X) (count : ℕ) (made : List Y) : Type 0 where
  pub parts : taken ++ left ≡ all
  pub counted : count ≡ length left
  pub fit : All P left
  pub fits : All Q made
  pub seen : map thing_seen made ≡ map item_seen taken

module _ {X Y Z : Type 0} (P : X → Type 0) (Q : Y → Type 0) (item_seen : X → Z) (thing_seen : Y → Z) (all taken left : List X) (n : ℕ) (made : List Y) (so_far : Making P Q item_seen thing_seen all taken left n made) where
  pub next_fits : (x : X) (rest : List X) → left ≡ x ∷ rest → P x
  next_fits x rest is = subst (All P) is so_far.fit 0 x (omega arith)

  -- one more is taken, and a thing made of it
  pub one_more : (x : X) (rest : List X) (m : ℕ) (y : Y) (more : List Y) → (left ≡ x ∷ rest) × (m + 1 ≡ n) → more ≡ made ++ y ∷ [] → Q y → thing_seen y ≡ item_seen x → Making P Q item_seen thing_seen all (taken ++ x ∷ []) rest m more
  one_more x rest m y more (is, less) pushed fits same = record {
    parts = append_assoc taken (x ∷ []) rest ∙ rw (← is) so_far.parts;
    counted = let was = so_far.counted in let short = ap length is in omega arith;
    fit = (let all_left = subst (All P) is so_far.fit in λ k d within. all_left (suc k) d (omega arith));
    fits = subst (All Q) (sym pushed) (All-push Q made y so_far.fits fits);
    seen = ap (map thing_seen) pushed ∙ (map-append thing_seen made (y ∷ []) ∙ (ap (λ l. l ++ thing_seen y ∷ []) so_far.seen ∙ (ap (λ z. map item_seen taken ++ z ∷ []) same ∙ sym (map-append item_seen taken (x ∷ [])))));
  }

  -- none is left
  pub all_taken : n ≡ 0 → taken ≡ all
  all_taken none = sym (append-nil taken) ∙ rw (nothing_left left (sym so_far.counted ∙ none)) at so_far.parts

  pub all_seen : n ≡ 0 → map thing_seen made ≡ map item_seen all
  all_seen none = so_far.seen ∙ ap (map item_seen) (all_taken none)

  pub as_many : n ≡ 0 → length made ≡ length all
  as_many none = sym (length-map made thing_seen) ∙ (ap length (all_seen none) ∙ length-map all item_seen)
