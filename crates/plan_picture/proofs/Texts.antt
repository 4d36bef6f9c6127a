-- The texts of shapes that are put one after another.
use Rattle.std.proofs.Common.{◌≡◌, ℕ, List, [], ◌∷◌, ◌++◌, sym, ap, ◌∙◌, append-nil}
use Rattle.std.proofs.lemmas.Grind.{flat_map-append}
use Rattle.plan_svg.specs.Shapes.{Shape, shape_text, shapes_text}
use Rattle.plan_svg.proofs.Puts.{put_two, put_four}

both : (a b : List Shape) → shapes_text (a ++ b) ≡ shapes_text a ++ shapes_text b
both a b = flat_map-append shape_text a b

-- shapes, and one more
with_one : (a : List Shape) (e : Shape) → shapes_text (a ++ e ∷ []) ≡ shapes_text a ++ shape_text e
with_one a e = both a (e ∷ []) ∙ ap (λ l. shapes_text a ++ l) (append-nil (shape_text e))

-- two lists of shapes, and one more
pub two_and_one : (a b : List Shape) (e : Shape) → shapes_text a ++ shapes_text b ++ shape_text e ≡ shapes_text (a ++ b ++ e ∷ [])
two_and_one a b e = sym (with_one (a ++ b) e ∙ ap (λ l. l ++ shape_text e) (both a b))

-- four lists of shapes, and one more
four_and_one : (a b c d : List Shape) (e : Shape) → shapes_text a ++ shapes_text b ++ shapes_text c ++ shapes_text d ++ shape_text e ≡ shapes_text (a ++ b ++ c ++ d ++ e ∷ [])
four_and_one a b c d e =
    sym (with_one (a ++ b ++ c ++ d) e ∙ ap (λ l. l ++ shape_text e) (both (a ++ b ++ c) d ∙ ap (λ l. l ++ shapes_text d) (both (a ++ b) c ∙ ap (λ l. l ++ shapes_text c) (both a b))))

-- between a head and a tail
pub page_put : (head tail : List ℕ) (a b c d : List Shape) (e : Shape) (o p q r s t u : List ℕ)
    → o ≡ head → p ≡ o ++ shapes_text a → q ≡ p ++ shapes_text b → r ≡ q ++ shapes_text c → s ≡ r ++ shapes_text d → t ≡ s ++ shape_text e → u ≡ t ++ tail
    → u ≡ head ++ (shapes_text (a ++ b ++ c ++ d ++ e ∷ []) ++ tail)
page_put head tail a b c d e o p q r s t u begun put_a put_b put_c put_d put_e ended =
    let all = shapes_text a ++ shapes_text b ++ shapes_text c ++ shapes_text d in
    put_two o (all ++ shape_text e) tail t u (put_two o all (shape_text e) s t (put_four o (shapes_text a) (shapes_text b) (shapes_text c) (shapes_text d) p q r s put_a put_b put_c put_d) put_e) ended
    ∙ ap (λ l. l ++ ((all ++ shape_text e) ++ tail)) begun ∙ ap (λ l. head ++ (l ++ tail)) (four_and_one a b c d e)
