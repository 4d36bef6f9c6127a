-- What is known of the obstacles of a document, by their ids and spots.
use Rattle.std.proofs.Common.{◌≡◌, ◌≤◌, List, [], ◌∷◌, length, map, All, sym, ap, subst, ◌∙◌}
use Rattle.std.proofs.lemmas.List.{length-map}
use Rattle.std.proofs.lemmas.List.Elements.{All-nil, All-cons, All-map}
use Rattle.plan_plane.proofs.Lists.{all_map}
use Rattle.plan_poly.specs.Polygon.{IsSimpleList}
use Rattle.plan_scene.specs.Scene.{Scene, Obstacle}
use Rattle.plan_wire.specs.Bounds.{AtMost, IdFits, ShapeFits, SpotsFit}
use Rattle.plan_wire.specs.Documents.{most_bytes}
use Rattle.plan_wire.specs.declared.documents.Shape.{Shape}
use Rattle.plan_reply.specs.First.{IsAddedAll, IsFirst}
use Rattle.plan_top.specs.First.{obstacle_of}

-- ---- copies
abbrev Fits : Obstacle → Type 0
Fits o = IdFits o.id × SpotsFit 32 o.spots

-- copies of what fits fit
pub copies_fit : (copies os : List Shape) → map obstacle_of copies ≡ map obstacle_of os → AtMost most_bytes ShapeFits os → AtMost most_bytes ShapeFits copies
copies_fit copies os e h = record {
  few = subst (λ n. n ≤ most_bytes) (sym (length-map os obstacle_of) ∙ ap length (sym e) ∙ length-map copies obstacle_of) h.few;
  each = λ k d within. let f = all_map Fits obstacle_of copies (subst (All Fits) (sym e) seen) k d within in record { id = f.0; spots = f.1 };
}
  where
    seen : All Fits (map obstacle_of os)
    seen = All-map Fits obstacle_of os (λ k d within. let f = h.each k d within in (f.id, f.spots))

-- ---- the first scene
added_simple : (os : List Obstacle) (s t : Scene) → IsAddedAll os s t → All (λ o. IsSimpleList o.spots) os
added_simple [] s t h = All-nil (λ o. IsSimpleList o.spots)
added_simple (o ∷ os) s t (next, (_, _, _, kept, read, _), rest) = All-cons (λ o. IsSimpleList o.spots) o os read.given_simple (added_simple os next t rest)

-- each obstacle of a document whose first scene is made is a simple polygon
pub all_simple : (given first : Scene) (os : List Shape) → given.obstacles ≡ map obstacle_of os → IsFirst given first → All (λ o. IsSimpleList o.spots.items) os
all_simple given first os e ((alone, _, all), _) = all_map (λ o. IsSimpleList o.spots) obstacle_of os (subst (All (λ o. IsSimpleList o.spots)) e (added_simple given.obstacles alone first all))
