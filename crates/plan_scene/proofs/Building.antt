-- The sums are made in order by three loops: over the obstacles, over the triangles of one, and over those of the robot. What is put behind in one step is put behind after the steps before.
use Rattle.std.proofs.Common.{◌≡◌, ℕ, ◌+◌, ◌<◌, List, [], ◌∷◌, ◌++◌, append-nil, append_assoc, take, map, length, get_or, sym, ap, ap₂, ◌∙◌, subst}
use Rattle.std.specs.List.{AllZip, flat_map}
use Rattle.std.proofs.lemmas.Grind.{flat_map-append}
use Rattle.std.proofs.lemmas.List.{take_more, map-append}
use Rattle.plan_spec.specs.Sums.{Part, IsSum}
use Rattle.plan_plane.proofs.Lists.{zip_push}
use Rattle.plan_grid.specs.declared.frame.Frame.{Frame}
use Rattle.plan_grid.specs.declared.spot.Spot.{Spot}
use Rattle.plan_grid.specs.Spot.{spots_seen}
use Rattle.plan_convex.specs.Boxes.{IsBox}
use Rattle.plan_convex.specs.Piece.{sums_seen}
use Rattle.plan_scene.specs.Built.{AreSumsOf, Adds}
use Rattle.plan_scene.specs.declared.sums.Sums.{Sums}

-- ---- one more sum
pub pushed : (s t : Sums) (id : ℕ) (next : List Spot) (box : Frame) (p : Part) → t.list.items ≡ s.list.items ++ next ∷ [] → t.bounds.items ≡ s.bounds.items ++ box ∷ [] → t.owners.items ≡ s.owners.items ++ id ∷ []
    → IsBox next box → p.owner ≡ id → IsSum p (spots_seen next) → Adds (p ∷ []) s t
pushed s t id next box p e f g is_box own is_sum ps a = record {
  sums = subst (λ l. AllZip IsSum (ps ++ p ∷ []) (sums_seen l)) (sym e) (subst (AllZip IsSum (ps ++ p ∷ [])) (sym (map-append spots_seen s.list.items (next ∷ []))) (zip_push IsSum ps (sums_seen s.list.items) p (spots_seen next) a.sums is_sum));
  boxes = subst (λ l. AllZip IsBox l t.bounds.items) (sym e) (subst (AllZip IsBox (s.list.items ++ next ∷ [])) (sym f) (zip_push IsBox s.list.items s.bounds.items next box a.boxes is_box));
  owners = g ∙ ap₂ (λ xs x. xs ++ x ∷ []) a.owners (sym own) ∙ sym (map-append (λ p. p.owner) ps (p ∷ []));
}

-- ---- no step, and two steps
pub adds_none : (s : Sums) → Adds [] s s
adds_none s ps a = subst (λ l. AreSumsOf l s) (sym (append-nil ps)) a

pub adds_both : {qs rs : List Part} {s t u : Sums} → Adds qs s t → Adds rs t u → Adds (qs ++ rs) s u
adds_both {qs} {rs} {s} {t} {u} f g ps a = subst (λ l. AreSumsOf l u) (append_assoc ps qs rs) (g (ps ++ qs) (f ps a))

-- ---- a loop, by the elements that it has passed
pub mapped_step : {X Y : Type 0} (f : Y → Part) (g : X → Y) (xs : List X) (i : ℕ) (d : X) (s t u : Sums) → i < length xs → Adds (map f (map g (take i xs))) s t → Adds (f (g (get_or xs i d)) ∷ []) t u → Adds (map f (map g (take (i + 1) xs))) s u
mapped_step f g xs i d s t u lt a b =
    subst (λ l. Adds l s u) (sym (ap (λ l. map f (map g l)) (take_more xs i d lt) ∙ ap (map f) (map-append g (take i xs) (get_or xs i d ∷ [])) ∙ map-append f (map g (take i xs)) (g (get_or xs i d) ∷ []))) (adds_both a b)

one_more : {Y : Type 0} (f : Y → List Part) (ys : List Y) (y : Y) (s t u : Sums) → Adds (flat_map f ys) s t → Adds (f y) t u → Adds (flat_map f (ys ++ y ∷ [])) s u
one_more f ys y s t u a b = subst (λ l. Adds l s u) (sym (flat_map-append f ys (y ∷ []) ∙ ap (λ l. flat_map f ys ++ l) (append-nil (f y)))) (adds_both a b)

pub flat_mapped_step : {X Y : Type 0} (f : Y → List Part) (g : X → Y) (xs : List X) (i : ℕ) (d : X) (s t u : Sums) → i < length xs → Adds (flat_map f (map g (take i xs))) s t → Adds (f (g (get_or xs i d))) t u → Adds (flat_map f (map g (take (i + 1) xs))) s u
flat_mapped_step f g xs i d s t u lt a b =
    subst (λ l. Adds (flat_map f l) s u) (sym (ap (map g) (take_more xs i d lt) ∙ map-append g (take i xs) (get_or xs i d ∷ []))) (one_more f (map g (take i xs)) (g (get_or xs i d)) s t u a b)
