-- The next id is put behind those before it.
use Rattle.std.proofs.Common.{◌≡◌, ℕ, ◌+◌, ◌<◌, ◌≤◌, List, ◌∷◌, ◌++◌, length, map, drop, get_or, ap, ap₂, sym, subst, ◌∙◌, append_assoc, append-nil}
use Rattle.std.proofs.lemmas.List.{drop_more, drop_all}
use Rattle.plan_spec.specs.Vector.{Vector}
use Rattle.plan_svg.specs.Shapes.{shape_text, shapes_text}
use Rattle.plan_wire.specs.declared.documents.Shape.{Shape}
use Rattle.plan_top.specs.First.{obstacle_of}
use Rattle.plan_picture.specs.Floor.{name_shape, name_shapes}
use Rattle.plan_picture.proofs.ground.put_names.Goals as goal

abbrev names : List Shape → List Vector → List ℕ
names os ps = shapes_text (name_shapes (map obstacle_of os) ps)

names_next : (out next begun : List ℕ) (os : List Shape) (ps : List Vector) (i : ℕ) (o : Shape) (p : Vector) → i < length os → i < length ps → o ≡ get_or os i o → p ≡ get_or ps i p
    → next ≡ out ++ shape_text (name_shape o.id p) → out ++ names (drop i os) (drop i ps) ≡ begun → next ++ names (drop (i + 1) os) (drop (i + 1) ps) ≡ begun
names_next out next begun os ps i o p a b is_o is_p put h =
    ap (λ l. l ++ names (drop (i + 1) os) (drop (i + 1) ps)) put
    ∙ append_assoc out (shape_text (name_shape o.id p)) (names (drop (i + 1) os) (drop (i + 1) ps))
    ∙ ap (λ l. out ++ l) (sym (ap₂ names (drop_more os i o a ∙ ap (λ y. y ∷ drop (i + 1) os) (sym is_o)) (drop_more ps i p b ∙ ap (λ y. y ∷ drop (i + 1) ps) (sym is_p)))) ∙ h

pub loop-at-preserved : goal.loop-at-preserved
loop-at-preserved c =
    names_next c.loop-at.out.items c.put_name.new.out.items _ c.args.obstacles.now c.args.places.now c.loop-at.at c.index-obstacles-at.result c.index-places-at.result
    c.loop-at-test.true (subst (λ n. c.loop-at.at < n) c.requires c.loop-at-test.true) c.index-obstacles-at.is c.index-places-at.is
    (c.in_ok-put_name.ensures ∙ ap (λ (s : Shape). c.loop-at.out.items ++ shape_text (name_shape s.id c.index-places-at.result)) (sym c.index-obstacles-at.is)) c.loop-at.invariant

pub returns : goal.returns
returns c =
    sym (append-nil c.loop-at.out.items)
    ∙ ap (λ l. c.loop-at.out.items ++ l) (sym (ap₂ names (drop_all c.loop-at.at c.args.obstacles.now c.loop-at-test.false) (drop_all c.loop-at.at c.args.places.now (subst (λ n. n ≤ c.loop-at.at) c.requires c.loop-at-test.false)))) ∙ c.loop-at.invariant
