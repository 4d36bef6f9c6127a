-- A robot meets an obstacle exactly where some triangle of the one meets some triangle of the other, so a scene's sums tell which obstacles it meets.
use Rattle.std.proofs.Common.{◌↔◌, ◌⊎◌, ⊎_elim, inl, inr, ℕ, List, [], ◌∷◌, All, Any, map, sym, subst}
use Rattle.std.specs.List.{AllZip}
use Rattle.plan_exact.proofs.Signs.{mul_pos}
use Rattle.plan_spec.specs.Vector.{Vector, IsPoint, minus}
use Rattle.plan_spec.specs.Polygon.{Inside}
use Rattle.plan_spec.specs.SimplePolygon.{InPolygon}
use Rattle.plan_spec.specs.Triangulation.{Triangle, corners, triangles}
use Rattle.plan_spec.specs.Frame.{Frame, OnOrBeyond}
use Rattle.plan_spec.specs.Placement.{Obstacle, Scene, Meets, Leaves, Touches}
use Rattle.plan_spec.specs.Room.{IsRoom}
use Rattle.plan_spec.specs.Sums.{Part, part, parts_of, parts, InDifference, IsSum, AreSums}
use Rattle.plan_plane.proofs.Lists.{any_none, any_here, any_there, any_cases, any_with, any_map, any_to_map, any_flat, any_unflat}
use Rattle.plan_poly.proofs.Leaving.{leaves}
use Rattle.plan_tri.proofs.Region.Triangulated.{Triangulated}

-- the two triangles of the part have a common point at p
abbrev pub PartMeets : Vector → Part → Type 0
PartMeets p t = InDifference (corners t.piece) (corners t.robot) p

held_by : {vs : List Vector} {ts : List Triangle} → Triangulated vs ts → (z : Vector) → IsPoint z → Any (λ t. Inside (corners t) z) ts → InPolygon vs z
held_by d z hz m = d.within m.0 m.1 m.2 z hz (subst (λ t. Inside (corners t) z) (sym m.3) m.4)

pub meets_parts : (robot shape : List Vector) (rs ts : List Triangle) → Triangulated robot rs → Triangulated shape ts → (n : ℕ) (p : Vector) → IsPoint p → Meets robot shape p ↔ Any (PartMeets p) (parts_of rs n ts)
meets_parts robot shape rs ts hr ht n p hp = (into, out)
  where
    into : Meets robot shape p → Any (PartMeets p) (parts_of rs n ts)
    into (z, hz, in_o, in_r) =
        let a = ht.held z hz in_o in
        let b = hr.held (minus z p) (mul_pos hz hp) in_r in
        any_flat (PartMeets p) (λ t. map (part n t) rs) ts (a.0, a.1, a.2, a.3, any_to_map (PartMeets p) (part n a.1) rs (b.0, b.1, b.2, b.3, (z, hz, a.4, b.4)))

    out : Any (PartMeets p) (parts_of rs n ts) → Meets robot shape p
    out m =
        let a = any_unflat (PartMeets p) (λ t. map (part n t) rs) ts m in
        let b = any_map (PartMeets p) (part n a.1) rs a.4 in
        let c = b.4 in
        (c.0, c.1, held_by ht c.0 c.1 (a.0, a.1, a.2, a.3, c.2), held_by hr (minus c.0 p) (mul_pos c.1 hp) (b.0, b.1, b.2, b.3, c.3))

pub any_zip : {A B : Type 0} (R : A → B → Type 0) (P : A → Type 0) (Q : B → Type 0) → ((a : A) (b : B) → R a b → P a ↔ Q b) → (xs : List A) (ys : List B) → AllZip R xs ys → Any P xs ↔ Any Q ys
any_zip R P Q alike [] [] h = (λ m. absurd (any_none P m), λ m. absurd (any_none Q m))
any_zip R P Q alike [] (y ∷ ys) h = absurd h
any_zip R P Q alike (x ∷ xs) [] h = absurd h
any_zip R P Q alike (x ∷ xs) (y ∷ ys) h =
    let here = alike x y h.0 in
    let rest = any_zip R P Q alike xs ys h.1 in (
      λ m. ⊎_elim (λ k. any_here Q y ys (here.0 k)) (λ k. any_there Q y ys (rest.0 k)) (any_cases P x xs m),
      λ m. ⊎_elim (λ k. any_here P x xs (here.1 k)) (λ k. any_there P x xs (rest.1 k)) (any_cases Q y ys m),
    )

-- a scene of polygons that are made up of their triangles, with its room and its sums
pub record IsReady (s : Scene) (r : Frame) (sums : List (List Vector)) : Type 0 where
  pub robot : Triangulated s.robot (triangles s.robot)
  pub obstacles : All (λ o. Triangulated o.shape (triangles o.shape)) s.obstacles
  pub is_room : IsRoom s.robot s.frame r
  pub are_sums : AreSums s sums

module _ (s : Scene) (r : Frame) (sums : List (List Vector)) (ready : IsReady s r sums) (p : Vector) (hp : IsPoint p) where
  abbrev pub of : Obstacle → List Part
  of o = parts_of (triangles s.robot) o.id (triangles o.shape)

  pub each : (o : Obstacle) → Triangulated o.shape (triangles o.shape) → Meets s.robot o.shape p ↔ Any (PartMeets p) (of o)
  each o h = meets_parts s.robot o.shape (triangles s.robot) (triangles o.shape) ready.robot h o.id p hp

  pub sum_part : (t : Part) (vs : List Vector) → IsSum t vs → PartMeets p t ↔ Inside vs p
  sum_part t vs h = ((h.meaning p hp).1, (h.meaning p hp).0)

  meets_some : Any (λ o. Meets s.robot o.shape p) s.obstacles ↔ Any (PartMeets p) (parts s)
  meets_some = (
    λ m. any_flat (PartMeets p) of s.obstacles (any_with (λ o. Triangulated o.shape (triangles o.shape)) (λ o. Meets s.robot o.shape p) (λ o. Any (PartMeets p) (of o)) (λ o h. (each o h).0) s.obstacles ready.obstacles m),
    λ m. any_with (λ o. Triangulated o.shape (triangles o.shape)) (λ o. Any (PartMeets p) (of o)) (λ o. Meets s.robot o.shape p) (λ o h. (each o h).1) s.obstacles ready.obstacles (any_unflat (PartMeets p) of s.obstacles m),
  )

  pub leaves_room : Leaves s.robot s.frame p ↔ OnOrBeyond r p
  leaves_room =
      let i = ready.is_room in
      subst (λ r. Leaves s.robot s.frame p ↔ OnOrBeyond r p) (sym i.is_room) (leaves s.robot i.box s.frame p i.is_box i.low i.high hp)

  -- a placement touches exactly where it is not strictly inside the room, or some sum holds it
  pub touches : Touches s p ↔ (OnOrBeyond r p ⊎ Any (λ vs. Inside vs p) sums)
  touches =
      let h = any_zip IsSum (PartMeets p) (λ vs. Inside vs p) sum_part (parts s) sums ready.are_sums in (
        λ t. ⊎_elim (λ l. inl (leaves_room.0 l)) (λ m. inr (h.0 (meets_some.0 m))) t,
        λ t. ⊎_elim (λ l. inl (leaves_room.1 l)) (λ m. inr (meets_some.1 (h.1 m))) t,
      )
