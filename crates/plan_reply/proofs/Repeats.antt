-- Neighbours at one position: what `dedup` leaves of a list of points, and that of lists with the same positions the same is left.
use Rattle.std.proofs.Common.{◌≡◌, Bool, true, false, true≢false, List, [], ◌∷◌, All, if◌then◌else◌, refl, sym, ap, subst, ◌∙◌}
use Rattle.std.specs.List.{AllZip, dedup, dedup_from}
use Rattle.std.proofs.lemmas.List.Elements.{All-head, All-tail}
use Rattle.plan_spec.specs.Vector.{Vector, IsPoint, Same, same}
use Rattle.plan_spec.specs.Paths.{without_repeats}
use Rattle.plan_plane.proofs.Segment.Same.{same_comm}
use Rattle.plan_grid.specs.PointOrder.{point_eq}
use Rattle.plan_cross.proofs.Equal.{equal_is_same}
use Rattle.plan_ring.proofs.Alike.AnswerPaths.{left_alike}

left_is : (p : Vector) (qs : List Vector) → IsPoint p → All IsPoint qs → dedup_from point_eq p qs ≡ p ∷ without_repeats p qs
left_is p [] hp hs = refl
left_is p (q ∷ qs) hp hs =
    let hq = All-head IsPoint q qs hs in
    let later = All-tail IsPoint q qs hs in
    by (point_eq q p) (same p q) (equal_is_same q p hq hp ∙ same_comm q p) (left_is p qs hp later) (left_is q qs hq later)
  where
    by : (t u : Bool) → t ≡ u → dedup_from point_eq p qs ≡ p ∷ without_repeats p qs → dedup_from point_eq q qs ≡ q ∷ without_repeats q qs
        → (if t then dedup_from point_eq p qs else p ∷ dedup_from point_eq q qs) ≡ p ∷ (if u then without_repeats p qs else q ∷ without_repeats q qs)
    by true true e f g = f
    by false false e f g = ap (λ zs. p ∷ zs) g
    by true false e f g = absurd (true≢false e)
    by false true e f g = absurd (true≢false (sym e))

-- ---- by position
pub deduped_alike : (ps : List Vector) (s : Vector) (vs : List Vector) → All IsPoint ps → IsPoint s → All IsPoint vs → AllZip Same ps (s ∷ vs) → AllZip Same (dedup point_eq ps) (s ∷ without_repeats s vs)
deduped_alike [] s vs hps hs hvs h = absurd h
deduped_alike (p ∷ ps) s vs hps hs hvs (e, rest) =
    let hp = All-head IsPoint p ps hps in
    let later = All-tail IsPoint p ps hps in
    subst (λ zs. AllZip Same zs (s ∷ without_repeats s vs)) (sym (left_is p ps hp later)) (e, left_alike p s ps vs hp hs later hvs e rest)
