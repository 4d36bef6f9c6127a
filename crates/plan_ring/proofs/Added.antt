-- What has been added to a list of segments, one segment or one list after another.
use Rattle.std.proofs.Common.{◌≡◌, List, [], ◌∷◌, ◌++◌, map, All, sym, subst}
use Rattle.std.specs.List.{AllZip}
use Rattle.std.proofs.lemmas.List.{map-append, append-nil, append_assoc}
use Rattle.std.proofs.lemmas.List.Elements.{All-nil, All-cons}
use Rattle.plan_spec.specs.Vector.{Same}
use Rattle.plan_spec.specs.Segment as spec
use Rattle.plan_grid.specs.Bounds.{IsInRange}
use Rattle.plan_cross.specs.declared.segment.Segment.{Segment}
use Rattle.plan_cross.specs.Segment.{segment_seen}
use Rattle.plan_plane.proofs.Lists.{zip_push}
use Rattle.plan_ring.specs.Grown.{IsLowestAt, AreAlike, HasAdded}

pub added_none : (xs : List Segment) → HasAdded xs xs []
added_none xs before h = subst (AreAlike (map segment_seen xs)) (sym (append-nil before)) h

pub added_one : (xs ys : List Segment) (s : Segment) (t : spec.Segment) → ys ≡ xs ++ s ∷ [] → IsLowestAt (segment_seen s) t → HasAdded xs ys (t ∷ [])
added_one xs ys s t is e before h = subst (λ ys. AreAlike (map segment_seen ys) (before ++ t ∷ [])) (sym is) (subst (λ zs. AreAlike zs (before ++ t ∷ [])) (sym (map-append segment_seen xs (s ∷ []))) (zip_push IsLowestAt (map segment_seen xs) before (segment_seen s) t h e))

pub added_on : (xs ys zs : List Segment) (ss ts : List spec.Segment) → HasAdded xs ys ss → HasAdded ys zs ts → HasAdded xs zs (ss ++ ts)
added_on xs ys zs ss ts f g before h = subst (AreAlike (map segment_seen zs)) (append_assoc before ss ts) (g (before ++ ss) (f before h))

-- ---- what was added, by position, and in lowest terms
pub alike_positions : (ss ts : List spec.Segment) → AreAlike ss ts → AllZip (λ s t. Same s.a t.a × Same s.b t.b) ss ts
alike_positions [] [] h = tt
alike_positions [] (t ∷ ts) h = absurd h
alike_positions (s ∷ ss) [] h = absurd h
alike_positions (s ∷ ss) (t ∷ ts) (e, h) = ((e.a, e.b), alike_positions ss ts h)

pub alike_lowest : (ss ts : List spec.Segment) → AreAlike ss ts → All (λ s. IsInRange s.a × IsInRange s.b) ss
alike_lowest [] [] h = All-nil (λ s. IsInRange s.a × IsInRange s.b)
alike_lowest [] (t ∷ ts) h = absurd h
alike_lowest (s ∷ ss) [] h = absurd h
alike_lowest (s ∷ ss) (t ∷ ts) (e, h) = All-cons (λ s. IsInRange s.a × IsInRange s.b) s ss (e.a_lowest, e.b_lowest) (alike_lowest ss ts h)
