-- Points put behind points, one after another, in lowest terms.
use Rattle.std.proofs.Common.{◌≡◌, ℕ, ◌+◌, ◌<◌, List, [], ◌∷◌, ◌++◌, map, take, get_or, length, All, refl, sym, ap, subst, ◌∙◌, arith}
use Rattle.std.specs.List.{AllZip, dedup}
use Rattle.std.proofs.lemmas.List.{append_assoc, map_more}
use Rattle.std.proofs.lemmas.List.Elements.{All-append, All-cons, All-nil, All-push}
use Rattle.plan_exact.proofs.Laws.{linear}
use Rattle.plan_spec.specs.Vector.{Vector, IsPoint, Same}
use Rattle.plan_spec.specs.Segment.{Segment, HasPoints}
use Rattle.plan_spec.specs.Paths.{stops, way}
use Rattle.plan_plane.proofs.Lists.{zip_push}
use Rattle.plan_grid.specs.Bounds.{IsInRange}
use Rattle.plan_grid.specs.PointOrder.{point_eq}
use Rattle.plan_ring.proofs.Alike.AnswerPaths.{stops_points}
use Rattle.plan_reply.specs.Path.{AreLonger}
use Rattle.plan_reply.proofs.Repeats.{deduped_alike}

pub longer_one : (vs old new : List Vector) (p v : Vector) → AreLonger vs old new → Same p v → IsInRange p → AreLonger (vs ++ v ∷ []) old (new ++ p ∷ [])
longer_one vs old new p v l e r = record {
  alike = λ before h. subst (AllZip Same (new ++ p ∷ [])) (append_assoc before vs (v ∷ [])) (zip_push_same (before ++ vs) (l.alike before h));
  lowest = λ h. All-push IsInRange new p (l.lowest h) r;
}
  where
    zip_push_same : (ys : List Vector) → AllZip Same new ys → AllZip Same (new ++ p ∷ []) (ys ++ v ∷ [])
    zip_push_same ys h = zip_push Same new ys p v h e

-- one more of a list
pub longer_more : (f : ℕ → Vector) (ns : List ℕ) (i d : ℕ) (old new : List Vector) (p : Vector) → i < length ns → AreLonger (map f (take i ns)) old new → Same p (f (get_or ns i d)) → IsInRange p → AreLonger (map f (take (i + 1) ns)) old (new ++ p ∷ [])
longer_more f ns i d old new p within l e r =
    subst (λ vs. AreLonger vs old (new ++ p ∷ [])) (sym (map_more f ns i d within)) (longer_one (map f (take i ns)) old new p (f (get_or ns i d)) l e r)

-- ---- points in range are points
pub range_points : (ps : List Vector) → All IsInRange ps → All IsPoint ps
range_points ps h k d within = let w = (h k d within).weight in omega (arith, linear)

pub ends_points : (ss : List Segment) → All (λ s. IsInRange s.a × IsInRange s.b) ss → All HasPoints ss
ends_points ss h k d within =
    let (a, b) = h k d within in
    let v = a.weight in
    let w = b.weight in
    (omega (arith, linear, v), omega (arith, linear, w))

-- ---- the way: the start, the stops, the goal
pub way_alike : (vs : List Vector) (s g p q : Vector) (none one many all : List Vector) → none ≡ [] → one ≡ none ++ p ∷ [] → p ≡ s → AreLonger vs one many → all ≡ many ++ q ∷ [] → q ≡ g → AllZip Same all (s ∷ (vs ++ g ∷ []))
way_alike vs s g p q none one many all e0 e1 ep l e2 eq =
    let is : one ≡ s ∷ [] = e1 ∙ ap (λ ps. ps ++ p ∷ []) e0 ∙ ap (λ x. x ∷ []) ep in
    let first : AllZip Same one (s ∷ []) = subst (λ ps. AllZip Same ps (s ∷ [])) (sym is) ((refl, refl), tt) in
    let mid : AllZip Same many (s ∷ vs) = l.alike (s ∷ []) first in
    let last : Same q g = subst (Same q) eq (refl, refl) in
    subst (λ ps. AllZip Same ps (s ∷ (vs ++ g ∷ []))) (sym e2) (zip_push Same many (s ∷ vs) q g mid last)

pub way_lowest : (vs : List Vector) (s g p q : Vector) (none one many all : List Vector) → none ≡ [] → one ≡ none ++ p ∷ [] → p ≡ s → AreLonger vs one many → all ≡ many ++ q ∷ [] → q ≡ g → IsInRange s → IsInRange g → All IsInRange all
way_lowest vs s g p q none one many all e0 e1 ep l e2 eq hs hg =
    let is : one ≡ s ∷ [] = e1 ∙ ap (λ ps. ps ++ p ∷ []) e0 ∙ ap (λ x. x ∷ []) ep in
    let first : All IsInRange one = subst (All IsInRange) (sym is) (All-cons IsInRange s [] hs (All-nil IsInRange)) in
    subst (All IsInRange) (sym e2) (All-push IsInRange many q (l.lowest first) (subst IsInRange (sym eq) hg))

-- ---- and without repeats the path
pub path_is : (f : ℕ → Vector) (s g : Vector) (ns walk : List ℕ) (ps qs : List Vector) → ns ≡ walk → IsPoint s → IsPoint g → All (λ n. IsPoint (f n)) walk → All IsInRange ps → AllZip Same ps (s ∷ (stops f ns ++ g ∷ [])) → qs ≡ dedup point_eq ps → AllZip Same qs (way f s g walk)
path_is f s g ns walk ps qs same hs hg spots range h e =
    let rest : All IsPoint (stops f walk ++ g ∷ []) = All-append IsPoint (stops f walk) (g ∷ []) (stops_points f walk spots) (All-cons IsPoint g [] hg (All-nil IsPoint)) in
    subst (λ qs. AllZip Same qs (way f s g walk)) (sym e)
    (deduped_alike ps s (stops f walk ++ g ∷ []) (range_points ps range) hs rest (subst (λ ns. AllZip Same ps (s ∷ (stops f ns ++ g ∷ []))) same h))
