-- Parts of an edge, in order and apart, are told by the points that they hold: two lists of parts that hold the same are alike. The first parts begin at one position, the first point that is held; and they end at one, since between the end of a part and the next part there is a point that none holds.
use Rattle.std.proofs.Common.{⊎_elim, List, [], ◌∷◌, All, Any, AllPairs, arith}
use Rattle.std.proofs.lemmas.List.Elements.{All-head, All-tail}
use Rattle.std.specs.List.{AllZip}
use Rattle.plan_spec.specs.Vector.{Vector, IsPoint, Same, Before}
use Rattle.plan_spec.specs.Segment.{Segment, HasPoints, On}
use Rattle.plan_spec.specs.Pieces.{IsPartOf}
use Rattle.plan_plane.proofs.Lists.{any_here, any_there, any_cases, any_none, any_with}
use Rattle.plan_plane.proofs.Rising.ByPoint.{order_before, before_once, same_of}
use Rattle.plan_plane.proofs.Rising.Lists.{rest_after, rising_tail}
use Rattle.plan_plane.proofs.Segment.Between.{between, between_first, between_second, on}
use Rattle.plan_plane.proofs.Segment.Part.{on_part_of}
use Rattle.plan_plane.proofs.Segment.Same.{Same-swapped}
use Rattle.plan_ring.specs.Alike.{AlikeSegment}
use Rattle.plan_ring.proofs.Alike.Along.{not_before_first, not_behind_second, on_between, Strictly, strictly_between}

-- parts of e, one after another
pub record AreParts (e : Segment) (ps : List Segment) : Type 0 where
  pub along : All (IsPartOf e) ps
  pub apart : AllPairs (λ p q. Before p.b q.a) ps

-- some part holds z
abbrev pub Held : List Segment → Vector → Type 0
Held ps z = Any (λ s. On s z) ps

-- ---- not before, and then at most
at_most_less : (x y z : Vector) → IsPoint x → IsPoint y → IsPoint z → ¬ (Before y x) → Before y z → Before x z
at_most_less x y z hx hy hz h k = ⊎_elim (λ l. order_before.less x y z hx hy hz l k) (λ t. ⊎_elim (λ e. order_before.equal_less x y z hx hy hz e k) (λ l. absurd (h l)) t) (order_before.total x y hx hy)

less_at_most : (x y z : Vector) → IsPoint x → IsPoint y → IsPoint z → Before x y → ¬ (Before z y) → Before x z
less_at_most x y z hx hy hz h k = ⊎_elim (λ l. order_before.less x y z hx hy hz h l) (λ t. ⊎_elim (λ e. order_before.less_equal x y z hx hy hz h e) (λ l. absurd (k l)) t) (order_before.total y z hy hz)

-- ---- one part
module _ {e p : Segment} (h : IsPartOf e p) where
  begins : On p p.a
  begins = on (between_first p.a p.b h.points.0)

  ends : On p p.b
  ends = on (between_second p.a p.b h.points.1)

  from_begin : (z : Vector) → IsPoint z → On p z → ¬ (Before z p.a)
  from_begin z hz o = not_before_first h.points.0 h.points.1 hz (between p.a p.b z h.points.0 h.points.1 hz o) h.onward

  upto_end : (z : Vector) → IsPoint z → On p z → ¬ (Before p.b z)
  upto_end z hz o = not_behind_second h.points.0 h.points.1 hz (between p.a p.b z h.points.0 h.points.1 hz o) h.onward

-- ---- a row of parts
module _ (e : Segment) (he : HasPoints e) where
  head : {p : Segment} {ps : List Segment} → AreParts e (p ∷ ps) → IsPartOf e p
  head {p} {ps} h = All-head (IsPartOf e) p ps h.along

  tail : {p : Segment} {ps : List Segment} → AreParts e (p ∷ ps) → AreParts e ps
  tail {p} {ps} h = record { along = All-tail (IsPartOf e) p ps h.along; apart = rising_tail (λ p q. Before p.b q.a) p ps h.apart }

  -- what a later part holds is behind the first
  behind : {p : Segment} {ps : List Segment} (z : Vector) → IsPoint z → AreParts e (p ∷ ps) → Held ps z → Before p.b z
  behind {p} {ps} z hz h held =
      let hp = head h in
      let r = any_with (λ q. IsPartOf e q × Before p.b q.a) (λ s. On s z) (λ q. Before p.b z)
      (λ q k o. less_at_most p.b q.a z hp.points.1 k.0.points.0 hz k.1 (from_begin k.0 z hz o)) ps
      (λ k d within. ((tail h).along k d within, rest_after (λ p q. Before p.b q.a) p ps h.apart k d within)) held in
      r.4

  -- and none holds a point before the first begins
  from_first : {p : Segment} {ps : List Segment} (z : Vector) → IsPoint z → AreParts e (p ∷ ps) → Held (p ∷ ps) z → ¬ (Before z p.a)
  from_first {p} {ps} z hz h held =
      let hp = head h in
      ⊎_elim (λ o. from_begin hp z hz o) (λ later less. before_once p.a z (at_most_less p.a p.b z hp.points.0 hp.points.1 hz hp.onward (behind z hz h later)) less) (any_cases (λ s. On s z) p ps held)

  -- ---- two rows: what the one holds, the other holds
  -- the one does not begin before the other
  begins_from : {p q : Segment} {ps qs : List Segment} → AreParts e (p ∷ ps) → AreParts e (q ∷ qs) → ((z : Vector) → IsPoint z → On e z → Held (p ∷ ps) z → Held (q ∷ qs) z) → ¬ (Before p.a q.a)
  begins_from {p} {q} {ps} {qs} h k into =
      let hp = head h in
      from_first p.a hp.points.0 k (into p.a hp.points.0 hp.from (any_here (λ s. On s p.a) p ps (begins hp)))

  -- where both begin alike, the first part of the one does not end before that of the other
  ends_upto : {p q : Segment} {ps qs : List Segment} → AreParts e (p ∷ ps) → AreParts e (q ∷ qs) → Same p.a q.a → ((z : Vector) → IsPoint z → On e z → Held (q ∷ qs) z → Held (p ∷ ps) z) → ¬ (Before p.b q.b)
  ends_upto {p} {q} {ps} {qs} h k same back less =
      let hp = head h in
      let hq = head k in
      ⊎_elim (λ o. upto_end hp q.b hq.points.1 o less) (λ later. further ps h back later) (any_cases (λ s. On s q.b) p ps (back q.b hq.points.1 hq.to (any_here (λ s. On s q.b) q qs (ends hq))))
    where
      hq : IsPartOf e q
      hq = head k

      further : (ps : List Segment) → AreParts e (p ∷ ps) → ((z : Vector) → IsPoint z → On e z → Held (q ∷ qs) z → Held (p ∷ ps) z) → Held ps q.b → ⊥
      further [] h back later = any_none (λ s. On s q.b) later
      further (r ∷ ps) h back later = ⊎_elim (λ o. upto_end hp m.at m.at_point o m.after) (λ held. from_first m.at m.at_point (tail h) held m.before) (any_cases (λ s. On s m.at) p (r ∷ ps) (back m.at m.at_point on_e (any_here (λ s. On s m.at) q qs on_q)))
        where
          hp : IsPartOf e p
          hp = head h

          hr : IsPartOf e r
          hr = head (tail h)

          gap : Before p.b r.a
          gap = rest_after (λ p q. Before p.b q.a) p (r ∷ ps) h.apart 0 r (omega arith)

          m : Strictly p.b r.a
          m = strictly_between p.b r.a hp.points.1 hr.points.0 gap

          on_e : On e m.at
          on_e = on_part_of e (record { a = p.b; b = r.a }) m.at he (hp.points.1, hr.points.0) m.at_point hp.to hr.from m.on_it

          not_before : ¬ (Before m.at q.a)
          not_before l =
              let b = order_before.less p.b m.at q.a hp.points.1 m.at_point hq.points.0 m.after l in
              hp.onward (order_before.less_equal p.b q.a p.a hp.points.1 hq.points.0 hp.points.0 b (Same-swapped p.a q.a same))

          not_behind : ¬ (Before q.b m.at)
          not_behind l = from_first q.b hq.points.1 (tail h) later (order_before.less q.b m.at r.a hq.points.1 m.at_point hr.points.0 l m.before)

          on_q : On q m.at
          on_q = on_between e q.a q.b m.at he hq.points.0 hq.points.1 m.at_point hq.from hq.to on_e not_before not_behind

  -- without the first parts, which end alike
  rest_holds : {p q : Segment} {ps qs : List Segment} → AreParts e (p ∷ ps) → AreParts e (q ∷ qs) → Same p.b q.b → ((z : Vector) → IsPoint z → On e z → Held (p ∷ ps) z → Held (q ∷ qs) z) → (z : Vector) → IsPoint z → On e z → Held ps z → Held qs z
  rest_holds {p} {q} {ps} {qs} h k same into z hz o held =
      let hp = head h in
      let hq = head k in
      ⊎_elim (λ on_q. absurd (upto_end hq z hz on_q (order_before.equal_less q.b p.b z hq.points.1 hp.points.1 hz (Same-swapped p.b q.b same) (behind z hz h held)))) (λ r. r) (any_cases (λ s. On s z) q qs (into z hz o (any_there (λ s. On s z) p ps held)))

  pub parts_alike : (ps qs : List Segment) → AreParts e ps → AreParts e qs → ((z : Vector) → IsPoint z → On e z → Held ps z → Held qs z) → ((z : Vector) → IsPoint z → On e z → Held qs z → Held ps z) → AllZip AlikeSegment ps qs
  parts_alike [] [] h k into back = tt
  parts_alike [] (q ∷ qs) h k into back = let hq = head k in absurd (any_none (λ s. On s q.a) (back q.a hq.points.0 hq.from (any_here (λ s. On s q.a) q qs (begins hq))))
  parts_alike (p ∷ ps) [] h k into back = let hp = head h in absurd (any_none (λ s. On s p.a) (into p.a hp.points.0 hp.from (any_here (λ s. On s p.a) p ps (begins hp))))
  parts_alike (p ∷ ps) (q ∷ qs) h k into back =
      let hp = head h in
      let hq = head k in
      let start = same_of p.a q.a hp.points.0 hq.points.0 (begins_from h k into) (begins_from k h back) in
      let end = same_of p.b q.b hp.points.1 hq.points.1 (ends_upto h k start back) (ends_upto k h (Same-swapped p.a q.a start) into) in
      ((start, end), parts_alike ps qs (tail h) (tail k) (rest_holds h k end into) (rest_holds k h (Same-swapped p.b q.b end) back))
