-- A loop over the gaps makes a piece of each that stays; pieces at the same positions are pieces of the edge as well.
use Rattle.std.proofs.Common.{◌≡◌, ℕ, ◌+◌, ◌<◌, Bool, true, false, cond, List, [], ◌∷◌, ◌++◌, map, take, length, get_or, All, Any, sym, subst, ◌∙◌, ap, append-nil, arith}
use Rattle.std.specs.List.{filter, AllZip}
use Rattle.std.proofs.lemmas.List.{get_or_default}
use Rattle.std.proofs.lemmas.List.Elements.{All-nil, All-cons, filter_more, length_all_zip, AllZip-get_or}
use Rattle.plan_exact.specs.Vectors.{Vector}
use Rattle.plan_spec.specs.Vector.{IsPoint, Same}
use Rattle.plan_spec.specs.Segment.{Segment, On, HasPoints, segment}
use Rattle.plan_spec.specs.Frame.{Frame}
use Rattle.plan_spec.specs.Pieces.{ArePieces, Piece}
use Rattle.plan_plane.proofs.Lists.{zip_push}
use Rattle.plan_plane.proofs.Segment.Reversed.{on_reversed}
use Rattle.plan_plane.proofs.Segment.Same.{on_same, Same-swapped}
use Rattle.plan_convex.specs.declared.part.Part.{Part}
use Rattle.plan_bound.specs.Edge.{piece_of}
use Rattle.plan_bound.specs.Pieces.{IsPieceOf}
use Rattle.plan_bound.proofs.Maximal.{before_same, ends_same}

-- ---- the loop
pub kept_more : {X Y : Type 0} (R : X → Y → Type 0) (p : X → Bool) (xs : List X) (ys : List Y) (i : ℕ) (x : X) (y : Y) → i < length xs → x ≡ get_or xs i x → p x ≡ true → AllZip R (filter p (take i xs)) ys → R x y → AllZip R (filter p (take (i + 1) xs)) (ys ++ y ∷ [])
kept_more {X} R p xs ys i x y within is keep h k =
    let e : filter p (take (i + 1) xs) ≡ filter p (take i xs) ++ x ∷ [] = filter_more p xs i x within ∙ ap (λ v. filter p (take i xs) ++ cond (p v) (v ∷ []) []) (sym is) ∙ ap (λ t. filter p (take i xs) ++ cond t (x ∷ []) []) keep in
    subst (λ l. AllZip R l (ys ++ y ∷ [])) (sym e) (zip_push R (filter p (take i xs)) ys x y h k)

pub passed_over : {X Y : Type 0} (R : X → Y → Type 0) (p : X → Bool) (xs : List X) (ys : List Y) (i : ℕ) (x : X) → i < length xs → x ≡ get_or xs i x → p x ≡ false → AllZip R (filter p (take i xs)) ys → AllZip R (filter p (take (i + 1) xs)) ys
passed_over {X} R p xs ys i x within is drop h =
    let e : filter p (take (i + 1) xs) ≡ filter p (take i xs) = filter_more p xs i x within ∙ ap (λ v. filter p (take i xs) ++ cond (p v) (v ∷ []) []) (sym is) ∙ ap (λ t. filter p (take i xs) ++ cond t (x ∷ []) []) drop ∙ append-nil (filter p (take i xs)) in
    subst (λ l. AllZip R l ys) (sym e) h

-- ---- pieces at the same positions
pub record SameEnds (p q : Segment) : Type 0 where
  pub points : HasPoints q
  pub from : Same p.a q.a
  pub to : Same p.b q.b

module _ (sums : List (List Vector)) (room : Frame) (e : Segment) (he : HasPoints e) (ps qs : List Segment) (h : ArePieces sums room e ps) (same : AllZip SameEnds ps qs) where
  lengths : length ps ≡ length qs
  lengths = length_all_zip SameEnds ps qs same

  at : (k : ℕ) (d : Segment) → k < length ps → SameEnds (get_or ps k d) (get_or qs k d)
  at k d within = AllZip-get_or SameEnds ps qs k d d same within

  pub pieces_same : ArePieces sums room e qs
  pieces_same = record {
    along = λ k d within.
        let fits : k < length ps = omega (arith, within, lengths) in
        let x = get_or ps k d in
        let y = get_or qs k d in
        let s = at k d fits in
        let p = h.along k d fits in
        record {
          points = s.points;
          from = on_same e.a e.b x.a y.a he.0 he.1 p.points.0 s.points.0 s.from p.from;
          to = on_same e.a e.b x.b y.b he.0 he.1 p.points.1 s.points.1 s.to p.to;
          onward = λ b. p.onward (before_same y.b y.a x.b x.a s.points.1 s.points.0 p.points.1 p.points.0 (Same-swapped x.b y.b s.to) (Same-swapped x.a y.a s.from) b);
        };
    apart = λ i j d less within.
        let fj : j < length ps = omega (arith, within, lengths) in
        let fi : i < length ps = omega (arith, less, fj) in
        let s = at i d fi in
        let t = at j d fj in
        before_same (get_or ps i d).b (get_or ps j d).a (get_or qs i d).b (get_or qs j d).a (h.along i d fi).points.1 (h.along j d fj).points.0 s.points.1 t.points.0 s.to t.from (h.apart i j d less fj);
    exact = λ z hz on_z. let x = h.exact z hz on_z in (λ u. into z hz (x.0 u), λ some. x.1 (out z hz some));
  }
    where
      into : (z : Vector) → IsPoint z → Any (λ p. On p z) ps → Any (λ p. On p z) qs
      into z hz (k, p, within, is, m) =
          let s = at k p within in
          let here = subst (λ p. On p z) (sym is) m in
          let hp = (h.along k p within).points in
          let x = get_or ps k p in
          let y = get_or qs k p in
          (k, y, omega (arith, within, lengths), get_or_default qs k y p (omega (arith, within, lengths)), ends_same x.a x.b y.a y.b z hp.0 hp.1 s.points.0 s.points.1 hz s.from s.to here)

      out : (z : Vector) → IsPoint z → Any (λ p. On p z) qs → Any (λ p. On p z) ps
      out z hz (k, q, within, is, m) =
          let fits : k < length ps = omega (arith, within, lengths) in
          let s = at k q fits in
          let here = subst (λ p. On p z) (sym is) m in
          let hp = (h.along k q fits).points in
          let x = get_or ps k q in
          let y = get_or qs k q in
          (k, x, fits, get_or_default ps k x q fits, ends_same y.a y.b x.a x.b z s.points.0 s.points.1 hp.0 hp.1 hz (Same-swapped x.a y.a s.from) (Same-swapped x.b y.b s.to) here)

-- the gaps of an edge as segments, and the pieces made of them
pub pieces_at : (k : ℕ) (a b : Vector) (gs : List Part) (ps : List Piece) → AllZip (IsPieceOf k a b) gs ps → AllZip SameEnds (map (piece_of a b) gs) (map (λ p. p.part) ps) × All (λ p. p.edge ≡ k) ps
pieces_at k a b [] [] h = (tt, All-nil (λ p. p.edge ≡ k))
pieces_at k a b [] (p ∷ ps) h = absurd h
pieces_at k a b (g ∷ gs) [] h = absurd h
pieces_at k a b (g ∷ gs) (p ∷ ps) h =
    let rest = pieces_at k a b gs ps h.1 in
    ((record { points = (h.0.from_point, h.0.to_point); from = Same-swapped p.part.a (piece_of a b g).a h.0.from; to = Same-swapped p.part.b (piece_of a b g).b h.0.to }, rest.0), All-cons (λ p. p.edge ≡ k) p ps h.0.number rest.1)

-- an edge that runs from its greater end has the pieces of the same edge from its lesser end
pub pieces_reversed : (sums : List (List Vector)) (room : Frame) (a b : Vector) (ps : List Segment) → ArePieces sums room (segment a b) ps → ArePieces sums room (segment b a) ps
pieces_reversed sums room a b ps h = record {
  along = λ k d within. let p = h.along k d within in record { points = p.points; from = on_reversed a b (get_or ps k d).a p.from; to = on_reversed a b (get_or ps k d).b p.to; onward = p.onward };
  apart = h.apart;
  exact = λ z hz m. h.exact z hz (on_reversed b a z m);
}
