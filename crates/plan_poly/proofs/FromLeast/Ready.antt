-- A loop from its least vertex on is a loop that holds the same points and has the same edges.
use Rattle.std.proofs.Common.{List, ◌+◌, [], ◌∷◌, ◌++◌, append-nil, sym, subst, ◌≡◌, refl, ap, length, All, ◌≤◌, length-append, ◌∙◌, arith}
use Rattle.plan_spec.specs.SimplePolygon.{last}
use Rattle.plan_spec.specs.Triangulation.{but_last, from_least}
use Rattle.plan_spec.specs.Vector.{Vector, Before}
use Rattle.plan_plane.proofs.Polygon.Corner.{polygon}
use Rattle.plan_plane.proofs.Polygon.Cut.{whole}
use Rattle.plan_poly.proofs.FromLeast.ByPlace.{least}
use Rattle.plan_poly.proofs.Loop.Loop.{Loop}
use Rattle.plan_poly.proofs.Loop.Parts.{rotated}

-- ---- from the least vertex on, and back
-- what is kept where two parts change places
abbrev pub Kept : (List Vector → Type 0) → Type 0
Kept R = (p : Vector) (xs : List Vector) (q : Vector) (ys : List Vector) → R (whole p xs q ys) → R (whole q ys p xs)

forth : (R : List Vector → Type 0) → Kept R → (pre : List Vector) (y : Vector) (post : List Vector) → R (pre ++ y ∷ post) → R (y ∷ (post ++ pre))
forth R kept [] y post h = subst (λ vs. R (y ∷ vs)) (sym (append-nil post)) h
forth R kept (p ∷ xs) y post h = kept p xs y post h

back_again : (R : List Vector → Type 0) → Kept R → (pre : List Vector) (y : Vector) (post : List Vector) → R (y ∷ (post ++ pre)) → R (pre ++ y ∷ post)
back_again R kept [] y post h = subst (λ vs. R (y ∷ vs)) (append-nil post) h
back_again R kept (p ∷ xs) y post h = kept y post p xs h

pub last_split : (x : Vector) (xs : List Vector) → x ∷ xs ≡ but_last x xs ++ last x xs ∷ []
last_split x [] = refl
last_split x (y ∷ ys) = ap (λ zs. x ∷ zs) (last_split y ys)

pub record Ready (vs : List Vector) : Type 0 where
  pub v : Vector
  pub w : Vector
  pub mid : List Vector
  pub u : Vector
  pub from : from_least vs ≡ polygon v w mid u
  pub loop : Loop (polygon v w mid u)
  pub first : All (Before v) (w ∷ (mid ++ u ∷ []))
  pub size : length mid + 3 ≡ length vs
  pub pre : List Vector
  pub post : List Vector
  pub parts : vs ≡ pre ++ v ∷ post
  pub same : v ∷ (post ++ pre) ≡ polygon v w mid u

-- by the list from the least vertex on
of_list : (vs : List Vector) → Loop vs → (pre : List Vector) (y : Vector) (post : List Vector) → vs ≡ pre ++ y ∷ post → from_least vs ≡ y ∷ (post ++ pre) → All (Before y) (post ++ pre) → (rest : List Vector) → post ++ pre ≡ rest → 2 ≤ length rest → Ready vs
of_list vs l pre y post e from first [] r long = absurd (omega arith)
of_list vs l pre y post e from first (w ∷ []) r long = absurd (omega arith)
of_list vs l pre y post e from first (w ∷ (x ∷ xs)) r long =
    let s = r ∙ ap (λ zs. w ∷ zs) (last_split x xs) in
    let same : y ∷ (post ++ pre) ≡ polygon y w (but_last x xs) (last x xs) = ap (λ zs. y ∷ zs) s in
    record {
      v = y;
      w = w;
      mid = but_last x xs;
      u = last x xs;
      from = from ∙ same;
      loop = subst Loop same (forth Loop rotated pre y post (subst Loop e l));
      first = subst (All (Before y)) s first;
      size = omega (arith, ap length e, ap length s, length-append pre (y ∷ post), length-append post pre, length-append (but_last x xs) (last x xs ∷ []));
      pre = pre;
      post = post;
      parts = e;
      same = same;
    }

pub ready : (vs : List Vector) → Loop vs → 3 ≤ length vs → Ready vs
ready [] l long = absurd (omega arith)
ready (a ∷ vs) l long =
    let m = least a vs l.points l.distinct in
    of_list (a ∷ vs) l m.before m.at m.after m.parts m.from m.first (m.after ++ m.before) refl (omega (arith, ap length m.parts, length-append m.before (m.at ∷ m.after), length-append m.after m.before))

-- what is kept where two parts change places comes back from the least vertex, and gets there
pub to_list : {vs : List Vector} (r : Ready vs) (R : List Vector → Type 0) → Kept R → R (polygon r.v r.w r.mid r.u) → R vs
to_list {vs} r R kept h = subst R (sym r.parts) (back_again R kept r.pre r.v r.post (subst R (sym r.same) h))

pub split_last : (m : Vector) (ms : List Vector) (u : Vector) → last m (ms ++ u ∷ []) ≡ u
split_last m [] u = refl
split_last m (n ∷ ms) u = split_last n ms u

pub split_front : (m : Vector) (ms : List Vector) (u : Vector) → but_last m (ms ++ u ∷ []) ≡ m ∷ ms
split_front m [] u = refl
split_front m (n ∷ ms) u = ap (λ zs. m ∷ zs) (split_front n ms u)
