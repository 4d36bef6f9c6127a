-- Vectors of three integers: a point of the plane or a line, in homogeneous coordinates.
use Rattle.std.specs.Prelude.{ℤ, pos, ◌+ℤ◌, ◌-ℤ◌, ◌*ℤ◌, neg_ℤ, List, [], ◌∷◌}

pub record Vector : Type 0 where
  pub x : ℤ
  pub y : ℤ
  pub w : ℤ

abbrev pub sum : Vector → Vector → Vector
sum a b = record { x = a.x +ℤ b.x; y = a.y +ℤ b.y; w = a.w +ℤ b.w }

abbrev pub opposite : Vector → Vector
opposite a = record { x = neg_ℤ a.x; y = neg_ℤ a.y; w = neg_ℤ a.w }

abbrev pub scaled : ℤ → Vector → Vector
scaled k a = record { x = k *ℤ a.x; y = k *ℤ a.y; w = k *ℤ a.w }

abbrev pub dot : Vector → Vector → ℤ
dot a b = a.x *ℤ b.x +ℤ a.y *ℤ b.y +ℤ a.w *ℤ b.w

abbrev pub cross : Vector → Vector → Vector
cross a b = record { x = a.y *ℤ b.w -ℤ a.w *ℤ b.y; y = a.w *ℤ b.x -ℤ a.x *ℤ b.w; w = a.x *ℤ b.y -ℤ a.y *ℤ b.x }

-- positive where a, b, c turn left, if their third coordinates are positive
abbrev pub det : Vector → Vector → Vector → ℤ
det a b c = dot (cross a b) c

-- the list of what the variables of `specs.Formal` stand for: by turns a number and the three coordinates of a vector. A number that is missing is 1
abbrev pub numbers : List ℤ → List ℤ
numbers [] = []
numbers (k ∷ ks) = k ∷ pos 1 ∷ pos 1 ∷ pos 1 ∷ numbers ks

abbrev pub env : List ℤ → List Vector → List ℤ
env ks [] = numbers ks
env [] (a ∷ rest) = pos 1 ∷ a.x ∷ a.y ∷ a.w ∷ env [] rest
env (k ∷ ks) (a ∷ rest) = k ∷ a.x ∷ a.y ∷ a.w ∷ env ks rest
