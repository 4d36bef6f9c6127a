-- The vectors of `specs.Vectors` as expressions, under the same names: what a proof by `ring` writes for them.
use Rattle.std.specs.Prelude.{ℕ, ◌+◌, ◌*◌, pos}
use Rattle.plan_exact.specs.Expr.{Expr, var, con, ◌⊕◌, ◌⊖◌, ◌⊗◌, neg}

pub record Vec : Type 0 where
  pub x : Expr
  pub y : Expr
  pub w : Expr

-- the number i and the vector i of `env`
abbrev pub number : ℕ → Expr
number i = var (4 * i)

abbrev pub vector : ℕ → Vec
vector i = record { x = var (4 * i + 1); y = var (4 * i + 2); w = var (4 * i + 3) }

abbrev pub A : Vec
A = vector 0

abbrev pub B : Vec
B = vector 1

abbrev pub C : Vec
C = vector 2

abbrev pub D : Vec
D = vector 3

abbrev pub E : Vec
E = vector 4

abbrev pub J : Expr
J = number 0

abbrev pub K : Expr
K = number 1

abbrev pub L : Expr
L = number 2

abbrev pub M : Expr
M = number 3

abbrev pub N : Expr
N = number 4

abbrev pub zero : Expr
zero = con (pos 0)

abbrev pub sum : Vec → Vec → Vec
sum a b = record { x = a.x ⊕ b.x; y = a.y ⊕ b.y; w = a.w ⊕ b.w }

abbrev pub opposite : Vec → Vec
opposite a = record { x = neg a.x; y = neg a.y; w = neg a.w }

abbrev pub scaled : Expr → Vec → Vec
scaled k a = record { x = k ⊗ a.x; y = k ⊗ a.y; w = k ⊗ a.w }

abbrev pub dot : Vec → Vec → Expr
dot a b = a.x ⊗ b.x ⊕ a.y ⊗ b.y ⊕ a.w ⊗ b.w

abbrev pub cross : Vec → Vec → Vec
cross a b = record { x = a.y ⊗ b.w ⊖ a.w ⊗ b.y; y = a.w ⊗ b.x ⊖ a.x ⊗ b.w; w = a.x ⊗ b.y ⊖ a.y ⊗ b.x }

abbrev pub det : Vec → Vec → Vec → Expr
det a b c = dot (cross a b) c

-- the point z, moved back by the point p
abbrev pub minus : Vec → Vec → Vec
minus z p = record { x = z.x ⊗ p.w ⊖ p.x ⊗ z.w; y = z.y ⊗ p.w ⊖ p.y ⊗ z.w; w = z.w ⊗ p.w }
