-- Obstacles that are drawn one after another: those that are there, and those that are left.
use Rattle.std.proofs.Common.{◌≡◌, ℕ, suc, List, [], ◌∷◌, ◌++◌, sym, ap, append_assoc}
use Rattle.plan_spec.specs.Placement.{Obstacle}
use Rattle.plan_demo.specs.Demo.{rectangle, obstacles, after_obstacles}
use Rattle.plan_demo.specs.Draws.{after}

pub one_more : (there : List Obstacle) (o : Obstacle) (n left id next s : ℕ) → n ≡ suc left → next ≡ suc id → o ≡ record { id = id; shape = rectangle s } → (there ++ o ∷ []) ++ obstacles left next (after 4 s) ≡ there ++ obstacles n id s
one_more there o n left id next s e f g = rw (e, f, g) (append_assoc there (record { id = id; shape = rectangle s } ∷ []) (obstacles left (suc id) (after 4 s)))

pub state_more : (n left s : ℕ) → n ≡ suc left → after_obstacles left (after 4 s) ≡ after_obstacles n s
state_more n left s e = ap (λ m. after_obstacles m s) (sym e)
