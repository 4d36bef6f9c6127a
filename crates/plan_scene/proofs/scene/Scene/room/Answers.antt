-- A room is no farther than its frame and its robot's box together.
use Rattle.std.proofs.Common.{subst}
use Rattle.plan_scene.specs.Built.{IsKept}
use Rattle.plan_scene.proofs.Rooms.{low_within, high_within}
use Rattle.plan_scene.proofs.scene.Scene.room.Goals as goal

pub returns-clause-low : goal.returns-clause-low
returns-clause-low c = low_within c.self.inside.room (subst (λ s. IsKept s c.self.inside.room c.self.inside.sums) c.self.view_is c.self.invariant)

pub returns-clause-high : goal.returns-clause-high
returns-clause-high c = high_within c.self.inside.room (subst (λ s. IsKept s c.self.inside.room c.self.inside.sums) c.self.view_is c.self.invariant)
