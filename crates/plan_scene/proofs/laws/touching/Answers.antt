use Rattle.plan_scene.proofs.Kept.{touching}
use Rattle.plan_scene.proofs.laws.touching.Goals as goal

pub returns : goal.returns
returns c = touching
