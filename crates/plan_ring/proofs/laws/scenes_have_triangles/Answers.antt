-- The law that scenes have triangles.
use Rattle.plan_ring.proofs.Alike.SceneTriangles.{scene_triangles}
use Rattle.plan_ring.proofs.laws.scenes_have_triangles.Goals as goal

pub returns : goal.returns
returns c = scene_triangles
