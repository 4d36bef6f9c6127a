-- Each scene with a map has sums, a room and pieces, and by these the law of rings holds.
use Rattle.plan_scene.specs.Scene.{scene_seen}
use Rattle.plan_ring.proofs.OneKind.{one_kind}
use Rattle.plan_reply.proofs.Replies.{floor}
use Rattle.plan_reply.proofs.laws.one_kind.Goals as goal

pub returns : goal.returns
returns c = λ scene is_scene mapped s g hs hg cs cg. let m = mapped.is_map in one_kind (scene_seen scene) m.sums m.room m.pieces (floor scene is_scene m) m.is_boundary s g hs hg cs cg
