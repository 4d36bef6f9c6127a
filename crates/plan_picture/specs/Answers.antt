-- Answers of a floor, whatever its document looks like beside its scene and its task.
use Rattle.plan_scene.specs.Scene.{Scene, scene_seen}
use Rattle.plan_wire.specs.Documents.{Task}
use Rattle.plan_picture.specs.Outcome.{IsAnswerTo}
use Rattle.plan_picture.specs.declared.answer.Answer.{Answer}
use Rattle.plan_picture.specs.declared.command.Command.{Command}

abbrev pub IsAnswerOn : Command → Scene → Task → Answer → Type 0
IsAnswerOn command given task answer = IsAnswerTo command (record { scene = scene_seen given; task = task }) answer.status answer.text.items
