-- What a step makes of a scene: the edited scene, whose map is not too large, or the first refusal.
use Rattle.plan_spec.specs.Maps.{IsMapped, IsTooLarge}
use Rattle.plan_scene.specs.Scene.{Scene, scene_seen}
use Rattle.plan_scene.specs.Edits.{IsEdited, IsRefused}
use Rattle.plan_scene.specs.declared.edit.Edit.{Edit}
use Rattle.plan_scene.specs.declared.fault.EditFault.{EditFault}
use Rattle.plan_scene.specs.declared.fault.EditFault.TheVariants as edit
use Rattle.plan_reply.specs.declared.fault.StepFault.{StepFault}
use Rattle.plan_reply.specs.declared.fault.StepFault.TheVariants.{TooManyRegions, NoMemory, Edit as EditRefused}

-- a fault other than want of memory
abbrev pub IsCause : EditFault → Type 0
IsCause edit.NoMemory = ⊥
IsCause _ = Unit {0}

-- the scene t is s after the edit
abbrev pub IsStep : Scene → Edit → Scene → Type 0
IsStep s e t = IsEdited s e t × IsMapped (scene_seen t)

-- why there is none
abbrev pub IsRefusedStep : Scene → Edit → StepFault → Type 0
IsRefusedStep s e (EditRefused fault) = IsRefused s e fault × IsCause fault
IsRefusedStep s e TooManyRegions = (t : Scene) × IsEdited s e t × IsTooLarge (scene_seen t)
IsRefusedStep s e NoMemory = Unit {0}
