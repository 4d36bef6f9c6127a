-- A document whose first scene is refused has no session.
use Rattle.std.proofs.Common.{◌≡◌, subst}
use Rattle.plan_wire.specs.Documents.{Document}
use Rattle.plan_scene.specs.Scene.{Scene, scene_seen}
use Rattle.plan_reply.specs.First.{IsFirst}
use Rattle.plan_top.specs.Laws.{RefusedOrBegun}
use Rattle.plan_top.specs.Outcome.{IsRefusedScene}
use Rattle.plan_top.specs.declared.status.Refusal.{Refusal}
use Rattle.plan_top.proofs.OneFirst.{one_given}
use Rattle.plan_top.proofs.OneRefusal.{first_or_refused}

pub no_first : (d : Document) (refusal : Refusal) (given first : Scene) → IsRefusedScene d refusal → scene_seen given ≡ d.scene → IsFirst given first → ⊥
no_first d refusal given first refused is_given is_first = first_or_refused refused.given first refusal (subst (λ s. IsFirst s first) (one_given given refused.given d.scene is_given refused.is_given) is_first) refused.is_refused

pub refused_or_begun : RefusedOrBegun
refused_or_begun d refusal pairs refused = ((λ text s. no_first d refusal s.given s.first refused s.is_given s.is_first), (λ lines s. no_first d refusal s.given s.first refused s.is_given s.is_first))
