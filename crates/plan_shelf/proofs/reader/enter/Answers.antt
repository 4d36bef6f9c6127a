-- A reader may enter: what is shown stays, and the reader then knows its shelf.
use Rattle.std.proofs.Common.{refl}
use Rattle.plan_shelf.proofs.Rules.{sees}
use Rattle.plan_shelf.proofs.reader.enter.Goals as goal

pub enter_as-requires : goal.enter_as-requires
enter_as-requires g c x = sees _ _ x x refl
