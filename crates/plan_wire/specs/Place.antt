-- A place that the code keeps, by its path.
use Rattle.std.specs.Prelude.{ℕ, List, codes}
use Rattle.plan_wire.specs.Reading.{at_member, at_element}
use Rattle.plan_wire.specs.declared.documents.place.Place.{Place, fold-Place}
use Rattle.plan_wire.specs.declared.documents.place.Place.TheOpen.{Place-F}

abbrev pub path_step : Place-F (List ℕ) → List ℕ
path_step Place-F.Root = codes "$"
path_step (Place-F.Member parent name) = at_member parent.now name.now
path_step (Place-F.Element parent i) = at_element parent.now i

abbrev pub path_of : Place → List ℕ
path_of = fold-Place (List ℕ) path_step
