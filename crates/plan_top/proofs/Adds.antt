-- An obstacle of a document is added by an edit in range.
use Rattle.plan_scene.specs.Edits.{IsId, IsShape}
use Rattle.plan_wire.specs.Bounds.{ShapeFits}
use Rattle.plan_wire.specs.declared.documents.Shape.{Shape}

pub adds : (s : Shape) → ShapeFits s → IsId s.id × IsShape s.spots.items
adds s fits = (fits.id, ((fits.spots.three, fits.spots.few), fits.spots.bounded))
