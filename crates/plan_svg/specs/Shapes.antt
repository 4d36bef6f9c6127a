-- A drawing as a list of shapes, and the text of each: an element of SVG.
use Rattle.std.specs.Prelude.{ℕ, ℤ, nat_eq, List, [], ◌∷◌, ◌++◌, codes, if◌then◌else◌}
use Rattle.std.specs.Fmt.{signed_decimal}
use Rattle.std.specs.List.{join_by, flat_map}
use Rattle.plan_spec.specs.Vector.{Vector}
use Rattle.plan_spec.specs.Segment.{Segment}
use Rattle.plan_wire.specs.Documents.{Certificate, path, chain}
use Rattle.plan_wire.specs.CertificateText.{certificate_text}
use Rattle.plan_svg.specs.Decimal.{decimal_text}
use Rattle.plan_svg.specs.declared.class.Class.{Class}
use Rattle.plan_svg.specs.declared.class.Class.TheVariants as class

-- a filled polygon; the line of a path, or the segments of a chain; the robot, placed at a point; and a text at a point
pub data Shape : Type 0 where
  polygon : Class → List Vector → Shape
  line : Class → Certificate → Shape
  robot : Class → Vector → Shape
  label : Class → Vector → List ℕ → Shape

-- ---- parts of texts
unfoldable pub class_text : Class → List ℕ
class_text class.Page = codes "page"
class_text class.Floor = codes "floor"
class_text class.Room = codes "room"
class_text class.Sum = codes "sum"
class_text class.Obstacle = codes "obstacle"
class_text class.TouchedObstacle = codes "obstacle fault"
class_text class.Frame = codes "frame"
class_text class.TouchedFrame = codes "frame fault"
class_text class.Path = codes "path"
class_text class.Chain = codes "chain"
class_text class.Fault = codes "wrong"
class_text class.Step = codes "step"
class_text class.Start = codes "start"
class_text class.Goal = codes "goal"
class_text class.Mark = codes "mark"
class_text class.Id = codes "id"
class_text class.Caption = codes "caption"

unfoldable pub place_text : Vector → List ℕ
place_text p = decimal_text p.x p.w ++ codes "," ++ decimal_text p.y p.w

abbrev pub places_text : List Vector → List ℕ
places_text = join_by place_text (codes " ")

-- the exact triple
unfoldable pub pair_text : ℤ → ℤ → List ℕ
pair_text x y = codes "[" ++ signed_decimal x ++ codes "," ++ signed_decimal y

unfoldable pub triple_text : Vector → List ℕ
triple_text p = pair_text p.x p.y ++ codes "," ++ signed_decimal p.w ++ codes "]"

-- from one end to the other
unfoldable pub stroke_text : Segment → List ℕ
stroke_text s = codes "M" ++ place_text s.a ++ codes " " ++ place_text s.b

-- from point to point, or each segment by itself
unfoldable pub strokes_text : Certificate → List ℕ
strokes_text (path []) = []
strokes_text (path (p ∷ ps)) = codes "M" ++ places_text (p ∷ ps)
strokes_text (chain segments) = flat_map stroke_text segments

-- a byte of a text, as it stands between the tags of XML
unfoldable pub escaped_byte : ℕ → List ℕ
escaped_byte b =
    if nat_eq b 38 then codes "&amp;"
    else if nat_eq b 60 then codes "&lt;"
    else if nat_eq b 62 then codes "&gt;"
    else b ∷ []

abbrev pub escaped : List ℕ → List ℕ
escaped = flat_map escaped_byte

-- ---- elements
-- the name of an element and its class
unfoldable pub opening_text : List ℕ → Class → List ℕ
opening_text element class = codes "<" ++ element ++ codes " class=\"" ++ class_text class ++ codes "\""

unfoldable pub points_text : List Vector → List ℕ
points_text places = codes " points=\"" ++ places_text places ++ codes "\""

unfoldable pub drawn_text : Certificate → List ℕ
drawn_text certificate = codes " d=\"" ++ strokes_text certificate ++ codes "\""

-- the path or the chain as a certificate is printed
unfoldable pub exact_text : Certificate → List ℕ
exact_text certificate = codes " data-certificate='" ++ certificate_text certificate ++ codes "'"

unfoldable pub at_text : Vector → List ℕ
at_text p = codes " href=\"#robot\" x=\"" ++ decimal_text p.x p.w ++ codes "\" y=\"" ++ decimal_text p.y p.w

unfoldable pub exact_at_text : Vector → List ℕ
exact_at_text p = codes "\" data-at=\"" ++ triple_text p ++ codes "\""

-- where a text stands, upright although the y axis is turned up
unfoldable pub upright_text : Vector → List ℕ
upright_text p = codes " dy=\".35em\" transform=\"translate(" ++ place_text p ++ codes ") scale(1,-1)\">"

unfoldable pub shape_text : Shape → List ℕ
shape_text (polygon class places) = opening_text (codes "polygon") class ++ points_text places ++ codes "/>\n"
shape_text (line class certificate) = opening_text (codes "path") class ++ drawn_text certificate ++ exact_text certificate ++ codes "/>\n"
shape_text (robot class at) = opening_text (codes "use") class ++ at_text at ++ exact_at_text at ++ codes "/>\n"
shape_text (label class at text) = opening_text (codes "text") class ++ upright_text at ++ escaped text ++ codes "</text>\n"

abbrev pub shapes_text : List Shape → List ℕ
shapes_text = flat_map shape_text
