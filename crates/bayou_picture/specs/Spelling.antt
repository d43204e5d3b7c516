-- A picture as a text: elements of SVG 1.1, in which all that is from outside stands escaped.
use Rattle.std.specs.Prelude.{ℕ, List, [], ◌∷◌, ◌++◌, Option, None, Some, codes, decimal, flat_map, string_bytes}
use Rattle.bayou_judge.specs.declared.breach.Breach.{Breach}
use Rattle.bayou_judge.specs.declared.breach.Guarantee.{Guarantee}
use Rattle.bayou_judge.specs.declared.breach.Guarantee.TheVariants.{ReadYourWrites, MonotonicReads, WritesFollowReads, MonotonicWrites}
use Rattle.bayou_picture.specs.declared.drawing.Drawing.{Drawing}
use Rattle.bayou_picture.specs.declared.drawing.Drawn.{Drawn}
use Rattle.bayou_picture.specs.declared.shape.ShapeForm.{ShapeForm}
use Rattle.bayou_picture.specs.declared.shape.ShapeForm.TheVariants as form
use Rattle.bayou_picture.specs.declared.shape.ShapeKind.{ShapeKind}
use Rattle.bayou_picture.specs.declared.shape.ShapeKind.TheVariants as kind
use Rattle.bayou_picture.specs.declared.shape.Point.{Point}
use Rattle.bayou_picture.specs.declared.shape.DrawnShape.{DrawnShape}
use Rattle.bayou_picture.specs.declared.shape.Style.{Style}
use Rattle.bayou_picture.specs.declared.spelling.TheConstants.{STYLES}
use Rattle.bayou_picture.specs.Escape.{escaped}

abbrev pub kind_word : ShapeKind → List ℕ
kind_word kind.Ground = codes "ground"
kind_word kind.Rail = codes "rail"
kind_word kind.Heading = codes "heading"
kind_word kind.Name = codes "name"
kind_word kind.Note = codes "note"
kind_word kind.Mark = codes "mark"
kind_word kind.Write = codes "write"
kind_word kind.Inside = codes "inside"
kind_word kind.Read = codes "read"
kind_word kind.InsideRead = codes "inside-read"
kind_word kind.Refused = codes "refused"
kind_word kind.Wrong = codes "wrong"
kind_word kind.Arc = codes "arc"
kind_word kind.Reach = codes "reach"
kind_word kind.Ring = codes "ring"
kind_word kind.LateRing = codes "late-ring"
kind_word kind.Gap = codes "gap"
kind_word kind.Number = codes "number"
kind_word kind.Told = codes "told"

abbrev pub hue_text : Option ℕ → List ℕ
hue_text None = []
hue_text (Some hue) = codes " h" ++ decimal hue

-- how a shape looks
abbrev pub class_text : Style → List ℕ
class_text style = codes " class=\"" ++ (kind_word style.kind ++ (hue_text style.hue ++ codes "\""))

abbrev pub tag_of : ShapeForm → List ℕ
tag_of (form.Line from to) = codes "line"
tag_of (form.Box corner width height) = codes "rect"
tag_of (form.Disc center radius) = codes "circle"
tag_of (form.Bend from towards to) = codes "path"
tag_of (form.Label at label) = codes "text"

abbrev pub pair_text : Point → List ℕ
pair_text at = decimal at.x ++ (codes " " ++ decimal at.y)

-- the way of a bend
abbrev pub bend_text : (from towards to : Point) → List ℕ
bend_text from towards to = codes " d=\"M" ++ (pair_text from ++ (codes " Q" ++ (pair_text towards ++ (codes " " ++ (pair_text to ++ codes "\"")))))

-- where a shape is
abbrev pub attributes : ShapeForm → List ℕ
attributes (form.Line from to) =
    codes " x1=\"" ++ (decimal from.x ++ (codes "\" y1=\"" ++ (decimal from.y ++ (codes "\" x2=\"" ++ (decimal to.x ++ (codes "\" y2=\"" ++ (decimal to.y ++ codes "\"")))))))
attributes (form.Box corner width height) =
    codes " x=\"" ++ (decimal corner.x ++ (codes "\" y=\"" ++ (decimal corner.y ++ (codes "\" width=\"" ++ (decimal width ++ (codes "\" height=\"" ++ (decimal height
    ++ codes "\" rx=\"4\"")))))))
attributes (form.Disc center radius) =
    codes " cx=\"" ++ (decimal center.x ++ (codes "\" cy=\"" ++ (decimal center.y ++ (codes "\" r=\"" ++ (decimal radius ++ codes "\"")))))
attributes (form.Bend from towards to) = bend_text from towards to
attributes (form.Label at label) = codes " x=\"" ++ (decimal at.x ++ (codes "\" y=\"" ++ (decimal at.y ++ codes "\"")))

-- what is shown where a reader points at it, escaped
abbrev pub hint_text : List ℕ → List ℕ
hint_text [] = []
hint_text (byte ∷ bytes) = codes "<title>" ++ (escaped (byte ∷ bytes) ++ codes "</title>")

-- the text of a label, escaped
abbrev pub content : ShapeForm → List ℕ
content (form.Line from to) = []
content (form.Box corner width height) = []
content (form.Disc center radius) = []
content (form.Bend from towards to) = []
content (form.Label at label) = escaped (string_bytes label)

-- a shape
abbrev pub shape_text : DrawnShape → List ℕ
shape_text shape =
    (codes "<" ++ (tag_of shape.form ++ (class_text shape.style ++ (attributes shape.form ++ codes ">"))))
    ++ (hint_text (string_bytes shape.hint) ++ (content shape.form ++ (codes "</" ++ (tag_of shape.form ++ codes ">\n"))))

abbrev pub shapes_text : List DrawnShape → List ℕ
shapes_text shapes = flat_map shape_text shapes

abbrev pub guarantee_word : Guarantee → List ℕ
guarantee_word ReadYourWrites = codes "ryw"
guarantee_word MonotonicReads = codes "mr"
guarantee_word WritesFollowReads = codes "wfr"
guarantee_word MonotonicWrites = codes "mw"

abbrev pub whose_text : Breach → List ℕ
whose_text breach = codes " data-guarantee=\"" ++ (guarantee_word breach.guarantee ++ (codes "\" data-session=\"" ++ (decimal breach.session.index ++ codes "\"")))

abbrev pub places_text : Breach → List ℕ
places_text breach = codes " data-first=\"" ++ (decimal breach.first ++ (codes "\" data-second=\"" ++ (decimal breach.second ++ codes "\"")))

abbrev pub missing_text : Breach → List ℕ
missing_text breach =
    codes " data-server=\"" ++ (decimal breach.server.index ++ (codes "\" data-wid=\"" ++ (decimal breach.wid.origin.index ++ (codes ":" ++ (decimal breach.wid.seq ++ codes "\"")))))

-- what the group of a breach begins with: which breach it is
abbrev pub opening : Breach → List ℕ
opening breach = codes "<g class=\"breach\"" ++ (whose_text breach ++ (places_text breach ++ (missing_text breach ++ codes ">\n")))

-- a breach: a group of its shapes
abbrev pub drawn_text : Drawn → List ℕ
drawn_text drawn = opening drawn.breach ++ (shapes_text drawn.shapes.items ++ codes "</g>\n")

abbrev pub head_text : (width height : ℕ) → List ℕ
head_text width height =
    codes "<svg xmlns=\"http://www.w3.org/2000/svg\" width=\"" ++ (decimal width ++ (codes "\" height=\"" ++ (decimal height ++ (codes "\" viewBox=\"0 0 " ++ (decimal width
    ++ (codes " " ++ (decimal height ++ (codes "\">\n" ++ STYLES.now))))))))

-- a picture: what is below, and a group for each breach
abbrev pub spelled : Drawing → List ℕ
spelled drawing =
    head_text drawing.width drawing.height ++ (shapes_text drawing.ground.items ++ (flat_map drawn_text drawing.breaches.items ++ codes "</svg>\n"))
