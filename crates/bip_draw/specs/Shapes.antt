-- The shapes of a chart, as elements of SVG. What belongs to a row stands in a group at the y of
-- this row, so that a shape there has an x of its own alone.
use Rattle.std.specs.Prelude.{ℕ, ◌*◌, List, ◌++◌, codes}
use Rattle.std.specs.Fmt.{decimal}
use Rattle.bip_model.specs.declared.wants.Role.{Role}
use Rattle.bip_model.specs.declared.wants.Role.TheVariants.{Moved, Seen}
use Rattle.bip_draw.specs.Escaping.{escaped}
use Rattle.bip_draw.specs.Hues.{hue}

-- a number between two texts
unfoldable pub between : List ℕ → ℕ → List ℕ → List ℕ
between front n back = front ++ (decimal n ++ back)

-- the end of a text
unfoldable pub text_end : List ℕ
text_end = codes "</text>\n"

-- words with the end of their text
unfoldable pub ended : List ℕ → List ℕ
ended words = escaped words ++ text_end

-- the end of a group
unfoldable pub group_end : List ℕ
group_end = codes "</g>\n"

-- the end of a group's front, with the colour of a class for all that stands in it
unfoldable pub colour_text : ℕ → List ℕ
colour_text k = between (codes " color=\"hsl(") (9 * hue k) (codes ",70%,40%)\">\n")

-- the front of a group at a place, without its end
unfoldable pub place_text : ℕ → ℕ → List ℕ
place_text x y =
    between (codes "<g transform=\"translate(") x (codes ",") ++ between (codes "") y (codes ")\"")

-- a square in the colour of its group, and the front of a text beside it
unfoldable pub square_text : List ℕ
square_text =
    codes "<rect width=\"12\" height=\"12\" fill=\"currentColor\"/><text x=\"18\" y=\"10\">"

-- the line of a lane
unfoldable pub lane_line : ℕ → ℕ → ℕ → List ℕ
lane_line x top bottom =
    between (codes "<path class=\"lane\" d=\"M") x (codes " ")
    ++ (between (codes "") top (codes "V") ++ between (codes "") bottom (codes "\"/>\n"))

-- the front of the name of a lane
unfoldable pub head_front : ℕ → ℕ → List ℕ
head_front x y =
    between (codes "<text class=\"head\" x=\"") x (codes "\" y=\"")
    ++ between (codes "") y (codes "\">")

-- the number of a row beside a faint line, and the front of the row's name
unfoldable pub number_text : ℕ → List ℕ
number_text n =
    codes "<line class=\"guide\" x2=\"100%\"/>\n"
    ++ between (codes "<text class=\"number\" x=\"50\" y=\"4\">") n
    (codes "</text><text x=\"60\" y=\"4\">")

-- a bar from one lane to another
unfoldable pub bar_text : ℕ → ℕ → List ℕ
bar_text from to =
    between (codes "<path class=\"bar\" d=\"M") from (codes " 0H")
    ++ between (codes "") to (codes "\"/>\n")

-- the front of a circle with the name that it shows to who points at it, and what ends that: full
-- for a component that is moved, open for one that is only looked at
abbrev pub circle_front : Role → List ℕ
circle_front Moved = codes "<circle class=\"moved\" r=\"5\" cx=\""
circle_front Seen = codes "<circle class=\"seen\" r=\"5\" cx=\""

unfoldable pub circle_text : Role → ℕ → List ℕ
circle_text role x = between (circle_front role) x (codes "\"><title>")

unfoldable pub circle_end : List ℕ
circle_end = codes "</title></circle>"

-- a number beside a circle
unfoldable pub beside_text : ℕ → ℕ → List ℕ
beside_text x n =
    between (codes "<text class=\"beside\" x=\"") x (codes "\" y=\"-5\">")
    ++ between (codes "") n text_end

-- the front of what stands beside a lane, below a bar
unfoldable pub below_front : ℕ → ℕ → List ℕ
below_front x y =
    between (codes "<text class=\"below\" x=\"") x (codes "\" y=\"")
    ++ between (codes "") y (codes "\">")

-- the front of a text that stands below all rows, in the group of a row
unfoldable pub fault_front : List ℕ
fault_front = codes " class=\"fault\">\n<line x2=\"100%\"/>\n<text x=\"10\" y=\"18\">"

-- lines that stand below all rows, in the group of a row: their front, each of them below the one
-- before, and their end
unfoldable pub foot_front : List ℕ
foot_front = codes ">\n<line class=\"guide\" x2=\"100%\"/>\n<text y=\"4\">\n"

unfoldable pub span_front : List ℕ
span_front = codes "<tspan x=\"10\" dy=\"14\">"

unfoldable pub span_end : List ℕ
span_end = codes "</tspan>\n"

unfoldable pub foot_line : List ℕ → List ℕ
foot_line line = span_front ++ (escaped line ++ span_end)

unfoldable pub foot_end : List ℕ
foot_end = text_end ++ group_end

-- the end of a group's front, where no more is said of it
unfoldable pub front_end : List ℕ
front_end = codes ">\n"

-- how lanes are drawn, how marks are, and the texts beside these
unfoldable pub lane_style : List ℕ
lane_style =
    codes "<style>\ntext{paint-order:stroke;stroke:white;stroke-width:3px}\n"
    ++ (codes ".lane{stroke:#bbb}\n.head{font-weight:bold;text-anchor:middle}\n"
    ++ codes ".guide{stroke:#eee}\n.number{text-anchor:end;fill:#888}\n")

unfoldable pub text_style : List ℕ
text_style =
    codes ".beside{font-size:9px;fill:#555}\n"
    ++ (codes ".below{font-size:10px;font-style:italic}\n"
    ++ codes ".fault{stroke:#c00;fill:#c00}\n</style>\n")

unfoldable pub mark_style : List ℕ
mark_style =
    codes ".bar,.seen{stroke:currentColor;stroke-width:3px}\n"
    ++ (codes ".moved{fill:currentColor}\n.seen{fill:white}\n" ++ text_style)

-- how all is drawn, on a white ground
unfoldable pub style_text : List ℕ
style_text =
    lane_style
    ++ (mark_style ++ codes "<rect width=\"100%\" height=\"100%\" fill=\"white\"/>\n")

-- the front of a chart of a width and a height
unfoldable pub chart_front : ℕ → ℕ → List ℕ
chart_front width height =
    between (codes "<svg xmlns=\"http://www.w3.org/2000/svg\" width=\"") width
    (codes "\" height=\"")
    ++ (between (codes "") height (codes "\" font-family=\"monospace\" font-size=\"11\">\n")
    ++ style_text)
