-- How a sequence chart is drawn.
use Rattle.std.specs.Prelude.{List, codes, ℕ, ◌++◌}

unfoldable pub line_style : List ℕ
line_style =
    codes "<style>\ntext{paint-order:stroke;stroke:white;stroke-width:3px}\n.class{stroke:#7ac}\n"
    ++ (codes ".guide{stroke:black;stroke-opacity:.06}\n.number{text-anchor:end;fill:#888}\n"
    ++ (codes ".head{text-anchor:middle;font-weight:bold}\n.group{text-anchor:middle;fill:#888}\n"
    ++ codes ".component{stroke:#bbb}\n.station{stroke:#c93;stroke-dasharray:6 3}\n"))

unfoldable pub arrow_style : List ℕ
arrow_style =
    codes ".offer,.request,.granted,.refused,.notify{marker-end:url(#taken)}\n"
    ++ (codes ".offer{stroke:#999}\n.request{stroke:#06c}\n.granted{stroke:#080}\n"
    ++ (codes ".refused{stroke:#c00}\n.notify{stroke:#80c}\n.aim{stroke:#c93}\n"
    ++ codes ".air path,.aim{stroke-dasharray:3 2;marker-end:url(#air)}\n"))

unfoldable pub mark_style : List ℕ
mark_style =
    codes ".grant{fill:#080}\n.refusal{fill:white;stroke:#c00;stroke-width:2px}\n"
    ++ (codes ".done{fill:#444}\n.shared{fill:#c93}\n.nothing{stroke:#c00}\n"
    ++ codes "g text{font-size:9px;fill:#555;stroke-width:1px}\n</style>\n")

-- the heads of arrows that are taken, and the ends of those that aren't, on a white ground
unfoldable pub heads_text : List ℕ
heads_text =
    codes "<marker id=\"taken\" viewBox=\"0 0 8 8\" refX=\"12\" refY=\"4\" markerWidth=\"8\" "
    ++ (codes
    "markerHeight=\"8\" orient=\"auto\"><path d=\"M0 1L8 4L0 7z\" fill=\"#555\"/></marker>\n"
    ++ (codes "<marker id=\"air\" viewBox=\"0 0 8 8\" refX=\"4\" refY=\"4\" markerWidth=\"7\" "
    ++ (codes "markerHeight=\"7\"><circle cx=\"4\" cy=\"4\" r=\"3\" fill=\"white\" "
    ++ codes
    "stroke=\"#555\"/></marker>\n<rect width=\"100%\" height=\"100%\" fill=\"white\"/>\n")))

unfoldable pub sequence_style : List ℕ
sequence_style = line_style ++ (arrow_style ++ (mark_style ++ heads_text))
