-- The drawing of a model in the language of Graphviz: each declared thing has its statement once.
-- A component is a cluster of its locations and ports; a node has the numbers of what it stands
-- for, and its label has the names.
use Rattle.std.specs.Prelude.{ℕ, ◌*◌, ◌+◌, ◌==◌, ◌&&◌, ◌||◌, Bool, not, List, [], ◌∷◌, ◌++◌}
use Rattle.std.specs.Prelude.{codes, filter, length, max, min, slice_index}
use Rattle.std.specs.Prelude.{if◌then◌else◌}
use Rattle.std.specs.Fmt.{decimal}
use Rattle.std.specs.List.{flat_map, list_any, range_with_len}
use Rattle.bip_model.specs.Naming.{name_in}
use Rattle.bip_model.specs.Partitions.{class_in}
use Rattle.bip_model.specs.Parts.{Participant}
use Rattle.bip_model.specs.declared.parts.Component.{Component}
use Rattle.bip_model.specs.declared.parts.Interaction.{Interaction}
use Rattle.bip_model.specs.declared.parts.Pair.{Pair}
use Rattle.bip_model.specs.declared.parts.System.{System}
use Rattle.bip_model.specs.declared.parts.Transition.{Transition}
use Rattle.bip_model.specs.declared.partitions.Partition.{Partition}
use Rattle.bip_reader.specs.Writing.{component_in, interaction_in, own_word, shared_word}
use Rattle.bip_draw.specs.Clauses.{clauses_text, listed}
use Rattle.bip_draw.specs.Hues.{hue}

-- `c0l1`, a location of a component, and `c0p1`, a port
unfoldable pub part_node : ℕ → List ℕ → ℕ → List ℕ
part_node c letter n = codes "c" ++ (decimal c ++ (letter ++ decimal n))

abbrev pub location_node : ℕ → ℕ → List ℕ
location_node c l = part_node c (codes "l") l

abbrev pub port_node : ℕ → ℕ → List ℕ
port_node c p = part_node c (codes "p") p

-- `i1`, an interaction
unfoldable pub interaction_node : ℕ → List ℕ
interaction_node a = codes "i" ++ decimal a

-- a box that is filled with the colour of a class; its label follows
unfoldable pub box_text : ℕ → List ℕ
box_text k =
    codes " [style=filled,fillcolor=\"" ++ (decimal (25 * hue k) ++ codes "e-3 0.3 1\",label=\"")

-- what stands before a label and behind it
unfoldable pub ellipse_front : List ℕ
ellipse_front = codes " [shape=ellipse,label=\""

unfoldable pub label_front : List ℕ
label_front = codes " [label=\""

unfoldable pub arrow : List ℕ
arrow = codes " -> "

unfoldable pub no_arrow : List ℕ
no_arrow = codes " [dir=none];\n"

unfoldable pub dashed : List ℕ
dashed = codes " [style=dashed,constraint=false];\n"

unfoldable pub two_borders : List ℕ
two_borders = codes " [peripheries=2];\n"

unfoldable pub label_end : List ℕ
label_end = codes "\"];\n"

unfoldable pub width_front : List ℕ
width_front = codes " [width=\""

unfoldable pub width_end : List ℕ
width_end = codes "e-3\"];\n"

-- on a line of the component's label: `VARIABLE = START`
abbrev pub variable_text : Component → ℕ → List ℕ
variable_text k v =
    codes "\\n" ++ (name_in k.variables v
    ++ (codes " = " ++ decimal (slice_index k.start v)))

-- the front of a component, with its label
unfoldable pub cluster_front : ℕ → List ℕ
cluster_front c = codes "subgraph cluster_c" ++ (decimal c ++ codes " {\nlabel=\"")

unfoldable pub head_text : ℕ → List ℕ → Component → List ℕ
head_text c name k =
    cluster_front c
    ++ (name
    ++ (flat_map (variable_text k) (range_with_len 0 (length k.variables)) ++ codes "\";\n"))

-- a location
abbrev pub location_text : ℕ → Component → ℕ → List ℕ
location_text c k l =
    location_node c l
    ++ (ellipse_front ++ (name_in k.locations l ++ label_end))

-- a port
abbrev pub port_text : ℕ → Component → ℕ → List ℕ
port_text c k p =
    port_node c p ++ (label_front ++ (name_in k.ports p ++ label_end))

-- a transition: its port and, on lines of their own, its guard and its update
abbrev pub transition_text : Component → Transition → List ℕ
transition_text k t =
    name_in k.ports t.port.0 ++ clauses_text (own_word k) t.guard t.update

-- two transitions are parallel: they have the same source and the same target
abbrev pub are_parallel : Transition → Transition → Bool
are_parallel t u = (t.source.0 == u.source.0) && (t.target.0 == u.target.0)

-- the first ones of parallel transitions: in a list that begins with t, t, and of the first ones
-- behind it those that aren't parallel to t
abbrev pub firsts_of : List Transition → List Transition
firsts_of [] = []
firsts_of (t ∷ ts) = t ∷ filter (λ u. not (are_parallel t u)) (firsts_of ts)

-- the transitions of a component that are parallel to this one, which is one of them
abbrev pub parallel_to : Component → Transition → List Transition
parallel_to k t = filter (are_parallel t) k.transitions

-- a transition has a guard or an update
abbrev pub has_clauses : Transition → Bool
has_clauses t = not (length t.guard == 0) || not (length t.update == 0)

-- what stands between two transitions of a label: the end of a line, and a blank line where one of
-- the label's transitions has a guard or an update
abbrev pub gap_text : List Transition → List ℕ
gap_text ts = if list_any has_clauses ts then codes "\\n\\n" else codes "\\n"

-- the label of an edge: its transitions, one below the other
unfoldable pub label_text : Component → List Transition → List ℕ
label_text k ts = listed [] (gap_text ts) (transition_text k) ts

-- how many bytes the longest line of a label has, where some bytes of the first one have been read:
-- a backslash, 92, ends a line, and its `n` is counted with the next one
abbrev pub longest_line : ℕ → List ℕ → ℕ
longest_line bytes [] = bytes
longest_line bytes (b ∷ label) =
    if b == 92 then max bytes (longest_line 0 label) else longest_line (bytes + 1) label

-- a location is so wide that a line of so many bytes has room above it, at 75 thousandths of an
-- inch a byte, up to 2000 of them; at least as wide as other locations, which have room for ten
unfoldable pub width_text : ℕ → ℕ → ℕ → List ℕ
width_text c l bytes =
    location_node c l ++ (width_front ++ (decimal (75 * max 10 (min bytes 2000)) ++ width_end))

-- what a loop asks of its location: room for its label, which stands in the component's box then
abbrev pub room_text : ℕ → Transition → List ℕ → List ℕ
room_text c t label =
    if t.source.0 == t.target.0 then width_text c t.source.0 (longest_line 1 label) else []

-- the front of an edge from the source of a transition to its target
unfoldable pub ends_text : ℕ → Transition → List ℕ
ends_text c t =
    location_node c t.source.0 ++ (arrow ++ (location_node c t.target.0 ++ label_front))

-- the edge of a transition, with all that are parallel to it
abbrev pub edge_text : ℕ → Component → Transition → List ℕ
edge_text c k t =
    let label = label_text k (parallel_to k t) in
    ends_text c t ++ (label ++ (label_end ++ room_text c t label))

-- the location in which a component starts
unfoldable pub start_text : ℕ → List ℕ
start_text c = location_node c 0 ++ two_borders

-- a component: a cluster of its locations and ports, with an edge for all transitions from a
-- location to another, or to itself
abbrev pub cluster_text : ℕ → List ℕ → Component → List ℕ
cluster_text c name k =
    head_text c name k
    ++ (flat_map (location_text c k) (range_with_len 0 (length k.locations))
    ++ (start_text c
    ++ (flat_map (port_text c k) (range_with_len 0 (length k.ports))
    ++ (flat_map (edge_text c k) (firsts_of k.transitions) ++ codes "}\n"))))

abbrev pub clusters_text : System → List ℕ
clusters_text m =
    flat_map (λ c. cluster_text c (name_in m.component_names c) (component_in m c))
    (range_with_len 0 (length m.components))

-- a class: a box with its colour
abbrev pub class_text : Partition → ℕ → List ℕ
class_text classes k =
    codes "k" ++ (decimal k ++ (box_text k ++ (name_in classes.names k ++ label_end)))

-- the classes, in a cluster of their own
unfoldable pub legend_front : List ℕ
legend_front = codes "subgraph cluster_classes {\nlabel=\"classes\";\n"

abbrev pub legend_text : Partition → List ℕ
legend_text classes =
    legend_front
    ++ (flat_map (class_text classes) (range_with_len 0 (length classes.names)) ++ codes "}\n")

-- a participant: an edge from the interaction to the port
abbrev pub participant_text : ℕ → Participant → List ℕ
participant_text a q =
    interaction_node a
    ++ (arrow ++ (port_node q.0.0 q.1.0 ++ no_arrow))

-- an interaction: a box with the colour of its class, its guard and its transfer; and its
-- participants
unfoldable pub box_of : System → Partition → ℕ → List ℕ → Interaction → List ℕ
box_of m classes a name i =
    interaction_node a
    ++ (box_text (class_in classes a)
    ++ (name ++ clauses_text (shared_word m i.participants) i.guard i.transfer))

abbrev pub node_text : System → Partition → ℕ → List ℕ → Interaction → List ℕ
node_text m classes a name i =
    box_of m classes a name i ++ (label_end ++ flat_map (participant_text a) i.participants)

abbrev pub nodes_text : System → Partition → List ℕ
nodes_text m classes =
    flat_map
    (λ a. node_text m classes a (name_in m.interaction_names a) (interaction_in m a))
    (range_with_len 0 (length m.interactions))

-- a priority: a dashed edge from the lower interaction to the higher one
abbrev pub priority_text : Pair → List ℕ
priority_text p =
    interaction_node p.low.0
    ++ (arrow ++ (interaction_node p.high.0 ++ dashed))

-- how all is drawn
unfoldable pub front_text : List ℕ
front_text =
    codes "digraph model {\nrankdir=LR;\nfontname=\"sans-serif\";\n"
    ++ (codes "node [fontname=\"sans-serif\",fontsize=11,shape=box,height=0.3];\n"
    ++ codes "edge [fontname=\"sans-serif\",fontsize=10];\n")

-- the drawing of a model and its classes
abbrev pub drawing_of : System → Partition → List ℕ
drawing_of m classes =
    front_text
    ++ (clusters_text m
    ++ (legend_text classes
    ++ (nodes_text m classes ++ (flat_map priority_text m.priorities ++ codes "}\n"))))
