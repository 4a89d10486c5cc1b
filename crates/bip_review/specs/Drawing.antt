-- The drawing of a plan in the language of Graphviz: what is shown of each interaction, of each
-- component and of each station, and nothing else. A node has the number of what it stands for, and
-- its label has the name.
use Rattle.std.specs.Prelude.{◌≡◌, ℕ, ◌+◌, ◌==◌, List, [], ◌∷◌, ◌++◌, codes, length, map}
use Rattle.std.specs.Prelude.{All, Option, None, Some, nat_lt, slice_index, if◌then◌else◌}
use Rattle.std.specs.Fmt.{decimal}
use Rattle.std.specs.List.{flat_map, range_with_len}
use Rattle.bip_model.specs.Naming.{name_in}
use Rattle.bip_model.specs.Partitions.{class_in, numbers_in}
use Rattle.bip_model.specs.declared.numbering.CompId.{CompId}
use Rattle.bip_model.specs.declared.numbering.InterId.{InterId}
use Rattle.bip_partition.specs.Plans.{AreStations, Planned}
use Rattle.bip_review.specs.Writing.{ComponentShown, InteractionShown, IsComponentShown}
use Rattle.bip_review.specs.Writing.{IsInteractionShown, IsStationShown, Look, StationShown}
use Rattle.bip_review.specs.declared.reasons.RowReason.{RowReason}

-- facts for the numbers below a count in turn, each true of its number
pub data AreFacts {X : Type 0} (IsFact : ℕ → X → Type 0) : ℕ → List X → Type 0 where
  no_fact : AreFacts IsFact 0 []
  one_fact : {n : ℕ} {facts : List X} {fact : X}
      → AreFacts IsFact n facts → IsFact n fact → AreFacts IsFact (n + 1) (facts ++ fact ∷ [])

-- the interactions of stations
abbrev pub station_inters : List (InterId × StationShown) → List InterId
station_inters stations = map (λ (s : InterId × StationShown). s.0) stations

-- what is shown of a plan: of each interaction, of each component, and of each station, beside its
-- interaction
pub record PlanShown : Type 0 where
  pub interactions : List InteractionShown
  pub components : List ComponentShown
  pub stations : List (InterId × StationShown)

-- what is shown of a plan is true
pub record IsPlanShown (p : Planned) (shown : PlanShown) : Type 0 where
  pub interactions :
      AreFacts (IsInteractionShown p) (length p.model.interactions) shown.interactions
  pub components : AreFacts (IsComponentShown p) (length p.model.components) shown.components
  pub listed : AreStations p (station_inters shown.stations)
  pub stations : All (λ (s : InterId × StationShown). IsStationShown p s.0.0 s.1) shown.stations

-- facts one behind the other, each spelled with its number, from the first one's on
abbrev pub spelled_in_turn : {X : Type 0} → (ℕ → X → List ℕ) → ℕ → List X → List ℕ
spelled_in_turn spell n [] = []
spelled_in_turn spell n (fact ∷ facts) = spell n fact ++ spelled_in_turn spell (n + 1) facts

-- `i1`, an interaction, and `c1`, a component
abbrev pub node_name : List ℕ → ℕ → List ℕ
node_name letter n = letter ++ decimal n

-- an edge from an interaction: the letter and the number of the other end, and how it is drawn
abbrev pub edge_from : ℕ → List ℕ → ℕ → List ℕ → List ℕ
edge_from a letter n style =
    node_name (codes "i") a ++ (codes " -> " ++ (node_name letter n ++ (style ++ codes ";\n")))

-- a label's text, and its end
abbrev pub label_of : List (List ℕ) → ℕ → List ℕ
label_of names n = name_in names n ++ codes "\"];\n"

-- an interaction is a box
abbrev pub interaction_box : Planned → ℕ → List ℕ
interaction_box p a =
    node_name (codes "i") a ++ (codes " [label=\"" ++ label_of p.model.interaction_names a)

-- an interaction of a class, which stands in this class or in another one
abbrev pub member_text : Planned → ℕ → ℕ → ℕ → List ℕ
member_text p k a class = if class == k then interaction_box p a else []

-- a class is a cluster with these members
abbrev pub class_cluster : Planned → ℕ → List ℕ → List ℕ
class_cluster p k members =
    codes "subgraph cluster_k" ++ (decimal k ++ (codes " {\nlabel=\""
    ++ (name_in p.classes.names k ++ (codes "\";\n" ++ (members ++ codes "}\n")))))

-- its members are the interactions that are shown to stand in it
abbrev pub shown_class : Planned → List InteractionShown → ℕ → List ℕ
shown_class p shown k =
    class_cluster p k
    (spelled_in_turn (λ a (i : InteractionShown). member_text p k a i.class) 0 shown)

-- a component is an ellipse, which is filled where it has a row
abbrev pub ellipse_text : Option RowReason → List ℕ
ellipse_text None = codes " [shape=ellipse,label=\""
ellipse_text (Some reason) = codes " [shape=ellipse,style=filled,label=\""

abbrev pub component_ellipse : Planned → ℕ → ComponentShown → List ℕ
component_ellipse p c shown =
    node_name (codes "c") c ++ (ellipse_text shown.reason ++ label_of p.model.component_names c)

-- a reserved interaction has two borders
abbrev pub borders_text : ℕ → Option CompId → List ℕ
borders_text a None = []
borders_text a (Some c) = node_name (codes "i") a ++ codes " [peripheries=2];\n"

-- an edge to a component that an interaction moves, and a dashed one to one that it looks at
abbrev pub moved_edge : ℕ → ℕ → List ℕ
moved_edge a c = edge_from a (codes "c") c []

abbrev pub looked_edge : ℕ → CompId → List ℕ
looked_edge a c = edge_from a (codes "c") c.0 (codes " [style=dashed]")

abbrev pub edges_text : ℕ → InteractionShown → List ℕ
edges_text a shown =
    borders_text a shown.reserving
    ++ (flat_map (moved_edge a) shown.moved
    ++ flat_map (λ (look : Look). looked_edge a look.comp) shown.looks)

-- a conflict is an edge without an arrow, from the lower station to the higher one
abbrev pub conflict_text : ℕ → ℕ → List ℕ
conflict_text a b =
    if nat_lt a b then edge_from a (codes "i") b (codes " [dir=none,constraint=false]") else []

abbrev pub conflicts_text : ℕ → List InterId → List ℕ
conflicts_text a conflicts = flat_map (conflict_text a) (numbers_in conflicts)

abbrev pub station_edges : InterId × StationShown → List ℕ
station_edges s = conflicts_text s.0.0 s.1.conflicts

-- the interaction of the station with a number
abbrev pub station_inter : List InterId → ℕ → ℕ
station_inter stations s = slice_index (numbers_in stations) s

-- the label of a station has its number below the name of its interaction
abbrev pub station_label : Planned → List InterId → ℕ → List ℕ
station_label p stations s =
    node_name (codes "i") (station_inter stations s)
    ++ (codes " [label=\"" ++ (name_in p.model.interaction_names (station_inter stations s)
    ++ (codes "\\nstation " ++ (decimal s ++ codes "\"];\n"))))

-- the numbers of all stations, which are the order of the ring
abbrev pub numbers_text : Planned → List InterId → List ℕ
numbers_text p stations = flat_map (station_label p stations) (range_with_len 0 (length stations))

-- how all is drawn
unfoldable pub plan_front : List ℕ
plan_front =
    codes "digraph plan {\nrankdir=LR;\nfontname=\"sans-serif\";\n"
    ++ (codes "node [fontname=\"sans-serif\",fontsize=11,shape=box,height=0.3];\n"
    ++ codes "edge [fontname=\"sans-serif\",fontsize=10];\n")

-- the drawing of a plan, of its names and of what is shown of it: the classes with their
-- interactions, the components, what interactions move and look at, the conflicts, and the numbers
-- of stations
abbrev pub plan_drawing_of : Planned → PlanShown → List ℕ
plan_drawing_of p shown =
    plan_front
    ++ (flat_map (shown_class p shown.interactions) (range_with_len 0 (length p.classes.names))
    ++ (spelled_in_turn (component_ellipse p) 0 shown.components
    ++ (spelled_in_turn edges_text 0 shown.interactions
    ++ (flat_map station_edges shown.stations
    ++ (numbers_text p (station_inters shown.stations) ++ codes "}\n")))))

-- a drawing of a plan draws what is true of it
pub record IsPlanDrawing (p : Planned) (text : List ℕ) : Type 0 where
  pub shown : PlanShown
  pub holds : IsPlanShown p shown
  pub drawn : text ≡ plan_drawing_of p shown

-- What contracts of private functions say.

-- the members of a class, among all interactions
abbrev pub members_text : Planned → ℕ → List ℕ
members_text p k =
    flat_map (λ a. member_text p k a (class_in p.classes a))
    (range_with_len 0 (length p.model.interactions))

-- what is spelled of a fact is added
pub record AddsFact {X : Type 0} (IsFact : X → Type 0) (spell : X → List ℕ)
    (old new : List ℕ) : Type 0 where
  pub fact : X
  pub holds : IsFact fact
  pub added : new ≡ old ++ spell fact

-- what is spelled of facts for the numbers below a count is added
pub record AddsFacts {X : Type 0} (IsFact : ℕ → X → Type 0) (spell : ℕ → X → List ℕ)
    (count : ℕ) (old new : List ℕ) : Type 0 where
  pub facts : List X
  pub holds : AreFacts IsFact count facts
  pub added : new ≡ old ++ spelled_in_turn spell 0 facts

-- the conflicts of some stations are added
pub record AddsStationEdges (p : Planned) (stations : List InterId)
    (old new : List ℕ) : Type 0 where
  pub shown : List (InterId × StationShown)
  pub listed : station_inters shown ≡ stations
  pub holds : All (λ (s : InterId × StationShown). IsStationShown p s.0.0 s.1) shown
  pub added : new ≡ old ++ flat_map station_edges shown
