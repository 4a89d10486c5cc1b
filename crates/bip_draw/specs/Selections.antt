-- A part of a drawing: what is shown where some components and some classes are selected.
use Rattle.std.specs.Prelude.{ℕ, ◌==◌, ◌&&◌, ◌||◌, Bool, List, [], ◌++◌, codes, length}
use Rattle.std.specs.Prelude.{if◌then◌else◌}
use Rattle.std.specs.Fmt.{decimal}
use Rattle.std.specs.List.{flat_map, list_any, range_with_len}
use Rattle.bip_model.specs.Naming.{name_in}
use Rattle.bip_model.specs.Partitions.{class_in}
use Rattle.bip_model.specs.Parts.{Participant}
use Rattle.bip_model.specs.Steps.{moves}
use Rattle.bip_model.specs.declared.numbering.ClassId.{ClassId}
use Rattle.bip_model.specs.declared.numbering.CompId.{CompId}
use Rattle.bip_model.specs.declared.parts.Interaction.{Interaction}
use Rattle.bip_model.specs.declared.parts.Pair.{Pair}
use Rattle.bip_model.specs.declared.parts.System.{System}
use Rattle.bip_model.specs.declared.partitions.Partition.{Partition}
use Rattle.bip_reader.specs.Writing.{component_in, interaction_in}
use Rattle.bip_draw.specs.Drawing.{arrow, box_of, class_text, cluster_text, front_text}
use Rattle.bip_draw.specs.Drawing.{interaction_node, label_end, legend_front, no_arrow, port_node}
use Rattle.bip_draw.specs.Drawing.{priority_text}
use Rattle.bip_draw.specs.declared.selections.Selection.{Selection}

-- a component is selected, or a class
abbrev pub has_component : Selection → ℕ → Bool
has_component x c = list_any (λ (k : CompId). k.0 == c) x.components.now

abbrev pub has_class : Selection → ℕ → Bool
has_class x k = list_any (λ (j : ClassId). j.0 == k) x.classes.now

-- an interaction is of a class that is selected
abbrev pub is_of_class : Partition → Selection → ℕ → Bool
is_of_class classes x a = has_class x (class_in classes a)

-- an interaction is shown where it moves a component that is selected, or is of such a class
abbrev pub is_shown : System → Partition → Selection → ℕ → Bool
is_shown m classes x a =
    list_any (λ (q : Participant). has_component x q.0.0) (interaction_in m a).participants
    || is_of_class classes x a

-- some interaction moves a component, of those that are of a class which is selected
abbrev pub is_moved_by_class : System → Partition → Selection → ℕ → Bool
is_moved_by_class m classes x c =
    list_any (λ a. is_of_class classes x a && moves m a c)
    (range_with_len 0 (length m.interactions))

-- the same of those that are shown
abbrev pub is_moved_by_shown : System → Partition → Selection → ℕ → Bool
is_moved_by_shown m classes x c =
    list_any (λ a. is_shown m classes x a && moves m a c)
    (range_with_len 0 (length m.interactions))

-- a component is whole where it is selected, or is moved by an interaction of such a class
abbrev pub is_whole : System → Partition → Selection → ℕ → Bool
is_whole m classes x c = has_component x c || is_moved_by_class m classes x c

-- a class is shown where an interaction of it is
abbrev pub is_class_shown : System → Partition → Selection → ℕ → Bool
is_class_shown m classes x k =
    list_any (λ a. is_shown m classes x a && (class_in classes a == k))
    (range_with_len 0 (length m.interactions))

-- `c1`, a stub, which stands for a component that isn't whole: a dashed box with its name
unfoldable pub stub_node : ℕ → List ℕ
stub_node c = codes "c" ++ decimal c

unfoldable pub stub_front : List ℕ
stub_front = codes " [style=dashed,label=\""

abbrev pub stub_text : ℕ → List ℕ → List ℕ
stub_text c name = stub_node c ++ (stub_front ++ (name ++ label_end))

-- what is drawn of a component: all of it; or a stub, where a shown interaction moves it; or
-- nothing
abbrev pub component_part : System → Partition → Selection → ℕ → List ℕ
component_part m classes x c =
    if is_whole m classes x c then cluster_text c (name_in m.component_names c) (component_in m c)
    else if is_moved_by_shown m classes x c then stub_text c (name_in m.component_names c)
    else []

-- of a class
abbrev pub class_part : System → Partition → Selection → ℕ → List ℕ
class_part m classes x k = if is_class_shown m classes x k then class_text classes k else []

-- of a participant: an edge to its port, or to the stub of its component
unfoldable pub end_node : System → Partition → Selection → Participant → List ℕ
end_node m classes x q =
    if is_whole m classes x q.0.0 then port_node q.0.0 q.1.0 else stub_node q.0.0

abbrev pub participant_part : System → Partition → Selection → ℕ → Participant → List ℕ
participant_part m classes x a q =
    interaction_node a ++ (arrow ++ (end_node m classes x q ++ no_arrow))

-- of an interaction
abbrev pub shown_node : System → Partition → Selection → ℕ → Interaction → List ℕ
shown_node m classes x a i =
    box_of m classes a (name_in m.interaction_names a) i
    ++ (label_end ++ flat_map (participant_part m classes x a) i.participants)

abbrev pub interaction_part : System → Partition → Selection → ℕ → List ℕ
interaction_part m classes x a =
    if is_shown m classes x a then shown_node m classes x a (interaction_in m a) else []

-- of a priority: both of its interactions are shown
abbrev pub priority_part : System → Partition → Selection → Pair → List ℕ
priority_part m classes x p =
    if is_shown m classes x p.low.0 && is_shown m classes x p.high.0 then priority_text p else []

-- the parts of each kind, in the order of the whole drawing
abbrev pub components_part : System → Partition → Selection → List ℕ
components_part m classes x =
    flat_map (component_part m classes x) (range_with_len 0 (length m.components))

abbrev pub classes_part : System → Partition → Selection → List ℕ
classes_part m classes x =
    legend_front
    ++ (flat_map (class_part m classes x) (range_with_len 0 (length classes.names)) ++ codes "}\n")

abbrev pub interactions_part : System → Partition → Selection → List ℕ
interactions_part m classes x =
    flat_map (interaction_part m classes x) (range_with_len 0 (length m.interactions))

abbrev pub priorities_part : System → Partition → Selection → List ℕ
priorities_part m classes x = flat_map (priority_part m classes x) m.priorities

-- the drawing of what is selected of a model and its classes
abbrev pub drawing_of_part : System → Partition → Selection → List ℕ
drawing_of_part m classes x =
    front_text
    ++ (components_part m classes x
    ++ (classes_part m classes x
    ++ (interactions_part m classes x ++ (priorities_part m classes x ++ codes "}\n"))))
