-- The canonical text of a model and its classes: each line's words with a space between, and a line
-- feed after each line. Lists that are empty are left out with their word.
use Rattle.std.specs.Prelude.{ℕ, ◌<◌, ◌^◌, List, [], ◌∷◌, ◌++◌, length, map, codes, slice_index}
use Rattle.std.specs.Prelude.{slice_index_or, All, ⊤}
use Rattle.std.specs.Fmt.{decimal}
use Rattle.std.specs.List.{flat_map, join_by, range_with_len}
use Rattle.bip_model.specs.Components.{no_component}
use Rattle.bip_model.specs.Naming.{IsName, name_in}
use Rattle.bip_model.specs.Parts.{Participant, components_in, counts_of}
use Rattle.bip_model.specs.Texts.{line_feed, spaced}
use Rattle.bip_model.specs.declared.expressions.Assignment.{Assignment}
use Rattle.bip_model.specs.declared.expressions.Comparison.{Comparison}
use Rattle.bip_model.specs.declared.expressions.Expr.{Expr}
use Rattle.bip_model.specs.declared.expressions.Relation.{Relation}
use Rattle.bip_model.specs.declared.expressions.Relation.TheVariants as relation
use Rattle.bip_model.specs.declared.expressions.Sign.{Sign}
use Rattle.bip_model.specs.declared.expressions.Sign.TheVariants.{Plus, Minus}
use Rattle.bip_model.specs.declared.expressions.Term.{Term}
use Rattle.bip_model.specs.declared.expressions.Term.TheVariants.{Value, Of}
use Rattle.bip_model.specs.declared.expressions.Variable.{Variable}
use Rattle.bip_model.specs.declared.numbering.InterId.{InterId}
use Rattle.bip_model.specs.declared.partitions.Partition.{Partition}
use Rattle.bip_model.specs.declared.parts.Component.{Component}
use Rattle.bip_model.specs.declared.parts.Interaction.{Interaction}
use Rattle.bip_model.specs.declared.parts.Pair.{Pair}
use Rattle.bip_model.specs.declared.parts.System.{System}
use Rattle.bip_model.specs.declared.parts.Transition.{Transition}
use Rattle.bip_model.specs.Words.{dot}
use Rattle.bip_reader.specs.declared.writing.Speller.{Speller}
use Rattle.bip_reader.specs.declared.writing.Speller.TheVariants.{Own, Shared}

-- a line of a first word and those behind it
abbrev pub line_with : List ℕ → List (List ℕ) → List ℕ
line_with word rest = word ++ flat_map spaced rest ++ line_feed ∷ []

-- what a component with a number declares
abbrev pub component_in : System → ℕ → Component
component_in m c = slice_index_or m.components c no_component

-- `C.p`
abbrev pub pair_word : List ℕ → List ℕ → List ℕ
pair_word component own = component ++ dot ∷ own

abbrev pub participant_word : System → Participant → List ℕ
participant_word m q =
    pair_word (name_in m.component_names q.0.0) (name_in (component_in m q.0.0).ports q.1.0)

-- a variable: `v` inside a component, `C.v` in an interaction
abbrev pub own_word : Component → Variable → List ℕ
own_word k v = name_in k.variables v.number.0

abbrev pub shared_word : System → List Participant → Variable → List ℕ
shared_word m participants v =
    pair_word (name_in m.component_names (slice_index (components_in participants) v.owner))
    (own_word (component_in m (slice_index (components_in participants) v.owner)) v)

abbrev pub variable_word : Speller → Variable → List ℕ
variable_word (Own k) v = own_word k.now v
variable_word (Shared m participants) v = shared_word m.now participants.now v

-- how many variables each owner has
abbrev pub counts_for : Speller → List ℕ
counts_for (Own k) = length k.now.variables ∷ []
counts_for (Shared m participants) = counts_of m.now.components participants.now

-- a term, a sign and a relation
abbrev pub term_word : (Variable → List ℕ) → Term Variable → List ℕ
term_word spell (Value n) = decimal n
term_word spell (Of v) = spell v

abbrev pub sign_word : Sign → List ℕ
sign_word Plus = codes "+"
sign_word Minus = codes "-"

abbrev pub relation_word : Relation → List ℕ
relation_word relation.Equal = codes "="
relation_word relation.NotEqual = codes "!="
relation_word relation.Less = codes "<"
relation_word relation.LessOrEqual = codes "<="
relation_word relation.Greater = codes ">"
relation_word relation.GreaterOrEqual = codes ">="

-- `+ TERM` or `- TERM`
abbrev pub words_of_signed : (Variable → List ℕ) → Sign × Term Variable → List (List ℕ)
words_of_signed spell t = sign_word t.0 ∷ term_word spell t.1 ∷ []

abbrev pub words_of_sum : (Variable → List ℕ) → Expr Variable → List (List ℕ)
words_of_sum spell e = term_word spell e.first ∷ flat_map (words_of_signed spell) e.rest

abbrev pub words_of_comparison : (Variable → List ℕ) → Comparison Variable → List (List ℕ)
words_of_comparison spell c =
    words_of_sum spell c.left ++ relation_word c.relation ∷ words_of_sum spell c.right

abbrev pub words_of_assignment : (Variable → List ℕ) → Assignment Variable → List (List ℕ)
words_of_assignment spell a =
    spell a.target ∷ codes ":=" ∷ words_of_sum spell a.sum

-- parts with a mark between, behind a first word; nothing of no parts
abbrev pub words_of_list : {P : Type 0} → List ℕ → List ℕ → (P → List (List ℕ)) → List P
    → List (List ℕ)
words_of_list first mark f [] = []
words_of_list first mark f (p ∷ parts) = first ∷ join_by f (mark ∷ []) (p ∷ parts)

-- `when COMPARISON and COMPARISON ..`, and `do ASSIGNMENT ; ASSIGNMENT ..`
abbrev pub words_of_guard : (Variable → List ℕ) → List (Comparison Variable) → List (List ℕ)
words_of_guard spell guard =
    words_of_list (codes "when") (codes "and") (words_of_comparison spell) guard

abbrev pub words_of_assignments : (Variable → List ℕ) → List (Assignment Variable) → List (List ℕ)
words_of_assignments spell assignments =
    words_of_list (codes "do") (codes ";") (words_of_assignment spell) assignments

-- a line of a word and a name
abbrev pub line_of_name : List ℕ → List ℕ → List ℕ
line_of_name keyword name = line_with keyword (name ∷ [])

-- `var NAME VALUE`, of the variable with a number, and of each in turn
abbrev pub line_of_variable : Component → ℕ → List ℕ
line_of_variable k n =
    line_with (codes "var") (name_in k.variables n ∷ decimal (slice_index k.start n) ∷ [])

abbrev pub lines_of_variables : Component → List ℕ
lines_of_variables k = flat_map (line_of_variable k) (range_with_len 0 (length k.variables))

-- `trans PORT FROM TO [when GUARD] [do ASSIGNS]`
abbrev pub words_of_ends : Component → Transition → List (List ℕ)
words_of_ends k t =
    name_in k.ports t.port.0 ∷ name_in k.locations t.source.0 ∷ name_in k.locations t.target.0 ∷ []

abbrev pub line_of_transition : Component → Transition → List ℕ
line_of_transition k t =
    line_with (codes "trans")
    (words_of_ends k t
    ++ (words_of_guard (own_word k) t.guard ++ words_of_assignments (own_word k) t.update))

-- the lines of a component, and of all in turn
abbrev pub lines_of_component : List ℕ → Component → List ℕ
lines_of_component name k =
    line_of_name (codes "component") name ++ lines_of_variables k
    ++ flat_map (line_of_name (codes "loc")) k.locations
    ++ flat_map (line_of_name (codes "port")) k.ports
    ++ flat_map (line_of_transition k) k.transitions
    ++ line_with (codes "end") []

abbrev pub lines_of_components : System → List ℕ
lines_of_components m =
    flat_map (λ c. lines_of_component (name_in m.component_names c) (component_in m c))
    (range_with_len 0 (length m.components))

-- `interaction NAME C.p C.p .. [when GUARD] [do ASSIGNS]`, and of each in turn
abbrev pub line_of_interaction : System → List ℕ → Interaction → List ℕ
line_of_interaction m name i =
    line_with (codes "interaction")
    (name ∷ (map (participant_word m) i.participants
    ++ (words_of_guard (shared_word m i.participants) i.guard
    ++ words_of_assignments (shared_word m i.participants) i.transfer)))

abbrev pub interaction_in : System → ℕ → Interaction
interaction_in m a =
    slice_index_or m.interactions a (record { participants = []; guard = []; transfer = [] })

abbrev pub lines_of_interactions : System → List ℕ
lines_of_interactions m =
    flat_map (λ a. line_of_interaction m (name_in m.interaction_names a) (interaction_in m a))
    (range_with_len 0 (length m.interactions))

-- `priority LOW < HIGH`
abbrev pub line_of_priority : System → Pair → List ℕ
line_of_priority m p =
    line_with (codes "priority")
    (name_in m.interaction_names p.low.0 ∷ codes "<" ∷ name_in m.interaction_names p.high.0 ∷ [])

-- `class NAME INTER INTER ..`, of the class with a number
abbrev pub line_of_class : System → Partition → ℕ → List ℕ
line_of_class m classes k =
    line_with (codes "class")
    (name_in classes.names k
    ∷ map (λ (a : InterId). name_in m.interaction_names a.0) (slice_index_or classes.members k []))

-- the canonical text
abbrev pub text_of_model : System → Partition → List ℕ
text_of_model m classes =
    line_with (codes "bip") (codes "1" ∷ []) ++ lines_of_components m ++ lines_of_interactions m
    ++ flat_map (line_of_priority m) m.priorities
    ++ flat_map (line_of_class m classes) (range_with_len 0 (length classes.names))

-- what can be spelled and read again: names that are names, and values below 2^32
abbrev pub IsSpelledTerm : Term Variable → Type 0
IsSpelledTerm (Value n) = n < 2 ^ 32
IsSpelledTerm (Of v) = ⊤

pub record IsSpelledSum (e : Expr Variable) : Type 0 where
  pub first : IsSpelledTerm e.first
  pub rest : All (λ (t : Sign × Term Variable). IsSpelledTerm t.1) e.rest

pub record IsSpelledComparison (c : Comparison Variable) : Type 0 where
  pub left : IsSpelledSum c.left
  pub right : IsSpelledSum c.right

abbrev pub IsSpelledGuard : List (Comparison Variable) → Type 0
IsSpelledGuard guard = All IsSpelledComparison guard

abbrev pub AreSpelledAssignments : List (Assignment Variable) → Type 0
AreSpelledAssignments assignments =
    All (λ (a : Assignment Variable). IsSpelledSum a.sum) assignments

abbrev pub IsSpelledTransition : Transition → Type 0
IsSpelledTransition t = IsSpelledGuard t.guard × AreSpelledAssignments t.update

-- `var` lines of a component, so many
abbrev pub IsSpelledStart : Component → ℕ → Type 0
IsSpelledStart k n = IsName (name_in k.variables n) × (slice_index k.start n < 2 ^ 32)

abbrev pub AreSpelledStarts : Component → Type 0
AreSpelledStarts k = All IsName k.variables × All (λ n. n < 2 ^ 32) k.start

pub record IsSpelledComponent (k : Component) : Type 0 where
  pub starts : AreSpelledStarts k
  pub locations : All IsName k.locations
  pub ports : All IsName k.ports
  pub transitions : All IsSpelledTransition k.transitions

abbrev pub AreSpelledComponents : System → Type 0
AreSpelledComponents m = All IsName m.component_names × All IsSpelledComponent m.components

abbrev pub IsSpelledInteraction : Interaction → Type 0
IsSpelledInteraction i = IsSpelledGuard i.guard × AreSpelledAssignments i.transfer

abbrev pub AreSpelledInteractions : System → Type 0
AreSpelledInteractions m = All IsName m.interaction_names × All IsSpelledInteraction m.interactions

pub record CanBeSpelled (m : System) (classes : Partition) : Type 0 where
  pub components : AreSpelledComponents m
  pub interactions : AreSpelledInteractions m
  pub class_names : All IsName classes.names
