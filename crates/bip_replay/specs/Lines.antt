-- What a line of a trace says: a grant by names, and the grant of a model.
use Rattle.std.specs.List.{list_any}
use Rattle.std.specs.Option.{option_and_then, option_map, option_map_or}
use Rattle.std.specs.Prelude.{Bool, Err, List, None, Ok, Option, Result, Some, [], codes}
use Rattle.std.specs.Prelude.{if◌then◌else◌, length, map, nat_le, position, ℕ, ◌&&◌, ◌++◌, ◌==◌}
use Rattle.std.specs.Prelude.{◌||◌, ◌∷◌}
use Rattle.bip_model.specs.Naming.{is_name, same_text}
use Rattle.bip_model.specs.Numbering.{by_number}
use Rattle.bip_model.specs.Texts.{number_of, pair_of, words_said}
use Rattle.bip_model.specs.Wants.{is_moved}
use Rattle.bip_model.specs.declared.grants.Grant.{Grant}
use Rattle.bip_model.specs.declared.wants.Role.TheVariants.{Moved, Seen}
use Rattle.bip_model.specs.declared.wants.Role.{Role}
use Rattle.bip_model.specs.declared.wants.Want.{Want}
use Rattle.bip_model.specs.declared.parts.System.{System}
use Rattle.bip_replay.specs.declared.faults.LineFault.TheVariants.{Syntax, Unknown}
use Rattle.bip_replay.specs.declared.faults.LineFault.{LineFault}
use Rattle.bip_replay.specs.declared.lines.NamedWant.{NamedWant}

-- a grant as a line names it
pub record NamedGrant : Type 0 where
  pub inter : List ℕ
  pub wants : List NamedWant

-- what parts a component from its number in a word
abbrev pub colon : ℕ
colon = 58

-- a name and a number, as a want
abbrev pub want_of : Role → List ℕ × List ℕ → Option NamedWant
want_of role parts =
    if is_name parts.0
    then option_map (λ n. record { name = parts.0; number = n; role = role }) (number_of parts.1)
    else None

-- `C:N`: a component and its number
abbrev pub want_said : Role → List ℕ → Option NamedWant
want_said role word = option_and_then (want_of role) (pair_of colon word)

-- whether a component is named among wants
abbrev pub is_named : List ℕ → List NamedWant → Bool
is_named name wants = list_any (λ (w : NamedWant). same_text name w.name) wants

-- a want after others: no component stands twice, and they aren't too many
abbrev pub with_want : List NamedWant → NamedWant → Option (List NamedWant)
with_want before w =
    if is_named w.name before || nat_le 32 (length before) then None
    else Some (before ++ w ∷ [])

-- what stands behind the interaction, after the wants of the words before: `C:N C:N ..`, one at
-- least, and then perhaps `see` with one or more that are only looked at
abbrev pub wants_said : Role → List NamedWant → List (List ℕ) → Option (List NamedWant)
wants_said role before [] = if length before == 0 then None else Some before
wants_said role before (word ∷ rest) =
    if is_moved role && same_text word (codes "see")
    then (if (length before == 0) || (length rest == 0) then None else wants_said Seen before rest)
    else option_and_then (λ wants. wants_said role wants rest)
    (option_and_then (with_want before) (want_said role word))

-- `grant INTER C:N C:N .. [see C:N ..]`; a line without words says nothing
abbrev pub said : List (List ℕ) → Result (Option NamedGrant) LineFault
said [] = Ok None
said (word ∷ []) = Err Syntax
said (word ∷ inter ∷ rest) =
    if same_text word (codes "grant") && is_name inter
    then option_map_or (λ wants. Ok (Some (record { inter = inter; wants = wants })))
    (wants_said Moved [] rest) (Err Syntax)
    else Err Syntax

-- what a line says, by names
abbrev pub named_on : List ℕ → Result (Option NamedGrant) LineFault
named_on line = option_map_or said (words_said line) (Err Syntax)

-- a named want, of the component with this number
abbrev pub numbered_want : ℕ → NamedWant → Want
numbered_want c w = record { comp = record { 0 = c }; number = w.number; role = w.role }

-- wants by component
abbrev pub wants_by_component : List Want → List Want
wants_by_component wants = by_number (λ (w : Want). w.comp.0) wants

-- named wants as those of a model, by component, with those before; none where a component isn't
-- known
abbrev pub wants_known : List (List ℕ) → List Want → List NamedWant → Option (List Want)
wants_known names before [] = Some (wants_by_component before)
wants_known names before (w ∷ ws) =
    option_and_then (λ c. wants_known names (before ++ numbered_want c w ∷ []) ws)
    (position (same_text w.name) names)

-- the grant that a line names, of a model; none where the model lacks one of its names
abbrev pub known : System → NamedGrant → Option Grant
known m g =
    option_and_then
    (λ a. option_map (λ wants. record { inter = record { 0 = a }; wants = wants })
    (wants_known m.component_names [] g.wants))
    (position (same_text g.inter) m.interaction_names)

-- what is said by names, as a grant of a model
abbrev pub looked_up :
    System → Result (Option NamedGrant) LineFault → Result (Option Grant) LineFault
looked_up m (Err fault) = Err fault
looked_up m (Ok None) = Ok None
looked_up m (Ok (Some g)) = option_map_or (λ h. Ok (Some h)) (known m g) (Err Unknown)

-- the grant of a line, or its fault; none of a line that says nothing
abbrev pub grant_on : System → List ℕ → Result (Option Grant) LineFault
grant_on m line = looked_up m (named_on line)

-- What contracts of private functions say.

-- the components that wants name, in the order of the wants
abbrev pub names_of : List NamedWant → List (List ℕ)
names_of wants = map (λ (w : NamedWant). w.name) wants

-- the answer of a reader of one line, and the wants that it left, as what the line says
abbrev pub as_said :
    Result (Option (List ℕ)) LineFault → List NamedWant → Result (Option NamedGrant) LineFault
as_said (Err fault) wants = Err fault
as_said (Ok None) wants = Ok None
as_said (Ok (Some inter)) wants = Ok (Some (record { inter = inter; wants = wants }))
