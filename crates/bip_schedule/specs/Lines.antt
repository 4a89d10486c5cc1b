-- What a line of a schedule says: an event by names, and the event of a plan.
use Rattle.std.specs.Option.{option_and_then, option_map, option_map_or}
use Rattle.std.specs.Prelude.{Err, List, None, Ok, Option, Result, Some, [], codes, position, ℕ}
use Rattle.std.specs.Prelude.{if◌then◌else◌, ◌==◌, ◌∷◌}
use Rattle.bip_bank.specs.declared.banks.BankStep.TheVariants.{Ask, Deliver, Pass, Serve}
use Rattle.bip_bank.specs.declared.banks.StationId.{StationId}
use Rattle.bip_core.specs.declared.events.Event.TheVariants.{Bank, Mail, Try}
use Rattle.bip_core.specs.declared.events.Event.{Event}
use Rattle.bip_model.specs.Naming.{is_name, same_text}
use Rattle.bip_model.specs.Texts.{value_said, words_said}
use Rattle.bip_model.specs.declared.numbering.InterId.{InterId}
use Rattle.bip_partition.specs.Plans.{Planned}
use Rattle.bip_replay.specs.declared.faults.LineFault.TheVariants.{Syntax, Unknown}
use Rattle.bip_replay.specs.declared.faults.LineFault.{LineFault}
use Rattle.bip_schedule.specs.declared.lines.NamedEvent.TheVariants as named
use Rattle.bip_schedule.specs.declared.lines.NamedEvent.{NamedEvent}

-- a name, where the text is one
abbrev pub name_said : List ℕ → Option (List ℕ)
name_said text = if is_name text then Some text else None

-- `mail K`, `deliver K`, `serve S`
abbrev pub one_said : List ℕ → List ℕ → Option NamedEvent
one_said verb word =
    if same_text verb (codes "mail") then option_map (λ k. named.Mail k) (value_said word)
    else if same_text verb (codes "deliver")
    then option_map (λ k. named.Deliver k) (value_said word)
    else if same_text verb (codes "serve") then option_map (λ s. named.Serve s) (name_said word)
    else None

-- `try CLASS INTER`, `pass S T`, `ask S T`, by the word and two names
abbrev pub named_said : List ℕ → List ℕ → List ℕ → Option NamedEvent
named_said verb a b =
    if same_text verb (codes "try") then Some (named.Try a b)
    else if same_text verb (codes "pass") then Some (named.Pass a b)
    else if same_text verb (codes "ask") then Some (named.Ask a b)
    else None

abbrev pub two_said : List ℕ → List ℕ → List ℕ → Option NamedEvent
two_said verb word other =
    option_and_then (λ a. option_and_then (λ b. named_said verb a b) (name_said other))
    (name_said word)

-- the event that a word says with the words behind it
abbrev pub event_said : List ℕ → List (List ℕ) → Option NamedEvent
event_said verb (word ∷ []) = one_said verb word
event_said verb (word ∷ other ∷ []) = two_said verb word other
event_said verb words = None

-- the event that words say; no words say nothing
abbrev pub event_in_words : List (List ℕ) → Result (Option NamedEvent) LineFault
event_in_words [] = Ok None
event_in_words (verb ∷ words) =
    option_map_or (λ e. Ok (Some e)) (event_said verb words) (Err Syntax)

-- what a line says, by names
abbrev pub named_event_on : List ℕ → Result (Option NamedEvent) LineFault
named_event_on line = option_map_or event_in_words (words_said line) (Err Syntax)

-- the station with a name: the place of the interaction with that name among those that have
-- stations
abbrev pub station_known : Planned → List InterId → List ℕ → Option StationId
station_known p stations name =
    option_and_then
    (λ a. option_map (λ s. record { 0 = s }) (position (λ (b : InterId). b.0 == a) stations))
    (position (same_text name) p.model.interaction_names)

-- two stations by their names
abbrev pub stations_known :
    Planned → List InterId → (StationId → StationId → Event) → List ℕ → List ℕ → Option Event
stations_known p stations event s t =
    option_and_then
    (λ from. option_map (λ to. event from to) (station_known p stations t))
    (station_known p stations s)

-- the event of a plan with these stations that a line names; none where the plan lacks a name
abbrev pub event_known : Planned → List InterId → NamedEvent → Option Event
event_known p stations (named.Mail k) = Some (Mail k)
event_known p stations (named.Try k a) =
    option_and_then
    (λ class. option_map (λ inter. Try (record { 0 = class }) (record { 0 = inter }))
    (position (same_text a) p.model.interaction_names))
    (position (same_text k) p.classes.names)
event_known p stations (named.Serve s) =
    option_map (λ station. Bank (Serve station)) (station_known p stations s)
event_known p stations (named.Deliver k) = Some (Bank (Deliver k))
event_known p stations (named.Pass s t) =
    stations_known p stations (λ from to. Bank (Pass from to)) s t
event_known p stations (named.Ask s t) =
    stations_known p stations (λ from to. Bank (Ask from to)) s t

-- what is said by names, as an event of a plan
abbrev pub event_looked_up :
    Planned → List InterId → Result (Option NamedEvent) LineFault → Result (Option Event) LineFault
event_looked_up p stations (Err fault) = Err fault
event_looked_up p stations (Ok None) = Ok None
event_looked_up p stations (Ok (Some e)) =
    option_map_or (λ event. Ok (Some event)) (event_known p stations e) (Err Unknown)

-- the event of a line, or its fault; none of a line that says nothing
abbrev pub event_on : Planned → List InterId → List ℕ → Result (Option Event) LineFault
event_on p stations line = event_looked_up p stations (named_event_on line)
