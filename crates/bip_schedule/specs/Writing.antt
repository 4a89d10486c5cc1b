-- The one spelling of schedules: one space between words, and a line feed after each line.
use Rattle.std.specs.Fmt.{decimal}
use Rattle.std.specs.List.{flat_map}
use Rattle.std.specs.Prelude.{All, List, [], codes, length, slice_index_or, ⊤, ℕ, ◌++◌, ◌<◌, ◌^◌}
use Rattle.std.specs.Prelude.{◌∷◌, ◌≡◌}
use Rattle.bip_bank.specs.declared.banks.BankStep.TheVariants.{Ask, Deliver, Pass, Serve}
use Rattle.bip_bank.specs.declared.banks.StationId.{StationId}
use Rattle.bip_core.specs.declared.events.Event.TheVariants.{Bank, Mail, Try}
use Rattle.bip_core.specs.declared.events.Event.{Event}
use Rattle.bip_model.specs.Naming.{IsName, name_in}
use Rattle.bip_model.specs.Texts.{line_feed, spaced}
use Rattle.bip_model.specs.declared.numbering.InterId.{InterId}
use Rattle.bip_partition.specs.Plans.{AreStations, Planned}

-- an event has a spelling: the plan has what it names, and a place among messages is a value
abbrev pub HasSpelling : Planned → List InterId → Event → Type 0
HasSpelling p stations (Mail k) = k < 2 ^ 32
HasSpelling p stations (Try k a) =
    (k.0 < length p.classes.names) × (a.0 < length p.model.interaction_names)
HasSpelling p stations (Bank (Deliver k)) = k < 2 ^ 32
HasSpelling p stations (Bank (Serve s)) = s.0 < length stations
HasSpelling p stations (Bank (Pass s t)) = (s.0 < length stations) × (t.0 < length stations)
HasSpelling p stations (Bank (Ask s t)) = (s.0 < length stations) × (t.0 < length stations)

-- events of a plan that have a spelling
abbrev pub HaveSpelling : Planned → List Event → Type 0
HaveSpelling p events =
    (stations : List InterId) → AreStations p stations → All (HasSpelling p stations) events

-- the name of a station is that of its interaction
abbrev pub station_name : Planned → List InterId → StationId → List ℕ
station_name p stations s =
    name_in p.model.interaction_names (slice_index_or stations s.0 (record { 0 = 0 })).0

-- the first word of an event's line, and those behind it
abbrev pub verb_of : Event → List ℕ
verb_of (Mail k) = codes "mail"
verb_of (Try k a) = codes "try"
verb_of (Bank (Deliver k)) = codes "deliver"
verb_of (Bank (Serve s)) = codes "serve"
verb_of (Bank (Pass s t)) = codes "pass"
verb_of (Bank (Ask s t)) = codes "ask"

abbrev pub event_words : Planned → List InterId → Event → List (List ℕ)
event_words p stations (Mail k) = decimal k ∷ []
event_words p stations (Try k a) =
    name_in p.classes.names k.0 ∷ name_in p.model.interaction_names a.0 ∷ []
event_words p stations (Bank (Deliver k)) = decimal k ∷ []
event_words p stations (Bank (Serve s)) = station_name p stations s ∷ []
event_words p stations (Bank (Pass s t)) =
    station_name p stations s ∷ station_name p stations t ∷ []
event_words p stations (Bank (Ask s t)) =
    station_name p stations s ∷ station_name p stations t ∷ []

-- the line of an event, without its line feed
abbrev pub event_line : Planned → List InterId → Event → List ℕ
event_line p stations e = verb_of e ++ flat_map spaced (event_words p stations e)

-- the same, with its line feed
abbrev pub ended_event_line : Planned → List InterId → Event → List ℕ
ended_event_line p stations e = event_line p stations e ++ line_feed ∷ []

-- the text of events
abbrev pub schedule_text : Planned → List InterId → List Event → List ℕ
schedule_text p stations es = flat_map (ended_event_line p stations) es

-- a text is the one spelling of events of a plan
pub record IsWritten (p : Planned) (events : List Event) (text : List ℕ) : Type 0 where
  pub stations : List InterId
  pub are : AreStations p stations
  pub spelled : text ≡ schedule_text p stations events

-- What contracts of private functions say.

-- what stands behind the first word of a line are names, or a place
abbrev pub IsNamed : Planned → List InterId → Event → Type 0
IsNamed p stations (Mail k) = ⊤
IsNamed p stations (Try k a) =
    IsName (name_in p.classes.names k.0) × IsName (name_in p.model.interaction_names a.0)
IsNamed p stations (Bank (Deliver k)) = ⊤
IsNamed p stations (Bank (Serve s)) = IsName (station_name p stations s)
IsNamed p stations (Bank (Pass s t)) =
    IsName (station_name p stations s) × IsName (station_name p stations t)
IsNamed p stations (Bank (Ask s t)) =
    IsName (station_name p stations s) × IsName (station_name p stations t)
