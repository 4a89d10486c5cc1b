-- The lifelines of a sequence chart: who sends a message, who takes it, and where an event happens;
-- and messages in few words.
use Rattle.std.specs.Option.{option_map_or}
use Rattle.std.specs.Prelude.{List, None, Option, Some, [], codes, position, slice_get, ℕ, ◌++◌}
use Rattle.std.specs.Prelude.{◌==◌}
use Rattle.bip_bank.specs.declared.banks.BankStep.TheVariants.{Ask, Deliver, Pass, Serve}
use Rattle.bip_core.specs.declared.events.Event.TheVariants.{Bank, Mail, Try}
use Rattle.bip_core.specs.declared.events.Event.{Event}
use Rattle.bip_core.specs.declared.messages.Message.TheVariants.{NotifyComponent, OfferTo}
use Rattle.bip_core.specs.declared.messages.Message.TheVariants.{ReplyToClass, RequestToBank}
use Rattle.bip_core.specs.declared.messages.Message.{Message}
use Rattle.bip_model.specs.declared.messages.Reply.TheVariants as reply
use Rattle.bip_model.specs.declared.messages.Reply.{Reply}
use Rattle.bip_model.specs.declared.numbering.InterId.{InterId}
use Rattle.bip_model.specs.declared.parts.System.{System}
use Rattle.bip_partition.specs.Plans.{Planned}
use Rattle.bip_sequence.specs.declared.lifelines.Brief.TheVariants.{Granted, Notify, Offer, Refused}
use Rattle.bip_sequence.specs.declared.lifelines.Brief.TheVariants.{Request}
use Rattle.bip_sequence.specs.declared.lifelines.Brief.{Brief}
use Rattle.bip_sequence.specs.declared.lifelines.Lifeline.TheVariants.{Class, Component, Outside}
use Rattle.bip_sequence.specs.declared.lifelines.Lifeline.TheVariants.{Station}
use Rattle.bip_sequence.specs.declared.lifelines.Lifeline.{Lifeline}
use Rattle.bip_tell.specs.Words.{asked_text, move_named, named, port_named}

-- a message in few words
abbrev pub reply_brief : Reply → Brief
reply_brief (reply.Granted k n a serial) = Granted k a n
reply_brief (reply.Refused k n a c used) = Refused k a n

abbrev pub brief_of : Message → Brief
brief_of (OfferTo k offer) = Offer offer.comp offer.number k
brief_of (RequestToBank q) = Request q.class q.inter q.request
brief_of (ReplyToClass r) = reply_brief r
brief_of (NotifyComponent n) = Notify n.comp n.number n.port

-- the station that decides for an interaction
abbrev pub station_of : List InterId → ℕ → Lifeline
station_of stations a =
    option_map_or (λ place. Station place) (position (λ (s : InterId). s.0 == a) stations) Outside

-- who takes a message: an offer its class, a request the station of its interaction, a reply the
-- class that asked, a notification its component
abbrev pub taker : List InterId → Brief → Lifeline
taker stations (Offer c n k) = Class k
taker stations (Request k a n) = station_of stations a.0
taker stations (Granted k a n) = Class k
taker stations (Refused k a n) = Class k
taker stations (Notify c n port) = Component c

-- who sent what is in flight at first: offers of components
abbrev pub first_sender : Brief → Lifeline
first_sender (Offer c n k) = Component c
first_sender brief = Outside

-- where an event happens: with the node that it addresses; what arrives inside the bank, and what
-- is handed on and isn't there, has none
abbrev pub happens_at : List InterId → Event → Option Brief → Lifeline
happens_at stations (Mail place) (Some brief) = taker stations brief
happens_at stations (Mail place) None = Outside
happens_at stations (Try k a) handed = Class k
happens_at stations (Bank (Deliver place)) handed = Outside
happens_at stations (Bank (Serve s)) handed = Station s.0
happens_at stations (Bank (Pass s t)) handed = Station s.0
happens_at stations (Bank (Ask s t)) handed = Station s.0

-- who stands on a lifeline: the station of an interaction has its name
abbrev pub station_text : System → List InterId → ℕ → List ℕ
station_text m stations place =
    option_map_or (λ (a : InterId). named m.interaction_names a.0) (slice_get stations place) []

abbrev pub lifeline_name : Planned → List InterId → Lifeline → List ℕ
lifeline_name p stations Outside = []
lifeline_name p stations (Component c) = named p.model.component_names c.0
lifeline_name p stations (Class k) = named p.classes.names k.0
lifeline_name p stations (Station place) = station_text p.model stations place

-- a message as the line of an event tells it: ` offer A:1 to P`
abbrev pub brief_text : Planned → Brief → List ℕ
brief_text p (Offer c n k) =
    codes " offer" ++ (move_named p.model c.0 n ++ (codes " to" ++ named p.classes.names k.0))
brief_text p (Request k a n) = codes " request" ++ asked_text p k.0 a.0 n
brief_text p (Granted k a n) = codes " granted" ++ asked_text p k.0 a.0 n
brief_text p (Refused k a n) = codes " refused" ++ asked_text p k.0 a.0 n
brief_text p (Notify c n port) =
    codes " notify" ++ (move_named p.model c.0 n ++ port_named p.model c.0 port.0)
