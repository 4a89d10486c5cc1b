-- The line of an event: what it did, and what that put into flight; and what is in flight before
-- the first one.
use Rattle.std.specs.Fmt.{decimal}
use Rattle.std.specs.Option.{option_map_or}
use Rattle.std.specs.Prelude.{List, None, Option, Some, [], codes, drop, length}
use Rattle.std.specs.Prelude.{slice_get, zero, suc, ℕ, ◌+◌, ◌++◌, ◌-◌, ◌∷◌, ◌≡◌}
use Rattle.bip_bank.specs.Banks.{CanWantMemory}
use Rattle.bip_bank.specs.Idleness.{IsIdleBecause}
use Rattle.bip_bank.specs.declared.idleness.WhyIdle.{WhyIdle}
use Rattle.bip_core.specs.Runs.{AreSteps, report_with}
use Rattle.bip_core.specs.Worlds.{IsLackingIn, WorldContent}
use Rattle.bip_core.specs.declared.events.Did.{Did}
use Rattle.bip_core.specs.declared.events.Event.TheVariants.{Bank, Mail, Try}
use Rattle.bip_core.specs.declared.events.Event.{Event}
use Rattle.bip_core.specs.declared.messages.Message.{Message}
use Rattle.bip_core.specs.declared.runs.Report.{Report}
use Rattle.bip_model.specs.Texts.{line_feed}
use Rattle.bip_model.specs.declared.numbering.InterId.{InterId}
use Rattle.bip_partition.specs.Plans.{AreStations, Planned}
use Rattle.bip_schedule.specs.Writing.{event_line}
use Rattle.bip_tell.specs.Answers.{what_text}
use Rattle.bip_tell.specs.Messages.{message_text}
use Rattle.bip_tell.specs.Words.{counted}
use Rattle.bip_tell.specs.declared.hints.Hint.{Hint}

-- the message that an event hands on, where there is one at its place
abbrev pub handed_on : Event → List Message → Option Message
handed_on (Mail place) mail = slice_get mail place
handed_on event mail = None

abbrev pub handed_text : Planned → Option Message → List ℕ
handed_text p handed = option_map_or (message_text p) handed []

-- how many messages are still in flight when an event's message is taken out
abbrev pub count_left : Option Message → ℕ → ℕ
count_left None count = count
count_left (Some m) count = count - 1

-- messages told one behind another, each with its place, of which this is the first
abbrev pub each_placed : (ℕ → Message → List ℕ) → ℕ → List Message → List ℕ
each_placed told place [] = []
each_placed told place (m ∷ more) = told place m ++ each_placed told (place + 1) more

-- a message with its place: `, 4 offer A:2 to P`
abbrev pub one_put : Planned → ℕ → Message → List ℕ
one_put p place m = codes "," ++ (counted place ++ message_text p m)

abbrev pub put_text : Planned → ℕ → List Message → List ℕ
put_text p place mail = each_placed (one_put p) place mail

-- what is in flight before the first event, a line for each message: `0 first: 4 offer A:1 to P`
abbrev pub first_line : Planned → ℕ → Message → List ℕ
first_line p place m = codes "0 first:" ++ (counted place ++ (message_text p m ++ line_feed ∷ []))

abbrev pub first_lines : Planned → List Message → List ℕ
first_lines p mail = each_placed (first_line p) 0 mail

-- how many were lost, if any: `, lost 2`
abbrev pub lost_text : ℕ → List ℕ
lost_text zero = []
lost_text (suc n) = codes ", lost" ++ counted (suc n)

-- the interaction above the one that an event tries, for whose sake that one isn't ready, if it is
-- so: by the offers that the class holds
abbrev pub IsLackedBy : WorldContent → Event → Option InterId → Type 0
IsLackedBy w (Try k a) above = IsLackingIn w k.0 a.0 above
IsLackedBy w event above = above ≡ None

-- why a step of the bank does nothing, if that is so and not for want of memory or of a serial; no
-- other event has such a reason
abbrev pub IsIdleIn : WorldContent → Event → Option WhyIdle → Type 0
IsIdleIn w (Bank step) None = CanWantMemory w.bank step
IsIdleIn w (Bank step) (Some why) = IsIdleBecause w.bank step why
IsIdleIn w event why = why ≡ None

-- what is known in a world of why an event does nothing
pub record IsHintOf (w : WorldContent) (event : Event) (hint : Hint) : Type 0 where
  pub lacks : IsLackedBy w event hint.above
  pub idles : IsIdleIn w event hint.idle

-- what an event did, behind which so many messages were left in flight: the answer, what was put
-- behind these, and how many were lost; or that it was skipped for want of memory
abbrev pub done_text : Planned → Hint → ℕ → Option Did → List Message → List ℕ
done_text p hint left None mail = codes " skipped"
done_text p hint left (Some did) mail =
    what_text p.model hint did.what ++ (put_text p left (drop left mail) ++ lost_text did.lost)

-- the number of an event, its words, and the message that it hands on
abbrev pub line_head : Planned → List InterId → ℕ → Event → Option Message → List ℕ
line_head p stations number event handed =
    decimal number ++ (codes " " ++ (event_line p stations event
    ++ (codes ":" ++ handed_text p handed)))

-- the line of an event, by what was known of why it does nothing, and what was in flight before
-- and after
abbrev pub told_line :
    Planned → List InterId → ℕ → Event → Hint → Option Did → List Message → List Message → List ℕ
told_line p stations number event hint did before after =
    let handed = handed_on event before in
    line_head p stations number event handed
    ++ (done_text p hint (count_left handed (length before)) did after ++ line_feed ∷ [])

-- an event leads from one world to another or is skipped, and this is its line
pub record IsToldEvent (number : ℕ) (event : Event) (did : Option Did) (w v : WorldContent)
    (line : List ℕ) : Type 0 where
  pub steps : AreSteps (event ∷ []) (did ∷ []) w v
  pub stations : List InterId
  pub are : AreStations w.plan stations
  pub hint : Hint
  pub known : IsHintOf w event hint
  pub told : line ≡ told_line w.plan stations number event hint did w.mail v.mail

-- an event isn't told for want of memory: nothing was done yet, or it is done or skipped, and is
-- counted
pub data IsLeftUntold (event : Event) (w v : WorldContent) (before after : Report) : Type 0 where
  not_done : v ≡ w → after ≡ before → IsLeftUntold event w v before after
  done_untold : (did : Option Did) → AreSteps (event ∷ []) (did ∷ []) w v
      → after ≡ report_with before did → IsLeftUntold event w v before after

-- events lead from one world to another, each done or skipped, and these are their lines, in order
pub data AreTold (w : WorldContent) :
    List Event → List (Option Did) → List (List ℕ) → WorldContent → Type 0 where
  none_told : AreTold w [] [] [] w
  one_told : {es : List Event} {ds : List (Option Did)} {lines : List (List ℕ)}
      {v x : WorldContent} (e : Event) (d : Option Did) (line : List ℕ)
      → AreTold w es ds lines v → IsToldEvent (length es + 1) e d v x line
      → AreTold w (es ++ e ∷ []) (ds ++ d ∷ []) (lines ++ line ∷ []) x

-- texts tell events that lead from one world to another: first what is in flight before them, then
-- each by its line
pub record AreToldFrom (w : WorldContent) (es : List Event) (ds : List (Option Did))
    (told : List (List ℕ)) (v : WorldContent) : Type 0 where
  pub lines : List (List ℕ)
  pub begun : told ≡ first_lines w.plan w.mail ∷ lines
  pub each : AreTold w es ds lines v
