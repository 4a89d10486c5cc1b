-- What is noted as in flight is what is in flight, message for message.
use Rattle.std.proofs.Common.{◌≡◌, ◌∙◌, ◌+◌, ◌-◌, ◌++◌, ◌∷◌, ◌≤◌, ℕ, List, None, Option, Some}
use Rattle.std.proofs.Common.{[]}
use Rattle.std.proofs.Common.{Bool, ap, append-nil, arith, drop, false, inl, inr, length}
use Rattle.std.proofs.Common.{length-append, map, refl, slice_get, subst, suc, sym, take, true}
use Rattle.std.proofs.Common.{zero}
use Rattle.std.proofs.lemmas.Bool.Decides.{nat_tests}
use Rattle.std.proofs.lemmas.List.{drop-append-le, drop-map, drop_all, map-append, take-map}
use Rattle.std.proofs.lemmas.List.{take_all}
use Rattle.std.proofs.lemmas.List.Edits.{length-remove}
use Rattle.std.proofs.lemmas.Option.{slice_get-map, slice_get_cases}
use Rattle.std.specs.Option.{option_map}
use Rattle.std.specs.Prelude.{if◌then◌else◌, nat_lt, remove}
use Rattle.bip_core.specs.Events.{IsDone, IsHandedOn, IsMailHandedOn, IsStep}
use Rattle.bip_core.specs.Worlds.{WorldContent}
use Rattle.bip_core.specs.declared.events.Did.{Did}
use Rattle.bip_core.specs.declared.events.Event.TheVariants.{Bank, Mail, Try}
use Rattle.bip_core.specs.declared.events.Event.{Event}
use Rattle.bip_core.specs.declared.events.What.TheVariants.{Acts, Hears, Learns, Moves, Nothing}
use Rattle.bip_core.specs.declared.events.What.TheVariants.{Submits, Tries}
use Rattle.bip_core.specs.declared.events.What.{What}
use Rattle.bip_core.specs.declared.messages.Message.TheVariants.{NotifyComponent, OfferTo}
use Rattle.bip_core.specs.declared.messages.Message.TheVariants.{ReplyToClass, RequestToBank}
use Rattle.bip_core.specs.declared.messages.Message.{Message}
use Rattle.bip_sequence.specs.Laws.{AreFlightsOf, ArrowsAreOfMessages, FlightsAreMessages, brief_in}
use Rattle.bip_sequence.specs.Lifelines.{brief_of, happens_at}
use Rattle.bip_sequence.specs.Notes.{AreNoted, IsNotedEvent, NotesContent}
use Rattle.bip_sequence.specs.Notes.{first_flight, flight_of, flights_after}
use Rattle.bip_sequence.specs.Notes.{flights_left, noted, none_noted, one_noted}
use Rattle.bip_sequence.specs.declared.lifelines.Brief.{Brief}
use Rattle.bip_sequence.specs.declared.lifelines.Lifeline.{Lifeline}
use Rattle.bip_sequence.specs.declared.notes.Flight.{Flight}
use Rattle.bip_tell.specs.Lines.{count_left, handed_on}

-- what an event leaves in flight of what was
abbrev mail_left : Event → List Message → List Message
mail_left (Mail place) mail = remove mail place
mail_left event mail = mail

handed_mail : (w : WorldContent) (m : Message) (what : What) (v : WorldContent)
    → IsHandedOn w m what v → v.mail ≡ w.mail
handed_mail w (OfferTo k offer) (Hears receipt) v h = ap (λ (x : WorldContent). x.mail) h.3
handed_mail w (RequestToBank q) Submits v h = ap (λ (x : WorldContent). x.mail) h
handed_mail w (ReplyToClass r) (Learns did) v h = ap (λ (x : WorldContent). x.mail) h.5
handed_mail w (NotifyComponent n) (Moves did) v h = ap (λ (x : WorldContent). x.mail) h.5
handed_mail w m what v h = absurd h

taken-removed : (place : ℕ) (m : Message) (front back : List Message) → length front ≡ place
    → front ++ back ≡ remove (front ++ m ∷ back) place
taken-removed zero m [] back is = refl
taken-removed (suc place) m [] back is = absurd (omega (arith, is))
taken-removed zero m (x ∷ front) back is = absurd (omega (arith, is))
taken-removed (suc place) m (x ∷ front) back is =
    ap (λ l. x ∷ l) (taken-removed place m front back (omega (arith, is)))

mail_handed_on : (place : ℕ) (w : WorldContent) (what : What) (v : WorldContent)
    → IsMailHandedOn place w what v → v.mail ≡ remove w.mail place
mail_handed_on place w what v h =
    let rest : v.mail ≡ h.rest = handed_mail (record w { mail = h.rest }) h.message what v h.on in
    let t = h.taken in
    rest ∙ (t.others ∙ (taken-removed place h.message t.front t.back t.before
    ∙ sym (ap (λ l. remove l place) t.whole)))

removed_none : (place : ℕ) (mail : List Message) → length mail ≤ place → mail ≡ remove mail place
removed_none place mail past =
    sym (ap (λ l. l ++ drop (suc place) mail) (take_all place mail past)
    ∙ (ap (λ l. mail ++ l) (drop_all (suc place) mail (omega (arith, past))) ∙ append-nil mail))

done_mail : (w : WorldContent) (event : Event) (what : What) (v : WorldContent)
    → IsDone w event what v → v.mail ≡ mail_left event w.mail
done_mail w (Mail place) Nothing v h = ap (λ (x : WorldContent). x.mail) h.1
    ∙ removed_none place w.mail h.0
done_mail w (Mail place) what v h = mail_handed_on place w what v h
done_mail w (Try k a) (Tries did) v h = ap (λ (x : WorldContent). x.mail) h.3
done_mail w (Try k a) Nothing v h = ap (λ (x : WorldContent). x.mail) h.1
done_mail w (Bank step) (Acts did) v h = ap (λ (x : WorldContent). x.mail) h.3
done_mail w event what v h = absurd h

step_mail : (w : WorldContent) (event : Event) (did : Did) (v : WorldContent)
    → IsStep w event did v
    → (put : List Message) × (v.mail ≡ mail_left event w.mail ++ put)
step_mail w event did v h =
    let acted : h.middle.mail ≡ mail_left event w.mail =
    ap (λ (x : WorldContent). x.mail) h.acted.after
    ∙ done_mail w event did.what h.acted.middle h.acted.done in
    (h.put.put, h.put.last ∙ ap (λ l. l ++ h.put.put) acted)

-- as many as are counted
left_count : (place : ℕ) (mail : List Message)
    → count_left (slice_get mail place) (length mail) ≡ length (remove mail place)
left_count place mail =
    elim (slice_get_cases mail place).1 [
      | inl c ↦ let fewer = length-remove mail place c.1 in
          let less : length mail - 1 ≡ length (remove mail place) = omega (arith, fewer) in
          rw c.2 less
      | inr c ↦ rw c.1 (ap (λ (l : List Message). length l) (removed_none place mail c.0))
    ]

handed_count : (event : Event) (mail : List Message)
    → count_left (handed_on event mail) (length mail) ≡ length (mail_left event mail)
handed_count (Mail place) mail = left_count place mail
handed_count (Try k a) mail = refl
handed_count (Bank step) mail = refl

drop-behind : (xs ys : List Message) → drop (length xs) (xs ++ ys) ≡ ys
drop-behind xs ys = drop-append-le (length xs) xs ys (omega arith)
    ∙ ap (λ l. l ++ ys) (drop_all (length xs) xs (omega arith))

map-remove : {X Y : Type 0} (f : X → Y) (xs : List X) (place : ℕ)
    → map f (remove xs place) ≡ remove (map f xs) place
map-remove f xs place =
    map-append f (take place xs) (drop (suc place) xs)
    ∙ (ap (λ l. l ++ map f (drop (suc place) xs)) (sym (take-map f place xs))
    ∙ ap (λ l. take place (map f xs) ++ l) (sym (drop-map f (suc place) xs)))

left_briefs : (event : Event) (mail : List Message) (flights : List Flight)
    → AreFlightsOf mail flights
    → map brief_in (flights_left event flights) ≡ map brief_of (mail_left event mail)
left_briefs (Mail place) mail flights same =
    map-remove brief_in flights place
    ∙ (ap (λ (l : List Brief). remove l place) same ∙ sym (map-remove brief_of mail place))
left_briefs (Try k a) mail flights same = same
left_briefs (Bank step) mail flights same = same

sent_briefs : (number : ℕ) (at : Lifeline) (mail : List Message)
    → map brief_in (map (flight_of number at) mail) ≡ map brief_of mail
sent_briefs number at [] = refl
sent_briefs number at (m ∷ mail) = ap (λ l. brief_of m ∷ l) (sent_briefs number at mail)

first_briefs : (mail : List Message) → map brief_in (map first_flight mail) ≡ map brief_of mail
first_briefs [] = refl
first_briefs (m ∷ mail) = ap (λ l. brief_of m ∷ l) (first_briefs mail)

-- an event that is done
flights_on : (number : ℕ) (event : Event) (at : Lifeline) (did : Did) (w v : WorldContent)
    (flights : List Flight) → IsStep w event did v → AreFlightsOf w.mail flights
    → AreFlightsOf v.mail (flights_after number event at (Some did)
    (count_left (handed_on event w.mail) (length w.mail)) v.mail flights)
flights_on number event at did w v flights h same =
    let s = step_mail w event did v h in
    let put = s.0 in
    let on = mail_left event w.mail in
    let left = count_left (handed_on event w.mail) (length w.mail) in
    let behind : drop left v.mail ≡ put =
    ap (λ k. drop k v.mail) (handed_count event w.mail)
    ∙ (ap (λ (l : List Message). drop (length on) l) s.1 ∙ drop-behind on put) in
    map-append brief_in (flights_left event flights) (map (flight_of number at) (drop left v.mail))
    ∙ (ap (λ l. l ++ map brief_in (map (flight_of number at) (drop left v.mail)))
    (left_briefs event w.mail flights same)
    ∙ (ap (λ l. map brief_of on ++ map brief_in (map (flight_of number at) l)) behind
    ∙ (ap (λ l. map brief_of on ++ l) (sent_briefs number at put)
    ∙ (sym (map-append brief_of on put) ∙ ap (λ l. map brief_of l) (sym s.1)))))

not_below : (a b : ℕ) → b ≤ a → nat_lt a b ≡ false
not_below a b within = grind (arith, nat_tests)

noted_flights : (number : ℕ) (event : Event) (handed : Option Brief) (did : Option Did) (left : ℕ)
    (mail : List Message) (n : NotesContent) → number ≤ n.until
    → (noted number event handed did left mail n).in_flight
    ≡ flights_after number event (happens_at n.stations event handed) did left mail n.in_flight
noted_flights number event handed did left mail n within = rw (not_below n.until number within) refl

either_until : (b : Bool) (n m : NotesContent) → m.until ≡ n.until
    → (if b then n else m).until ≡ n.until
either_until true n m same = refl
either_until false n m same = same

noted_until : (number : ℕ) (event : Event) (handed : Option Brief) (did : Option Did) (left : ℕ)
    (mail : List Message) (n : NotesContent)
    → (noted number event handed did left mail n).until ≡ n.until
noted_until number event handed did left mail n = either_until (nat_lt n.until number) n _ refl

event_on : (number : ℕ) (event : Event) (did : Option Did) (w v : WorldContent)
    (n later : NotesContent) → IsNotedEvent number event did w v n later → number ≤ n.until
    → AreFlightsOf w.mail n.in_flight → AreFlightsOf v.mail later.in_flight
event_on number event None w v n later h within same =
    let is : later.in_flight ≡ n.in_flight =
    ap (λ (m : NotesContent). m.in_flight) h.notes
    ∙ noted_flights number event (option_map brief_of (handed_on event w.mail)) None
    (count_left (handed_on event w.mail) (length w.mail)) v.mail n within in
    ap (λ l. map brief_in l) is
    ∙ (same ∙ ap (λ (x : WorldContent). map brief_of x.mail) (sym h.steps.1))
event_on number event (Some did) w v n later h within same =
    let handed = option_map brief_of (handed_on event w.mail) in
    let left = count_left (handed_on event w.mail) (length w.mail) in
    let at = happens_at n.stations event handed in
    let is : later.in_flight ≡ flights_after number event at (Some did) left v.mail n.in_flight =
    ap (λ (m : NotesContent). m.in_flight) h.notes
    ∙ noted_flights number event handed (Some did) left v.mail n within in
    let step : IsStep w event did v =
    subst (λ (x : WorldContent). IsStep w event did x) (sym h.steps.2) h.steps.1 in
    ap (λ l. map brief_in l) is ∙ flights_on number event at did w v n.in_flight step same

run_on : {w : WorldContent} {n : NotesContent} {es : List Event} {ds : List (Option Did)}
    {v : WorldContent} {later : NotesContent} → AreNoted w n es ds v later
    → AreFlightsOf w.mail n.in_flight → length es ≤ n.until
    → (later.until ≡ n.until) × AreFlightsOf v.mail later.in_flight
run_on none_noted first within = (refl, first)
run_on {n = n} (one_noted {es = es} {v = v} {x = x} {m = m} {later = later} e d before is) first
    within =
    let long = length-append es (e ∷ []) in
    let rest = run_on before first (omega (arith, within, long)) in
    let here : length es + 1 ≤ m.until = omega (arith, within, long, rest.0) in
    let until : later.until ≡ m.until =
    ap (λ (k : NotesContent). k.until) is.notes
    ∙ noted_until (length es + 1) e (option_map brief_of (handed_on e v.mail)) d
    (count_left (handed_on e v.mail) (length v.mail)) x.mail m in (
      until ∙ rest.0,
      event_on (length es + 1) e d v x m later is here rest.1,
    )

pub flights_are_messages : FlightsAreMessages
flights_are_messages w v before until n later events dids first run within =
    let begun : AreFlightsOf w.mail n.in_flight =
    ap (λ l. map brief_in l) first.in_flight ∙ first_briefs w.mail in
    (run_on run begun (subst (λ k. length events ≤ k) (sym first.until) within)).1

pub arrows_are_of_messages : ArrowsAreOfMessages
arrows_are_of_messages (Mail place) did mail flights same =
    sym (slice_get-map brief_in flights place)
    ∙ (ap (λ (l : List Brief). slice_get l place) same ∙ slice_get-map brief_of mail place)
arrows_are_of_messages (Try k a) did mail flights same = refl
arrows_are_of_messages (Bank step) did mail flights same = refl
