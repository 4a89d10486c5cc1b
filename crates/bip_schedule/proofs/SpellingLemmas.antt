-- The line that is written of an event reads as that event.
use Rattle.std.proofs.Common.{◌≡◌, ℕ, ◌<◌, true, false, List, [], ◌∷◌, length, get_or, Some, refl}
use Rattle.std.proofs.Common.{arith}
use Rattle.std.specs.Fmt.{decimal}
use Rattle.std.specs.Prelude.{All}
use Rattle.std.proofs.lemmas.List.Elements.{All-cons, All-nil}
use Rattle.bip_bank.specs.declared.banks.BankStep.TheVariants.{Ask, Deliver, Pass, Serve}
use Rattle.bip_bank.specs.declared.banks.StationId.{StationId}
use Rattle.bip_core.specs.declared.events.Event.TheVariants.{Bank, Mail, Try}
use Rattle.bip_core.specs.declared.events.Event.{Event}
use Rattle.bip_model.proofs.WrittenLemmas.{IsWord, decimal-word, is_inked, is_name-from, name-word}
use Rattle.bip_model.proofs.WrittenLemmas.{plain_spaced, position-name, value_said-decimal}
use Rattle.bip_model.proofs.WrittenLemmas.{words_spaced}
use Rattle.bip_model.specs.Naming.{AreApart, IsName, name_in}
use Rattle.bip_model.specs.Parts.{IsSystem}
use Rattle.bip_model.specs.Texts.{is_comment, is_plain, words}
use Rattle.bip_model.specs.declared.numbering.InterId.{InterId}
use Rattle.bip_partition.specs.Plans.{AreStations, Planned}
use Rattle.bip_replay.specs.Items.{ReadsBack}
use Rattle.bip_bank.proofs.StationLemmas.{place_of, station_declared}
use Rattle.bip_schedule.specs.Lines.{event_known, event_on, event_said, name_said, station_known}
use Rattle.bip_schedule.specs.Writing.{HasSpelling, IsNamed, event_line, station_name, verb_of}
use Rattle.bip_schedule.specs.Writing.{event_words}
use Rattle.bip_schedule.specs.declared.lines.NamedEvent.{NamedEvent}
use Rattle.bip_schedule.specs.declared.lines.NamedEvent.TheVariants as named

-- a name that is written is one
said_name : (name : List ℕ) → IsName name → name_said name ≡ Some name
said_name name is = rw (is_name-from name is) refl

one : (word : List ℕ) → IsWord word → All IsWord (word ∷ [])
one word is = All-cons IsWord word [] is (All-nil IsWord)

two : (word other : List ℕ) → IsWord word → IsWord other → All IsWord (word ∷ other ∷ [])
two word other is so = All-cons IsWord word (other ∷ []) is (one other so)

-- the first word of a line is a word, and begins no comment
verb_inked : (e : Event) → is_inked (verb_of e) ≡ true
verb_inked (Mail k) = refl
verb_inked (Try k a) = refl
verb_inked (Bank (Deliver k)) = refl
verb_inked (Bank (Serve s)) = refl
verb_inked (Bank (Pass s t)) = refl
verb_inked (Bank (Ask s t)) = refl

verb_word : (e : Event) → IsWord (verb_of e)
verb_word (Mail k) = (refl, refl)
verb_word (Try k a) = (refl, refl)
verb_word (Bank (Deliver k)) = (refl, refl)
verb_word (Bank (Serve s)) = (refl, refl)
verb_word (Bank (Pass s t)) = (refl, refl)
verb_word (Bank (Ask s t)) = (refl, refl)

verb_says : (e : Event) (behind : List (List ℕ)) → is_comment (verb_of e ∷ behind) ≡ false
verb_says (Mail k) behind = refl
verb_says (Try k a) behind = refl
verb_says (Bank (Deliver k)) behind = refl
verb_says (Bank (Serve s)) behind = refl
verb_says (Bank (Pass s t)) behind = refl
verb_says (Bank (Ask s t)) behind = refl

-- of a plan whose names are apart, with its stations
module _ (p : Planned) (stations : List InterId) (valid : IsSystem p.model)
    (apart : AreApart p.classes.names) (are : AreStations p stations) where
  -- the name of a station is that station's
  station_back : (s : StationId) → s.0 < length stations
      → station_known p stations (station_name p stations s) ≡ Some s
  station_back s within =
      rw (
        position-name p.model.interaction_names
            (get_or stations s.0 (record { 0 = 0 })).0 valid.so_far.interactions_apart
            (station_declared p stations s.0 (record { 0 = 0 }) valid are within),
        place_of stations s.0 (record { 0 = 0 }) are.rising within,
      )
      refl

  -- what an event's words name
  abbrev named_by : Event → NamedEvent
  named_by (Mail k) = named.Mail k
  named_by (Try k a) = named.Try (name_in p.classes.names k.0)
      (name_in p.model.interaction_names a.0)
  named_by (Bank (Deliver k)) = named.Deliver k
  named_by (Bank (Serve s)) = named.Serve (station_name p stations s)
  named_by (Bank (Pass s t)) = named.Pass (station_name p stations s) (station_name p stations t)
  named_by (Bank (Ask s t)) = named.Ask (station_name p stations s) (station_name p stations t)

  words_name : (e : Event) → HasSpelling p stations e → IsNamed p stations e
      → event_said (verb_of e) (event_words p stations e) ≡ Some (named_by e)
  words_name (Mail k) spelled names = rw (value_said-decimal k spelled) refl
  words_name (Try k a) spelled names = rw (said_name _ names.0, said_name _ names.1) refl
  words_name (Bank (Deliver k)) spelled names = rw (value_said-decimal k spelled) refl
  words_name (Bank (Serve s)) spelled names = rw (said_name _ names) refl
  words_name (Bank (Pass s t)) spelled names = rw (said_name _ names.0, said_name _ names.1) refl
  words_name (Bank (Ask s t)) spelled names = rw (said_name _ names.0, said_name _ names.1) refl

  known_back : (e : Event) → HasSpelling p stations e → event_known p stations (named_by e) ≡ Some e
  known_back (Mail k) spelled = refl
  known_back (Try k a) spelled = rw (
    position-name p.classes.names k.0 apart spelled.0,
    position-name p.model.interaction_names a.0 valid.so_far.interactions_apart spelled.1,
  ) refl
  known_back (Bank (Deliver k)) spelled = refl
  known_back (Bank (Serve s)) spelled = rw (station_back s spelled) refl
  known_back (Bank (Pass s t)) spelled = rw (station_back s spelled.0, station_back t spelled.1)
      refl
  known_back (Bank (Ask s t)) spelled = rw (station_back s spelled.0, station_back t spelled.1) refl

  -- each is a word
  are_words : (e : Event) → HasSpelling p stations e → IsNamed p stations e
      → All IsWord (event_words p stations e)
  are_words (Mail k) spelled names = one (decimal k) (decimal-word k (omega (arith, spelled)))
  are_words (Try k a) spelled names = two _ _ (name-word _ names.0) (name-word _ names.1)
  are_words (Bank (Deliver k)) spelled names =
      one (decimal k) (decimal-word k (omega (arith, spelled)))
  are_words (Bank (Serve s)) spelled names = one _ (name-word _ names)
  are_words (Bank (Pass s t)) spelled names = two _ _ (name-word _ names.0) (name-word _ names.1)
  are_words (Bank (Ask s t)) spelled names = two _ _ (name-word _ names.0) (name-word _ names.1)

  pub line-reads_back : (e : Event) → HasSpelling p stations e → IsNamed p stations e
      → ReadsBack (event_on p stations) (event_line p stations) e
  line-reads_back e spelled names =
      let all = are_words e spelled names in
      let plain : is_plain (event_line p stations e) ≡ true =
      plain_spaced (verb_of e) (event_words p stations e) (verb_inked e) all in
      let says : words (event_line p stations e) ≡ verb_of e ∷ event_words p stations e =
      words_spaced (verb_of e) (event_words p stations e) (verb_word e) all in
      record {
        plain = plain;
        reads = rw (
          plain,
          says,
          verb_says e (event_words p stations e),
          words_name e spelled names,
          known_back e spelled,
        ) refl;
      }
