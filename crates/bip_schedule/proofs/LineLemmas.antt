-- The words of an event's line.
use Rattle.std.proofs.Common.{◌≡◌, ℕ, List, [], ◌∷◌, Bool, true, false, cond, Option, Some, None}
use Rattle.std.proofs.Common.{Ok, Err, codes, option_map, refl, sym, ap, ◌∙◌, subst, inl, inr}
use Rattle.std.specs.Option.{option_and_then, option_map_or}
use Rattle.std.specs.Prelude.{◌⊎◌, ◌==◌, position}
use Rattle.std.specs.Cmp.Lexicographic.{same_text as told_same}
use Rattle.bip_bank.specs.declared.banks.BankStep.TheVariants.{Ask, Deliver, Pass, Serve}
use Rattle.bip_bank.specs.declared.banks.StationId.{StationId}
use Rattle.bip_core.specs.declared.events.Event.TheVariants.{Bank, Mail, Try}
use Rattle.bip_core.specs.declared.events.Event.{Event}
use Rattle.bip_model.specs.Naming.{is_name, same_text}
use Rattle.bip_model.specs.Texts.{value_said, words_said}
use Rattle.bip_model.specs.declared.numbering.InterId.{InterId}
use Rattle.bip_partition.specs.Plans.{Planned}
use Rattle.bip_replay.specs.declared.faults.LineFault.{LineFault}
use Rattle.bip_replay.specs.declared.faults.LineFault.TheVariants.{Syntax, Unknown}
use Rattle.bip_schedule.specs.Laws.{IsEventForm, IsEventLine, IsStationNamed, LinesAreEvents}
use Rattle.bip_schedule.specs.Laws.{LinesAreUnknown, LinesSayNothing, ask_form, deliver_form}
use Rattle.bip_schedule.specs.Laws.{mail_form, of_ask, of_deliver, of_mail, of_pass, of_serve}
use Rattle.bip_schedule.specs.Laws.{of_try, pass_form, serve_form, try_form}
use Rattle.bip_schedule.specs.Lines.{event_in_words, event_known, event_looked_up, event_said}
use Rattle.bip_schedule.specs.Lines.{name_said, named_said, one_said, station_known, stations_known}
use Rattle.bip_schedule.specs.Lines.{two_said}
use Rattle.bip_schedule.specs.declared.lines.NamedEvent.TheVariants as named
use Rattle.bip_schedule.specs.declared.lines.NamedEvent.{NamedEvent}

is_verb : (verb other : List ℕ) → same_text verb other ≡ true → verb ≡ other
is_verb verb other is = told_same verb other (sym is)

some_same : {X : Type 0} (x y : X) → Some x ≡ Some y → x ≡ y
some_same x y is = cc

-- what an option that is mapped comes from
mapped_from : {X Y : Type 0} (f : X → Y) (o : Option X) (y : Y) → option_map f o ≡ Some y → (x : X)
    × (o ≡ Some x) × (y ≡ f x)
mapped_from f None y is = cc
mapped_from f (Some x) y is = (x, refl, sym (some_same (f x) y is))

then_from : {X Y : Type 0} (f : X → Option Y) (o : Option X) (y : Y) → option_and_then f o ≡ Some y
    → (x : X) × (o ≡ Some x) × (f x ≡ Some y)
then_from f None y is = cc
then_from f (Some x) y is = (x, refl, is)

-- a word that is a name
name_from : (word name : List ℕ) → name_said word ≡ Some name → (is_name word ≡ true)
    × (name ≡ word)
name_from word name is = by_test (is_name word) refl is
  where
    by_test : (b : Bool) → is_name word ≡ b → cond b (Some word) None ≡ Some name
        → (is_name word ≡ true) × (name ≡ word)
    by_test true was said = (was, sym (some_same word name said))
    by_test false was said = cc

said_name : (word : List ℕ) → is_name word ≡ true → name_said word ≡ Some word
said_name word is = rw is refl

abbrev Said : List ℕ → List ℕ → NamedEvent → Type 0
Said verb word n =
    ((k : ℕ) × (verb ≡ codes "mail") × (value_said word ≡ Some k) × (n ≡ named.Mail k))
    ⊎ ((k : ℕ) × (verb ≡ codes "deliver") × (value_said word ≡ Some k) × (n ≡ named.Deliver k))
    ⊎ ((verb ≡ codes "serve") × (is_name word ≡ true) × (n ≡ named.Serve word))

one_from : (verb word : List ℕ) (n : NamedEvent) → one_said verb word ≡ Some n → Said verb word n
one_from verb word n is = by_mail (same_text verb (codes "mail")) refl is
  where
    by_serve : (b : Bool) → same_text verb (codes "serve") ≡ b
        → cond b (option_map (λ s. named.Serve s) (name_said word)) None ≡ Some n → Said verb word n
    by_serve true was said =
        let from = mapped_from (λ s. named.Serve s) (name_said word) n said in
        let name = name_from word from.0 from.1 in
        inr (inr (
          is_verb verb (codes "serve") was,
          name.0,
          from.2 ∙ ap (λ s. named.Serve s) name.1,
        ))
    by_serve false was said = cc

    by_deliver : (b : Bool) → same_text verb (codes "deliver") ≡ b
        → cond b (option_map (λ k. named.Deliver k) (value_said word))
        (cond (same_text verb (codes "serve"))
        (option_map (λ s. named.Serve s) (name_said word)) None) ≡ Some n → Said verb word n
    by_deliver true was said =
        let from = mapped_from (λ k. named.Deliver k) (value_said word) n said in
        inr (inl (from.0, is_verb verb (codes "deliver") was, from.1, from.2))
    by_deliver false was said = by_serve (same_text verb (codes "serve")) refl said

    by_mail : (b : Bool) → same_text verb (codes "mail") ≡ b
        → cond b (option_map (λ k. named.Mail k) (value_said word))
        (cond (same_text verb (codes "deliver"))
        (option_map (λ k. named.Deliver k) (value_said word))
        (cond (same_text verb (codes "serve"))
        (option_map (λ s. named.Serve s) (name_said word)) None)) ≡ Some n → Said verb word n
    by_mail true was said =
        let from = mapped_from (λ k. named.Mail k) (value_said word) n said in
        inl (from.0, is_verb verb (codes "mail") was, from.1, from.2)
    by_mail false was said = by_deliver (same_text verb (codes "deliver")) refl said

abbrev Named : List ℕ → List ℕ → List ℕ → NamedEvent → Type 0
Named verb a b n =
    ((verb ≡ codes "try") × (n ≡ named.Try a b)) ⊎ ((verb ≡ codes "pass") × (n ≡ named.Pass a b))
    ⊎ ((verb ≡ codes "ask") × (n ≡ named.Ask a b))

named_from : (verb a b : List ℕ) (n : NamedEvent) → named_said verb a b ≡ Some n → Named verb a b n
named_from verb a b n is = by_try (same_text verb (codes "try")) refl is
  where
    by_ask : (t : Bool) → same_text verb (codes "ask") ≡ t
        → cond t (Some (named.Ask a b)) None ≡ Some n → Named verb a b n
    by_ask true was said = inr (inr (
      is_verb verb (codes "ask") was,
      sym (some_same (named.Ask a b) n said),
    ))
    by_ask false was said = cc

    by_pass : (t : Bool) → same_text verb (codes "pass") ≡ t
        → cond t (Some (named.Pass a b)) (cond (same_text verb (codes "ask"))
        (Some (named.Ask a b)) None) ≡ Some n → Named verb a b n
    by_pass true was said = inr (inl (
      is_verb verb (codes "pass") was,
      sym (some_same (named.Pass a b) n said),
    ))
    by_pass false was said = by_ask (same_text verb (codes "ask")) refl said

    by_try : (t : Bool) → same_text verb (codes "try") ≡ t
        → cond t (Some (named.Try a b)) (cond (same_text verb (codes "pass"))
        (Some (named.Pass a b)) (cond (same_text verb (codes "ask")) (Some (named.Ask a b)) None))
        ≡ Some n → Named verb a b n
    by_try true was said = inl (
      is_verb verb (codes "try") was,
      sym (some_same (named.Try a b) n said),
    )
    by_try false was said = by_pass (same_text verb (codes "pass")) refl said

-- what a look-up comes from
known_from : (p : Planned) (stations : List InterId) (o : Option NamedEvent) (fault : LineFault)
    (e : Event) → event_looked_up p stations (option_map_or (λ x. Ok (Some x)) o (Err fault))
    ≡ Ok (Some e)
    → (n : NamedEvent) × (o ≡ Some n) × (event_known p stations n ≡ Some e)
known_from p stations None fault e is = cc
known_from p stations (Some n) fault e is = (n, refl, by_known (event_known p stations n) is)
  where
    by_known : (o : Option Event) → option_map_or (λ event. Ok (Some event)) o (Err Unknown)
        ≡ Ok (Some e) → o ≡ Some e
    by_known None said = cc
    by_known (Some x) said = cc

station_from : (p : Planned) (stations : List InterId) (word : List ℕ) (s : StationId)
    → is_name word ≡ true → station_known p stations word ≡ Some s
    → IsStationNamed p stations word s.0
station_from p stations word s name is =
    let inter = then_from (λ (a : ℕ). option_map (λ (k : ℕ). record { 0 = k })
    (position (λ (b : InterId). b.0 == a) stations))
    (position (same_text word) p.model.interaction_names) s is in
    let place = mapped_from (λ (k : ℕ). record { 0 = k })
    (position (λ (b : InterId). b.0 == inter.0) stations) s inter.2 in
    (inter.0, (name, inter.1), place.1 ∙ ap Some (sym (ap (λ (t : StationId). t.0) place.2)))

one_line : (p : Planned) (stations : List InterId) (verb word : List ℕ) (e : Event)
    → event_looked_up p stations (event_in_words (verb ∷ word ∷ [])) ≡ Ok (Some e)
    → IsEventLine p stations (verb ∷ word ∷ []) e
one_line p stations verb word e is =
    let known = known_from p stations (one_said verb word) _ e is in
    by_said known.0 known.2 (one_from verb word known.0 known.1)
  where
    by_said : (n : NamedEvent) → event_known p stations n ≡ Some e → Said verb word n
        → IsEventLine p stations (verb ∷ word ∷ []) e
    by_said n there (inl mail) =
        let event : Mail mail.0 ≡ e = some_same (Mail mail.0) e
        (subst (λ (x : NamedEvent). event_known p stations x ≡ Some e) mail.3 there) in
        subst (λ (v : List ℕ). IsEventLine p stations (v ∷ word ∷ []) e) (sym mail.1)
        (subst (IsEventLine p stations (codes "mail" ∷ word ∷ [])) event
        (of_mail word mail.0 mail.2))
    by_said n there (inr (inl deliver)) =
        let event : Bank (Deliver deliver.0) ≡ e =
        some_same (Bank (Deliver deliver.0)) e
        (subst (λ (x : NamedEvent). event_known p stations x ≡ Some e) deliver.3 there) in
        subst (λ (v : List ℕ). IsEventLine p stations (v ∷ word ∷ []) e) (sym deliver.1)
        (subst (IsEventLine p stations (codes "deliver" ∷ word ∷ [])) event
        (of_deliver word deliver.0 deliver.2))
    by_said n there (inr (inr serve)) =
        let from = mapped_from (λ (s : StationId). Bank (Serve s)) (station_known p stations word) e
        (subst (λ (x : NamedEvent). event_known p stations x ≡ Some e) serve.2 there) in
        subst (λ (v : List ℕ). IsEventLine p stations (v ∷ word ∷ []) e) (sym serve.0)
        (subst (IsEventLine p stations (codes "serve" ∷ word ∷ [])) (sym from.2)
        (of_serve word from.0 (station_from p stations word from.0 serve.1 from.1)))

-- two names behind a verb
two_from : (verb word other : List ℕ) (n : NamedEvent) → two_said verb word other ≡ Some n
    → (is_name word ≡ true) × (is_name other ≡ true) × Named verb word other n
two_from verb word other n is =
    let first = then_from (λ (a : List ℕ). option_and_then (λ (b : List ℕ). named_said verb a b)
    (name_said other)) (name_said word) n is in
    let second = then_from (λ (b : List ℕ). named_said verb first.0 b)
    (name_said other) n first.2 in
    let one = name_from word first.0 first.1 in
    let two = name_from other second.0 second.1 in (
      one.0,
      two.0,
      named_from verb word other n (subst (λ (b : List ℕ). named_said verb word b
          ≡ Some n) two.1 (subst (λ (a : List ℕ). named_said verb a second.0 ≡ Some n) one.1
          second.2)),
    )

two_stations : (p : Planned) (stations : List InterId) (event : StationId → StationId → Event)
    (a b : List ℕ) (e : Event) → is_name a ≡ true → is_name b ≡ true
    → stations_known p stations event a b ≡ Some e
    → (s : StationId) × (t : StationId) × IsStationNamed p stations a s.0
    × IsStationNamed p stations b t.0 × (e ≡ event s t)
two_stations p stations event a b e one two is =
    let first = then_from (λ (s : StationId). option_map (λ (t : StationId). event s t)
    (station_known p stations b)) (station_known p stations a) e is in
    let second = mapped_from (λ (t : StationId). event first.0 t)
    (station_known p stations b) e first.2 in (
      first.0,
      second.0,
      station_from p stations a first.0 one first.1,
      station_from p stations b second.0 two second.1,
      second.2,
    )

two_line : (p : Planned) (stations : List InterId) (verb word other : List ℕ) (e : Event)
    → event_looked_up p stations (event_in_words (verb ∷ word ∷ other ∷ [])) ≡ Ok (Some e)
    → IsEventLine p stations (verb ∷ word ∷ other ∷ []) e
two_line p stations verb word other e is =
    let known = known_from p stations (two_said verb word other) _ e is in
    let said = two_from verb word other known.0 known.1 in
    by_said known.0 known.2 said.0 said.1 said.2
  where
    by_said : (n : NamedEvent) → event_known p stations n ≡ Some e → is_name word ≡ true
        → is_name other ≡ true → Named verb word other n
        → IsEventLine p stations (verb ∷ word ∷ other ∷ []) e
    by_said n there one two (inl try') =
        let known = subst (λ (x : NamedEvent). event_known p stations x ≡ Some e) try'.1 there in
        let class = then_from (λ (k : ℕ). option_map
        (λ (a : ℕ). Try (record { 0 = k }) (record { 0 = a }))
        (position (same_text other) p.model.interaction_names))
        (position (same_text word) p.classes.names) e known in
        let inter = mapped_from (λ (a : ℕ). Try (record { 0 = class.0 }) (record { 0 = a }))
        (position (same_text other) p.model.interaction_names) e class.2 in
        subst (λ (v : List ℕ). IsEventLine p stations (v ∷ word ∷ other ∷ []) e) (sym try'.0)
        (subst (IsEventLine p stations (codes "try" ∷ word ∷ other ∷ [])) (sym inter.2)
        (of_try word other (record { 0 = class.0 }) (record { 0 = inter.0 }) (one, class.1)
        (two, inter.1)))
    by_said n there one two (inr (inl pass)) =
        let from = two_stations p stations (λ (s t : StationId). Bank (Pass s t)) word other e one
        two (subst (λ (x : NamedEvent). event_known p stations x ≡ Some e) pass.1 there) in
        subst (λ (v : List ℕ). IsEventLine p stations (v ∷ word ∷ other ∷ []) e) (sym pass.0)
        (subst (IsEventLine p stations (codes "pass" ∷ word ∷ other ∷ [])) (sym from.4)
        (of_pass word other from.0 from.1 from.2 from.3))
    by_said n there one two (inr (inr ask)) =
        let from = two_stations p stations (λ (s t : StationId). Bank (Ask s t)) word other e one
        two (subst (λ (x : NamedEvent). event_known p stations x ≡ Some e) ask.1 there) in
        subst (λ (v : List ℕ). IsEventLine p stations (v ∷ word ∷ other ∷ []) e) (sym ask.0)
        (subst (IsEventLine p stations (codes "ask" ∷ word ∷ other ∷ [])) (sym from.4)
        (of_ask word other from.0 from.1 from.2 from.3))

some_words : (p : Planned) (stations : List InterId) (ws : List (List ℕ)) (e : Event)
    → event_looked_up p stations (event_in_words ws) ≡ Ok (Some e) → IsEventLine p stations ws e
some_words p stations [] e is = cc
some_words p stations (verb ∷ []) e is = cc
some_words p stations (verb ∷ word ∷ []) e is = one_line p stations verb word e is
some_words p stations (verb ∷ word ∷ other ∷ []) e is = two_line p stations verb word other e is
some_words p stations (verb ∷ word ∷ other ∷ more ∷ rest) e is = cc

-- and back
station_back : (p : Planned) (stations : List InterId) (word : List ℕ) (s : StationId)
    → IsStationNamed p stations word s.0 → station_known p stations word ≡ Some s
station_back p stations word s at = rw (at.1.1, at.2) refl

words_back : (p : Planned) (stations : List InterId) (ws : List (List ℕ)) (e : Event)
    → IsEventLine p stations ws e → event_looked_up p stations (event_in_words ws) ≡ Ok (Some e)
words_back p stations _ _ (of_mail word k value) = rw value refl
words_back p stations _ _ (of_deliver word k value) = rw value refl
words_back p stations _ _ (of_serve name s at) =
    rw (said_name name at.1.0, station_back p stations name s at) refl
words_back p stations _ _ (of_try class name k a one two) =
    rw (said_name class one.0, said_name name two.0, one.1, two.1) refl
words_back p stations _ _ (of_pass from to s t one two) =
    rw (
      said_name from one.1.0,
      said_name to two.1.0,
      station_back p stations from s one,
      station_back p stations to t two,
    ) refl
words_back p stations _ _ (of_ask from to s t one two) =
    rw (
      said_name from one.1.0,
      said_name to two.1.0,
      station_back p stations from s one,
      station_back p stations to t two,
    ) refl

pub lines_are_events : LinesAreEvents
lines_are_events p stations line e = (
  λ is. forth (words_said line) refl is,
  λ (ws, said, is). rw said (words_back p stations ws e is),
)
  where
    forth : (said : Option (List (List ℕ))) → words_said line ≡ said
        → event_looked_up p stations (option_map_or event_in_words said (Err Syntax)) ≡ Ok (Some e)
        → (ws : List (List ℕ)) × (words_said line ≡ Some ws) × IsEventLine p stations ws e
    forth None was is = cc
    forth (Some ws) was is = (ws, was, some_words p stations ws e is)

-- a line that says nothing

never_nothing : (p : Planned) (stations : List InterId) (o : Option NamedEvent)
    → event_looked_up p stations (option_map_or (λ x. Ok (Some x)) o (Err Syntax)) ≡ Ok None → ⊥
never_nothing p stations None is = cc
never_nothing p stations (Some n) is = by_known (event_known p stations n) is
  where
    by_known : (o : Option Event) → option_map_or (λ event. Ok (Some event)) o (Err Unknown)
        ≡ Ok None → ⊥
    by_known None said = cc
    by_known (Some x) said = cc

pub lines_say_nothing : LinesSayNothing
lines_say_nothing p stations line = (λ is. forth (words_said line) refl is, λ none. rw none refl)
  where
    forth : (said : Option (List (List ℕ))) → words_said line ≡ said
        → event_looked_up p stations (option_map_or event_in_words said (Err Syntax)) ≡ Ok None
        → words_said line ≡ Some []
    forth None was is = cc
    forth (Some []) was is = was
    forth (Some (verb ∷ words)) was is = absurd (never_nothing p stations
        (event_said verb words) is)

-- a line with an unknown name

form_said : (p : Planned) (stations : List InterId) (o : Option NamedEvent)
    → event_looked_up p stations (option_map_or (λ x. Ok (Some x)) o (Err Syntax)) ≡ Err Unknown
    → (n : NamedEvent) × (o ≡ Some n)
form_said p stations None is = cc
form_said p stations (Some n) is = (n, refl)

one_form : (verb word : List ℕ) (n : NamedEvent) → Said verb word n → IsEventForm (verb ∷ word ∷ [])
one_form verb word n (inl mail) = subst (λ (v : List ℕ). IsEventForm (v ∷ word ∷ [])) (sym mail.1)
    (mail_form word mail.0 mail.2)
one_form verb word n (inr (inl deliver)) = subst (λ (v : List ℕ). IsEventForm (v ∷ word ∷ []))
    (sym deliver.1) (deliver_form word deliver.0 deliver.2)
one_form verb word n (inr (inr serve)) = subst (λ (v : List ℕ). IsEventForm (v ∷ word ∷ []))
    (sym serve.0) (serve_form word serve.1)

two_form : (verb word other : List ℕ) (n : NamedEvent) → is_name word ≡ true → is_name other ≡ true
    → Named verb word other n → IsEventForm (verb ∷ word ∷ other ∷ [])
two_form verb word other n one two (inl try') =
    subst (λ (v : List ℕ). IsEventForm (v ∷ word ∷ other ∷ [])) (sym try'.0)
    (try_form word other one two)
two_form verb word other n one two (inr (inl pass)) =
    subst (λ (v : List ℕ). IsEventForm (v ∷ word ∷ other ∷ [])) (sym pass.0)
    (pass_form word other one two)
two_form verb word other n one two (inr (inr ask)) =
    subst (λ (v : List ℕ). IsEventForm (v ∷ word ∷ other ∷ [])) (sym ask.0)
    (ask_form word other one two)

unknown_form : (p : Planned) (stations : List InterId) (ws : List (List ℕ))
    → event_looked_up p stations (event_in_words ws) ≡ Err Unknown → IsEventForm ws
unknown_form p stations [] is = cc
unknown_form p stations (verb ∷ []) is = cc
unknown_form p stations (verb ∷ word ∷ []) is =
    let said = form_said p stations (one_said verb word) is in
    one_form verb word said.0 (one_from verb word said.0 said.1)
unknown_form p stations (verb ∷ word ∷ other ∷ []) is =
    let said = form_said p stations (two_said verb word other) is in
    let named = two_from verb word other said.0 said.1 in
    two_form verb word other said.0 named.0 named.1 named.2
unknown_form p stations (verb ∷ word ∷ other ∷ more ∷ rest) is = cc

form_named : (ws : List (List ℕ)) → IsEventForm ws → (n : NamedEvent)
    × (event_in_words ws ≡ Ok (Some n))
form_named _ (mail_form word k value) = (named.Mail k, rw value refl)
form_named _ (deliver_form word k value) = (named.Deliver k, rw value refl)
form_named _ (serve_form name is) = (named.Serve name, rw (said_name name is) refl)
form_named _ (try_form class name one two) = (
  named.Try class name,
  rw (said_name class one, said_name name two) refl,
)
form_named _ (pass_form from to one two) = (
  named.Pass from to,
  rw (said_name from one, said_name to two) refl,
)
form_named _ (ask_form from to one two) = (
  named.Ask from to,
  rw (said_name from one, said_name to two) refl,
)

unknown_back : (p : Planned) (stations : List InterId) (ws : List (List ℕ)) (n : NamedEvent)
    → event_in_words ws ≡ Ok (Some n) → ((e : Event) → ¬ IsEventLine p stations ws e)
    → event_looked_up p stations (event_in_words ws) ≡ Err Unknown
unknown_back p stations ws n is none = rw is (by_known (event_known p stations n) refl)
  where
    by_known : (o : Option Event) → event_known p stations n ≡ o
        → option_map_or (λ event. Ok (Some event)) o (Err Unknown) ≡ Err Unknown
    by_known None was = refl
    by_known (Some e) was = absurd (none e (some_words p stations ws e (rw is (rw was refl))))

never_known : (p : Planned) (stations : List InterId) (ws : List (List ℕ)) (e : Event)
    → event_looked_up p stations (event_in_words ws) ≡ Err Unknown → IsEventLine p stations ws e → ⊥
never_known p stations ws e is line =
    let both : Err Unknown ≡ Ok (Some e) = sym is ∙ words_back p stations ws e line in
    cc

pub lines_are_unknown : LinesAreUnknown
lines_are_unknown p stations line = (
  λ is. forth (words_said line) refl is,
  λ (ws, said, form, none). rw said (let n = form_named ws form in
      unknown_back p stations ws n.0 n.1 none),
)
  where
    forth : (said : Option (List (List ℕ))) → words_said line ≡ said
        → event_looked_up p stations (option_map_or event_in_words said (Err Syntax)) ≡ Err Unknown
        → (ws : List (List ℕ)) × (words_said line ≡ Some ws) × IsEventForm ws
        × ((e : Event) → ¬ IsEventLine p stations ws e)
    forth None was is = cc
    forth (Some ws) was is = (
      ws,
      was,
      unknown_form p stations ws is,
      λ e line'. never_known p stations ws e is line',
    )
