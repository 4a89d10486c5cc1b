-- Lines that are written piece by piece.
use Rattle.std.proofs.Common.{◌≡◌, ◌∙◌, ◌+◌, ◌++◌, ◌∷◌, ◌<◌, ℕ, List, None, Option, Some, Result}
use Rattle.std.proofs.Common.{Ok}
use Rattle.std.proofs.Common.{Err}
use Rattle.std.proofs.Common.{[], ap, drop, length, slice_get, subst, sym}
use Rattle.std.specs.List.{flat_map}
use Rattle.std.specs.Prelude.{IfErr, IfNone, IfSome}
use Rattle.std.proofs.lemmas.List.{append_assoc, drop_more}
use Rattle.std.proofs.lemmas.Option.{get_or_from_slice_get}
use Rattle.bip_bank.specs.Banks.{CanWantMemory}
use Rattle.bip_bank.specs.Idleness.{IsIdleBecause}
use Rattle.bip_bank.specs.declared.banks.BankStep.{BankStep}
use Rattle.bip_bank.specs.declared.idleness.WhyIdle.{WhyIdle}
use Rattle.bip_core.specs.Runs.{AreSteps}
use Rattle.bip_core.specs.Worlds.{WorldContent}
use Rattle.bip_core.specs.declared.events.Did.{Did}
use Rattle.bip_core.specs.declared.events.Event.TheVariants.{Bank}
use Rattle.bip_core.specs.declared.events.Event.{Event}
use Rattle.bip_core.specs.declared.messages.Message.{Message}
use Rattle.bip_model.specs.Texts.{line_feed}
use Rattle.bip_model.specs.declared.parts.System.{System}
use Rattle.bip_model.specs.declared.reasons.Why.{Why}
use Rattle.bip_model.specs.declared.numbering.InterId.{InterId}
use Rattle.bip_partition.specs.Plans.{AreStations, Planned}
use Rattle.bip_tell.specs.Lines.{IsHintOf, IsIdleIn, IsToldEvent, count_left, done_text, handed_on}
use Rattle.bip_tell.specs.Lines.{each_placed, line_head, told_line}
use Rattle.bip_tell.specs.Reasons.{told_reason}
use Rattle.bip_tell.specs.declared.hints.Hint.{Hint}

-- one message more is written
pub placed_one : (told : ℕ → Message → List ℕ) (place : ℕ) (m : Message) (mail : List Message)
    (start t c : List ℕ) → place < length mail → slice_get mail place ≡ Some m
    → c ≡ t ++ told place m → t ++ each_placed told place (drop place mail) ≡ start
    → c ++ each_placed told (place + 1) (drop (place + 1) mail) ≡ start
placed_one told place m mail start t c within found written before =
    let rest = drop (place + 1) mail in
    let here : drop place mail ≡ m ∷ rest =
    drop_more mail place m within ∙ ap (λ (x : Message). x ∷ rest)
    (get_or_from_slice_get mail place m m found) in
    let more = each_placed told (place + 1) rest in
    ap (λ (x : List ℕ). x ++ more) written
    ∙ (append_assoc t (told place m) more
    ∙ (sym (ap (λ (x : List Message). t ++ each_placed told place x) here) ∙ before))

-- one reason more is written
pub reason_one : (m : System) (place : ℕ) (y : Why) (reasons : List Why) (start t c : List ℕ)
    → place < length reasons → slice_get reasons place ≡ Some y → c ≡ t ++ told_reason m y
    → t ++ flat_map (told_reason m) (drop place reasons) ≡ start
    → c ++ flat_map (told_reason m) (drop (place + 1) reasons) ≡ start
reason_one m place y reasons start t c within found written before =
    let rest = drop (place + 1) reasons in
    let here : drop place reasons ≡ y ∷ rest =
    drop_more reasons place y within ∙ ap (λ (x : Why). x ∷ rest)
    (get_or_from_slice_get reasons place y y found) in
    let more = flat_map (told_reason m) rest in
    ap (λ (x : List ℕ). x ++ more) written
    ∙ (append_assoc t (told_reason m y) more
    ∙ (sym (ap (λ (x : List Why). t ++ flat_map (told_reason m) x) here) ∙ before))

-- the head of a line, what was done, and a line feed
pub event_told : (p : Planned) (w v : WorldContent) (number left : ℕ) (event : Event)
    (hint : Hint) (did : Option Did) (stations : List InterId) (t a b c : List ℕ)
    → p ≡ w.plan → AreSteps (event ∷ []) (did ∷ []) w v → AreStations p stations
    → IsHintOf w event hint
    → a ≡ t ++ line_head p stations number event (handed_on event w.mail)
    → left ≡ count_left (handed_on event w.mail) (length w.mail)
    → b ≡ a ++ done_text p hint left did v.mail → c ≡ b ++ line_feed ∷ []
    → (line : List ℕ) × IsToldEvent number event did w v line × (c ≡ t ++ line)
event_told p w v number left event hint did stations t a b c same steps are known begun count done
    ended =
    let handed = handed_on event w.mail in
    let head = line_head p stations number event handed in
    let tail = done_text p hint (count_left handed (length w.mail)) did v.mail in
    let line = told_line p stations number event hint did w.mail v.mail in (
      line,
      record {
        steps = steps;
        stations = stations;
        are = subst (λ (q : Planned). AreStations q stations) same are;
        hint = hint;
        known = known;
        told = ap (λ (q : Planned). told_line q stations number event hint did w.mail v.mail) same;
      },
      ended
          ∙ (ap (λ (x : List ℕ). x ++ line_feed ∷ [])
          (done ∙ (ap (λ (n : ℕ). a ++ done_text p hint n did v.mail) count
          ∙ ap (λ (x : List ℕ). x ++ tail) begun))
          ∙ (append_assoc (t ++ head) tail (line_feed ∷ [])
          ∙ append_assoc t head (tail ++ line_feed ∷ []))),
    )

-- why a step of the bank does nothing, in the world
pub idle_in : (w : WorldContent) (step : BankStep) (r : Option WhyIdle)
    → IfSome r (IsIdleBecause w.bank step) → IfNone r (CanWantMemory w.bank step)
    → IsIdleIn w (Bank step) r
idle_in w step None some none = none
idle_in w step (Some why) some none = some

-- what holds whatever the error is
pub if_err : {T E : Type 0} (r : Result T E) (A : Type 0) → A → IfErr r (λ e. A)
if_err (Ok x) A is = tt
if_err (Err e) A is = is
