use Rattle.std.proofs.Common.{◌≡◌, ◌∷◌, ap, sym, ◌∙◌, drop, get_or, List}
use Rattle.std.specs.Prelude.{codes}
use Rattle.std.proofs.lemmas.List.{at_drop_more, take_rest}
use Rattle.bip_model.specs.Parts.{Participant}
use Rattle.bip_model.specs.States.{state_of}
use Rattle.bip_explain.specs.Explanations.{Telling, with_part, with_parts}
use Rattle.bip_explain.specs.Hindrances.{place_parts, places_parts}
use Rattle.bip_explain.proofs.SayLemmas.{then_said}
use Rattle.bip_explain.proofs.hindrances.+say_places.Goals as goal

pub returns-in-len1-up : goal.returns-in-len1-up
returns-in-len1-up t c =
    let m = c.args.model.now in
    let s = state_of c.args.state.now in
    let qs : List Participant = c.args.participants.now in
    let d : Participant = (record { 0 = 0 }, record { 0 = 0 }) in
    let e : with_parts (places_parts m s c.args.front.now qs) c.args.explanation.now ≡ with_parts
    (places_parts m s c.args.front.now (get_or qs 0 d ∷ drop 1 qs)) c.args.explanation.now
    = at_drop_more (λ (l : List Participant). with_parts
    (places_parts m s c.args.front.now l) c.args.explanation.now) qs 0 d
    c.in-len1-up.len_at_least in
    then_said (place_parts m s (get_or qs 0 d).0.0) (places_parts m s (codes "; ") (drop 1 qs))
    (with_part c.args.front.now c.args.explanation.now) c.say_place.new.explanation
    c.say_places.new.explanation
    (c.say_place.ensures ∙ ap (λ (x : Telling). with_parts (place_parts m s (get_or qs 0 d).0.0) x)
    c.say.ensures) (rw (take_rest qs 1) at c.say_places.ensures)
    ∙ sym e
