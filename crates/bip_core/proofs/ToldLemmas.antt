-- What a decision on offers tells: each component at most once, with the number that its wants move
-- it with, and to where the joint step leads.
use Rattle.std.proofs.Common.{◌≡◌, ℕ, ◌≤◌, List, Bool, true, false, cond, ◌+◌, refl, subst, sym}
use Rattle.std.proofs.Common.{◌∙◌, arith}
use Rattle.std.proofs.lemmas.List.Recursion.{is_count_by}
use Rattle.std.specs.Prelude.{◌==◌, count_by}
use Rattle.bip_model.specs.Parties.{AreWantsBy}
use Rattle.bip_model.specs.Parts.{IsSystem}
use Rattle.bip_model.specs.States.{State}
use Rattle.bip_model.specs.Steps.{after, moves}
use Rattle.bip_model.specs.Wants.{moved_in}
use Rattle.bip_model.specs.declared.messages.Notify.{Notify}
use Rattle.bip_model.specs.declared.messages.Offer.{Offer}
use Rattle.bip_model.specs.declared.parts.System.{System}
use Rattle.bip_model.specs.declared.reasons.Why.{Why}
use Rattle.bip_model.specs.declared.wants.Want.{Want}
use Rattle.bip_model.proofs.PartyLemmas.{moving_is_wanted}
use Rattle.bip_observe.specs.Laws.{AllShow}
use Rattle.bip_observe.specs.Verdicts.{IsReady}
use Rattle.bip_ip.specs.Asking.{told_by}
use Rattle.bip_ip.proofs.TellLemmas.{leads_to_the_step, tells_offered_numbers, tells_once}
use Rattle.bip_ip.proofs.TellLemmas.{tells_what_moves}
use Rattle.bip_core.specs.Lists.{In, count}
use Rattle.bip_core.specs.Views.{TakesTo}
use Rattle.bip_core.proofs.ListLemmas.{in-Contains}
use Rattle.bip_core.proofs.TakeLemmas.{told_taken}
use Rattle.bip_core.proofs.WantLemmas.{HasWant, moved_as_offered, want_of}

-- a notification is for a component
abbrev pub is_told : ℕ → Notify → Bool
is_told c n = n.comp.0 == c

one_more : (b : Bool) (n : ℕ) → cond b 1 0 + n ≡ cond b (1 + n) n
one_more true n = refl
one_more false n = omega arith

-- no component is told twice
pub told_once : (m : System) → IsSystem m → (o : ℕ → Offer) (a c : ℕ)
    → count (is_told c) (told_by m o a) ≤ 1
told_once m valid o a c =
    subst (λ (n : ℕ). n ≤ 1) (sym (counts (told_by m o a))) (tells_once m valid o a c)
  where
    counts : (ns : List Notify) → count (is_told c) ns ≡ count_by (is_told c) ns
    counts =
        is_count_by (count (is_told c)) (is_told c) refl
        (λ n ns. one_more (is_told c n) (count (is_told c) ns))

-- a notification tells what an interaction moves by these wants
pub record TellsMove (m : System) (a : ℕ) (wants : List Want) (n : Notify) : Type 0 where
  pub moves : moves m a n.comp.0 ≡ true
  pub has : HasWant wants n.comp.0 n.number
  pub moved : moved_in wants n.comp.0 ≡ n.number

-- so does what is told
pub tells_move : {m : System} {o : ℕ → Offer} {a : ℕ} {reasons : List Why} {wants : List Want}
    → AreWantsBy m o a reasons wants → (n : Notify) → In n (told_by m o a) → TellsMove m a wants n
tells_move {m} {o} {a} {reasons} {wants} by n told =
    let at = in-Contains (told_by m o a) n told in
    let on = tells_what_moves m o a n at in
    let number = sym (tells_offered_numbers m o a n at) in
    let w = want_of by n.comp.0 (moving_is_wanted m a wants by.parties n.comp.0 on) in
    record {
      moves = on;
      has = record { want = w.want; among = w.among; comp = w.comp; number = w.number ∙ number };
      moved = moved_as_offered by n.comp.0 on ∙ number;
    }

-- where the offers show a state, each component can take it there, and it leads to where the step
-- does
pub told_leads : {m : System} {o : ℕ → Offer} {of : ℕ → Type 0} {a : ℕ} → IsSystem m → (s : State)
    → IsReady m o of a → AllShow m o of s → (n : Notify) → In n (told_by m o a)
    → TakesTo m n (s n.comp.0) (after m s a n.comp.0)
told_leads {m} {o} {of} {a} valid s ready show n told =
    let leads = leads_to_the_step m valid o s a (λ c on. ready.own c (ready.moved c on)) in
    let at = in-Contains (told_by m o a) n told in
    record {
      taken = told_taken m o of s a ready show n at;
      leads = sym (leads (λ c on. show c (ready.moved c on)) n at);
    }
