use Rattle.std.proofs.Common.{arith, rules}
use Rattle.std.proofs.lemmas.Option.{slice_get_within}
use Rattle.bip_host.specs.Waiting.{NobodyHas, Queued, WaitsAt, nobody}
use Rattle.bip_host.specs.declared.places.Place.TheVariants.{Entered, Waiting}
use Rattle.bip_host.proofs.WaitingLemmas.{entered_waits_not, order_entered, stuck_at}
use Rattle.bip_host.proofs.waiting.WaitingBook.enter_next.Goals as goal
use Rattle.std.proofs.Common.{subst}

pub returns-in-None-clause-stuck : goal.returns-in-None-clause-stuck
returns-in-None-clause-stuck c =
    let none : NobodyHas c.self.inside.places.items c.self.inside.next = search rules in
    λ _. nobody (subst (λ (w : Queued). NobodyHas w.places w.next) c.self.view_is none)

pub index_mut-requires : goal.index_mut-requires
index_mut-requires c =
    let stands : WaitsAt c.self.inside.places.items c.in-Some.place c.self.inside.next
    c.in-Some.grant = search rules in
    let within = slice_get_within c.self.inside.places.items c.in-Some.place
    (Waiting c.self.inside.next c.in-Some.grant) stands in
    omega (arith, within, c.self.inside.places.ok.0)

pub invariant_of-self : goal.invariant_of-self
invariant_of-self c =
    let stands : WaitsAt c.self.inside.places.items c.in-Some.place c.self.inside.next
    c.in-Some.grant = search rules in
    order_entered c.self.inside.next c.self.inside.places.items c.in-Some.place c.in-Some.grant
    (Entered c.in-Some-append.entry)
    (entered_waits_not c.in-Some-append.entry) c.self.invariant stands

pub returns-in-None-append-clause-stuck : goal.returns-in-None-append-clause-stuck
returns-in-None-append-clause-stuck c =
    let stands : WaitsAt c.self.inside.places.items c.in-Some.place c.self.inside.next
    c.in-Some.grant = search rules in
    λ _. stuck_at c.args.self.now c.self.inside.book c.append.new.self c.self.inside.next
    c.in-Some.place c.self.inside.places.items c.in-Some.grant c.self.view_is stands
    c.in-None-append.ensures.none
