use Rattle.std.proofs.Common.{◌≡◌, ◌∙◌, List, Some, refl, slice_get, subst, sym}
use Rattle.std.proofs.lemmas.Option.{same_Some}
use Rattle.bip_core.specs.Events.{CanBeSkipped, TakesOut}
use Rattle.bip_core.specs.Worlds.{world_of}
use Rattle.bip_core.specs.declared.events.Event.TheVariants.{Mail}
use Rattle.bip_core.specs.declared.events.What.TheVariants.{Submits}
use Rattle.bip_core.specs.declared.messages.Message.{Message}
use Rattle.bip_core.specs.declared.messages.Message.TheVariants.{RequestToBank}
use Rattle.bip_core.proofs.WorldLemmas.{counted_quiet, handed_in, if_err, request_skipped}
use Rattle.bip_core.proofs.machines.Machine.submit_at.Goals as goal

pub returns-clause-counted : goal.returns-clause-counted
returns-clause-counted g c =
    let q = c.request_at-request.result in
    let m = c.take_out-request.result in
    let rest = c.take_out-request.new.self.mail in
    let here : slice_get c.args.self.now.mail c.args.place ≡ Some m =
    subst (λ (l : List Message). slice_get l c.args.place ≡ Some m) c.in_ok-submit.ensures.same
    c.take_out-request.ensures.message in
    let is : m ≡ RequestToBank q = same_Some m (RequestToBank q)
    (sym here ∙ c.request_at-request.ensures.here) in
    let out : TakesOut c.args.place m c.args.self.now.mail rest =
    subst (λ (l : List Message). TakesOut c.args.place m l rest) c.in_ok-submit.ensures.same
    c.take_out-request.ensures.taken in
    let taken : TakesOut c.args.place (RequestToBank q) c.args.self.now.mail rest =
    subst (λ (x : Message). TakesOut c.args.place x c.args.self.now.mail rest) is out in
    counted_quiet _ (world_of c.args.self.now) (Mail c.args.place) Submits _
    (world_of c.take_out-request.new.self) c.let_go.ensures.seen
    (handed_in c.args.self.now c.submit.new.self c.take_out-request.new.self c.args.place q
    c.in_ok-submit.ensures.ok taken c.take_out-request.ensures.others) refl
    c.let_go.ensures.outcome

pub returns-in_err-submit-clause-skipped : goal.returns-in_err-submit-clause-skipped
returns-in_err-submit-clause-skipped g c = if_err
    (CanBeSkipped (world_of c.args.self.now) (Mail c.args.place)) c.from_residual.result
    (request_skipped c.args.self.now c.args.place c.request_at-request.result
    c.request_at-request.ensures.here)
