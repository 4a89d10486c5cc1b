use Rattle.std.proofs.Common.{◌≡◌, length, rules, suc, drop}
use Rattle.std.proofs.lemmas.Iterator.Adapters.{YieldsList-from_vec}
use Rattle.std.proofs.lemmas.Iterator.Consumers.{YieldsList-so_far, YieldsList-turn}
use Rattle.std.proofs.lemmas.Result.{err_from_is_err_and}
use Rattle.std.specs.Vec.Iter.{into_iter_items, into_iter_len}
use Rattle.bip_host.proofs.ReportLemmas.{refuted}
use Rattle.bip_replay.proofs.RunLemmas.{taken}
use Rattle.bip_host.proofs.books.as_run.Goals as goal

pub returns-in_err-append-clause-none : goal.returns-in_err-append-clause-none
returns-in_err-append-clause-none c =
    let told = c.from_residual-in_err-append in
    let p = err_from_is_err_and told.result told.ensures.1 in
    let all = c.args.grants.items in
    let done = c.loop-grant.yielded in
    let is = c.loop-grant.invariant in
    let begun = c.into_iter-grant-iterator.result in
    let items : into_iter_items begun ≡ all = search rules in
    let count : into_iter_len begun ≡ length all = search rules in
    let road = YieldsList-from_vec all items count in
    let so_far = YieldsList-so_far road done c.loop-grant.grant-iterator
    c.loop-grant.yielded_by in
    let turn = YieldsList-turn road done c.loop-grant.grant-iterator c.loop-grant.yielded_by
    c.next.result c.next.new.self c.in-Some.grant c.in-Some.is
    c.next.ensures.steps in
    let whole = taken all done c.in-Some.grant so_far turn.0 turn.1 in
    rw (p.1, whole)
    (refuted c.args.model.now done (drop (suc (length done)) all) c.in-Some.grant
    c.in_err-append.field-0.0 p.0 c.run_laws.ensures.beginnings p.2
    (λ run. c.in_err-append.ensures.only (rw (is.0, is.1, is.2) run)))
