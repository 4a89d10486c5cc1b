use Rattle.std.proofs.Common.{◌≡◌, ◌≤◌, ◌∙◌, [], ◌++◌, ◌∷◌, ap, drop, length, List, refl, rules}
use Rattle.std.proofs.Common.{subst, suc, sym, take, true}
use Rattle.std.specs.Prelude.{◌↔◌}
use Rattle.std.proofs.Math.Seq.{drop-cons}
use Rattle.std.proofs.lemmas.List.{take-append-drop, take_all, take_more}
use Rattle.bip_model.specs.declared.grants.Grant.{Grant}
use Rattle.bip_replay.specs.Faults.{IsFaultAt}
use Rattle.bip_replay.specs.Runs.{NothingMayRun, Standing, StandsAfter, standing_of}
use Rattle.bip_replay.proofs.RunLemmas.{leads_on}
use Rattle.bip_schedule.proofs.checking.check.Goals as goal

pub loop-grant-preserved : goal.loop-grant-preserved
loop-grant-preserved c =
    let i = c.loop-grant.grant-index in
    let grant = c.grant-item.result in
    let more = take_more c.args.trace.now i grant c.loop-grant-test.true in
    rw more
    (subst (λ (g : Grant). StandsAfter c.args.model.now c.args.base
    (take i c.args.trace.now ++ g ∷ []) (standing_of c.step.new.self)) c.grant-item.is
    (leads_on _ _ _ _ _ grant c.loop-grant.invariant (rw c.of.ensures at c.in_default.ensures.next)
    (rw c.of.ensures at c.in_default.ensures.on)))

pub returns-in-Err-clause-fault : goal.returns-in-Err-clause-fault
returns-in-Err-clause-fault c =
    let i = c.loop-grant.grant-index in
    let trace = c.args.trace.now in
    let grant = c.grant-item.result in
    let first = drop-cons trace i grant c.loop-grant-test.true in
    let there = ap (λ (g : Grant). g ∷ drop (suc i) trace) (sym c.grant-item.is) in (
      refl,
      record {
        front = take i trace;
        grant = grant;
        rest = drop (suc i) trace;
        whole = sym (take-append-drop i trace)
            ∙ ap (λ (gs : List Grant). take i trace ++ gs) (first ∙ there);
        run = c.loop-grant.invariant.run;
        why = subst (λ (p : Standing). IsFaultAt p grant c.in-Err.fault)
            c.loop-grant.invariant.there (rw c.of.ensures at c.in-Err.ensures.fault);
      },
    )

pub returns : goal.returns
returns c =
    let trace = c.args.trace.now in
    let all : length trace ≤ c.loop-grant.grant-index = search rules in
    let end = standing_of c.loop-grant.position in
    let stands : StandsAfter c.args.model.now c.args.base trace end =
    subst (λ (gs : List Grant). StandsAfter c.args.model.now c.args.base gs end)
    (take_all c.loop-grant.grant-index trace all) c.loop-grant.invariant in
    record {
      run =
          record {
            run = stands.run;
            stuck = subst (λ (p : Standing).
                (c.nothing_may_run.result ≡ true) ↔ NothingMayRun p.model p.state) stands.there
                c.nothing_may_run.ensures;
          };
      fault = tt;
    }
