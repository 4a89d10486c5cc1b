use Rattle.std.proofs.Common.{arith, subst}
use Rattle.std.proofs.lemmas.Grind.{common_steps}
use Rattle.std.proofs.lemmas.List.{take_all}
use Rattle.std.proofs.lemmas.List.Elements.{All-more}
use Rattle.bip_replay.specs.Items.{ReadsBack}
use Rattle.bip_replay.specs.Lines.{grant_on}
use Rattle.bip_replay.specs.Writing.{bare_line}
use Rattle.bip_replay.proofs.ItemLemmas.{items_from-written}
use Rattle.bip_replay.proofs.writing.write_trace.Goals as goal

pub loop-grant-preserved : goal.loop-grant-preserved
loop-grant-preserved c =
    record {
      text = grind (arith, common_steps);
      read = All-more (ReadsBack (grant_on c.args.model.now) (bare_line c.args.model.now))
          c.args.grants.now c.loop-grant.grant-index c.grant-item.result c.loop-grant-test.true
          c.loop-grant.invariant.read
          (subst (ReadsBack (grant_on c.args.model.now) (bare_line c.args.model.now))
          c.grant-item.is c.in_ok-write_line.ensures.reads_back);
    }

pub returns-clause-reads_back : goal.returns-clause-reads_back
returns-clause-reads_back c =
    let whole = take_all c.loop-grant.grant-index c.args.grants.now c.loop-grant-test.false in
    let back = items_from-written (grant_on c.args.model.now)
    (bare_line c.args.model.now) 1 _ c.loop-grant.invariant.read in
    cc (c.loop-grant.invariant.text)
