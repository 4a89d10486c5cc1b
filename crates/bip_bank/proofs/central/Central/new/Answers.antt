use Rattle.std.proofs.Common.{◌≡◌, length, replicate, rules}
use Rattle.bip_bank.proofs.CentralLemmas.{first_central, first_content, none_open}
use Rattle.bip_bank.proofs.central.Central.new.Goals as goal

pub invariant_of-result : goal.invariant_of-result
invariant_of-result c =
    let o = c.in_ok-table.ensures in
    let waiting : c.in_ok-waiting.waiting.items ≡ replicate
    (length c.args.plan.now.model.interactions) none_open = search rules in
    first_central c.args.plan.now c.args.base o.list c.in_ok-table.table
    c.in_ok-waiting.waiting.items o.tabled o.rows o.journal o.serial waiting

pub returns : goal.returns
returns c =
    let o = c.in_ok-table.ensures in
    let waiting : c.in_ok-waiting.waiting.items ≡ replicate
    (length c.args.plan.now.model.interactions) none_open = search rules in
    record {
      content = first_content c.args.plan.now c.args.base o.list c.in_ok-table.table
          c.in_ok-waiting.waiting.items o.rows o.journal waiting;
    }
