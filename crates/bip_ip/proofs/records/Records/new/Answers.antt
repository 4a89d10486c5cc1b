use Rattle.std.proofs.Common.{◌∙◌, length, refl}
use Rattle.bip_observe.proofs.KeptLemmas.{length_nothings}
use Rattle.bip_ip.specs.Records.{members_of}
use Rattle.bip_ip.specs.declared.nodes.OpenRecord.{OpenRecord}
use Rattle.bip_ip.proofs.RecordLemmas.{spread_nothing}
use Rattle.bip_ip.proofs.records.Records.new.Goals as goal

pub invariant_of-result : goal.invariant_of-result
invariant_of-result c = rw c.in_ok-places.ensures
    (length_nothings OpenRecord c.count_members.result ∙ c.count_members.ensures)

pub returns : goal.returns
returns c =
    rw (
      c.in_ok-places.ensures,
      spread_nothing (members_of c.args.plan.now
          c.args.class.0) c.count_members.result (length c.args.plan.now.model.interactions),
    ) refl
