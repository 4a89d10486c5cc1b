use Rattle.std.proofs.Common.{◌≡◌, ◌∙◌, length, map, zip, get_or, arith}
use Rattle.std.proofs.lemmas.List.{length-map, length-set}
use Rattle.std.proofs.lemmas.Slice.Zip.{length-zip}
use Rattle.bip_observe.specs.Offers.{observed}
use Rattle.bip_observe.specs.Verdicts.{offers_of}
use Rattle.bip_ip.specs.Asking.{notify_of}
use Rattle.bip_ip.proofs.AskingLemmas.{put_all, same_notify, tells_more}
use Rattle.bip_ip.proofs.asking.tell.Goals as goal

pub loop-place-preserved : goal.loop-place-preserved
loop-place-preserved c =
    let o = offers_of (observed c.args.offers.now) in
    let i = c.loop-place.place in
    let q = get_or c.args.participants.now i (record { 0 = 0 }, record { 0 = 0 }) in (
      length-set c.loop-place.told i _ ∙ c.loop-place.invariant.0,
      tells_more (notify_of o) c.loop-place.told c.args.participants.now c.args.values.now i
          (record { 0 = 0 }, record { 0 = 0 }) c.index-values-place.result _
          (omega (arith, c.loop-place.invariant.0, c.requires.few, c.loop-place-test.true))
          c.loop-place-test.true c.requires.each c.loop-place.invariant.1
          (same_notify q.0 q.1 _ 0 _ _ o c.number_of.ensures c.index-values-place.is),
    )

pub returns : goal.returns
returns c =
    let all = map (notify_of (offers_of (observed c.args.offers.now)))
    (zip c.args.participants.now c.args.values.now) in
    let n = length c.args.participants.now in
    let each : length c.args.values.now ≡ n = c.requires.each in
    let long : length all ≡ n = rw (
      length-map (zip c.args.participants.now
          c.args.values.now) (notify_of (offers_of (observed c.args.offers.now))),
      length-zip c.args.participants.now c.args.values.now,
      each,
    ) (omega arith) in
    c.in-Some.ensures.notifies ∙ put_all c.loop-place.told all c.loop-place.place n
    c.loop-place-test.false c.loop-place.auto.place-end long c.loop-place.invariant.1
