use Rattle.std.proofs.Common.{◌++◌, ◌∷◌, [], get_or, inr, take}
use Rattle.std.proofs.lemmas.List.{take_more}
use Rattle.bip_model.specs.declared.numbering.CompId.{CompId}
use Rattle.bip_partition.proofs.TouchLemmas.{touched_known}
use Rattle.bip_review.proofs.WritingLemmas.{cause_known, is_looked_at, one_look_more}
use Rattle.bip_review.proofs.writing.write_looks.Goals as goal

pub unreachable-requires : goal.unreachable-requires
unreachable-requires c =
    let looked = is_looked_at c.args.plan.now.model c.args.inter.0 c.looks-seen.result.now
    c.loop-comp.comp-index (record { 0 = 0 }) c.looks-seen.ensures c.loop-comp-test.true in
    c.in_default.ensures.none looked.higher (record { above = looked.above; moved = looked.moved })

pub write_look-requires-clause-comp : goal.write_look-requires-clause-comp
write_look-requires-clause-comp c =
    let looked = is_looked_at c.args.plan.now.model c.args.inter.0 c.looks-seen.result.now
    c.loop-comp.comp-index (record { 0 = 0 }) c.looks-seen.ensures c.loop-comp-test.true in
    touched_known c.args.plan.now.model c.args.inter.0
    (get_or c.looks-seen.result.now c.loop-comp.comp-index (record { 0 = 0 })).0
    c.recall.ensures.valid (inr looked)

pub write_look-requires-clause-cause : goal.write_look-requires-clause-cause
write_look-requires-clause-cause c = cause_known c.args.plan.now.model c.args.inter.0
    (get_or c.looks-seen.result.now c.loop-comp.comp-index (record { 0 = 0 })).0 c.in-Some.cause.0
    c.recall.ensures.valid c.in-Some.ensures.some.here

pub loop-comp-preserved : goal.loop-comp-preserved
loop-comp-preserved c =
    let before = c.loop-comp.invariant in
    let comp : CompId = get_or c.looks-seen.result.now c.loop-comp.comp-index (record { 0 = 0 }) in
    let more = one_look_more c.args.plan.now.model c.args.inter.0
    (take c.loop-comp.comp-index c.looks-seen.result.now) c.args.text.now.items
    c.loop-comp.text.items c.write_look.new.text.items before.looks comp c.in-Some.cause
    (record { listed = before.listed; causes = before.causes; added = before.added })
    c.in-Some.ensures.some c.in_ok-write_look.ensures in
    record {
      looks = before.looks ++ record { comp = comp; cause = c.in-Some.cause } ∷ [];
      listed = rw (take_more c.looks-seen.result.now c.loop-comp.comp-index
          (record { 0 = 0 }) c.loop-comp-test.true) more.listed;
      causes = more.causes;
      added = more.added;
    }
