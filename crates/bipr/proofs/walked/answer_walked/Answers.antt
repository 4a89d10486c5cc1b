use Rattle.std.proofs.Common.{length, refl, subst, sym}
use Rattle.bip_model.specs.Parts.{IsSystem}
use Rattle.bip_replay.specs.Replays.{IsRunOf}
use Rattle.bip_replay.specs.Writing.{text_of}
use Rattle.bip_walk.specs.Tallies.{Traced}
use Rattle.bip_walk.specs.Walking.{IsWalk}
use Rattle.bipr.specs.Walked.{walked}
use Rattle.bipr.proofs.walked.answer_walked.Goals as goal

pub write_trace-requires : goal.write_trace-requires
write_trace-requires c =
    let book = c.in_ok-book.book in
    let valid = subst IsSystem (sym c.in_ok-book.ensures.model) c.recall.ensures.valid in
    rw (c.model.ensures, ← c.in_ok-book.ensures.model, c.grants.ensures.grants)
    (c.run_laws.ensures.of_model book.model book.base book.grants valid c.grants.ensures.run)

pub returns : goal.returns
returns c =
    let m = c.args.plan.now.model in
    let book = c.in_ok-book.book in
    let walk : IsWalk m c.args.asked.now.base c.args.seed c.args.asked.now.grants book.grants =
    rw c.from.ensures at c.in_ok-book.ensures.walk in
    let run : IsRunOf m c.args.asked.now.base (text_of m book.grants) (length book.grants) =
    record {
      grants = book.grants;
      reads =
          rw (
            c.in_ok-trace.ensures.text,
            c.model.ensures,
            c.grants.ensures.grants,
          ) at c.in_ok-trace.ensures.reads_back;
      run =
          rw (c.in_ok-book.ensures.model, c.in_ok-book.ensures.base_is) at c.grants.ensures.run;
      counted = refl;
    } in
    let beside = rw c.model-2.ensures at c.in_ok-beside.ensures in
    let traced : Traced = record {
      seed = c.args.seed;
      grants = book.grants;
      is_stuck = beside.is_stuck;
    } in
    rw (
      c.reported.ensures,
      c.in_ok-trace.ensures.text,
      c.in_ok-beside.ensures.is,
      c.model.ensures,
      c.model-2.ensures,
      c.grants.ensures.grants,
    ) (walked traced walk beside.stuck run)
