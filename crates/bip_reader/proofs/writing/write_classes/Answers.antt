use Rattle.std.proofs.Common.{◌<◌, ◌≤◌, [], length, arith, ◌∙◌, refl}
use Rattle.bip_model.specs.Naming.{IsName}
use Rattle.bip_reader.specs.Writing.{line_of_class}
use Rattle.bip_reader.proofs.WritingLemmas.{all_taken, more_written, one_more}
use Rattle.bip_reader.proofs.writing.write_classes.Goals as goal

pub loop-number-preserved : goal.loop-number-preserved
loop-number-preserved c =
    let classes = c.args.classes.now in
    let n = c.loop-number.number in
    let within : n < length classes.names = omega (
      arith,
      c.loop-number-test.true,
      c.len-number-end.ensures.names,
    ) in (
      c.in_ok-write_class.ensures.text ∙ more_written
          (line_of_class c.args.model.now classes) n c.args.text.now.items c.loop-number.text.items
          _ c.loop-number.invariant.0 refl,
      one_more IsName classes.names n [] within c.loop-number.invariant.1
          c.in_ok-write_class.ensures.spelled,
    )

pub returns-clause-spelled : goal.returns-clause-spelled
returns-clause-spelled c =
    let past : length c.args.classes.now.names ≤ c.loop-number.number =
    omega (arith, c.loop-number-test.false, c.len-number-end.ensures.names) in
    all_taken IsName c.args.classes.now.names c.loop-number.number past c.loop-number.invariant.1
