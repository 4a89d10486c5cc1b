use Rattle.std.proofs.Common.{◌<◌, ◌≤◌, ◌^◌, [], length, arith, ◌∙◌, refl}
use Rattle.bip_model.specs.Naming.{IsName}
use Rattle.bip_reader.specs.Writing.{line_of_variable}
use Rattle.bip_reader.proofs.WritingLemmas.{all_taken, more_written, one_more}
use Rattle.bip_reader.proofs.writing.write_starts.Goals as goal

pub loop-number-preserved : goal.loop-number-preserved
loop-number-preserved c =
    let k = c.args.component.now in
    let n = c.loop-number.number in
    let named : n < length k.variables = omega (
      arith,
      c.loop-number-test.true,
      c.len-number-end.ensures,
    ) in (
      c.in_ok-write_start.ensures.text ∙ more_written
          (line_of_variable k) n c.args.text.now.items c.loop-number.text.items _
          c.loop-number.invariant.0 refl,
      one_more IsName k.variables n [] named c.loop-number.invariant.1
          c.in_ok-write_start.ensures.spelled.0,
      one_more (λ v. v < 2 ^ 32) k.start n 0 (omega (arith, named, c.requires))
          c.loop-number.invariant.2 c.in_ok-write_start.ensures.spelled.1,
    )

pub returns-clause-spelled : goal.returns-clause-spelled
returns-clause-spelled c =
    let k = c.args.component.now in
    let past : length k.variables ≤ c.loop-number.number =
    omega (arith, c.loop-number-test.false, c.len-number-end.ensures) in (
      all_taken IsName k.variables c.loop-number.number past c.loop-number.invariant.1,
      all_taken (λ v. v < 2 ^ 32) k.start c.loop-number.number
          (omega (arith, past, c.requires)) c.loop-number.invariant.2,
    )
