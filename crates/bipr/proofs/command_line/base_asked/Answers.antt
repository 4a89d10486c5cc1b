use Rattle.std.proofs.Common.{◌<◌, arith, rules}
use Rattle.clap.specs.Words.{found_of, rows_of}
use Rattle.std.proofs.Common.{codes}
use Rattle.bip_program.proofs.AskedLemmas.{read_none, same_number}
use Rattle.bipr.proofs.command_line.base_asked.Goals as goal

pub returns-in_err-base : goal.returns-in_err-base
returns-in_err-base c =
    read_none c.from_residual.result _ c.from_residual.ensures
    (λ base asked. c.in_err-base.ensures.none base asked.number)

pub returns-then-base-gt-GREATEST_BASE : goal.returns-then-base-gt-GREATEST_BASE
returns-then-base-gt-GREATEST_BASE c = λ base asked.
    let same = same_number (rows_of (found_of c.args.matches.now)) (codes "base") 64 base
    c.in_ok-base.base asked.number c.in_ok-base.ensures.some in
    let bound = asked.bound in
    let above : 18446744073709551614 < c.in_ok-base.base = search rules in
    absurd (omega arith)

pub returns : goal.returns
returns c = record { number = c.in_ok-base.ensures.some; bound = search rules }
