use Rattle.std.proofs.Common.{◌∙◌}
use Rattle.std.specs.Str.Parse.{ExplainsUnsignedError, HasUnsignedDigitsIfOk, ParsesUnsigned}
use Rattle.clap.specs.Words.{found_of, rows_of}
use Rattle.bip_program.proofs.AskedLemmas.{may_ask_number}
use Rattle.bip_program.proofs.ProgramLemmas.{one_read}
use Rattle.bip_program.proofs.asked.wide_number_asked.Goals as goal

pub returns : goal.returns
returns c =
    let m = c.args.matches.now in
    may_ask_number _ (λ bs r. ParsesUnsigned 64 10 bs r × ExplainsUnsignedError 10 bs r
    × HasUnsignedDigitsIfOk bs r) 64 (rows_of (found_of m)) c.args.name.now c.get_one.result
    (λ text r gives. gives.0)
    (λ given. c.get_one.ensures.none (one_read m c.args.name.now ∙ given))
    (λ text given. c.get_one.ensures.value text (one_read m c.args.name.now ∙ given))
