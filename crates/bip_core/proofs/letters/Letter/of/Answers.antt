use Rattle.bip_core.proofs.LetterLemmas.{letter_is, letter_read}
use Rattle.bip_core.proofs.letters.Letter.of.Goals as goal

pub invariant_of-result : goal.invariant_of-result
invariant_of-result c = letter_read c.requires.0 c.args.to c.args.frame c.requires.1

pub returns : goal.returns
returns c = λ m letter. letter_is m c.args.to c.args.frame letter
