use Rattle.bip_reader.proofs.TextLemmas.{IsAt}
use Rattle.bip_reader.proofs.texts.read_lines.Given as goal

abbrev pub invariant-loop-line : goal.invariant-loop-line
invariant-loop-line l = IsAt l.text l.last l.reading l.line-iterator
