use Rattle.std.proofs.Common.{refl}
use Rattle.bip_reader.proofs.AnswerLemmas.{list_any-map}
use Rattle.bip_reader.proofs.reading.ClassLines.contains.Goals as goal

pub returns : goal.returns
returns c = rw (c.is_class.ensures, c.as_slice.ensures.value, ← c.self.view_is, list_any-map) refl
