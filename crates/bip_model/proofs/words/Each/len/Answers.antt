use Rattle.std.proofs.Common.{ap, length, sym, ◌∙◌}
use Rattle.bip_model.proofs.WordLemmas.{lent_as_many}
use Rattle.bip_model.proofs.words.Each.len.Goals as goal

pub returns : goal.returns
returns g c = c.len.ensures ∙ sym (lent_as_many g.W.Word.read_as c.self.inside.words
    c.self.invariant) ∙ ap length c.self.view_is
