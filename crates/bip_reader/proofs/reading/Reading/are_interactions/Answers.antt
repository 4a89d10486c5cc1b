use Rattle.std.proofs.Common.{is_some, refl, rules}
use Rattle.std.proofs.lemmas.Iterator.Consumers.{YieldsList-from_first}
use Rattle.std.proofs.lemmas.Iterator.Search.{all_from_yields_List}
use Rattle.bip_reader.specs.Reading.{draft_of, interaction_named}
use Rattle.bip_reader.proofs.reading.Reading.are_interactions.Goals as goal

pub returns : goal.returns
returns c = all_from_yields_List (λ name. is_some
    (interaction_named (draft_of c.args.self.now) name)) _ _ _ c.all.ensures.ran
    (YieldsList-from_first (λ x. x) (λ left. left) c.args.names refl) (λ x b q k. search rules)
