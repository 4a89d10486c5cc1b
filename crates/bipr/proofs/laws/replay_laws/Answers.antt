use Rattle.bipr.proofs.KnownLemmas.{one_text_decides, two_texts_decide}
use Rattle.bipr.proofs.laws.replay_laws.Goals as goal

pub returns : goal.returns
returns c = record { two = two_texts_decide c.meaning_laws.ensures.either; one = one_text_decides }
