use Rattle.std.proofs.Common.{◌≡◌, ◌∙◌, List, [], ◌∷◌, None, get_or, slice_get, refl, sym}
use Rattle.bip_model.specs.declared.messages.Request.{Request}
use Rattle.bip_model.proofs.ListLemmas.{read_is}
use Rattle.bip_bank.proofs.central.decide_waiting.Goals as goal

-- a queue without a first request has none
none_first : (queue : List Request) → slice_get queue 0 ≡ None → queue ≡ []
none_first [] none = refl
none_first (q ∷ rest) none = absurd (cc)

pub unreachable-requires : goal.unreachable-requires
unreachable-requires c =
    let queue : c.index.result.now ≡ get_or c.args.queues.now.items c.args.place [] =
    read_is c.args.queues.now.items c.args.place c.index.result.now
    [] c.requires.known c.index.ensures in
    c.requires.waits (sym queue ∙ none_first c.index.result.now (sym c.in_default.ensures))
