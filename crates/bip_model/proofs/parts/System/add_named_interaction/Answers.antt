use Rattle.std.proofs.Common.{◌≡◌, ◌∙◌, [], Err, sym, true}
use Rattle.bip_model.specs.Scopes.{knows_guard, shared, transfer_said}
use Rattle.bip_model.proofs.DraftLemmas.{transfer_at_fault}
use Rattle.bip_model.proofs.parts.System.add_named_interaction.Goals as goal

pub returns-in-Err-clause-said : goal.returns-in-Err-clause-said
returns-in-Err-clause-said c =
    let known : knows_guard (shared c.args.self.now c.args.participants.now) c.args.guard.now
    ≡ true = rw c.each.ensures at (sym c.knows_guard.ensures ∙ c.if-not-knows_guard.false) in
    let said : transfer_said (shared c.args.self.now c.args.participants.now) [] c.args.transfer.now
    ≡ Err c.in-Err.fault = rw c.each-2.ensures at (sym c.in-Err.ensures) in
    transfer_at_fault c.args.name c.args.participants.now c.args.guard.now c.args.transfer.now
    c.args.self.now c.in-Err.fault known said
