use Rattle.std.proofs.Common.{◌≡◌, []}
use Rattle.bip_model.specs.Drafts.{participants_named}
use Rattle.bip_model.proofs.ParticipantLemmas.{AreParticipants}
use Rattle.bip_model.proofs.parts.System.participants.Given as goal

abbrev pub invariant-loop-word : goal.invariant-loop-word
invariant-loop-word l =
    (participants_named l.self l.found.items l.word-iterator ≡ participants_named l.self
    [] l.fn.words)
    × AreParticipants l.self.components l.found.items × (l.found.capacity ≡ 64)
