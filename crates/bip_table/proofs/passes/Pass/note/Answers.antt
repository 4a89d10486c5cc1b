use Rattle.std.proofs.Common.{◌≡◌, rules}
use Rattle.bip_table.proofs.PassLemmas.{counts_noted, counts_told}
use Rattle.bip_table.specs.Passes.{granted_by}
use Rattle.bip_table.proofs.passes.Pass.note.Goals as goal

pub invariant_of-self : goal.invariant_of-self
invariant_of-self g c =
    let one : granted_by c.args.answer.now ≡ 1 = search rules in (
      c.self.invariant.0,
      rw c.note_grant.ensures (counts_noted _ _ _ c.args.answer.now
          c.self.view_is one c.requires.few),
    )

pub invariant_of-self-in-Ok-Refused : goal.invariant_of-self-in-Ok-Refused
invariant_of-self-in-Ok-Refused g c = (
  c.self.invariant.0,
  rw c.note_refusal.ensures (counts_told _ _ c.self.inside.tallies c.self.inside.share.amount
      c.self.invariant.1),
)

pub invariant_of-self-in-Err-NotKept : goal.invariant_of-self-in-Err-NotKept
invariant_of-self-in-Err-NotKept g c =
    let one : granted_by c.args.answer.now ≡ 1 = search rules in (
      c.self.invariant.0,
      rw c.note_grant-in-Err-NotKept.ensures (counts_noted _ _ _
          c.args.answer.now c.self.view_is one c.requires.few),
    )
