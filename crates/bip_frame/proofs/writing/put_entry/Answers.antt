use Rattle.std.proofs.Common.{ℕ, [], ◌∷◌, ap}
use Rattle.std.specs.Int.{w16, w64, to_be_bytes}
use Rattle.bip_frame.specs.Frames.{role_byte}
use Rattle.bip_frame.proofs.WritingLemmas.{three}
use Rattle.bip_frame.proofs.writing.put_entry.Goals as goal

pub returns-clause-items : goal.returns-clause-items
returns-clause-items o c =
    three c.args.out.now.items (to_be_bytes w16 c.args.want.now.comp.0)
    (role_byte c.args.want.now.role ∷ []) (to_be_bytes w64 c.args.want.now.number) _ _ _ _ _ _
    c.put.ensures.items c.to_be_bytes.ensures c.push.ensures.items
    (ap (λ (b : ℕ). b ∷ []) c.byte_of.ensures) c.put-2.ensures.items c.to_be_bytes-2.ensures
