use Rattle.std.proofs.Common.{refl}
use Rattle.std.specs.Int.{w16, w64, to_be_bytes}
use Rattle.bip_frame.specs.Frames.{head_fields}
use Rattle.bip_frame.proofs.WritingLemmas.{three}
use Rattle.bip_frame.proofs.writing.put_refused.Goals as goal

pub returns-clause-items : goal.returns-clause-items
returns-clause-items o c =
    three c.args.out.now.items (head_fields c.args.class c.args.request c.args.inter)
    (to_be_bytes w16 c.args.comp) (to_be_bytes w64 c.args.used) _ _ _ _ _ _
    c.put_head.ensures.items refl c.put.ensures.items c.to_be_bytes.ensures c.put-2.ensures.items
    c.to_be_bytes-2.ensures
