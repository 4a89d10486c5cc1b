use Rattle.std.specs.Int.{w16, w64, to_be_bytes}
use Rattle.bip_frame.proofs.WritingLemmas.{three}
use Rattle.bip_frame.proofs.writing.put_head.Goals as goal

pub returns-clause-items : goal.returns-clause-items
returns-clause-items o c =
    three c.args.out.now.items (to_be_bytes w16 c.args.class) (to_be_bytes w64 c.args.request)
    (to_be_bytes w16 c.args.inter) _ _ _ _ _ _
    c.put.ensures.items c.to_be_bytes.ensures c.put-2.ensures.items c.to_be_bytes-2.ensures
    c.put-3.ensures.items c.to_be_bytes-3.ensures
