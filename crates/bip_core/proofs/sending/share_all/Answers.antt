use Rattle.bip_model.specs.declared.numbering.ClassId.{ClassId}
use Rattle.bip_core.specs.declared.messages.Message.TheVariants.{OfferTo}
use Rattle.bip_core.proofs.SendLemmas.{none_put, put_one_more}
use Rattle.bip_core.proofs.sending.share_all.Goals as goal

pub loop-class-init : goal.loop-class-init
loop-class-init c = λ offer frame. none_put c.args.mail.now

pub loop-class-preserved : goal.loop-class-preserved
loop-class-preserved c = λ offer frame.
    put_one_more (λ (k : ClassId). OfferTo k offer) c.args.classes.now c.loop-class.class-index
    (record { 0 = 0 }) c.loop-class.lost c.put_share-lost.result c.args.mail.now
    c.loop-class.mail c.put_share-lost.new.mail c.loop-class-test.true
    (c.loop-class.invariant offer frame) (c.put_share-lost.ensures offer frame)
