use Rattle.std.proofs.Common.{◌≡◌, [], All, rules, subst, sym}
use Rattle.std.proofs.lemmas.List.Elements.{All-push}
use Rattle.bip_host.specs.Posting.{IsWriterOf, put_by}
use Rattle.bip_host.specs.declared.inboxes.Writer.{Writer}
use Rattle.bip_host.proofs.inboxes.Inbox.new.Goals as goal

pub loop-preserved : goal.loop-preserved
loop-preserved g c =
    let Unused : Writer g.row.M.Denot → Type 0 =
    λ w. IsWriterOf (record { queue = c.in_ok-queue.queue }) w × (put_by w ≡ []) in (
      search rules,
      subst (All Unused) (sym c.in_ok-push.ensures.items)
          (All-push Unused c.loop.writers.items c.writer.result c.loop.invariant.1
          (c.writer.ensures.of, c.writer.ensures.none)),
    )
