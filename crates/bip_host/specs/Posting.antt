-- What contracts see of the ends of an inbox.
use Rattle.std.specs.Prelude.{◌≡◌, ◌++◌, [], ◌∷◌, List}
use Rattle.crossbeam_queue.specs.SegTies.{IsSegPassOf}
use Rattle.bip_host.specs.declared.counts.Posted.{Posted}
use Rattle.bip_host.specs.declared.counts.Posted.TheVariants.{Lost, Sent}
use Rattle.bip_host.specs.declared.inboxes.Inbox.{Inbox}
use Rattle.bip_host.specs.declared.inboxes.Reader.{Reader}
use Rattle.bip_host.specs.declared.inboxes.Writer.{Writer}

module _ {M : Type 0} where
  -- a writer of this inbox
  abbrev pub IsWriterOf : Inbox M → Writer M → Type 0
  IsWriterOf inbox writer = IsSegPassOf inbox.queue writer.pass

  -- the reader of this inbox
  abbrev pub IsReaderOf : Inbox M → Reader M → Type 0
  IsReaderOf inbox reader = IsSegPassOf inbox.queue reader.pass

  -- what was put by a writer, in order
  abbrev pub put_by : Writer M → List M
  put_by writer = writer.pass.me.view.client.put

  -- what was got by a reader, in order
  abbrev pub got_by : Reader M → List M
  got_by reader = reader.pass.me.view.client.got

  -- what a writer puts: a message, the last one so far; or that is lost
  abbrev pub IsPostedBy : M → Writer M → Posted → Writer M → Type 0
  IsPostedBy message old Sent new = put_by new ≡ put_by old ++ message ∷ []
  IsPostedBy message old Lost new = put_by new ≡ put_by old
