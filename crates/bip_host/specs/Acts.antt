-- What tells messages between nodes apart.
use Rattle.bip_host.specs.declared.acts.Parcel.{Parcel}
use Rattle.bip_host.specs.declared.acts.Parcel.TheVariants as parcel
use Rattle.bip_model.specs.declared.messages.Reply.{Reply}
use Rattle.bip_model.specs.declared.messages.Reply.TheVariants as reply
use Rattle.bip_model.specs.declared.messages.Request.{Request}

-- a request, by its class, its interaction and its number
abbrev pub parcel_of_request : Request → Parcel
parcel_of_request q = parcel.Request q.class q.inter q.request

-- the answer to a request, by what tells that
abbrev pub parcel_of_reply : Reply → Parcel
parcel_of_reply (reply.Granted k n a serial) = parcel.Reply k a n
parcel_of_reply (reply.Refused k n a c used) = parcel.Reply k a n
