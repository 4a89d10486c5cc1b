-- What an entry of the book is of, and what a keeper has kept.
use Rattle.std.specs.Prelude.{◌≡◌, Bool, IfSome, Option, is_some}
use Rattle.bip_host.specs.Movers.{mover_in}
use Rattle.bip_host.specs.declared.books.Entry.{Entry}
use Rattle.bip_model.specs.declared.grants.Grant.{Grant}

-- an entry is of a grant's interaction and mover: in a run no other grant has both
pub record IsEntryOf (grant : Grant) (entry : Entry) : Type 0 where
  pub inter : entry.inter ≡ grant.inter
  pub mover : entry.mover ≡ mover_in grant.wants

-- there is an entry exactly where a grant was kept, and it is of that grant
pub record HasEntry (grant : Grant) (kept : Bool) (entry : Option Entry) : Type 0 where
  pub there : kept ≡ is_some entry
  pub of_grant : IfSome entry (IsEntryOf grant)
