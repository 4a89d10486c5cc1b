-- What a token's decision leaves of its table.
use Rattle.std.specs.Prelude.{◌≡◌, [], Result, Ok, Err}
use Rattle.bip_model.specs.declared.messages.Request.{Request}
use Rattle.bip_table.specs.Reservations.{KeptRows, Reservations, grant_of, reservations, with_grant}
use Rattle.bip_table.specs.declared.faults.TableFault.{TableFault}
use Rattle.bip_table.specs.declared.reservations.Decision.TheVariants.{Granted, Refused}
use Rattle.bip_table.specs.declared.reservations.Decision.{Decision}

-- a table whose grants were handed out: its used numbers are its floor
abbrev pub with_cut : Reservations → Reservations
with_cut t = record t { floor = t.used; journal = [] }

-- what an answer leaves: a grant uses its moved numbers up, and isn't kept; otherwise all stays as
-- it was
abbrev pub IsTokenAfter : Request → Result Decision TableFault → KeptRows → KeptRows → Type 0
IsTokenAfter q (Ok (Granted serial)) t later =
    reservations later ≡ with_cut (with_grant (grant_of q) (reservations t))
IsTokenAfter q (Ok (Refused c n)) t later = later ≡ t
IsTokenAfter q (Err fault) t later = later ≡ t
