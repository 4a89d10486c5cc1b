-- What a table with more room leaves, as the table before left it.
use Rattle.std.proofs.Common.{◌≡◌, ◌<◌, ◌≤◌, Result, Ok, Err, None, ap, ◌∙◌, subst, arith}
use Rattle.bip_model.specs.declared.messages.Request.{Request}
use Rattle.bip_table.proofs.DecideLemmas.{finds_fresh}
use Rattle.bip_table.proofs.LawLemmas.{none_lacks, none_used_up}
use Rattle.bip_table.specs.Lending.{met}
use Rattle.bip_table.specs.Reservations.{IsTableAfter, IsTableAnswer, KeptRows, end_of_serials}
use Rattle.bip_table.specs.Reservations.{grant_of, reservations, with_grant}
use Rattle.bip_table.specs.Rows.{used_at}
use Rattle.bip_table.specs.declared.faults.TableFault.TheVariants.{UnknownRow, Memory, Ended}
use Rattle.bip_table.specs.declared.faults.TableFault.TheVariants.{NotKept}
use Rattle.bip_table.specs.declared.faults.TableFault.{TableFault}
use Rattle.bip_table.specs.declared.lending.Met.TheVariants.{Fresh}
use Rattle.bip_table.specs.declared.reservations.Decision.TheVariants.{Granted, Refused}
use Rattle.bip_table.specs.declared.reservations.Decision.{Decision}

pub after_room : (q : Request) (t mid later : KeptRows) (x : Result Decision TableFault)
    → mid ≡ record t { room = mid.room } → (1 ≤ t.room → mid ≡ t) → 0 < mid.room
    → mid.serial < end_of_serials → met mid.rows q.wants None ≡ Fresh
    → IsTableAnswer mid q.wants x → IsTableAfter q x mid later → IsTableAfter q x t later
after_room q t mid later (Err (UnknownRow c)) kept same room left fresh answer after =
    absurd (none_lacks (reservations mid) q.wants c.0 (finds_fresh mid q.wants fresh).0 answer.here)
after_room q t mid later (Err Memory) kept same room left fresh answer after =
    absurd (omega (arith, room, answer.1))
after_room q t mid later (Err NotKept) kept same room left fresh answer after = absurd answer
after_room q t mid later (Err Ended) kept same room left fresh answer after =
    absurd (omega (arith, left, answer.2))
after_room q t mid later (Ok (Refused c n)) kept same room left fresh answer after =
    absurd (none_used_up (used_at mid.rows) q.wants c.0
    (finds_fresh mid q.wants fresh).1 answer.1.0.here)
after_room q t mid later (Ok (Granted s)) kept same room left fresh answer after = (
  after.0 ∙ ap (λ (k : KeptRows). with_grant (grant_of q) (reservations k)) kept,
  λ some. after.1 room ∙ ap (λ (k : KeptRows). k.room) (same (omega (arith, some))),
)

-- the same where the table before is given by what it keeps
pub after_room_of : (q : Request) (t base mid later : KeptRows) (x : Result Decision TableFault)
    → base ≡ t → mid ≡ record base { room = mid.room } → (1 ≤ base.room → mid ≡ base) → 0 < mid.room
    → mid.serial < end_of_serials → met mid.rows q.wants None ≡ Fresh
    → IsTableAnswer mid q.wants x → IsTableAfter q x mid later → IsTableAfter q x t later
after_room_of q t base mid later x is kept same room left fresh answer after =
    subst (λ (k : KeptRows). IsTableAfter q x k later) is
    (after_room q base mid later x kept same room left fresh answer after)
