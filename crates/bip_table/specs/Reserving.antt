-- What an answer of a locked table says by itself, and what it leaves of a keeper.
use Rattle.std.specs.Prelude.{◌≡◌, ◌≤◌, Bool, true, false, List, Result, Ok, Err, Any, ⊤}
use Rattle.bip_model.specs.declared.grants.Grant.{Grant}
use Rattle.bip_model.specs.declared.wants.Want.{Want}
use Rattle.bip_table.specs.declared.faults.TableFault.TheVariants.{UnknownRow, Memory, Ended}
use Rattle.bip_table.specs.declared.faults.TableFault.TheVariants.{NotKept}
use Rattle.bip_table.specs.declared.faults.TableFault.{TableFault}
use Rattle.bip_table.specs.declared.reservations.Decision.TheVariants.{Granted, Refused}
use Rattle.bip_table.specs.declared.reservations.Decision.{Decision}

-- what an answer names is of the wants that were asked: a refusal names one of their components,
-- with a used number that isn't below the want's; a fault a component that they want
abbrev pub NamesWanted : List Want → Result Decision TableFault → Type 0
NamesWanted wants (Ok (Granted serial)) = ⊤
NamesWanted wants (Ok (Refused c used)) =
    Any (λ (w : Want). (w.comp.0 ≡ c.0) × (w.number ≤ used)) wants
NamesWanted wants (Err (UnknownRow c)) = Any (λ (w : Want). w.comp.0 ≡ c.0) wants
NamesWanted wants (Err Memory) = ⊤
NamesWanted wants (Err Ended) = ⊤
NamesWanted wants (Err NotKept) = ⊤

-- what an answer leaves of a keeper: on a grant it was handed the grant, once, and kept it; on
-- NotKept it was handed the grant, once, and didn't; else it was handed nothing
module _ {K : Type 0} (keeps : K → Grant → Bool → K → Type 0) where
  abbrev pub IsKeeperAfter : Grant → K → Result Decision TableFault → K → Type 0
  IsKeeperAfter g keeper (Ok (Granted serial)) later = keeps keeper g true later
  IsKeeperAfter g keeper (Err NotKept) later = keeps keeper g false later
  IsKeeperAfter g keeper (Ok (Refused c used)) later = later ≡ keeper
  IsKeeperAfter g keeper (Err (UnknownRow c)) later = later ≡ keeper
  IsKeeperAfter g keeper (Err Memory) later = later ≡ keeper
  IsKeeperAfter g keeper (Err Ended) later = later ≡ keeper
