-- What a bank's calls mean, in the subject's own words: laws that a reviewer reads. They stand on
-- what any bank's calls make of its content, and on nothing else.
use Rattle.std.specs.Prelude.{◌≡◌, ⊤, List, [], ◌++◌, All, length}
use Rattle.bip_model.specs.Grants.{IsHistory, MovesOnceEach, used_by}
use Rattle.bip_model.specs.Parties.{AreParties}
use Rattle.bip_model.specs.declared.grants.Grant.{Grant}
use Rattle.bip_model.specs.declared.messages.Request.{Request}
use Rattle.bip_partition.specs.Plans.{IsFit, IsReserved, Planned}
use Rattle.bip_table.specs.Reservations.{end_of_serials}
use Rattle.bip_table.specs.declared.reservations.Decision.TheVariants.{Granted, Refused}
use Rattle.bip_table.specs.declared.reservations.Decision.{Decision}
use Rattle.bip_bank.specs.Banks.{BankContent, CanWantMemory, DoesStep, IsActed, with_request}
use Rattle.bip_bank.specs.Idleness.{IsIdleBecause}
use Rattle.bip_bank.specs.Sharing.{Sharing, alone, forks, otherwise, ring}
use Rattle.bip_bank.specs.declared.banks.Acted.TheVariants.{Answered, Moved, Nothing}
use Rattle.bip_bank.specs.declared.banks.Acted.{Acted}
use Rattle.bip_bank.specs.declared.banks.BankStep.{BankStep}
use Rattle.bip_bank.specs.declared.idleness.WhyIdle.{WhyIdle}

-- calls of a bank lead from one content to another: none; a request that fits is taken; or a step
-- is done; and more calls
pub data Lead : BankContent → BankContent → Type 0 where
  at_once : {b : BankContent} → Lead b b
  taken : {b later : BankContent} (q : Request) → IsFit b.plan q → Lead (with_request q b) later
      → Lead b later
  acted : {b next later : BankContent} (did : Acted) → IsActed did b next → Lead next later
      → Lead b later

-- a bank without grants, whose used numbers are the base
pub record HasNoGrants (b : BankContent) : Type 0 where
  pub none : b.grants ≡ []
  pub unused : b.used ≡ (λ c. b.base)

-- whatever is asked of a bank that had no grants, its grants are a history above its base, no
-- component is moved by two of them with one number, and they explain the used numbers
pub record IsHistoryOf (b : BankContent) : Type 0 where
  pub history : IsHistory (λ c. b.base) b.grants
  pub once : MovesOnceEach b.grants
  pub explained : b.used ≡ used_by (λ c. b.base) b.grants

abbrev pub GrantsAreHistories : Type 0
GrantsAreHistories =
    (b later : BankContent) → HasNoGrants b → Lead b later → IsHistoryOf later

-- the grants after begin with those before
abbrev pub GrantsGoOn : Type 0
GrantsGoOn =
    (b later : BankContent) → Lead b later
    → (gs : List Grant) × (later.grants ≡ b.grants ++ gs)

-- plan and base stay
abbrev pub PlanStays : Type 0
PlanStays =
    (b later : BankContent) → Lead b later → (later.plan ≡ b.plan) × (later.base ≡ b.base)

-- a grant that a plan allows: its interaction is reserved, and its wants are that one's parties
pub record IsAllowed (p : Planned) (g : Grant) : Type 0 where
  pub reserved : IsReserved p g.inter.0
  pub parties : AreParties p.model g.inter.0 g.wants

-- whatever is asked of a bank without grants or open requests, its plan allows each grant
abbrev pub GrantsAreAllowed : Type 0
GrantsAreAllowed =
    (b later : BankContent) → b.grants ≡ [] → b.waiting ≡ (λ a. []) → Lead b later
    → All (IsAllowed later.plan) later.grants

-- a decision, and what a step did, but for the serial of a grant
abbrev pub decision_but_serial : Decision → Decision
decision_but_serial (Granted serial) = Granted 0
decision_but_serial (Refused c n) = Refused c n

abbrev pub acted_but_serial : Acted → Acted
acted_but_serial Nothing = Nothing
acted_but_serial Moved = Moved
acted_but_serial (Answered q d) = Answered q (decision_but_serial d)

-- what stations share is moved in one way: they share nothing, one token, or forks
abbrev pub MovesInOneWay : Sharing → Type 0
MovesInOneWay alone = ⊤
MovesInOneWay (ring count place) = ⊤
MovesInOneWay (forks f) = ⊤
MovesInOneWay (otherwise lacking flying) = ⊥

-- a step did one thing, but for the serial of a grant, and left one content, of which that is true
-- again
abbrev pub OneAnswerToAStep : Type 0
OneAnswerToAStep =
    (b later other : BankContent) (step : BankStep) (did also : Acted) → MovesInOneWay b.sharing
    → DoesStep b step did later → IsActed did b later
    → DoesStep b step also other → IsActed also b other
    → (acted_but_serial did ≡ acted_but_serial also) × (later ≡ other) × MovesInOneWay later.sharing

-- where there is a reason for a step to do nothing, it does nothing
abbrev pub ReasonsAreTrue : Type 0
ReasonsAreTrue =
    (b later : BankContent) (step : BankStep) (why : WhyIdle) (did : Acted)
    → MovesInOneWay b.sharing → IsIdleBecause b step why → DoesStep b step did later
    → IsActed did b later → did ≡ Nothing

-- where there is none, a step that did nothing lacked a serial: so many grants were made
abbrev pub ReasonsAreAll : Type 0
ReasonsAreAll =
    (b later : BankContent) (step : BankStep) → MovesInOneWay b.sharing → CanWantMemory b step
    → DoesStep b step Nothing later → length b.grants ≡ end_of_serials
