-- What a central bank does, as the second bank does it; and which stations lack a request.
use Rattle.std.proofs.Common.{◌≡◌, ℕ, suc, ◌+◌, List, [], ◌∷◌, Bool, true, false, Contains}
use Rattle.std.proofs.Common.{None, Option, Some, slice_index_or, refl, sym, ap, ◌∙◌, subst, inl, inr, zero, arith}
use Rattle.std.specs.Prelude.{IfNone, IfSome}
use Rattle.std.proofs.lemmas.Bool.{true≢false}
use Rattle.bip_model.proofs.ListLemmas.{Contains-cases, Contains-head, Contains-none, Contains-tail}
use Rattle.bip_bank.specs.Banks.{BankContent, CanWantMemory, DoesStep, HasOldest, IsActed}
use Rattle.bip_bank.specs.Banks.{content_of}
use Rattle.bip_bank.specs.Central.{KeptCentral, kept_central}
use Rattle.bip_bank.specs.Idleness.{IsIdleBecause}
use Rattle.bip_bank.specs.Sharing.{LacksNothing, Sharing, alone, otherwise}
use Rattle.bip_bank.specs.declared.banks.Acted.{Acted}
use Rattle.bip_bank.specs.declared.banks.Acted.TheVariants.{Answered, Moved, Nothing}
use Rattle.bip_bank.specs.declared.banks.BankStep.TheVariants.{Ask, Deliver, Pass, Serve}
use Rattle.bip_bank.specs.declared.banks.BankStep.{BankStep}
use Rattle.bip_bank.specs.declared.banks.StationId.{StationId}
use Rattle.bip_bank.specs.declared.idleness.WhyIdle.TheVariants.{Lacking, NoneOfIt, NothingOpen}
use Rattle.bip_bank.specs.declared.idleness.WhyIdle.TheVariants.{TokenElsewhere, TokenInFlight}
use Rattle.bip_bank.specs.declared.idleness.WhyIdle.{WhyIdle}
use Rattle.bip_table.specs.declared.reservations.Decision.TheVariants.{Granted, Refused}
use Rattle.bip_tests.specs.Second.{lacking_from}

-- a station that lacks a request is listed, by the number from which the list counts
pub listed : (s : ℕ) (lacks : List Bool) (k n : ℕ) → n ≡ s + k → slice_index_or lacks k false ≡ true
    → Contains (lacking_from s lacks) n
unfolding lacking_from
listed s [] k n is e = absurd (true≢false (sym e))
listed s (true ∷ rest) zero n is e =
    let same : s ≡ n = omega (arith, is) in
    subst (λ (x : ℕ). Contains (s ∷ lacking_from (suc s) rest) x) same
    (Contains-head s (lacking_from (suc s) rest))
listed s (false ∷ rest) zero n is e = absurd (true≢false (sym e))
listed s (true ∷ rest) (suc k) n is e =
    let later : n ≡ suc s + k = omega (arith, is) in
    Contains-tail s n (lacking_from (suc s) rest) (listed (suc s) rest k n later e)
listed s (false ∷ rest) (suc k) n is e =
    let later : n ≡ suc s + k = omega (arith, is) in
    listed (suc s) rest k n later e

-- what is so from the next number on is so from this one
further : (s : ℕ) (first : Bool) (rest : List Bool) (n : ℕ) → (k : ℕ) × (n ≡ suc s + k)
    × (slice_index_or rest k false ≡ true) → (k : ℕ) × (n ≡ s + k)
    × (slice_index_or (first ∷ rest) k false ≡ true)
further s first rest n it = let later : n ≡ s + suc it.0 = omega (arith, it.1) in
    (suc it.0, later, it.2)

-- and only those are
pub lacks_it : (s : ℕ) (lacks : List Bool) (n : ℕ) → Contains (lacking_from s lacks) n → (k : ℕ)
    × (n ≡ s + k) × (slice_index_or lacks k false ≡ true)
unfolding lacking_from
lacks_it s [] n has = absurd (Contains-none n has)
lacks_it s (true ∷ rest) n has =
    elim (Contains-cases s (lacking_from (suc s) rest) n has) [
      | inl same ↦ let here : n ≡ s + 0 = omega (arith, same) in (0, here, refl)
      | inr later ↦ further s true rest n (lacks_it (suc s) rest n later)
    ]
lacks_it s (false ∷ rest) n has = further s false rest n (lacks_it (suc s) rest n has)

-- a station that doesn't lack a request isn't listed
pub complete : (lacks : List Bool) (k : ℕ) → slice_index_or lacks k false ≡ false
    → ¬ Contains (lacking_from 0 lacks) k
complete lacks k e has =
    let it = lacks_it 0 lacks k has in
    let same : it.0 ≡ k = omega (arith, it.1) in
    true≢false (sym it.2 ∙ ap (λ (n : ℕ). slice_index_or lacks n false) same ∙ e)

-- with these stations lacking a request
abbrev pub lacking_as : List Bool → BankContent → BankContent
lacking_as lacks b = record b { sharing = otherwise (lacking_from 0 lacks) 0 }

pub cannot_yet : (b later : BankContent) (lacks : List Bool) (s : StationId)
    → slice_index_or lacks s.0 false ≡ true → DoesStep (lacking_as lacks b) (Serve s) Nothing later
cannot_yet b later lacks s e can = can.complete (listed 0 lacks s.0 s.0 (omega arith) e)

-- what has the oldest request has it, whatever stations lack
abbrev oldest_so : (b : BankContent) (share other : Sharing) (s : ℕ)
    → HasOldest (record b { sharing = share }) s → HasOldest (record b { sharing = other }) s
oldest_so b share other s old =
    record {
      number = old.number;
      request = old.request;
      rest = old.rest;
      station = old.station;
      first = old.first;
    }

pub does_so : (b later after : BankContent) (lacks : List Bool) (s : StationId) (did : Acted)
    → b.sharing ≡ alone → slice_index_or lacks s.0 false ≡ false → DoesStep b (Serve s) did later
    → DoesStep (lacking_as lacks b) (Serve s) did after
does_so b later after lacks s Nothing alone' e does = λ can.
    does (record {
      complete = subst (λ (x : Sharing). LacksNothing x s.0) (sym alone') tt;
      oldest = oldest_so b (otherwise (lacking_from 0 lacks) 0) b.sharing s.0 can.oldest;
      left = can.left;
    })
does_so b later after lacks s Moved alone' e does = absurd does
does_so b later after lacks s (Answered q d) alone' e does = (complete lacks s.0 e, does.1)

pub acted_so : (b later : BankContent) (lacks after : List Bool) (did : Acted)
    → (did ≡ Nothing → after ≡ lacks) → IsActed did b later
    → IsActed did (lacking_as lacks b) (lacking_as after later)
acted_so b later lacks after Nothing same is =
    ap (λ (x : List Bool). lacking_as x later) (same refl) ∙ ap (lacking_as lacks) is
acted_so b later lacks after Moved same is = ap (lacking_as after) is
acted_so b later lacks after (Answered q (Granted serial)) same is = record {
  rest = is.rest;
  oldest = is.oldest;
  decision = is.decision;
  left = is.left;
  sharing = (lacking_from 0 after, 0, refl);
  after = ap (lacking_as after) is.after;
}
acted_so b later lacks after (Answered q (Refused c n)) same is = record {
  rest = is.rest;
  oldest = is.oldest;
  decision = is.decision;
  left = is.left;
  sharing = (lacking_from 0 after, 0, refl);
  after = ap (lacking_as after) is.after;
}

pub wants_so : (b : BankContent) (lacks : List Bool) (s : StationId)
    → slice_index_or lacks s.0 false ≡ false → CanWantMemory b (Serve s)
    → CanWantMemory (lacking_as lacks b) (Serve s)
wants_so b lacks s e wants = (
  complete lacks s.0 e,
  oldest_so b b.sharing (otherwise (lacking_from 0 lacks) 0) s.0 wants.1,
)

-- why a station decides on nothing
pub lacking_idle : (b : BankContent) (lacks : List Bool) (s : StationId)
    → slice_index_or lacks s.0 false ≡ true → IsIdleBecause (lacking_as lacks b) (Serve s) Lacking
lacking_idle b lacks s e not = not (listed 0 lacks s.0 s.0 (omega arith) e)

idle_so : (k : KeptCentral) (lacks : List Bool) (s : StationId) (why : WhyIdle)
    → IsIdleBecause (content_of (kept_central k)) (Serve s) why
    → IsIdleBecause (lacking_as lacks (content_of (kept_central k))) (Serve s) why
idle_so k lacks s NothingOpen not = λ old. not (oldest_so (content_of (kept_central k))
    (otherwise (lacking_from 0 lacks) 0) alone s.0 old)
idle_so k lacks s Lacking not = absurd (not tt)
idle_so k lacks s NoneOfIt is = absurd is
idle_so k lacks s TokenInFlight is = absurd is
idle_so k lacks s TokenElsewhere is = absurd is
idle_so k lacks s why is = absurd is

pub idles_as_central : (k : KeptCentral) (lacks : List Bool) (s : StationId) (r : Option WhyIdle)
    → IfSome r (IsIdleBecause (content_of (kept_central k)) (Serve s))
    → IfSome r (IsIdleBecause (lacking_as lacks (content_of (kept_central k))) (Serve s))
idles_as_central k lacks s None is = tt
idles_as_central k lacks s (Some why) is = idle_so k lacks s why is

pub acts_as_central : (b : BankContent) (lacks : List Bool) (s : StationId) (r : Option WhyIdle)
    → slice_index_or lacks s.0 false ≡ false → IfNone r (CanWantMemory b (Serve s))
    → IfNone r (CanWantMemory (lacking_as lacks b) (Serve s))
acts_as_central b lacks s None e wants = wants_so b lacks s e wants
acts_as_central b lacks s (Some why) e wants = tt

-- any other step may move what stations share
pub may_move : (b : BankContent) (lacks : List Bool) (step : BankStep)
    → ((s : StationId) → step ≡ Serve s → ⊥) → CanWantMemory (lacking_as lacks b) step
may_move b lacks (Serve s) other = absurd (other s refl)
may_move b lacks (Deliver k) other = (otherwise [] 0, ([], 0, refl))
may_move b lacks (Pass s t) other = (otherwise [] 0, ([], 0, refl))
may_move b lacks (Ask s t) other = (otherwise [] 0, ([], 0, refl))
