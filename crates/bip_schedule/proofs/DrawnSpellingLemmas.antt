-- What is drawn has a spelling.
use Rattle.std.proofs.Common.{◌≡◌, ℕ, ◌++◌, ◌<◌, ◌≤◌, ◌/◌, ◌%◌, ◌^◌, Bool, true, false, cond, eqb}
use Rattle.std.proofs.Common.{List, [], ◌∷◌, length, max, arith, inl, inr, refl, subst, sym}
use Rattle.std.proofs.Math.Nat.{mod-le}
use Rattle.std.proofs.lemmas.Bool.{cases_lt}
use Rattle.std.proofs.lemmas.Bool.Decides.{nat_tests}
use Rattle.std.proofs.lemmas.List.{get_or_past}
use Rattle.std.proofs.lemmas.List.Elements.{All-append, All-cons, All-nil}
use Rattle.std.proofs.lemmas.Nat.{mod_below}
use Rattle.bip_bank.specs.declared.banks.BankStep.{BankStep}
use Rattle.bip_bank.specs.declared.banks.BankStep.TheVariants.{Ask, Deliver, Pass, Serve}
use Rattle.bip_core.specs.declared.events.Event.{Event}
use Rattle.bip_core.specs.declared.events.Event.TheVariants.{Bank, Mail, Try}
use Rattle.bip_model.proofs.ListLemmas.{Contains-none}
use Rattle.bip_model.specs.Partitions.{class_in}
use Rattle.bip_model.specs.Priorities.{inter}
use Rattle.bip_model.specs.declared.numbering.InterId.{InterId}
use Rattle.bip_partition.proofs.ClassLemmas.{stands_in_its_class}
use Rattle.bip_partition.specs.Laws.{IsPlanned}
use Rattle.bip_partition.specs.Plans.{Planned}
use Rattle.bip_partition.proofs.TableLemmas.{one_stations}
use Rattle.bip_schedule.specs.Drawing.{IsDrawn, event_drawn, kind_drawn, one_of, station_drawn}
use Rattle.bip_schedule.specs.Drawing.{step_drawn, try_drawn}
use Rattle.bip_schedule.specs.Writing.{HasSpelling, HaveSpelling}

-- what both ways of a choice have
either_way : {X : Type 0} (P : X → Type 0) (b : Bool) (x y : X) → (b ≡ true → P x)
    → (b ≡ false → P y) → P (cond b x y)
either_way P true x y so other = so refl
either_way P false x y so other = other refl

-- there is one where there aren't none
some_counted : (n : ℕ) → eqb n 0 ≡ false → 0 < n
some_counted n some = grind (arith, nat_tests)

-- the class of an interaction has a number
class_known : (p : Planned) (a : ℕ) → IsPlanned p → a < length p.model.interactions
    → class_in p.classes a < length p.classes.names
class_known p a planned within = elim (cases_lt (class_in p.classes a) (length p.classes.members)) [
  | inl inside ↦ omega (arith, inside, planned.parted.paired)
  | inr past ↦ absurd (Contains-none (inter a)
      (rw (get_or_past p.classes.members (class_in p.classes a) [] past)
      at (stands_in_its_class p planned a within).0))
]

-- one of so many is no greater than the number by which it is drawn
one_of-le : (count n : ℕ) → one_of count n ≤ n
one_of-le count n = mod-le n (max 1 count)

module _ (p : Planned) (planned : IsPlanned p) (stations : List InterId) where
  station_known : (n : ℕ) → eqb (length stations) 0 ≡ false
      → (station_drawn (length stations) n).0 < length stations
  station_known n some = mod_below n (length stations) (some_counted (length stations) some)

  tried : (n : ℕ) → HasSpelling p stations (try_drawn p (length p.model.interactions) n)
  tried n =
      let count = length p.model.interactions in
      either_way (HasSpelling p stations) (eqb count 0) (Mail 0)
      (Try (record { 0 = class_in p.classes (n % count) }) (record { 0 = n % count }))
      (λ none. omega arith)
      (λ some.
      let within : n % count < count = mod_below n count (some_counted count some) in (
        class_known p (n % count) planned within,
        omega (arith, within, planned.valid.so_far.interactions_named),
      ))

  abbrev HasStep : BankStep → Type 0
  HasStep step = HasSpelling p stations (Bank step)

  kind_known : (flight kind n : ℕ) → n < 2 ^ 32 → eqb (length stations) 0 ≡ false
      → HasStep (kind_drawn (length stations) flight kind n)
  kind_known flight kind n small some =
      let count = length stations in
      let one = station_known n some in
      let other = station_known (n / count) some in
      either_way HasStep (eqb kind 0) (Deliver (one_of flight n)) _
      (λ _. omega (arith, one_of-le flight n, small))
      (λ _. either_way HasStep (eqb kind 1) (Serve (station_drawn count n)) _ (λ _. one)
      (λ _. either_way HasStep (eqb kind 2)
      (Pass (station_drawn count n) (station_drawn count (n / count)))
      (Ask (station_drawn count n) (station_drawn count (n / count)))
      (λ _. (one, other)) (λ _. (one, other))))

  stepped : (flight n : ℕ) → n < 2 ^ 32 → HasStep (step_drawn (length stations) flight n)
  stepped flight n small =
      either_way HasStep (eqb (length stations) 0) (Deliver 0) _ (λ none. omega arith)
      (λ some. kind_known flight (n % 4) (n / 4) (omega (arith, small)) some)

  drawn_known : (word mail flight : ℕ) → word < 2 ^ 32
      → HasSpelling p stations (event_drawn p (length stations) word mail flight)
  drawn_known word mail flight small =
      let rest : word / 4 < 2 ^ 32 = omega (arith, small) in
      either_way (HasSpelling p stations) (eqb (word % 4) 2) _ _ (λ _. tried (word / 4))
      (λ _. either_way (HasSpelling p stations) (eqb (word % 4) 3) _ (Mail (one_of mail (word / 4)))
      (λ _. stepped flight (word / 4) rest)
      (λ _. omega (arith, one_of-le mail (word / 4), rest)))

-- none, and one more
pub none_spelled : (p : Planned) → HaveSpelling p []
none_spelled p = λ stations are. All-nil (HasSpelling p stations)

pub one_more_spelled : (p : Planned) (es : List Event) (e : Event) → HaveSpelling p es
    → HaveSpelling p (e ∷ []) → HaveSpelling p (es ++ e ∷ [])
one_more_spelled p es e each one =
    λ stations are. All-append (HasSpelling p stations) es (e ∷ []) (each stations are)
    (one stations are)

-- the event of a word
pub drawn_spelled : (p : Planned) (word mail flight : ℕ) (e : Event) → IsPlanned p → word < 2 ^ 32
    → IsDrawn p word mail flight e → HaveSpelling p (e ∷ [])
drawn_spelled p word mail flight e planned small is = λ stations are.
    let same : is.stations ≡ stations = one_stations p is.stations stations is.are are in
    let drawn : e ≡ event_drawn p (length stations) word mail flight =
    subst (λ (list : List InterId). e ≡ event_drawn p (length list) word mail flight) same
    is.drawn in
    All-cons (HasSpelling p stations) e []
    (subst (HasSpelling p stations) (sym drawn)
    (drawn_known p planned stations word mail flight small))
    (All-nil (HasSpelling p stations))
