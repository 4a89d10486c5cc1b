-- What answers say by themselves, and what passes count and are shown by them.
use Rattle.std.proofs.Common.{◌≡◌, ◌≢◌, ℕ, ◌+◌, ◌<◌, ◌≤◌, Bool, true, false, eqb, List, [], ◌∷◌}
use Rattle.std.proofs.Common.{◌++◌, map, length, take, drop, set, get_or, Result, Ok, Err, refl}
use Rattle.std.proofs.Common.{sym, ap, ◌∙◌, subst, inl, inr, arith}
use Rattle.std.specs.Prelude.{All, if◌then◌else◌, ◌==◌}
use Rattle.std.proofs.lemmas.Bool.{cases_Bool}
use Rattle.std.proofs.lemmas.List.{get_or_default, length-append, length-map, take-append-drop}
use Rattle.std.proofs.lemmas.List.Edits.{map_over_more}
use Rattle.std.proofs.lemmas.List.Elements.{All-head, All-map, All-tail, All-weaker}
use Rattle.bip_model.specs.Wants.{moved_in}
use Rattle.bip_model.specs.declared.wants.Want.{Want}
use Rattle.bip_table.specs.Reserving.{NamesWanted}
use Rattle.bip_table.specs.Passes.{Passed, count_at, first_tally, granted_by, tallies_after}
use Rattle.bip_table.specs.Passes.{tally_after_grant, tally_after_refusal}
use Rattle.bip_table.specs.Reservations.{IsTableAnswer, KeptRows}
use Rattle.bip_table.specs.declared.faults.TableFault.TheVariants.{UnknownRow, Memory, Ended}
use Rattle.bip_table.specs.declared.faults.TableFault.TheVariants.{NotKept}
use Rattle.bip_table.specs.declared.faults.TableFault.{TableFault}
use Rattle.bip_table.specs.declared.passes.Tally.{Tally}
use Rattle.bip_table.specs.declared.reservations.Decision.TheVariants.{Granted, Refused}
use Rattle.bip_table.specs.declared.reservations.Decision.{Decision}
use Rattle.bip_table.specs.declared.rows.Row.{Row}

-- a table keeps what it grants, so a fault of it grants nothing
pub not_granted : (t : KeptRows) (wants : List Want) (e : TableFault)
    → IsTableAnswer t wants (Err e) → granted_by (Err e) ≡ 0
not_granted t wants (UnknownRow c) is = refl
not_granted t wants Memory is = refl
not_granted t wants Ended is = refl
not_granted t wants NotKept is = absurd is

pub not_tallied : (t : KeptRows) (wants : List Want) (e : TableFault) (ts : List Tally)
    → IsTableAnswer t wants (Err e) → tallies_after wants (Err e) ts ≡ ts
not_tallied t wants (UnknownRow c) ts is = refl
not_tallied t wants Memory ts is = refl
not_tallied t wants Ended ts is = refl
not_tallied t wants NotKept ts is = absurd is

pub always_kept : (t : KeptRows) (wants : List Want) (r : Result Decision TableFault)
    → IsTableAnswer t wants r → r ≢ Err NotKept
always_kept t wants r is same = subst (IsTableAnswer t wants) same is

pub named : (t : KeptRows) (wants : List Want) (r : Result Decision TableFault)
    → IsTableAnswer t wants r → NamesWanted wants r
named t wants (Ok (Granted serial)) is = tt
named t wants (Ok (Refused c n)) is =
    let at = is.1.0.here in
    (at.0, at.1, at.2, at.3, (at.4.0, omega (arith, is.1.1, at.4.1)))
named t wants (Err (UnknownRow c)) is = is.here.0
named t wants (Err Memory) is = tt
named t wants (Err Ended) is = tt
named t wants (Err NotKept) is = tt

-- the counts of a pass are within its grants
by_test : (b : Bool) (k n : ℕ) → k + 1 ≤ n → k + (if b then 0 else 1) ≤ n
by_test true k n within = omega (arith, within)
by_test false k n within = omega (arith, within)

pub counts_after : (wants : List Want) (ts : List Tally) (n : ℕ)
    → All (λ (t : Tally). t.count + 1 ≤ n) ts
    → All (λ (t : Tally). t.count ≤ n) (map (tally_after_grant wants) ts)
counts_after wants ts n all =
    All-map (λ (t : Tally). t.count ≤ n) (tally_after_grant wants) ts
    (All-weaker (λ (t : Tally). t.count + 1 ≤ n)
    (λ (t : Tally). (tally_after_grant wants t).count ≤ n)
    (λ t within. by_test (moved_in wants t.comp.0 == 0) t.count n within) ts all)

-- the same of a pass as it is seen, after an answer that gives a grant
pub counts_noted : (wants : List Want) (p q : Passed) (r : Result Decision TableFault) → p ≡ q
    → granted_by r ≡ 1 → All (λ (t : Tally). t.count + granted_by r ≤ q.grants) q.tallies
    → All (λ (t : Tally). t.count ≤ p.grants) (map (tally_after_grant wants) p.tallies)
counts_noted wants p q r seen one few =
    let here = subst (λ (u : Passed). All (λ (t : Tally). t.count + granted_by r ≤ u.grants)
    u.tallies) (sym seen) few in
    counts_after wants p.tallies p.grants (subst (λ (n : ℕ). All
    (λ (t : Tally). t.count + n ≤ p.grants) p.tallies) one here)

pub counts_given : (ts : List Tally) (n given m : ℕ) → m ≡ n + given
    → All (λ (t : Tally). t.count ≤ n) ts → All (λ (t : Tally). t.count + given ≤ m) ts
counts_given ts n given m is all = All-weaker (λ (t : Tally). t.count ≤ n)
    (λ (t : Tally). t.count + given ≤ m) (λ t within. omega (arith, within, is)) ts all

pub counts_told : (c used : ℕ) (ts : List Tally) (n : ℕ) → All (λ (t : Tally). t.count ≤ n) ts
    → All (λ (t : Tally). t.count ≤ n) (map (tally_after_refusal c used) ts)
counts_told c used ts n all = All-map (λ (t : Tally). t.count ≤ n)
    (tally_after_refusal c used) ts all

pub first_counts : (rows : List Row) (n : ℕ) → All (λ (t : Tally). t.count ≤ n)
    (map first_tally rows)
first_counts rows n = All-map (λ (t : Tally). t.count ≤ n) first_tally rows
    (λ k d within. omega arith)

pub count_within : (ts : List Tally) (n c : ℕ) → All (λ (t : Tally). t.count ≤ n) ts
    → count_at ts c ≤ n
count_within [] n c all = omega arith
count_within (t ∷ ts) n c all = elim (cases_Bool (eqb t.comp.0 c)) [
  | inl same ↦ rw same (All-head (λ (u : Tally). u.count ≤ n) t ts all)
  | inr other ↦ rw other (count_within ts n c (All-tail (λ (u : Tally). u.count ≤ n) t ts all))
]

-- a loop that writes over each tally
pub written : (f : Tally → Tally) (xs ys zs : List Tally) (i n : ℕ) (d t : Tally) → i < n
    → n ≡ length xs → ys ≡ map f (take i xs) ++ drop i xs → zs ≡ ys → t ≡ f (get_or zs i d)
    → set ys i t ≡ map f (take (i + 1) xs) ++ drop (i + 1) xs
written f xs ys zs i n d t below count inv same is =
    let x = get_or zs i d in
    let within : i < length xs = omega (arith, below, count) in
    let len : length ys ≡ length xs = ap length inv
    ∙ omega (
      arith,
      length-append (map f (take i xs)) (drop i xs),
      length-map (take i xs) f,
      length-append (take i xs) (drop i xs),
      ap length (take-append-drop i xs),
    ) in
    let here : x ≡ get_or ys i x = ap (λ (l : List Tally). get_or l i d) same
    ∙ sym (get_or_default ys i x d (omega (arith, len, within))) in
    ap (λ (u : Tally). set ys i u) is ∙ map_over_more f xs ys i x within inv here
