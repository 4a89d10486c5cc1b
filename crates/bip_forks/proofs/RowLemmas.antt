-- Rows raised and written: one more, and what all of them come to.
use Rattle.std.proofs.Common.{◌≡◌, ℕ, zero, suc, ◌+◌, ◌<◌, ◌≤◌, Bool, true, false, ◌&&◌, cond, eqb}
use Rattle.std.proofs.Common.{eqb-true, eq-eqb, max, append_assoc, add-one, drop, length, get_or}
use Rattle.std.proofs.Common.{set, take, map, List, [], ◌∷◌, ◌++◌, Ok, refl, sym, ap, ◌∙◌, subst}
use Rattle.std.proofs.Common.{inl, inr, arith}
use Rattle.std.specs.Prelude.{◌⊎◌, Contains}
use Rattle.std.proofs.lemmas.Bool.{and_parts, cases_lt}
use Rattle.std.proofs.lemmas.List.{append-nil, take_more}
use Rattle.bip_model.proofs.ListLemmas.{Contains-cases, Contains-head, Contains-none, Contains-tail}
use Rattle.bip_model.specs.declared.numbering.CompId.{CompId}
use Rattle.bip_model.specs.Wants.{IsFresh, raised}
use Rattle.bip_model.specs.declared.messages.Request.{Request}
use Rattle.bip_table.specs.Reservations.{IsDecision, IsTableAfter, IsTableAnswer, KeptRows}
use Rattle.bip_table.specs.Reservations.{Reservations}
use Rattle.bip_table.specs.Rows.{has_row, raised_to, used_at}
use Rattle.bip_table.specs.declared.reservations.Decision.TheVariants.{Granted, Refused}
use Rattle.bip_table.specs.declared.reservations.Decision.{Decision}
use Rattle.bip_table.specs.declared.rows.Row.{Row}
use Rattle.bip_forks.specs.Stations.{IsRaisedAnswer, raised_by, raised_here, renumbered, rows_here}
use Rattle.bip_forks.specs.Stations.{rows_in}
use Rattle.bip_forks.specs.declared.shares.Side.{Side}

raised_by-append : (xs ys : List Row) (tabled : ℕ → Bool) (u : ℕ → ℕ)
    → raised_by (xs ++ ys) tabled u ≡ raised_by ys tabled (raised_by xs tabled u)
raised_by-append [] ys tabled u = refl
raised_by-append (x ∷ xs) ys tabled u = raised_by-append xs ys tabled
    (raised_to x.comp.0 x.used tabled u)

-- one row more
pub raise_more : (rows : List Row) (k : ℕ) (d : Row) (f g : ℕ → Bool) (u v : ℕ → ℕ)
    → k < length rows → f ≡ g → u ≡ raised_by (take k rows) g v
    → raised_to (get_or rows k d).comp.0 (get_or rows k d).used f u ≡ raised_by
    (take (k + 1) rows) g v
raise_more rows k d f g u v within tests numbers =
    rw (
      tests,
      numbers,
      take_more rows k d within,
      raised_by-append (take k rows) (get_or rows k d ∷ []) g v,
    ) refl

rows_here-append : (xs ys : List Side) → rows_here (xs ++ ys) ≡ rows_here xs ++ rows_here ys
rows_here-append [] ys = refl
rows_here-append (x ∷ xs) ys = ap (λ (rs : List Row). rows_in x.fork ++ rs) (rows_here-append xs ys)
    ∙ sym (append_assoc (rows_in x.fork) (rows_here xs) (rows_here ys))

-- one side more
pub side_more : (sides : List Side) (k : ℕ) (d : Side) (g : ℕ → Bool) (v : ℕ → ℕ) → k < length sides
    → raised_by (rows_in (get_or sides k d).fork) g (raised_by (rows_here (take k sides)) g v)
    ≡ raised_by (rows_here (take (k + 1) sides)) g v
side_more sides k d g v within =
    rw (
      take_more sides k d within,
      rows_here-append (take k sides) (get_or sides k d ∷ []),
      raised_by-append (rows_here (take k sides)) (rows_here (get_or sides k d ∷ [])) g v,
      append-nil (rows_in (get_or sides k d).fork),
    ) refl

pub side_step : (sides : List Side) (k : ℕ) (x : Side) (f g : ℕ → Bool) (u v : ℕ → ℕ)
    → k < length sides → x ≡ get_or sides k x → f ≡ g → u ≡ raised_by (rows_here (take k sides)) g v
    → raised_by (rows_in x.fork) f u ≡ raised_by (rows_here (take (k + 1) sides)) g v
side_step sides k x f g u v within is tests numbers =
    rw (tests, numbers) (ap (λ (y : Side). raised_by (rows_in y.fork) g
    (raised_by (rows_here (take k sides)) g v)) is ∙ side_more sides k x g v within)

-- raised numbers are at least those before, and those of the rows; and no greater than one of them
raised_least : (c n : ℕ) (tabled : ℕ → Bool) (u : ℕ → ℕ) (k : ℕ) → u k ≤ raised_to c n tabled u k
raised_least c n tabled u k = by_test (eqb c k && tabled k)
  where
    by_test : (b : Bool) → u k ≤ cond b (max (u k) n) (u k)
    by_test true = omega arith
    by_test false = omega arith

pub raised_own : (rows : List Row) (tabled : ℕ → Bool) (u : ℕ → ℕ) (k : ℕ)
    → u k ≤ raised_by rows tabled u k
raised_own [] tabled u k = omega arith
raised_own (r ∷ rs) tabled u k = omega (
  arith,
  raised_least r.comp.0 r.used tabled u k,
  raised_own rs tabled (raised_to r.comp.0 r.used tabled u) k,
)

raised_at : (c n : ℕ) (tabled : ℕ → Bool) (u : ℕ → ℕ) → tabled c ≡ true
    → n ≤ raised_to c n tabled u c
raised_at c n tabled u row = rw (eq-eqb c c refl, row) (omega arith)

pub raised_rows : (rows : List Row) (tabled : ℕ → Bool) (u : ℕ → ℕ) (r : Row) → Contains rows r
    → tabled r.comp.0 ≡ true → r.used ≤ raised_by rows tabled u r.comp.0
raised_rows [] tabled u r there row = absurd (Contains-none r there)
raised_rows (x ∷ xs) tabled u r there row = elim (Contains-cases x xs r there) [
  | inl same ↦ rw same (omega (
    arith,
    raised_at r.comp.0 r.used tabled u row,
    raised_own xs tabled (raised_to r.comp.0 r.used tabled u) r.comp.0,
  ))
  | inr rest ↦ raised_rows xs tabled (raised_to x.comp.0 x.used tabled u) r rest row
]

raised_cases : (c n : ℕ) (tabled : ℕ → Bool) (u : ℕ → ℕ) (k : ℕ) → (raised_to c n tabled u k ≡ u k)
    ⊎ ((c ≡ k) × (raised_to c n tabled u k ≡ n))
raised_cases c n tabled u k = by_test (eqb c k && tabled k) refl
  where
    by_test : (b : Bool) → (eqb c k && tabled k) ≡ b → (cond b (max (u k) n) (u k) ≡ u k)
        ⊎ ((c ≡ k) × (cond b (max (u k) n) (u k) ≡ n))
    by_test true is = elim (cases_lt (u k) n) [
      | inl less ↦ inr (eqb-true c k (and_parts (eqb c k) (tabled k) is).0, omega arith)
      | inr not ↦ inl (omega arith)
    ]
    by_test false is = inl refl

pub raised_reached : (rows : List Row) (tabled : ℕ → Bool) (u : ℕ → ℕ) (k : ℕ)
    → (raised_by rows tabled u k ≡ u k) ⊎ ((r : Row) × Contains rows r × (r.comp.0 ≡ k)
    × (raised_by rows tabled u k ≡ r.used))
raised_reached [] tabled u k = inl refl
raised_reached (r ∷ rs) tabled u k = elim (raised_reached rs tabled
    (raised_to r.comp.0 r.used tabled u) k) [
      | inl same ↦ elim (raised_cases r.comp.0 r.used tabled u k) [
        | inl stays ↦ inl (same ∙ stays)
        | inr up ↦ inr (r, Contains-head r rs, up.0, same ∙ up.1)
      ]
      | inr by ↦ inr (by.0, Contains-tail r by.0 rs by.1, by.2, by.3)
    ]

-- one row more written
pub write_more : (rows fork : List Row) (k : ℕ) (d : Row) (now : List Row) → k < length fork
    → now ≡ map (renumbered rows) (take k fork) ++ drop k fork
    → set now k (renumbered rows (get_or fork k d)) ≡ map (renumbered rows) (take (k + 1) fork)
    ++ drop (k + 1) fork
write_more rows fork k d now within is = rw (is, add-one) (by_place fork k within)
  where
    by_place : (xs : List Row) (i : ℕ) → i < length xs
        → set (map (renumbered rows) (take i xs) ++ drop i xs) i (renumbered rows (get_or xs i d))
        ≡ map (renumbered rows) (take (suc i) xs) ++ drop (suc i) xs
    by_place [] i less = absurd (omega arith)
    by_place (x ∷ xs) zero less = refl
    by_place (x ∷ xs) (suc i) less = ap (λ (zs : List Row). renumbered rows x ∷ zs)
        (by_place xs i (omega arith))

pub written_at : (rows fork : List Row) (k : ℕ) (d : Row) → k < length fork
    → get_or (map (renumbered rows) (take k fork) ++ drop k fork) k d ≡ get_or fork k d
written_at rows [] k d less = absurd (omega arith)
written_at rows (x ∷ xs) zero d less = refl
written_at rows (x ∷ xs) (suc k) d less = written_at rows xs k d (omega arith)

pub write_step : (rows fork now later : List Row) (k : ℕ) (d : Row) (n : ℕ) (comp : CompId)
    → k < length fork → now ≡ map (renumbered rows) (take k fork) ++ drop k fork
    → comp ≡ (get_or now k d).comp
    → n ≡ used_at rows comp.0 → later ≡ set now k (record { used = n; comp = comp })
    → later ≡ map (renumbered rows) (take (k + 1) fork) ++ drop (k + 1) fork
write_step rows fork now later k d n comp within is at number written =
    let same : comp ≡ (get_or fork k d).comp = at ∙ ap (λ (xs : List Row). (get_or xs k d).comp) is
    ∙ ap (λ (r : Row). r.comp) (written_at rows fork k d within) in
    written ∙ (ap (λ (r : Row). set now k r) (same_row n comp (get_or fork k d) same number)
    ∙ write_more rows fork k d now within is)
  where
    same_row : (m : ℕ) (e : CompId) (r : Row) → e ≡ r.comp → m ≡ used_at rows e.0
        → record { used = m; comp = e } ≡ renumbered rows r
    same_row m e r comps numbers = rw (numbers, comps) refl

-- one more written, whatever is written
pub map_more : {X : Type 0} (f : X → X) (xs now : List X) (k : ℕ) (d : X) → k < length xs
    → now ≡ map f (take k xs) ++ drop k xs → set now k (f (get_or xs k d)) ≡ map f (take (k + 1) xs)
    ++ drop (k + 1) xs
map_more {X = X} f xs now k d within is = rw (is, add-one) (by_place xs k within)
  where
    by_place : (ys : List X) (i : ℕ) → i < length ys
        → set (map f (take i ys) ++ drop i ys) i (f (get_or ys i d)) ≡ map f (take (suc i) ys)
        ++ drop (suc i) ys
    by_place [] i less = absurd (omega arith)
    by_place (x ∷ ys) zero less = refl
    by_place (x ∷ ys) (suc i) less = ap (λ (zs : List X). f x ∷ zs) (by_place ys i (omega arith))

pub mapped_at : {X : Type 0} (f : X → X) (xs : List X) (k : ℕ) (d : X) → k < length xs
    → get_or (map f (take k xs) ++ drop k xs) k d ≡ get_or xs k d
mapped_at f [] k d less = absurd (omega arith)
mapped_at f (x ∷ xs) zero d less = refl
mapped_at f (x ∷ xs) (suc k) d less = mapped_at f xs k d (omega arith)

pub map_step : {X : Type 0} (f : X → X) (xs now : List X) (k : ℕ) (x y : X) → k < length xs
    → now ≡ map f (take k xs) ++ drop k xs → x ≡ get_or now k x → y ≡ f x
    → set now k y ≡ map f (take (k + 1) xs) ++ drop (k + 1) xs
map_step {X = X} f xs now k x y within is at was =
    let e : y ≡ f (get_or xs k x) = was ∙ ap f
    (at ∙ (ap (λ (zs : List X). get_or zs k x) is ∙ mapped_at f xs k x within)) in
    ap (λ (v : X). set now k v) e ∙ map_more f xs now k x within is

-- what a table answers after its rows were raised, and leaves once its grants are cut
pub raised_answer : (t ready up left later : KeptRows) (sides : List Side) (q : Request)
    (d : Decision) → ready ≡ record t { room = ready.room }
    → used_at up.rows ≡ raised_by (rows_here sides) (has_row ready.rows) (used_at ready.rows)
    → has_row up.rows ≡ has_row ready.rows → up.serial ≡ ready.serial
    → IsTableAnswer up q.wants (Ok d) → IsTableAfter q (Ok d) up left → later.rows ≡ left.rows
    → later.serial ≡ left.serial → IsRaisedAnswer t sides q d later
raised_answer t ready up left later sides q d reserved raised' tests same answer after rows serial =
    let numbers : used_at up.rows ≡ raised_here t sides = raised'
    ∙ ap (λ (k : KeptRows). raised_by (rows_here sides) (has_row k.rows) (used_at k.rows))
    reserved in
    let same_rows : has_row up.rows ≡ has_row t.rows = tests
    ∙ ap (λ (k : KeptRows). has_row k.rows) reserved in
    let next : up.serial ≡ t.serial = same ∙ ap (λ (k : KeptRows). k.serial) reserved in
    by_decision d numbers same_rows next answer after
  where
    by_decision : (e : Decision) → used_at up.rows ≡ raised_here t sides
        → has_row up.rows ≡ has_row t.rows → up.serial ≡ t.serial → IsTableAnswer up q.wants (Ok e)
        → IsTableAfter q (Ok e) up left → IsRaisedAnswer t sides q e later
    by_decision (Granted n) numbers same_rows next (can, is) (joined, room) = record {
      decision = subst (λ (u : ℕ → ℕ). IsFresh u q.wants) numbers can.fresh;
      serial = (is ∙ next, omega (arith, next, can.left));
      rows = ap used_at rows ∙ (ap (λ (r : Reservations). r.used) joined
          ∙ ap (λ (u : ℕ → ℕ). raised u q.wants) numbers);
      tabled = ap has_row rows ∙ (ap (λ (r : Reservations). r.tabled) joined ∙ same_rows);
      next = serial ∙ (ap (λ (r : Reservations). r.serial) joined ∙ ap (λ (n : ℕ). n + 1) next);
    }
    by_decision (Refused c n) numbers same_rows next (all, refuses) stays = record {
      decision = subst (λ (u : ℕ → ℕ). IsDecision u q.wants (Refused c n)) numbers refuses;
      serial = tt;
      rows = ap used_at rows ∙ (ap (λ (k : KeptRows). used_at k.rows) stays ∙ numbers);
      tabled = ap has_row rows ∙ (ap (λ (k : KeptRows). has_row k.rows) stays ∙ same_rows);
      next = serial ∙ (ap (λ (k : KeptRows). k.serial) stays ∙ next);
    }
