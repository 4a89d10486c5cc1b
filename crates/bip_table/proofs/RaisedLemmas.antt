-- A table without grants, one of whose rows is raised.
use Rattle.std.proofs.Common.{◌≡◌, ℕ, Bool, List, [], map, refl, sym, ap, ◌∙◌, subst}
use Rattle.std.proofs.Math.Path.{fun_ext}
use Rattle.std.specs.List.Sorted.{IsStrictlyIncreasing}
use Rattle.bip_model.specs.Grants.{IsHistory, used_by}
use Rattle.bip_model.specs.declared.grants.Grant.{Grant}
use Rattle.bip_model.specs.declared.numbering.CompId.{CompId}
use Rattle.bip_table.proofs.LendLemmas.{renewed-components}
use Rattle.bip_table.proofs.RaiseLemmas.{used-raising}
use Rattle.bip_table.proofs.RowLemmas.{has_row-same}
use Rattle.bip_table.specs.Lending.{raising, renewed}
use Rattle.bip_table.specs.Reservations.{IsTable, KeptRows, reservations, with_raised}
use Rattle.bip_table.specs.Rows.{has_row, raised_to, row_components, used_at}
use Rattle.bip_table.specs.declared.rows.Row.{Row}

raised_rows : (rows : List Row) (comp : CompId) (n : ℕ)
    → used_at (map (renewed (raising comp n)) rows) ≡ raised_to comp.0 n (has_row rows)
    (used_at rows)
raised_rows rows comp n = fun_ext {f = used_at (map (renewed (raising comp n)) rows)}
    (λ c. used-raising rows comp n c)

same_tabled : (xs ys : List Row) → row_components xs ≡ row_components ys → has_row xs ≡ has_row ys
same_tabled xs ys same = fun_ext {f = has_row xs} (λ c. has_row-same xs ys c same)

pub raised_table : (t : KeptRows) (rows floor : List Row) (comp : CompId) (n serial room : ℕ)
    → IsTable t → t.journal ≡ [] → rows ≡ map (renewed (raising comp n)) t.rows
    → floor ≡ map (renewed (raising comp n)) t.floor
    → IsTable (record {
      rows = rows;
      floor = floor;
      journal = t.journal;
      serial = serial;
      room = room;
    })
raised_table t rows floor comp n serial room is none up below =
    let same = ap row_components up ∙ renewed-components t.rows (raising comp n) in
    let same_floor = ap row_components below ∙ renewed-components t.floor (raising comp n) in
    let explained : used_at t.rows ≡ used_at t.floor = is.explained
    ∙ ap (λ (gs : List Grant). used_by (used_at t.floor) gs) none in
    let lower : used_at floor ≡ raised_to comp.0 n (has_row t.rows) (used_at t.rows) =
    ap used_at below ∙ (raised_rows t.floor comp n
    ∙ rw (same_tabled t.floor t.rows is.same_rows, explained) refl) in
    record {
      rising = subst IsStrictlyIncreasing (sym same) is.rising;
      same_rows = same_floor ∙ (is.same_rows ∙ sym same);
      history = subst (λ (gs : List Grant). IsHistory (used_at floor) gs) (sym none) tt;
      explained = ap used_at up ∙ (raised_rows t.rows comp n
          ∙ (sym lower ∙ ap (λ (gs : List Grant). used_by (used_at floor) gs) (sym none)));
    }

pub raised_is : (t : KeptRows) (rows floor : List Row) (comp : CompId) (n room : ℕ) → IsTable t
    → rows ≡ map (renewed (raising comp n)) t.rows → floor ≡ map (renewed (raising comp n)) t.floor
    → reservations (record {
      rows = rows;
      floor = floor;
      journal = t.journal;
      serial = t.serial;
      room = room;
    }) ≡ with_raised comp.0 n (reservations t)
raised_is t rows floor comp n room is up below =
    let tabled = same_tabled rows t.rows (ap row_components up
    ∙ renewed-components t.rows (raising comp n)) in
    let used = ap used_at up ∙ raised_rows t.rows comp n in
    let lower : used_at floor ≡ raised_to comp.0 n (has_row t.rows) (used_at t.floor) =
    ap used_at below ∙ (raised_rows t.floor comp n
    ∙ ap (λ (has : ℕ → Bool). raised_to comp.0 n has (used_at t.floor))
    (same_tabled t.floor t.rows is.same_rows)) in
    rw (tabled, used, lower) refl
