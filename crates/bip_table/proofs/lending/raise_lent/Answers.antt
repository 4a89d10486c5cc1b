use Rattle.std.proofs.Common.{◌≡◌, ℕ, ap, inl, inr, max, refl, rules}
use Rattle.std.proofs.lemmas.Bool.{cases_Bool}
use Rattle.bip_model.specs.declared.wants.Role.TheVariants.{Moved}
use Rattle.bip_table.proofs.MeetLemmas.{raises, raises_none}
use Rattle.bip_table.specs.Rows.{has_row}
use Rattle.bip_table.proofs.lending.raise_lent.Goals as goal

pub returns-in_default : goal.returns-in_default
returns-in_default c = elim (cases_Bool (has_row c.args.rows.now c.args.comp.0)) [
  | inl row ↦ let e = c.in_default.ensures.row.1 row in absurd (cc)
  | inr none ↦ raises_none c.args.rows.now (record {
    number = c.args.number;
    comp = c.args.comp;
    role = Moved;
  }) none
]

pub returns : goal.returns
returns c =
    let row = c.lend-row.result.0.now in
    let used : c.max-row.result ≡ max row.used c.args.number = search rules in
    raises c.args.rows.now (record { number = c.args.number; comp = c.args.comp; role = Moved })
    c.in-Some.place c.lend-row.result.0.now c.lend-row.result.1.now c.requires
    c.in-Some.ensures.within c.in-Some.ensures.some
    (c.in-Some.ensures.row.0 refl) c.lend-row.ensures.value c.lend-row.ensures.rest _
    (ap (λ (n : ℕ). record row { used = n }) used)
