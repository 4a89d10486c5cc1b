use Rattle.std.proofs.Common.{ap, sym, ◌∙◌, subst, List, length, length-set, take, ℕ, ◌<◌}
use Rattle.bip_model.specs.declared.numbering.CompId.{CompId}
use Rattle.bip_words.proofs.RowLemmas.{rows_numbered, take_numbered}
use Rattle.bip_words.specs.Rows.{with_number}
use Rattle.bip_words.proofs.rows.Rows.set.Goals as goal

abbrev no_entry : CompId × ℕ
no_entry = (record { 0 = 0 }, 0)

pub invariant_of-self : goal.invariant_of-self
invariant_of-self c =
    let rows = c.self.inside.rows in
    let k = c.self.inside.len in
    let within : c.args.row < length (take k rows) =
    subst (λ (l : List (CompId × ℕ)). c.args.row < length l) (sym c.self.view_is) c.requires in (
      c.self.invariant.0,
      simp length-set c.self.invariant.1,
      rw (take_numbered k rows c.args.row c.args.number no_entry within)
          (rows_numbered (take k rows) c.args.row c.args.number c.self.invariant.2),
    )

pub returns : goal.returns
returns c =
    let rows = c.self.inside.rows in
    let k = c.self.inside.len in
    let within : c.args.row < length (take k rows) =
    subst (λ (l : List (CompId × ℕ)). c.args.row < length l) (sym c.self.view_is) c.requires in
    take_numbered k rows c.args.row c.args.number no_entry within
    ∙ ap (λ (l : List (CompId × ℕ)). with_number l c.args.row c.args.number) c.self.view_is
