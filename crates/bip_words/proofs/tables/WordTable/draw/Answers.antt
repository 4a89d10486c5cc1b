use Rattle.std.proofs.Common.{arith, ap, sym, ◌∙◌, subst, List, ℕ}
use Rattle.std.specs.List.{AllByRecursion}
use Rattle.bip_words.proofs.StepLemmas.{draws}
use Rattle.bip_words.specs.Rows.{IsRowOf, row_comps}
use Rattle.bip_words.specs.Steps.{IsCovered}
use Rattle.bip_words.specs.Tables.{Tabled}
use Rattle.bip_words.proofs.tables.WordTable.draw.Goals as goal

pub fetch_add-requires : goal.fetch_add-requires
fetch_add-requires c =
    let t = c.self.inside in
    let is = c.self.view_is in
    let count = c.self.invariant.1 in
    let comps = sym (ap (λ (v : Tabled). row_comps v.rows) is) in
    let m = c.requires.moves in
    let wants = c.args.token.now.me.0.asked.wants in (
      c.requires.seat ∙ sym (ap (λ (v : Tabled). v.id) is),
      omega (arith, count),
      rw c.self.invariant.0 (draws t.rows _ _ m.0 m.1 _ c.requires.idle
          (subst (λ (cs : List ℕ). AllByRecursion (IsCovered cs c.args.token.now.me.0.claims) wants)
          comps c.requires.covers) c.requires.small
          (subst (λ (cs : List ℕ). IsRowOf cs m.0 m.1) comps m.2) m.3),
    )
