use Rattle.std.proofs.Common.{◌≡◌, ◌∷◌, [], codes, false, refl, sym, ◌∙◌}
use Rattle.bip_model.specs.Naming.{same_text}
use Rattle.bip_explain.proofs.FormLemmas.{words_from_said}
use Rattle.bip_explain.proofs.schedules.find_name.Goals as goal

pub find_station-requires : goal.find_station-requires
find_station-requires c =
    let t = c.in_ok-verb in
    let verb = t.verb.word.now in
    let other : same_text verb (codes "try") ≡ false = sym c.is_text.ensures ∙ c.if-is_text.false in (
      verb ∷ [],
      rw other refl,
      rw t.ensures.line (words_from_said c.args.line.now verb _
          t.ensures.words),
    )
