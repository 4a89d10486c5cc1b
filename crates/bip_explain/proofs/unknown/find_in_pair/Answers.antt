use Rattle.std.proofs.Common.{inr, ◌∙◌}
use Rattle.bip_explain.proofs.unknown.find_in_pair.Goals as goal

pub returns : goal.returns
returns c =
    let lack = c.in_ok-lack.ensures in (
      c.requires.0,
      lack.kind ∙ c.requires.1,
      inr (rw (lack.component, lack.name)
          c.in_ok-component.ensures),
      lack.lacks,
    )
