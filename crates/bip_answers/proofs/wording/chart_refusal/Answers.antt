use Rattle.std.proofs.Common.{◌∷◌, [], codes, rules}
use Rattle.std.proofs.lemmas.List.{append_assoc}
use Rattle.std.specs.Fmt.{decimal}
use Rattle.bip_answers.proofs.wording.chart_refusal.Goals as goal

pub returns : goal.returns
returns c =
    rw (append_assoc (decimal c.args.most) (codes " rows, see --from and --to") (10 ∷ [])) search
    rules
