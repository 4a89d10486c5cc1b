use Rattle.std.proofs.Common.{◌∷◌, ◌++◌, [], codes, rules}
use Rattle.std.proofs.lemmas.List.{append_assoc}
use Rattle.std.specs.Fmt.{decimal}
use Rattle.bip_replay.specs.Faults.{text_of_replay}
use Rattle.bip_answers.proofs.wording.trace_refusal.Goals as goal

pub returns : goal.returns
returns c =
    rw (append_assoc (decimal c.args.line) (codes ": " ++ text_of_replay c.args.fault.now)
    (10 ∷ [])) search rules
