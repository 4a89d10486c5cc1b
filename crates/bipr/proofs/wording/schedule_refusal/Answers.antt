use Rattle.std.proofs.Common.{◌∷◌, ◌++◌, [], codes, rules}
use Rattle.std.proofs.lemmas.List.{append_assoc}
use Rattle.std.specs.Fmt.{decimal}
use Rattle.bip_replay.specs.Faults.{text_of_trace}
use Rattle.bipr.proofs.wording.schedule_refusal.Goals as goal

pub returns : goal.returns
returns c =
    rw (append_assoc (decimal c.args.line) (codes ": " ++ text_of_trace c.args.fault.now) (10 ∷ []))
    search rules
