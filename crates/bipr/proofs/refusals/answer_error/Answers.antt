use Rattle.std.proofs.Common.{Err, ◌≡◌, refl, rules, subst, sym}
use Rattle.bipr.specs.Stops.{bad_command_line}
use Rattle.bipr.specs.Refusals.{IsErrorAnswer, lacking, refused, shown}
use Rattle.bipr.specs.declared.stops.Stop.TheVariants.{OutOfMemory}
use Rattle.bipr.proofs.EndingLemmas.{outcome_answered, outcome_lacking}
use Rattle.bipr.proofs.refusals.answer_error.Goals as goal

pub returns-then-eq : goal.returns-then-eq
returns-then-eq c = outcome_lacking (Err OutOfMemory) (IsErrorAnswer c.args.error.now) refl lacking

pub returns-in_err-text : goal.returns-in_err-text
returns-in_err-text c =
    outcome_lacking c.from_residual.result (IsErrorAnswer c.args.error.now)
    c.from_residual.ensures.1 lacking

pub returns-then-not-use_stderr : goal.returns-then-not-use_stderr
returns-then-not-use_stderr c =
    outcome_answered (IsErrorAnswer c.args.error.now) c.said.result
    (subst (IsErrorAnswer c.args.error.now) (sym c.said.ensures)
    (shown c.into_bytes.result.items (search rules)))

pub returns-in_err-complaint : goal.returns-in_err-complaint
returns-in_err-complaint c =
    outcome_lacking c.from_residual-in_err-complaint.result (IsErrorAnswer c.args.error.now)
    c.from_residual-in_err-complaint.ensures.1 lacking

pub returns-in_err-extend_from_slice : goal.returns-in_err-extend_from_slice
returns-in_err-extend_from_slice c =
    outcome_lacking c.from_residual-in_err-extend_from_slice.result (IsErrorAnswer c.args.error.now)
    c.from_residual-in_err-extend_from_slice.ensures.1 lacking

pub returns : goal.returns
returns c =
    let same : c.complained.result ≡ bad_command_line c.as_bytes.result.now = search rules in
    outcome_answered (IsErrorAnswer c.args.error.now) c.complained.result
    (subst (IsErrorAnswer c.args.error.now) (sym same)
    (refused c.as_bytes.result.now (search rules) (search rules)))
