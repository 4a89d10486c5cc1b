use Rattle.std.proofs.Common.{sym}
use Rattle.bipr.specs.Resolvers.{resolver_name}
use Rattle.bip_program.proofs.AskedLemmas.{name_read, none_given, read_none}
use Rattle.bipr.proofs.command_line.resolver_asked.Goals as goal

pub returns-in_err-text_asked : goal.returns-in_err-text_asked
returns-in_err-text_asked c =
    read_none c.from_residual.result _ c.from_residual.ensures
    (λ x asked. none_given _ _ c.in_err-text_asked.ensures asked)

pub returns : goal.returns
returns c =
    name_read resolver_name _ c.in_ok-text_asked.field-0.now c.resolver_named.result
    (sym c.in_ok-text_asked.ensures)
    c.resolver_named.ensures.some c.resolver_named.ensures.none
