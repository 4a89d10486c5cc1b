use Rattle.bip_reader.proofs.LineLawLemmas.{lines_are_read, one_statement, says_its_statement}
use Rattle.bip_reader.proofs.LineLawLemmas.{syntax_is_no_line}
use Rattle.bip_reader.proofs.FirstLineLemmas.{first_line_is_told}
use Rattle.bip_reader.proofs.LineFaultLemmas.{faults_in_order}
use Rattle.bip_reader.proofs.laws.line_laws.Goals as goal

pub returns-clause-read : goal.returns-clause-read
returns-clause-read c = lines_are_read

pub returns-clause-one : goal.returns-clause-one
returns-clause-one c = one_statement

pub returns-clause-says : goal.returns-clause-says
returns-clause-says c = says_its_statement

pub returns-clause-syntax : goal.returns-clause-syntax
returns-clause-syntax c = syntax_is_no_line

pub returns-clause-order : goal.returns-clause-order
returns-clause-order c = faults_in_order

pub returns-clause-first : goal.returns-clause-first
returns-clause-first c = first_line_is_told
