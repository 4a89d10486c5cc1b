use Rattle.bip_tests.proofs.tests.keeping.nobody_is_answered_while_a_grant_is_kept.Given as goal

abbrev pub ghosts-ask_both : goal.ghosts-ask_both
ghosts-ask_both g a = record { name = a.blank.name; parts = a.blank.parts }
