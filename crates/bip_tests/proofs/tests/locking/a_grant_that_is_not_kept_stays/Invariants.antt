use Rattle.bip_tests.proofs.tests.locking.a_grant_that_is_not_kept_stays.Given as goal

abbrev pub ghosts-ask_keeping : goal.ghosts-ask_keeping
ghosts-ask_keeping g a = record { name = a.blank.name; parts = a.blank.parts }
