use Rattle.bip_tests.proofs.tests.locking.two_callers_want_one_row.Given as goal

abbrev pub ghosts-ask_in_turn : goal.ghosts-ask_in_turn
ghosts-ask_in_turn g a = record { name = a.blank.name; parts = a.blank.parts }
