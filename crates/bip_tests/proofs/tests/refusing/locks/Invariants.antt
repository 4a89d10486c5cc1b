use Rattle.bip_tests.proofs.tests.refusing.locks.Given as goal

abbrev pub ghosts-locks_counted : goal.ghosts-locks_counted
ghosts-locks_counted g a = record { name = a.blank.name; parts = a.blank.parts }
