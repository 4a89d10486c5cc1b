use Rattle.bip_tests.proofs.tests.locking.four_callers_share_no_row.Given as goal

abbrev pub ghosts-move_apart : goal.ghosts-move_apart
ghosts-move_apart g a = record { name = a.blank.name; parts = a.blank.parts }
