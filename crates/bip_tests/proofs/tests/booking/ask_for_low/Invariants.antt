use Rattle.bip_tests.proofs.tests.booking.ask_for_low.Given as goal

abbrev pub ghosts-ask_booking : goal.ghosts-ask_booking
ghosts-ask_booking g a = record { name = a.blank.name; parts = a.blank.parts }
