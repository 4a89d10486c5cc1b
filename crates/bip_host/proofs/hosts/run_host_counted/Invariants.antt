use Rattle.bip_host.proofs.hosts.run_host_counted.Given as goal

abbrev pub ghosts-run_kind : goal.ghosts-run_kind
ghosts-run_kind g a = record { name = a.blank.name; parts = a.blank.parts }
