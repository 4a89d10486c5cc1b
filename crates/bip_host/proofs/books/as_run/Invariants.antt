use Rattle.std.specs.Prelude.{◌≡◌}
use Rattle.bip_host.proofs.books.as_run.Given as goal

abbrev pub invariant-loop-grant : goal.invariant-loop-grant
invariant-loop-grant l =
    (l.book.model ≡ l.model) × (l.book.base ≡ 0) × (l.book.grants ≡ l.yielded)
