-- Attempts at a request, with a seat of a word table.
use Rattle.bip_model.specs.declared.messages.Request.{Request}
use Rattle.bip_words.specs.Knowledge.{asked_by}
use Rattle.bip_words.specs.Reserving.{IsAttempt, LookedInOrder, TriedOnce}
use Rattle.bip_words.specs.Rows.{row_comps}
use Rattle.bip_words.specs.Tables.{Seated, Tabled}
use Rattle.bip_words.specs.declared.tables.Attempt.{Attempt}

-- one attempt at a request came to this: rows are looked at by component, none twice
pub record IsOneAttempt (t : Tabled) (q : Request) (a : Attempt) (old new : Seated) : Type 0 where
  pub answer : IsAttempt t.rows (asked_by q) a old.knows new.knows
  pub order : LookedInOrder (row_comps t.rows) q.wants a old.knows new.knows
  pub once : TriedOnce (row_comps t.rows) q.wants a old.knows new.knows
