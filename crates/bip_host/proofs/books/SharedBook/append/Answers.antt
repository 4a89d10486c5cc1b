use Rattle.std.proofs.Common.{◌≡◌, None, false, rules, subst, sym}
use Rattle.std.specs.Prelude.{IsTrue, is_none}
use Rattle.bip_host.specs.Books.{blames_grant}
use Rattle.bip_replay.specs.Book.{IsAppendFault}
use Rattle.bip_replay.specs.declared.faults.BookFault.TheVariants.{Memory}
use Rattle.bip_host.proofs.BookLemmas.{first_kept, later_kept, memory_kept}
use Rattle.bip_host.proofs.books.SharedBook.append.Goals as goal

pub returns-in-Err-Memory-clause-none : goal.returns-in-Err-Memory-clause-none
returns-in-Err-Memory-clause-none c =
    let wanted : c.in-Err-Memory.field-0 ≡ Memory = search rules in
    memory_kept c.args.self.now c.self.inside.book c.append.new.self c.self.inside.refused
    c.self.inside.wanted_memory c.args.grant (sym c.self.view_is) c.in-Err-Memory.ensures.err
    (subst (IsAppendFault c.self.inside.book c.args.grant) wanted c.in-Err-Memory.ensures.fault)

pub returns-then-is_none : goal.returns-then-is_none
returns-then-is_none c =
    let none : c.self.inside.refused ≡ None = search rules in
    let refusal : IsTrue (blames_grant c.in-Err.fault) = search rules in
    record {
      entry = tt;
      some = tt;
      none = first_kept c.args.self.now c.self.inside.book c.append.new.self
          c.self.inside.refused c.self.inside.wanted_memory c.args.grant c.in-Err.fault
          (sym c.self.view_is) c.in-Err.ensures.err refusal c.in-Err.ensures.fault none;
    }

pub returns-else-is_none : goal.returns-else-is_none
returns-else-is_none c =
    let some : is_none c.self.inside.refused ≡ false = search rules in
    let refusal : IsTrue (blames_grant c.in-Err.fault) = search rules in
    record {
      entry = tt;
      some = tt;
      none = later_kept c.args.self.now c.self.inside.book c.append.new.self
          c.self.inside.refused c.self.inside.wanted_memory c.args.grant c.in-Err.fault
          (sym c.self.view_is) c.in-Err.ensures.err refusal c.in-Err.ensures.fault some;
    }
