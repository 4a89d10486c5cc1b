use Rattle.std.proofs.Common.{◌≡◌, ◌∙◌, List, Option, Some, ap, sym}
use Rattle.std.specs.Option.{option_copied}
use Rattle.bip_model.specs.Clauses.{list_form}
use Rattle.bip_model.proofs.ClauseLemmas.{first_lent, first_of, list_cut, rest_lent, some_first}
use Rattle.bip_model.proofs.clauses.Clauses.split_first.Goals as goal

pub returns-in_err-first-clause-none : goal.returns-in_err-first-clause-none
returns-in_err-first-clause-none g c =
    let f = g.C.Clause.form c.self.inside.spelling in
    let x = f c.cut_off-clause.result.0 in
    let rest : Option (List g.row.C.Denot) = list_form f g.C.Mark.Word.read_as
    c.cut_off-clause.result.1 in
    let whole : Option (List g.row.C.Denot) =
    list_form f g.C.Mark.Word.read_as c.self.inside.rest in
    let there : c.self.inside.rest ≡ Some c.in_ok-words.words.now = sym c.as_ref.ensures.value
    ∙ ap option_copied c.in_ok-words.was in
    let is : whole ≡ first_of x rest = rw (
      there,
      c.cut_off-clause.ensures.before,
      c.cut_off-clause.ensures.behind,
    ) (list_cut f g.C.Mark.Word.read_as
    c.in_ok-words.words.now) in
    absurd (some_first x rest whole is c.self.invariant (sym c.of.ensures ∙ c.in_err-first.was))

pub invariant_of-rest : goal.invariant_of-rest
invariant_of-rest g c =
    let f = g.C.Clause.form c.self.inside.spelling in
    let x = f c.cut_off-clause.result.0 in
    let rest : Option (List g.row.C.Denot) = list_form f g.C.Mark.Word.read_as
    c.cut_off-clause.result.1 in
    let whole : Option (List g.row.C.Denot) =
    list_form f g.C.Mark.Word.read_as c.self.inside.rest in
    let there : c.self.inside.rest ≡ Some c.in_ok-words.words.now = sym c.as_ref.ensures.value
    ∙ ap option_copied c.in_ok-words.was in
    let is : whole ≡ first_of x rest = rw (
      there,
      c.cut_off-clause.ensures.before,
      c.cut_off-clause.ensures.behind,
    ) (list_cut f g.C.Mark.Word.read_as
    c.in_ok-words.words.now) in
    rest_lent x rest whole is c.self.invariant

pub returns-clause-some : goal.returns-clause-some
returns-clause-some g c =
    let f = g.C.Clause.form c.self.inside.spelling in
    let x = f c.cut_off-clause.result.0 in
    let rest : Option (List g.row.C.Denot) = list_form f g.C.Mark.Word.read_as
    c.cut_off-clause.result.1 in
    let whole : Option (List g.row.C.Denot) =
    list_form f g.C.Mark.Word.read_as c.self.inside.rest in
    let there : c.self.inside.rest ≡ Some c.in_ok-words.words.now = sym c.as_ref.ensures.value
    ∙ ap option_copied c.in_ok-words.was in
    let is : whole ≡ first_of x rest = rw (
      there,
      c.cut_off-clause.ensures.before,
      c.cut_off-clause.ensures.behind,
    ) (list_cut f g.C.Mark.Word.read_as
    c.in_ok-words.words.now) in
    sym c.self.view_is ∙ first_lent x rest whole is c.self.invariant c.in_ok-first.first
    (sym c.of.ensures ∙ c.in_ok-first.was)
