use Rattle.std.proofs.Common.{◌≡◌, Some, position, rules, sym}
use Rattle.bip_model.specs.Naming.{IsName, same_text}
use Rattle.bip_model.proofs.WrittenLemmas.{is_name-from}
use Rattle.bip_replay.proofs.GrantLemmas.{name_of-place}
use Rattle.bip_replay.proofs.guesses.Guesses.find.Goals as goal

pub returns : goal.returns
returns c =
    let place : position (same_text c.args.name.now) c.args.model.now.interaction_names
    ≡ Some c.in_ok-inter.inter.0 = sym (rw c.in_ok-of.ensures.name at c.in_ok-inter.ensures) in
    let name : IsName c.args.name.now = search rules in
    record {
      valid = c.interaction_names.ensures.valid;
      named = name_of-place _ _ _ (is_name-from _ name) place;
    }
