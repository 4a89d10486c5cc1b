use Rattle.std.proofs.Common.{[], ◌∷◌}
use Rattle.bip_model.proofs.HistoryLemmas.{IsHistory-append, greatest_used, moved_is_wanted}
use Rattle.bip_model.proofs.HistoryLemmas.{moves_once, parties_move, used_by-append, used_by-push}
use Rattle.bip_model.proofs.PartyLemmas.{all_parties_cover, parties_are_wanted, parties_have_roles}
use Rattle.bip_model.proofs.WantLemmas.{one_wants_each}
use Rattle.bip_model.proofs.laws.history_laws.Goals as goal

pub returns : goal.returns
returns c = record {
  moved = moved_is_wanted;
  parties = parties_move;
  roles = parties_have_roles;
  wanted = parties_are_wanted;
  covered = all_parties_cover;
  wants = one_wants_each;
  used = used_by-push;
  greatest = greatest_used;
  history = λ floor gs g.
      let parts = IsHistory-append floor gs (g ∷ []) in (
        λ history. ((parts.0 history).0, (parts.0 history).1.0),
        λ both. parts.1 (both.0, (both.1, tt)),
      );
  used_on = used_by-append;
  history_on = IsHistory-append;
  once = moves_once;
}
