-- A second bank: a central one, whose stations lack each request until it is handed on.
use Rattle.std.specs.Prelude.{ℕ, suc, Bool, true, false, List, [], ◌∷◌}
use Rattle.bip_model.specs.declared.numbering.InterId.{InterId}
use Rattle.bip_bank.specs.Banks.{KeptBank}
use Rattle.bip_bank.specs.Central.{KeptCentral, kept_central}
use Rattle.bip_bank.specs.Sharing.{otherwise}

-- what the second bank keeps: a central one; of each station, whether it lacks a request; and the
-- interactions whose requests are on their way, in order of sending
pub record KeptSecond : Type 0 where
  pub central : KeptCentral
  pub lacks : List Bool
  pub posted : List InterId

-- the stations that lack a request, of those from this number on
unfoldable pub lacking_from : ℕ → List Bool → List ℕ
lacking_from s [] = []
lacking_from s (true ∷ rest) = s ∷ lacking_from (suc s) rest
lacking_from s (false ∷ rest) = lacking_from (suc s) rest

-- what is kept of it as a bank: what the central one keeps, and which stations lack a request
abbrev pub kept_second : KeptSecond → KeptBank
kept_second s =
    record (kept_central s.central) {
      sharing = otherwise (lacking_from 0 s.lacks) 0;
    }
