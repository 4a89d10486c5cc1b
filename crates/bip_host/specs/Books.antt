-- The book that threads share, and what an entry in it says.
use Rattle.std.specs.Prelude.{Bool, None, Option, Some, true, false, IsTrue, ◌≡◌}
use Rattle.bip_model.specs.declared.grants.Grant.{Grant}
use Rattle.bip_replay.specs.Book.{Content, IsAppendFault, IsRunWith}
use Rattle.bip_replay.specs.declared.faults.BookFault.TheVariants.{Below, Memory, NotEnabled}
use Rattle.bip_replay.specs.declared.faults.BookFault.TheVariants.{Number, Parties}
use Rattle.bip_replay.specs.declared.faults.BookFault.{BookFault}

-- whether a fault blames the grant: it couldn't be next, and it isn't for want of memory
abbrev pub blames_grant : BookFault → Bool
blames_grant NotEnabled = true
blames_grant (Below b) = true
blames_grant (Number c expected) = true
blames_grant Parties = true
blames_grant Memory = false

-- the book that threads share: what it holds, the fault of the first grant that couldn't be next,
-- and whether memory was wanted for one
pub record SharedContent : Type 0 where
  pub book : Content
  pub refused : Option BookFault
  pub wanted_memory : Bool

-- what a book keeps of a grant that it doesn't take
pub data IsKeptOf (b : SharedContent) (g : Grant) : SharedContent → Type 0 where
  -- memory was wanted for it, and it could have been next
  memory_wanted : IsRunWith b.book g → IsKeptOf b g (record b { wanted_memory = true })
  -- it couldn't be next, and is the first
  first_refusal : (fault : BookFault) → IsTrue (blames_grant fault) → IsAppendFault b.book g fault
      → b.refused ≡ None → IsKeptOf b g (record b { refused = Some fault })
  -- it couldn't be next, and isn't the first
  later_refusal : (fault first : BookFault) → IsTrue (blames_grant fault)
      → IsAppendFault b.book g fault → b.refused ≡ Some first → IsKeptOf b g b
