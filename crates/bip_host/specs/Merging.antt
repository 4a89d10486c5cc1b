-- The rule of an inbox.
use Rattle.std.specs.Prelude.{List, [], ◌∷◌, ◌++◌, map}
use Rattle.bip_host.specs.declared.merging.End.{End}
use Rattle.bip_host.specs.Merges.{IsMerge}

module _ {M : Type 0} where
  -- an end that has put and got these
  abbrev pub end : List M → List M → End M
  end put got = record { put = put; got = got }

  -- what the first end has got: that one is the reader's
  abbrev pub got_first : List (End M) → List M
  got_first [] = []
  got_first (e ∷ es) = e.got

  -- what the reader has got, followed by what stands in the queue, is a merge of what all ends have
  -- put, each in its order
  abbrev pub IsMerged : List M → List (End M) → Type 0
  IsMerged items ends = IsMerge (got_first ends ++ items) (map (λ (e : End M). e.put) ends)
