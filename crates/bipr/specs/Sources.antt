-- What a path names, and the bytes that it has left.
use Rattle.std.specs.Borrow.{Bor}
use Rattle.std.specs.Prelude.{ℕ, Bool, false, true, List, None, Option, Some, codes}
use Rattle.bip_model.specs.Naming.{same_text}
use Rattle.bipr.specs.declared.sources.Source.{Source}
use Rattle.bipr.specs.declared.sources.Source.TheVariants as source

-- a path names standard input
abbrev pub is_standard_input : List ℕ → Bool
is_standard_input path = same_text path (codes "-")

-- the bytes that are left of standard input, or of the file
abbrev pub remaining_in : {I F : Type 0} → (I → Option (List ℕ)) → (F → Option (List ℕ))
    → Source I F → Option (List ℕ)
remaining_in of_input of_file (source.StandardInput input) = of_input input
remaining_in of_input of_file (source.File file) = of_file file

-- a source is standard input
abbrev pub is_input : {I F : Type 0} → Source I F → Bool
is_input (source.StandardInput input) = true
is_input (source.File file) = false

-- what is to be written in a file is asked for on standard output
abbrev pub is_on_output : Option (Bor (List ℕ)) → Bool
is_on_output None = false
is_on_output (Some path) = is_standard_input path.now
