-- What is said of a command line that asks for nothing.
use Rattle.std.specs.Prelude.{◌≡◌, ◌≢◌, ℕ, List, [], ◌∷◌, ◌++◌, codes}
use Rattle.clap.specs.Values.{kind_of}
use Rattle.clap.specs.declared.error.Error.{Error}
use Rattle.clap.specs.declared.error.kind.ErrorKind.TheVariants as parsing
use Rattle.std.specs.IoError.{error_kind}
use Rattle.std.specs.declared.io.Error as io_error
use Rattle.std.specs.declared.io.ErrorKind.TheVariants as io
use Rattle.bip_model.specs.Texts.{line_feed}
use Rattle.bip_answers.specs.Answers.{saying}
use Rattle.bipr.specs.Stops.{bad_command_line, out_of_memory}
use Rattle.bip_answers.specs.declared.answers.Answer.{Answer}
use Rattle.bip_answers.specs.declared.answers.Status.TheVariants.{Done}

-- what is said of an argument that is no text
abbrev pub not_text : Answer
not_text = bad_command_line (codes "error: an argument is not UTF-8" ++ line_feed ∷ [])

-- what is said where the words can't be had: memory is out, or one is no text
pub data IsWordsAnswer (error : io_error.Error) : Answer → Type 0 where
  lacking : error_kind error ≡ io.OutOfMemory → IsWordsAnswer error out_of_memory
  no_text : error_kind error ≢ io.OutOfMemory → IsWordsAnswer error not_text

-- the library's error is a mistake in the words, and no request for help or the version
abbrev pub IsMistake : Error → Type 0
IsMistake error = (kind_of error ≢ parsing.DisplayHelp) × (kind_of error ≢ parsing.DisplayVersion)

-- what is said of words that the library takes for no request: in which words isn't stated
pub data IsErrorAnswer (error : Error) : Answer → Type 0 where
  -- help or the version is asked for
  shown : (text : List ℕ) → (IsMistake error → ⊥) → IsErrorAnswer error (saying Done text)
  refused : (why : List ℕ) → IsMistake error → kind_of error ≢ parsing.OutOfMemory
      → IsErrorAnswer error (bad_command_line why)
  lacking : IsErrorAnswer error out_of_memory
