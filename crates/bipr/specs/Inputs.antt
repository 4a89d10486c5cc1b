-- What reading a text may give, and what is known of the texts that paths name.
use Rattle.std.specs.Prelude.{◌≡◌, ◌<◌, ◌≤◌, ℕ, List, length, ⊤, Option, None, Some, IfSome}
use Rattle.std.specs.Prelude.{Result, Err, IfErr, IfOk, IsErr}
use Rattle.bipr.specs.declared.inputs.InputFault.{InputFault}
use Rattle.bipr.specs.declared.inputs.InputFault.TheVariants.{Failed, TooLong}

-- how many bytes a text has at most
abbrev pub most_bytes : ℕ
most_bytes = 16777216

-- what reading all bytes of a reader may give, with a limit; the bytes may be known
pub record IsAll (known : Option (List ℕ)) (limit : ℕ)
    (result : Result (List ℕ) InputFault) : Type 0 where
  -- these bytes, and no others
  pub text : IfOk result (λ text. IfSome known (λ bytes. text ≡ bytes))
  pub fits : IfOk result (λ text. length text ≤ limit)
  -- none is told as too long that isn't
  pub long : IfErr result (λ fault. fault ≡ TooLong → IfSome known (λ bytes. limit < length bytes))

-- what is known of what a path names: nothing, that it can't be opened, or the bytes that it gives
pub data Named : Type 0 where
  unknown : Named
  missing : Named
  bytes : List ℕ → Named

-- what opening a path may give
abbrev pub Opens : {S E : Type 0} → (S → Option (List ℕ)) → Named → Result S E → Type 0
Opens remaining unknown result = ⊤
Opens remaining missing result = IsErr result
Opens remaining (bytes text) result = IfOk result (λ source. remaining source ≡ Some text)

-- what reading the text that a path names may give
abbrev pub IsReading : Named → Result (List ℕ) InputFault → Type 0
IsReading unknown result = IsAll None most_bytes result
IsReading missing result = result ≡ Err Failed
IsReading (bytes text) result = IsAll (Some text) most_bytes result
