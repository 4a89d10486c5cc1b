-- What is written of models and traces: verdicts on standard output, complaints on standard error.
use Rattle.std.specs.Prelude.{ℕ, Bool, List, [], ◌∷◌, ◌++◌, ◌&&◌, ◌||◌, chars, codes}
use Rattle.std.specs.Prelude.{encode_utf8_all, if◌then◌else◌, map, nat_le, slice_index_or}
use Rattle.std.specs.Fmt.{decimal}
use Rattle.bip_model.specs.Naming.{name_in}
use Rattle.bip_model.specs.Texts.{line_at, line_feed, words}
use Rattle.bip_model.specs.declared.parts.System.{System}
use Rattle.bip_reader.specs.Faults.{text_of_fault}
use Rattle.bip_reader.specs.declared.faults.ReadFault.{ReadFault}
use Rattle.bip_replay.specs.Faults.{text_of_replay}
use Rattle.bip_replay.specs.declared.faults.BookFault.{BookFault}
use Rattle.bip_replay.specs.declared.faults.BookFault.TheVariants.{NotEnabled, Below, Number}
use Rattle.bip_replay.specs.declared.faults.BookFault.TheVariants.{Parties, Memory}
use Rattle.bip_replay.specs.declared.faults.ReplayFault.{ReplayFault}
use Rattle.bip_answers.specs.declared.wording.Counts.{Counts}

-- `run N`
abbrev pub run_text : ℕ → List ℕ
run_text count = codes "run " ++ (decimal count ++ line_feed ∷ [])

-- the word behind `grant` on the line of a trace with this number, which names the interaction
abbrev pub interaction_on : List ℕ → ℕ → List ℕ
interaction_on trace number = slice_index_or (words (line_at trace number)) 1 []

-- why a grant of an interaction can't be next, by names
abbrev pub step_text : System → List ℕ → BookFault → List ℕ
step_text m inter NotEnabled = inter ++ codes " not enabled"
step_text m inter (Below above) = inter ++ (codes " below " ++ name_in m.interaction_names above.0)
step_text m inter (Number comp expected) =
    name_in m.component_names comp.0 ++ (codes " expected " ++ decimal expected)
step_text m inter Parties = inter ++ codes " parties"
step_text m inter Memory = codes "no memory"

-- `line N: ..`, the verdict on a trace that is no run
abbrev pub verdict_text : System → List ℕ → ℕ → BookFault → List ℕ
verdict_text m trace number fault =
    codes "line " ++ (decimal number
    ++ (codes ": " ++ (step_text m (interaction_on trace number) fault ++ line_feed ∷ [])))

-- `bipr: ..`
abbrev pub complaint_text : List ℕ → List ℕ
complaint_text why = codes "bipr: " ++ (why ++ line_feed ∷ [])

-- the numbers from one to another
abbrev is_from : ℕ → ℕ → ℕ → Bool
is_from low high number = nat_le low number && nat_le number high

-- a character that a terminal may obey: a control, a separator of lines or paragraphs, or a mark
-- that turns the direction of what stands behind it
abbrev pub is_obeyed : ℕ → Bool
is_obeyed c =
    is_from 0 31 c || is_from 127 159 c || is_from 1564 1564 c || is_from 8206 8207 c
    || is_from 8232 8238 c || is_from 8294 8297 c

-- a character of a word as it is shown: `?` in place of one that is obeyed
abbrev pub shown : ℕ → ℕ
shown c = if is_obeyed c then 63 else c

-- a word of a command line as it is shown
abbrev pub shown_word : List ℕ → List ℕ
shown_word word = encode_utf8_all (map shown (chars word))

-- no such thing, as `component`, has the name that a word gives
abbrev pub unknown_text : List ℕ → List ℕ → List ℕ
unknown_text kind word = complaint_text (codes "no " ++ (kind ++ (codes " " ++ shown_word word)))

-- a model's text is refused
abbrev pub model_refusal : ReadFault → List ℕ
model_refusal fault = complaint_text (codes "model " ++ text_of_fault fault)

-- a chart would have more than so many rows
abbrev pub chart_refusal : ℕ → List ℕ
chart_refusal most =
    complaint_text
    (codes "a chart has at most " ++ (decimal most ++ codes " rows, see --from and --to"))

-- what a check counts
abbrev pub counts_text : Counts → List ℕ
counts_text counts =
    codes "components " ++ (decimal counts.components
    ++ (codes " interactions " ++ (decimal counts.interactions
    ++ (codes " classes " ++ (decimal counts.classes
    ++ (codes " tabled " ++ (decimal counts.tabled
    ++ (codes " reserved " ++ (decimal counts.reserved ++ line_feed ∷ [])))))))))

-- a model has no plan, since this interaction touches too many components
abbrev pub plan_refusal : System → ℕ → List ℕ
plan_refusal m a = complaint_text (name_in m.interaction_names a ++ codes " touches too many")

-- a trace's text is refused
abbrev pub trace_refusal : ℕ → ReplayFault → List ℕ
trace_refusal number fault =
    complaint_text
    (codes "trace line " ++ (decimal number ++ (codes ": " ++ text_of_replay fault)))
