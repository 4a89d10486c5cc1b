-- What stops a command before it has an answer, and what is said of it.
use Rattle.std.specs.Prelude.{ℕ, List, [], ◌∷◌, ◌++◌, codes}
use Rattle.bip_model.specs.Texts.{line_feed}
use Rattle.bip_answers.specs.Answers.{complaining, saying}
use Rattle.bip_answers.specs.Wording.{complaint_text, shown_word}
use Rattle.bipr.specs.Wording.{host_refusal, no_thread_text, seed_verdict}
use Rattle.bipr.specs.Wording.{too_many_rows_text, words_need_central_text}
use Rattle.bip_answers.specs.declared.answers.Answer.{Answer}
use Rattle.bip_answers.specs.declared.answers.Status.TheVariants.{BadCommandLine, NoMemory}
use Rattle.bip_answers.specs.declared.answers.Status.TheVariants.{NoThread, NotARun, Refused}
use Rattle.bipr.specs.declared.inputs.InputFault.{InputFault}
use Rattle.bipr.specs.declared.inputs.InputFault.TheVariants as input_fault
use Rattle.bipr.specs.declared.stops.Stop.{Stop}
use Rattle.bipr.specs.declared.stops.Stop.TheVariants as stop

-- a text can't be read, or is too long, by its path
abbrev pub unread_text : List ℕ → List ℕ
unread_text path = complaint_text (codes "cannot read " ++ shown_word path)

-- what a command says can't be written
abbrev pub unwritten_text : List ℕ
unwritten_text = complaint_text (codes "cannot write")

-- memory is out
abbrev pub no_memory_text : List ℕ
no_memory_text = complaint_text (codes "no memory")

-- what is said for want of memory
abbrev pub out_of_memory : Answer
out_of_memory = complaining NoMemory no_memory_text

-- what is said of a text that isn't read, by its path
abbrev pub unread : List ℕ → InputFault → Answer
unread path input_fault.Failed = complaining Refused (unread_text path)
unread path input_fault.TooLong = complaining Refused (unread_text path)
unread path input_fault.NoMemory = out_of_memory

-- a bad command line, and why
abbrev pub bad_command_line : List ℕ → Answer
bad_command_line why = complaining BadCommandLine (complaint_text (codes "bad command line") ++ why)

-- what is said where the base is out of range
abbrev pub bad_base : Answer
bad_base = bad_command_line (codes "error: --base is 0 to 18446744073709551614" ++ line_feed ∷ [])

-- what is said where the rows of a chart end before they begin
abbrev pub bad_range : Answer
bad_range = bad_command_line (codes "error: --from is 1 to --to" ++ line_feed ∷ [])

-- what is said where not just one of a seed and of how many seeds is
abbrev pub bad_seeds : Answer
bad_seeds = bad_command_line (codes "error: a walk has --seed or --seeds" ++ line_feed ∷ [])

-- what is said where not just one of turns and of grants is
abbrev pub bad_limits : Answer
bad_limits = bad_command_line (codes "error: a run has --turns or --grants" ++ line_feed ∷ [])

-- what is said where a record is asked for on standard output
abbrev pub bad_record : Answer
bad_record = bad_command_line (codes "error: --record is a file" ++ line_feed ∷ [])

-- what is said where a part of a plan is to be drawn
abbrev pub bad_part : Answer
bad_part = bad_command_line (codes "error: --plan is of a whole model" ++ line_feed ∷ [])

-- what is said where steps are to be drawn and told; and where they are to be drawn on standard
-- output
abbrev pub bad_showing : Answer
bad_showing = bad_command_line (codes "error: steps have --tell or --chart" ++ line_feed ∷ [])

abbrev pub bad_chart : Answer
bad_chart = bad_command_line (codes "error: --chart is a file" ++ line_feed ∷ [])

-- what is said where row words are asked for without the central bank, and where more components
-- have a row than these can
abbrev pub words_need_central : Answer
words_need_central = complaining BadCommandLine words_need_central_text

abbrev pub too_many_rows : Answer
too_many_rows = complaining Refused too_many_rows_text

-- what is said where a schedule is longer than any text that is read
abbrev pub long_schedule_text : List ℕ
long_schedule_text = complaint_text (codes "a schedule has at most 16777216 bytes")

abbrev pub long_schedule : Answer
long_schedule = complaining Refused long_schedule_text

-- what is said of what stopped a command
abbrev pub answer_of_stop : Stop → Answer
answer_of_stop (stop.CannotRead path) = complaining Refused (unread_text path.now)
answer_of_stop stop.CannotWrite = complaining Refused unwritten_text
answer_of_stop stop.BaseOutOfRange = bad_base
answer_of_stop stop.RowsOutOfOrder = bad_range
answer_of_stop stop.SeedOrSeeds = bad_seeds
answer_of_stop stop.TurnsOrGrants = bad_limits
answer_of_stop stop.WordsNeedCentral = words_need_central
answer_of_stop stop.RecordOnOutput = bad_record
answer_of_stop stop.PlanOfPart = bad_part
answer_of_stop stop.DrawnAndTold = bad_showing
answer_of_stop stop.ChartOnOutput = bad_chart
answer_of_stop stop.TooManyRows = too_many_rows
answer_of_stop stop.ScheduleTooLong = long_schedule
answer_of_stop stop.GrantRefused = complaining NotARun host_refusal
answer_of_stop stop.ThreadRefused = complaining NoThread no_thread_text
answer_of_stop (stop.SeedNotARun seed) = saying NotARun (seed_verdict seed)
answer_of_stop stop.OutOfMemory = out_of_memory
