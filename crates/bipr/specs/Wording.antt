-- What the program writes of steps, seeds and hosts.
use Rattle.std.specs.Prelude.{ℕ, List, [], ◌∷◌, ◌++◌, ◌/◌, ◌%◌, codes, length}
use Rattle.std.specs.Prelude.{None, Option, Some}
use Rattle.std.specs.Fmt.{decimal}
use Rattle.bip_answers.specs.Wording.{complaint_text}
use Rattle.bip_core.specs.declared.runs.Report.{Report}
use Rattle.bip_host.specs.declared.hosts.Ended.TheVariants.{ByGrants, ByQuiet, ByTurns}
use Rattle.bip_host.specs.declared.hosts.Ended.{Ended}
use Rattle.bip_model.specs.Texts.{line_feed}
use Rattle.bip_replay.specs.Faults.{text_of_trace}
use Rattle.bip_replay.specs.declared.faults.TraceFault.{TraceFault}
use Rattle.bipr.specs.declared.hosted.Hosted.{Hosted}

-- `nothing may run after K grants`
abbrev pub stuck_text : ℕ → List ℕ
stuck_text count = codes "nothing may run after " ++ (decimal count ++ codes " grants\n")

-- `walks K grants G`
abbrev pub walks_text : ℕ → ℕ → List ℕ
walks_text walks grants =
    codes "walks " ++ (decimal walks ++ (codes " grants " ++ (decimal grants ++ line_feed ∷ [])))

-- a schedule's text is refused
abbrev pub schedule_refusal : ℕ → TraceFault → List ℕ
schedule_refusal number fault =
    complaint_text
    (codes "schedule line " ++ (decimal number ++ (codes ": " ++ text_of_trace fault)))

-- the report of a run of events
abbrev pub decisions_text : Report → List ℕ
decisions_text report =
    codes "events " ++ (decimal report.events
    ++ (codes " grants " ++ (decimal report.grants
    ++ (codes " refusals " ++ decimal report.refusals))))

abbrev pub losses_text : Report → List ℕ
losses_text report =
    codes " idle " ++ (decimal report.idle
    ++ (codes " skipped " ++ (decimal report.skipped
    ++ (codes " lost " ++ (decimal report.lost ++ line_feed ∷ [])))))

abbrev pub report_text : Report → List ℕ
report_text report = decisions_text report ++ losses_text report

-- what is counted of a host, and how many seconds it took, to the thousandth
abbrev pub host_work_text : Hosted → List ℕ
host_work_text hosted =
    codes "threads " ++ (decimal hosted.figures.threads
    ++ (codes " turns " ++ (decimal hosted.figures.turns
    ++ (codes " grants " ++ decimal (length hosted.report.grants.items)))))

abbrev pub host_end_text : Hosted → List ℕ
host_end_text hosted =
    codes " told " ++ (decimal hosted.report.told
    ++ (codes " lost " ++ (decimal hosted.report.lost ++ codes " seconds ")))

abbrev pub seconds_text : ℕ → List ℕ
seconds_text milliseconds =
    decimal (milliseconds / 1000) ++ (codes "." ++ (decimal (milliseconds / 100 % 10)
    ++ (decimal (milliseconds / 10 % 10) ++ decimal (milliseconds % 10))))

-- how many tokens and forks stations sent, and how many request tokens
abbrev pub sharing_text : Hosted → List ℕ
sharing_text hosted =
    codes " passes " ++ (decimal hosted.figures.passes
    ++ (codes " asks " ++ decimal hosted.figures.asks))

-- how many requests were refused, and how many found a row busy
abbrev pub asking_text : Hosted → List ℕ
asking_text hosted =
    codes " refusals " ++ (decimal hosted.figures.refusals
    ++ (codes " busy " ++ decimal hosted.figures.busy))

-- how many grants stand in the lists of a word table's seats, and how many the book took of it
abbrev pub drawn_text : Hosted → List ℕ
drawn_text hosted =
    codes " words " ++ (decimal hosted.figures.drawn
    ++ (codes " entered " ++ (decimal hosted.figures.entered ++ line_feed ∷ [])))

-- why a host ended, where a number of grants was asked for
abbrev pub ended_by : Ended → List ℕ
ended_by ByGrants = codes "ended by grants\n"
ended_by ByQuiet = codes "ended by quiet\n"
ended_by ByTurns = codes "ended by turns\n"

abbrev pub ended_of_limit : Option ℕ → Ended → List ℕ
ended_of_limit None ended = []
ended_of_limit (Some grants) ended = ended_by ended

abbrev pub ended_text : Hosted → List ℕ
ended_text hosted = ended_of_limit hosted.limits.grants hosted.figures.ended

abbrev pub stats_text : Hosted → List ℕ
stats_text hosted =
    host_work_text hosted
    ++ (host_end_text hosted ++ (seconds_text hosted.milliseconds ++ (sharing_text hosted
    ++ (asking_text hosted ++ (drawn_text hosted ++ ended_text hosted)))))

-- a host's book refused a grant
abbrev pub host_refusal : List ℕ
host_refusal = complaint_text (codes "not a run")

-- row words are asked for without the central bank
abbrev pub words_need_central_text : List ℕ
words_need_central_text = complaint_text (codes "words need central")

-- more components have a row than row words can
abbrev pub too_many_rows_text : List ℕ
too_many_rows_text = complaint_text (codes "too many rows")

-- a thread couldn't be made
abbrev pub no_thread_text : List ℕ
no_thread_text = complaint_text (codes "no thread")

-- `seeds K runs K`
abbrev pub seeds_text : ℕ → List ℕ
seeds_text seeds =
    codes "seeds " ++ (decimal seeds ++ (codes " runs " ++ (decimal seeds ++ line_feed ∷ [])))

-- `seed S: not a run`
abbrev pub seed_verdict : ℕ → List ℕ
seed_verdict seed = codes "seed " ++ (decimal seed ++ (codes ": not a run" ++ line_feed ∷ []))

-- `seeds D of K`, where so many of the seeds are done
abbrev pub progress_text : ℕ → ℕ → List ℕ
progress_text done seeds =
    codes "seeds " ++ (decimal done ++ (codes " of " ++ (decimal seeds ++ line_feed ∷ [])))

abbrev pub reached_text : ℕ → ℕ → ℕ → List ℕ
reached_text done seeds events =
    codes "at seed " ++ (decimal done ++ (codes " of " ++ (decimal seeds
    ++ (codes ": " ++ (decimal events ++ codes " events, ")))))

abbrev pub pace_text : ℕ → ℕ → List ℕ
pace_text rate left =
    decimal rate ++ (codes " seeds a second, " ++ (decimal left
    ++ (codes " seconds left" ++ line_feed ∷ [])))

-- `at seed D of K: E events, S seeds a second, T seconds left`, where so many of the seeds are done
-- and did so many events
abbrev pub timed_text : ℕ → ℕ → ℕ → ℕ → ℕ → List ℕ
timed_text done seeds events rate left = reached_text done seeds events ++ pace_text rate left
