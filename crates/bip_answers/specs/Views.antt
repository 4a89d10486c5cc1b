-- What is answered of a trace: its verdict, with its end or without, or its chart.
use Rattle.std.specs.Prelude.{ℕ, Bool, List, if◌then◌else◌}
use Rattle.bip_answers.specs.Answers.{IsAnswer}
use Rattle.bip_answers.specs.Charted.{IsChartAnswer}
use Rattle.bip_answers.specs.Ended.{IsEndAnswer}
use Rattle.bip_answers.specs.declared.answers.Answer.{Answer}
use Rattle.bip_answers.specs.declared.views.View.{View}
use Rattle.bip_answers.specs.declared.views.View.TheVariants.{Chart, End, Verdict}

-- what is asked of a trace whose verdict is, with its end or without
abbrev pub verdict_view : Bool → View
verdict_view with_end = if with_end then End else Verdict

-- the answer to the texts of a model and a trace, from a base, by what is asked of them
abbrev pub IsViewed : View → ℕ → List ℕ → List ℕ → Answer → Type 0
IsViewed Verdict base model trace answer = IsAnswer base model trace answer
IsViewed End base model trace answer = IsEndAnswer base model trace answer
IsViewed (Chart shown) base model trace answer = IsChartAnswer base shown.now model trace answer
