-- The answer to a replay whose end is asked for: where the run leads, behind its verdict.
use Rattle.std.specs.Prelude.{◌≡◌, ◌≢◌, ◌++◌, ℕ, List}
use Rattle.bip_draw.specs.Ends.{IsEndText}
use Rattle.bip_model.specs.declared.parts.System.{System}
use Rattle.bip_model.specs.declared.partitions.Partition.{Partition}
use Rattle.bip_reader.specs.Texts.{Means}
use Rattle.bip_replay.specs.Replays.{IsRunTo}
use Rattle.bip_replay.specs.Runs.{Standing}
use Rattle.bip_answers.specs.Answers.{IsAnswer, saying}
use Rattle.bip_answers.specs.Wording.{run_text}
use Rattle.bip_answers.specs.declared.answers.Answer.{Answer}
use Rattle.bip_answers.specs.declared.answers.Status.TheVariants.{Done}

-- `run N`, and behind it where the run stands
pub record IsRunAndEnd (p : Standing) (count : ℕ) (text : List ℕ) : Type 0 where
  pub end : List ℕ
  pub is : IsEndText p end
  pub written : text ≡ run_text count ++ end

-- the answer to the texts of a model and a trace, from a base, where the end is asked for
pub data IsEndAnswer (base : ℕ) (model trace : List ℕ) : Answer → Type 0 where
  -- the grants of the trace are a run of the model, which leads here
  ended : (m : System) (classes : Partition) (count : ℕ) (p : Standing) (text : List ℕ)
      → Means model m classes → IsRunTo m base trace p count → IsRunAndEnd p count text
      → IsEndAnswer base model trace (saying Done text)
  -- they are none, and the answer is that of a replay
  unended : (answer : Answer) → IsAnswer base model trace answer → answer.status ≢ Done
      → IsEndAnswer base model trace answer
