-- Every two texts and base have an answer.
use Rattle.std.proofs.Common.{ℕ, List, inl, inr}
use Rattle.bip_model.specs.declared.partitions.Partition.{Partition}
use Rattle.bip_model.specs.declared.parts.System.{System}
use Rattle.bip_reader.specs.Laws.{MeaningOrFault, MeansValid, NoWantOfMemory}
use Rattle.bip_reader.specs.Texts.{Means}
use Rattle.bip_replay.specs.Laws.{IsRunOrFaulty}
use Rattle.bip_replay.specs.Replays.{IsFirstFault}
use Rattle.bip_replay.specs.declared.faults.ReplayFault.{ReplayFault}
use Rattle.bip_replay.specs.declared.faults.ReplayFault.TheVariants.{Syntax, Unknown, NotARun}
use Rattle.bip_replay.specs.declared.faults.ReplayFault.TheVariants.{Memory}
use Rattle.bip_answers.specs.Answers.{IsAnswer, complaining, no_model, no_trace, not_a_run, run}
use Rattle.bip_answers.specs.Answers.{saying}
use Rattle.bipr.specs.Laws.{SomeAnswer}
use Rattle.bip_answers.specs.Wording.{model_refusal, run_text, trace_refusal, verdict_text}
use Rattle.bip_answers.specs.declared.answers.Answer.{Answer}
use Rattle.bip_answers.specs.declared.answers.Status.TheVariants.{Done, Refused}
use Rattle.bip_answers.specs.declared.answers.Status.TheVariants.{NotARun as EndsAsNoRun}

-- the answer to a trace with a first fault
of_fault : (base : ℕ) (model trace : List ℕ) (m : System) (c : Partition) (number : ℕ)
    (fault : ReplayFault) → Means model m c
    → IsFirstFault m base trace number fault → (answer : Answer) × IsAnswer base model trace answer
of_fault base model trace m c number Syntax means first =
    (complaining Refused (trace_refusal number Syntax), no_trace m c number Syntax means tt first)
of_fault base model trace m c number Unknown means first =
    (complaining Refused (trace_refusal number Unknown), no_trace m c number Unknown means tt first)
of_fault base model trace m c number (NotARun why) means first =
    (saying EndsAsNoRun (verdict_text m trace number why), not_a_run m c number why means first)
of_fault base model trace m c number Memory means first = absurd first.why

pub some_answer : MeaningOrFault → MeansValid → NoWantOfMemory → IsRunOrFaulty → SomeAnswer
some_answer meaning valid whys traces base model trace = elim (meaning model) [
  | inl (m, c, means) ↦ elim (traces m base trace (valid model m c means).0) [
    | inl (count, is_run) ↦ (saying Done (run_text count), run m c count means is_run)
    | inr (number, fault, first) ↦ of_fault base model trace m c number fault means first
  ]
  | inr (fault, has) ↦ (
    complaining Refused (model_refusal fault),
    no_model fault (whys model fault has) has,
  )
]
