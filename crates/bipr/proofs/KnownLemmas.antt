-- The replay of texts that are known.
use Rattle.std.proofs.Common.{◌≡◌, ◌≤◌, ℕ, List, [], length, Ok, subst, sym}
use Rattle.std.specs.Prelude.{Some}
use Rattle.bip_reader.specs.Laws.{NoFault}
use Rattle.bip_reader.specs.Texts.{HasFault}
use Rattle.bip_answers.specs.Answers.{IsAnswer, no_model as answers_no_model}
use Rattle.bipr.specs.Dividing.{after_mark, before_mark}
use Rattle.bipr.specs.Inputs.{IsAll, IsReading, Named, bytes, most_bytes}
use Rattle.bipr.specs.Laws as laws
use Rattle.bipr.specs.Laws.{IsOfOne, IsOfTwo, OneTextDecides, TwoTextsDecide}
use Rattle.bipr.specs.Loading.{IsModelText, first_unread, lacking, of_first, of_one, of_two}
use Rattle.bipr.specs.Loading.{second_unread, silent}
use Rattle.bipr.specs.Stops.{unread}
use Rattle.bipr.specs.declared.commands.replay.ReplayArguments.{ReplayArguments}
use Rattle.bipr.specs.declared.inputs.InputFault.{InputFault}
use Rattle.bipr.specs.declared.inputs.InputFault.TheVariants.{Failed, TooLong, NoMemory}

-- what was read is the text that is named, and not too long
record IsRead (read text : List ℕ) : Type 0 where
  same : read ≡ text
  fits : length text ≤ most_bytes

is_read : (known : Named) (read text : List ℕ) → known ≡ bytes text → IsReading known (Ok read)
    → IsRead read text
is_read known read text same reading =
    let all : IsAll (Some text) most_bytes (Ok read) =
    subst (λ (n : Named). IsReading n (Ok read)) same reading in
    record {
      same = all.text;
      fits = subst (λ (t : List ℕ). length t ≤ most_bytes) all.text all.fits;
    }

model_unread : (asked : ReplayArguments) (model trace : List ℕ) (fault : InputFault)
    → IsOfTwo asked model trace [] (unread asked.model.now fault)
model_unread asked model trace Failed = laws.model_unread
model_unread asked model trace TooLong = laws.model_unread
model_unread asked model trace NoMemory = laws.lacking

trace_unread : (asked : ReplayArguments) (model trace : List ℕ) (fault : InputFault)
    → IsModelText model → IsOfTwo asked model trace [] (unread asked.trace.now fault)
trace_unread asked model trace Failed means = laws.trace_unread means
trace_unread asked model trace TooLong means = laws.trace_unread means
trace_unread asked model trace NoMemory means = laws.lacking

one_unread : (asked : ReplayArguments) (text : List ℕ) (fault : InputFault)
    → IsOfOne asked text [] (unread asked.model.now fault)
one_unread asked text Failed = laws.one_unread
one_unread asked text TooLong = laws.one_unread
one_unread asked text NoMemory = laws.one_lacking

pub two_texts_decide : NoFault → TwoTextsDecide
two_texts_decide either named asked model trace told answer alone at_model at_trace
    (of_two m t _ _ alone' read_m means read_t (silent a is)) =
    let of_model = is_read (named asked.model.now) m model at_model read_m in
    let of_trace = is_read (named asked.trace.now) t trace at_trace read_t in
    laws.answered a of_model.fits (λ _. of_trace.fits)
    (subst (λ (x : List ℕ). IsAnswer asked.base x trace a) of_model.same
    (subst (λ (x : List ℕ). IsAnswer asked.base m x a) of_trace.same is))
two_texts_decide either named asked model trace told answer alone at_model at_trace
    (of_first m a alone' read_m (fault, other, has, same)) =
    let of_model = is_read (named asked.model.now) m model at_model read_m in
    let has_here : HasFault model fault =
    subst (λ (x : List ℕ). HasFault x fault) of_model.same has in
    subst (IsOfTwo asked model trace []) (sym same)
    (laws.answered _ of_model.fits
    (λ means. absurd (either model means.0 means.1 fault means.2 has_here))
    (answers_no_model fault other has_here))
two_texts_decide either named asked model trace told answer alone at_model at_trace
    (of_one text _ _ both read is) = absurd cc
two_texts_decide either named asked model trace told answer alone at_model at_trace
    (first_unread fault read) = model_unread asked model trace fault
two_texts_decide either named asked model trace told answer alone at_model at_trace
    (second_unread m fault alone' read_m means read_t) =
    let of_model = is_read (named asked.model.now) m model at_model read_m in
    trace_unread asked model trace fault (subst IsModelText of_model.same means)
two_texts_decide either named asked model trace told answer alone at_model at_trace lacking =
    laws.lacking

pub one_text_decides : OneTextDecides
one_text_decides named asked text told answer both at
    (of_two m t _ _ alone read_m means read_t is) =
    absurd cc
one_text_decides named asked text told answer both at (of_first m a alone read_m refused) =
    absurd cc
one_text_decides named asked text told answer both at
    (of_one read_text _ _ both' read (silent a is)) =
    let of_text = is_read (named asked.model.now) read_text text at read in
    laws.one_answered a of_text.fits
    (subst (λ (x : List ℕ). IsAnswer asked.base (before_mark x) (after_mark x) a) of_text.same is)
one_text_decides named asked text told answer both at (first_unread fault read) =
    one_unread asked text fault
one_text_decides named asked text told answer both at
    (second_unread m fault alone read_m means read_t) =
    absurd cc
one_text_decides named asked text told answer both at lacking = laws.one_lacking
