-- Traces up to a line: what has been read before it, and where reading ends.
use Rattle.std.proofs.Common.{◌≡◌, ℕ, ◌+◌, ◌-◌, ◌≤◌, List, [], ◌∷◌, ◌++◌, length, Option, None}
use Rattle.std.proofs.Common.{Some, Ok, refl, sym, ◌∙◌, subst, arith, length-append}
use Rattle.std.proofs.lemmas.List.{take_all, take_at}
use Rattle.bip_model.specs.Texts.{lines, numbered_lines}
use Rattle.bip_model.specs.declared.grants.Grant.{Grant}
use Rattle.bip_model.specs.declared.parts.System.{System}
use Rattle.bip_model.proofs.LineLemmas.{all_read, line_read}
use Rattle.bip_replay.specs.Items.{Reads}
use Rattle.bip_replay.specs.Lines.{grant_on}
use Rattle.bip_replay.specs.Traces.{IsAfter, IsBefore, grants_from, lines_before}
use Rattle.bip_replay.proofs.ItemLemmas.{HasRead, has_read-more, has_read-none}

-- so many lines stand before an end
abbrev AreWithin : Option ℕ → ℕ → Type 0
AreWithin None count = Unit {0}
AreWithin (Some end) count = count ≤ end - 1

-- what has been read of a text before an end
pub record IsReadBefore (m : System) (text : List ℕ) (end : Option ℕ) (grants : List Grant)
    (left : List (ℕ × List ℕ)) : Type 0 where
  pub read : HasRead (grant_on m) text grants left
  pub within : AreWithin end (length read.front)

none_within : (end : Option ℕ) → AreWithin end 0
none_within None = tt
none_within (Some end) = omega arith

one_within : (end : Option ℕ) (count n : ℕ) → n ≡ count + 1 → IsBefore end n → AreWithin end n
one_within None count n is before = tt
one_within (Some end) count n is before = omega (arith, before)

pub read_before-none : (m : System) (text : List ℕ) (end : Option ℕ)
    → IsReadBefore m text end [] (numbered_lines text)
unfolding has_read-none
read_before-none m text end = record {
  read = has_read-none (grant_on m) text;
  within = none_within end;
}

pub read_before-more : (m : System) (text line : List ℕ) (end : Option ℕ) (n : ℕ)
    (left after : List (ℕ × List ℕ)) (old new : List Grant) (u : Unit {0})
    → IsReadBefore m text end old left → left ≡ (n, line) ∷ after → IsBefore end n
    → Reads (grant_on m) old line (Ok u) new
    → IsReadBefore m text end new after
unfolding has_read-more
read_before-more m text line end n left after old new u so next before reads =
    let is = line_read text so.read.front left after n line so.read.are_left next in
    let long : length (so.read.front ++ line ∷ []) ≡ n = length-append so.read.front (line ∷ [])
    ∙ sym is.number in
    record {
      read = has_read-more (grant_on m) text line n left after old new u so.read next reads;
      within = subst (AreWithin end) (sym long)
          (one_within end (length so.read.front) n is.number before);
    }

-- the lines that were read are those before the end, where the next one is behind it
at_end : (end : Option ℕ) (front rest : List (List ℕ)) (n : ℕ) → n ≡ length front + 1
    → AreWithin end (length front) → IsAfter end n → lines_before end (front ++ rest) ≡ front
at_end None front rest n is within after = absurd after
at_end (Some end) front rest n is within after =
    take_at front rest (end - 1) (omega (arith, is, within, after))

-- and where there is none
at_last : (end : Option ℕ) (front : List (List ℕ)) → AreWithin end (length front)
    → lines_before end front ≡ front
at_last None front within = refl
at_last (Some end) front within = take_all (end - 1) front within

pub read_before-stopped : (m : System) (text line : List ℕ) (end : Option ℕ) (n : ℕ)
    (left after : List (ℕ × List ℕ)) (grants : List Grant) → IsReadBefore m text end grants left
    → left ≡ (n, line) ∷ after → IsAfter end n
    → grants_from m 1 (lines_before end (lines text)) ≡ Ok grants
read_before-stopped m text line end n left after grants so next behind =
    let is = line_read text so.read.front left after n line so.read.are_left next in
    rw (is.split, at_end end so.read.front (line ∷ is.rest) n is.number so.within behind)
    so.read.reads

pub read_before-end : (m : System) (text : List ℕ) (end : Option ℕ) (left : List (ℕ × List ℕ))
    (grants : List Grant) → IsReadBefore m text end grants left → left ≡ []
    → grants_from m 1 (lines_before end (lines text)) ≡ Ok grants
read_before-end m text end left grants so none =
    let whole = all_read text so.read.front left so.read.are_left none in
    rw (whole, at_last end so.read.front so.within) so.read.reads
