-- Texts read line by line: the lines read so far, one line more, and the first line at fault.
use Rattle.std.proofs.Common.{◌≡◌, ℕ, ◌+◌, ◌≤◌, ◌<◌, List, [], ◌∷◌, ◌++◌, length, Option, None}
use Rattle.std.proofs.Common.{Some, Result, Ok, Err, refl, sym, ap, ◌∙◌, subst, arith, append_assoc}
use Rattle.std.specs.Prelude.{All, IsOk, take}
use Rattle.std.specs.List.{flat_map}
use Rattle.std.proofs.lemmas.List.Elements.{All-cons, All-head, All-nil, All-tail}
use Rattle.std.proofs.Math.Seq.{take-append_seam}
use Rattle.std.proofs.lemmas.List.{append-nil, length-append}
use Rattle.bip_model.specs.Texts.{line_feed, lines, numbered_lines}
use Rattle.bip_model.proofs.LineLemmas.{AreLeft, all_read, line_read, none_read}
use Rattle.bip_model.proofs.WrittenLemmas.{lines_front}
use Rattle.bip_replay.specs.Items.{IsOutOfMemory, IsTextFault, Reads, ReadsBack, before_rest}
use Rattle.bip_replay.specs.Items.{items_from, items_of, one_more}
use Rattle.bip_replay.specs.declared.faults.LineFault.{LineFault}
use Rattle.bip_replay.specs.declared.faults.TraceFault.{TraceFault}
use Rattle.bip_replay.specs.declared.faults.TraceFault.TheVariants.{Syntax, Unknown, Memory}
use Rattle.std.proofs.Common.{◌-◌}
use Rattle.std.specs.Prelude.{slice_get}

-- what a line and those behind it read as
pub first_read : {X : Type 0} (n : ℕ) (line : Result (Option X) LineFault)
    (behind : Result (List X) (ℕ × LineFault)) (xs : List X) → before_rest n line behind ≡ Ok xs
    → (o : Option X) × (ys : List X) × (line ≡ Ok o) × (behind ≡ Ok ys) × (one_more [] o ++ ys ≡ xs)
first_read n (Ok None) (Ok ys) xs is = (None, ys, refl, refl, cc)
first_read n (Ok (Some x)) (Ok ys) xs is = (Some x, ys, refl, refl, cc)
first_read n line behind xs is = cc

-- items, and what lines behind theirs read as
abbrev pub onto : {X : Type 0} → List X → Result (List X) (ℕ × LineFault)
    → Result (List X) (ℕ × LineFault)
onto xs (Ok ys) = Ok (xs ++ ys)
onto xs (Err e) = Err e

seam : (xs ys : List (List ℕ)) (y : List ℕ) → slice_get (xs ++ y ∷ ys) (length xs) ≡ Some y
seam [] ys y = refl
seam (x ∷ xs) ys y = seam xs ys y

-- by what a line says
module _ {X : Type 0} (on : List ℕ → Result (Option X) LineFault) where
  -- what lines read as behind those that read as items
  pub items_from-append : (n : ℕ) (front rest : List (List ℕ)) (xs : List X)
      → items_from on n front ≡ Ok xs → items_from on n (front ++ rest) ≡ onto xs
      (items_from on (n + length front) rest)
  items_from-append n [] rest xs reads = let same : n ≡ n + 0 = omega arith in grind arith
  items_from-append n (line ∷ front) rest xs reads =
      let at = first_read n (on line) (items_from on (n + 1) front) xs reads in
      let later = items_from-append (n + 1) front rest at.1 at.3 in
      let next : n + 1 + length front ≡ n + length (line ∷ front) = omega arith in
      grind arith

  -- the items of one line more
  pub items_from-push : (n : ℕ) (front : List (List ℕ)) (line : List ℕ) (xs : List X) (o : Option X)
      → items_from on n front ≡ Ok xs → on line ≡ Ok o
      → items_from on n (front ++ line ∷ []) ≡ Ok (one_more xs o)
  items_from-push n front line xs o reads says = let whole =
      items_from-append n front (line ∷ []) xs reads in grind (arith, append-nil xs)

  -- there are no more items than lines
  items_from-short : (n : ℕ) (front : List (List ℕ)) (xs : List X) → items_from on n front ≡ Ok xs
      → length xs ≤ length front
  items_from-short n [] xs reads = grind arith
  items_from-short n (line ∷ front) xs reads = grind (arith, items_from-short (n + 1) front)

  -- what has been read of a text: the lines in front read as these items, and those are left
  pub record HasRead (text : List ℕ) (items : List X) (left : List (ℕ × List ℕ)) : Type 0 where
    pub front : List (List ℕ)
    pub are_left : AreLeft text front left
    pub reads : items_from on 1 front ≡ Ok items

  unfoldable pub has_read-none : (text : List ℕ) → HasRead text [] (numbered_lines text)
  has_read-none text = record { front = []; are_left = none_read text; reads = refl }

  unfoldable pub has_read-more : (text line : List ℕ) (n : ℕ) (left after : List (ℕ × List ℕ))
      (old new : List X) (u : Unit {0}) → HasRead text old left → left ≡ (n, line) ∷ after
      → Reads on old line (Ok u) new → HasRead text new after
  has_read-more text line n left after old new u so next reads =
      record {
        front = so.front ++ line ∷ [];
        are_left = (line_read text so.front left after n line so.are_left next).left;
        reads = items_from-push 1 so.front line old reads.0 so.reads reads.1
            ∙ ap (λ (xs : List X). Ok xs) (sym reads.2);
      }

  pub has_read-end : (text : List ℕ) (items : List X) (left : List (ℕ × List ℕ))
      → HasRead text items left → left ≡ [] → items_of on text ≡ Ok items
  has_read-end text items left so none = rw (all_read text so.front left so.are_left none) so.reads

  -- so their count fits
  pub has_read-below : (text line : List ℕ) (n : ℕ) (left after : List (ℕ × List ℕ)) (xs : List X)
      → HasRead text xs left → left ≡ (n, line) ∷ after → length xs < length text
  has_read-below text line n left after xs so next =
      let is = line_read text so.front left after n line so.are_left next in
      omega (arith, items_from-short 1 so.front xs so.reads, is.number, is.short)

  -- memory is wanting at a line that reads, behind lines that read
  pub memory_at : (text line : List ℕ) (n : ℕ) (left after : List (ℕ × List ℕ)) (xs : List X)
      (said : Option X) → HasRead text xs left → left ≡ (n, line) ∷ after → on line ≡ Ok said
      → IsOutOfMemory on text n
  memory_at text line n left after xs said so next says =
      let is = line_read text so.front left after n line so.are_left next in
      let front = so.front ++ line ∷ [] in
      let split : lines text ≡ front ++ is.rest = is.split
      ∙ sym (append_assoc so.front (line ∷ []) is.rest) in
      let long : length front ≡ n = omega (arith, is.number, length-append so.front (line ∷ [])) in
      let seam = take-append_seam front is.rest in
      let push = items_from-push 1 so.front line xs said so.reads says in
      let reads : items_from on 1 (take n (lines text)) ≡ Ok (one_more xs said) = cc in
      record {
        first = omega (arith, is.number);
        last = omega (arith, ap length split, length-append front is.rest, long);
        clear =
            subst IsOk (sym reads) refl;
      }

  pub has_read-fault : (text line : List ℕ) (n : ℕ) (left after : List (ℕ × List ℕ))
      (old new : List X) (fault : TraceFault) → HasRead text old left → left ≡ (n, line) ∷ after
      → Reads on old line (Err fault) new → IsTextFault on text n fault
  has_read-fault text line n left after old new fault so next reads = by_fault fault reads
    where
      at : (f : LineFault) → on line ≡ Err f → items_of on text ≡ Err (n, f)
      at f says =
          let is = line_read text so.front left after n line so.are_left next in
          let here : 1 + length so.front ≡ n = omega (arith, is.number) in
          rw is.split (items_from-append 1 so.front (line ∷ is.rest) old so.reads
          ∙ rw says (ap (λ (k : ℕ). Err (k, f)) here))

      by_fault : (f : TraceFault) → Reads on old line (Err f) new → IsTextFault on text n f
      by_fault Syntax says = at _ says
      by_fault Unknown says = at _ says
      by_fault Memory says =
          let is = line_read text so.front left after n line so.are_left next in
          let back : n - 1 ≡ length so.front = omega (arith, is.number) in
          let here : slice_get (lines text) (n - 1) ≡ Some line =
          rw (back, is.split) (seam so.front is.rest line) in (
            memory_at text line n left after old (Some says.0) so next says.1,
            rw here (says.0, says.1),
          )

  -- the text of items whose lines read back reads as these items
  pub items_from-written : (line : X → List ℕ) (n : ℕ) (xs : List X) → All (ReadsBack on line) xs
      → items_from on n (lines (flat_map (λ x. line x ++ line_feed ∷ []) xs)) ≡ Ok xs
  items_from-written line n [] all = refl
  items_from-written line n (x ∷ xs) all =
      let first : ReadsBack on line x = All-head (ReadsBack on line) x xs all in
      let text = flat_map (λ y. line y ++ line_feed ∷ []) xs in
      ap (λ (bytes : List ℕ). items_from on n (lines bytes))
      (append_assoc (line x) (line_feed ∷ []) text)
      ∙ rw (
        lines_front (line x) text first.plain,
        first.reads,
        items_from-written line (n + 1) xs (All-tail (ReadsBack on line) x xs all),
      ) refl

  -- lines that are numbered from a number on, the first of which at fault has this number
  pub record HasFirstFault (n : ℕ) (text : List (List ℕ)) (number : ℕ)
      (fault : LineFault) : Type 0 where
    pub before : List (List ℕ)
    pub line : List ℕ
    pub rest : List (List ℕ)
    pub split : text ≡ before ++ line ∷ rest
    pub counted : number ≡ length before + n
    pub clear : All (λ (l : List ℕ). IsOk (on l)) before
    pub at : on line ≡ Err fault

  -- a line without a fault before them
  behind_one : (n : ℕ) (line : List ℕ) (rest : List (List ℕ)) (number : ℕ) (fault : LineFault)
      → IsOk (on line) → HasFirstFault (n + 1) rest number fault
      → HasFirstFault n (line ∷ rest) number fault
  behind_one n line rest number fault clear has = record {
    before = line ∷ has.before;
    line = has.line;
    rest = has.rest;
    split = ap (λ (ls : List (List ℕ)). line ∷ ls) has.split;
    counted = omega (arith, has.counted);
    clear = All-cons (λ (l : List ℕ). IsOk (on l)) line has.before clear has.clear;
    at = has.at;
  }

  told_later : (n : ℕ) (x : X) (r : Result (List X) (ℕ × LineFault)) (e : ℕ × LineFault)
      → before_rest n (Ok (Some x)) r ≡ Err e → r ≡ Err e
  told_later n x (Ok xs) e is = cc
  told_later n x (Err f) e is = is

  one_at_fault : (n : ℕ) (line : List ℕ) (rest : List (List ℕ)) (number : ℕ) (fault : LineFault)
      (o : Result (Option X) LineFault) → on line ≡ o
      → (items_from on (n + 1) rest ≡ Err (number, fault) → HasFirstFault (n + 1) rest number fault)
      → before_rest n o (items_from on (n + 1) rest) ≡ Err (number, fault)
      → HasFirstFault n (line ∷ rest) number fault
  one_at_fault n line rest number fault (Err f) says more is =
      let same : (n, f) ≡ (number, fault) = cc in
      record {
        before = [];
        line = line;
        rest = rest;
        split = refl;
        counted = omega (arith, ap (λ (p : ℕ × LineFault). p.0) same);
        clear = All-nil (λ (l : List ℕ). IsOk (on l));
        at = says ∙ ap (λ (p : ℕ × LineFault). Err p.1) same;
      }
  one_at_fault n line rest number fault (Ok None) says more is =
      behind_one n line rest number fault (subst IsOk (sym says) refl) (more is)
  one_at_fault n line rest number fault (Ok (Some x)) says more is =
      behind_one n line rest number fault (subst IsOk (sym says) refl)
      (more (told_later n x (items_from on (n + 1) rest) (number, fault) is))

  -- the first line at fault, and those before it, which have none
  pub first_at_fault : (n : ℕ) (text : List (List ℕ)) (number : ℕ) (fault : LineFault)
      → items_from on n text ≡ Err (number, fault) → HasFirstFault n text number fault
  first_at_fault n [] number fault is = cc
  first_at_fault n (line ∷ rest) number fault is =
      one_at_fault n line rest number fault (on line) refl
      (first_at_fault (n + 1) rest number fault) is
