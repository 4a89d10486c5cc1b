-- Lemmas on what lines say one after another, and on how far reading has come.
use Rattle.std.proofs.Common.{◌≡◌, ℕ, ◌+◌, ◌-◌, ◌≤◌, List, [], ◌∷◌, ◌++◌, length, take, drop}
use Rattle.std.proofs.Common.{Result, Ok, Err, inl, inr, refl, ap, ◌∙◌, sym, append_assoc, arith}
use Rattle.std.proofs.Common.{length-append}
use Rattle.std.specs.Prelude.{IsOk, IsTrue, Some, max, slice_get}
use Rattle.std.proofs.lemmas.List.{take-append-drop, take_all}
use Rattle.std.proofs.Math.Seq.{take-append_seam}
use Rattle.bip_model.specs.Faults.{◌>>=◌}
use Rattle.bip_model.specs.Texts.{last_line, lines, numbered_lines, says_something, words_said}
use Rattle.bip_model.proofs.LineLemmas.{AreLeft, all_read, line_read, none_read}
use Rattle.bip_reader.specs.declared.faults.ReadFault.{ReadFault}
use Rattle.bip_reader.specs.declared.faults.Why.{Why}
use Rattle.bip_reader.specs.declared.reading.Reading.{Reading}
use Rattle.bip_reader.specs.Reading.{at_line, empty_reading, reading_after, reading_after_lines}
use Rattle.bip_reader.specs.Texts.{IsReached, MayLackMemory, reading_of}

reading-after : (n : ℕ) (x : List ℕ) (xs ys : List (List ℕ)) (said : Result Reading ReadFault)
    → ((r : Reading) → reading_after_lines (n + 1) (xs ++ ys) r ≡ reading_after_lines
    (n + 1) xs r >>= reading_after_lines (n + 1 + length xs) ys)
    → said >>= reading_after_lines (n + 1) (xs ++ ys) ≡ said >>= reading_after_lines
    (n + 1) xs >>= reading_after_lines (n + length (x ∷ xs)) ys
reading-after n x xs ys (Ok r) h =
    let e : n + length (x ∷ xs) ≡ n + 1 + length xs = omega arith in
    rw e (h r)
reading-after n x xs ys (Err fault) h = refl

-- what lines say, and then what more lines say
pub reading-append : (n : ℕ) (xs ys : List (List ℕ)) (r : Reading)
    → reading_after_lines n (xs ++ ys) r ≡ reading_after_lines n xs r >>= reading_after_lines
    (n + length xs) ys
reading-append n [] ys r = let e : n + 0 ≡ n = omega arith in rw e refl
reading-append n (x ∷ xs) ys r = reading-after n x xs ys (at_line n (reading_after x r))
    (reading-append (n + 1) xs ys)

-- how far reading has come: the lines in front led to what is read, the last of them has this
-- number, and those are left
pub record IsAt (text : List ℕ) (last : ℕ) (r : Reading) (left : List (ℕ × List ℕ)) : Type 0 where
  pub front : List (List ℕ)
  pub are_left : AreLeft text front left
  pub counted : last ≡ max 1 (length front)
  pub said : reading_after_lines 1 front empty_reading ≡ Ok r

pub none_said : (text : List ℕ) → IsAt text 1 empty_reading (numbered_lines text)
none_said text = record { front = []; are_left = none_read text; counted = refl; said = refl }

-- one line more
pub goes_on : (text : List ℕ) (last n : ℕ) (r new : Reading) (line : List ℕ)
    (left after : List (ℕ × List ℕ)) → IsAt text last r left → left ≡ (n, line) ∷ after
    → reading_after line r ≡ Ok new → IsAt text n new after
goes_on text last n r new line left after h next s =
    let is = line_read text h.front left after n line h.are_left next in
    record {
      front = h.front ++ line ∷ [];
      are_left = is.left;
      counted = omega (arith, is.number, length-append h.front (line ∷ []));
      said = reading-append 1 h.front (line ∷ []) empty_reading ∙ rw (h.said, s) refl;
    }

-- the next line is at fault
pub at_fault : (text : List ℕ) (last n : ℕ) (r : Reading) (line : List ℕ)
    (left after : List (ℕ × List ℕ)) (why : Why) → IsAt text last r left → left ≡ (n, line) ∷ after
    → reading_after line r ≡ Err why → reading_of text ≡ Err (record { line = n; why = why })
unfolding reading_of
at_fault text last n r line left after why h next s =
    let is = line_read text h.front left after n line h.are_left next in
    let place : 1 + length h.front ≡ n = omega (arith, is.number) in
    ap (λ (ls : List (List ℕ)). reading_after_lines 1 ls empty_reading) is.split
    ∙ reading-append 1 h.front (line ∷ is.rest) empty_reading ∙ rw (h.said, s, place) refl

-- all lines are read
pub all_said : (text : List ℕ) (last : ℕ) (r : Reading) (left : List (ℕ × List ℕ))
    → IsAt text last r left → left ≡ [] → (reading_of text ≡ Ok r) × (last ≡ last_line text)
unfolding reading_of
all_said text last r left h none =
    let all = all_read text h.front left h.are_left none in (
      ap (λ (ls : List (List ℕ)). reading_after_lines 1 ls empty_reading) all ∙ h.said,
      rw all h.counted,
    )

is_ok_first : {A B E : Type 0} (said : Result A E) (f : A → Result B E) (y : B) → said >>= f ≡ Ok y
    → IsOk said
is_ok_first said f y e = grind arith

-- the last line is reached where no line is at fault
pub last_reached : (text : List ℕ) (r : Reading) → reading_of text ≡ Ok r
    → IsReached text (last_line text)
unfolding reading_of
last_reached text r e =
    let n = last_line text - 1 in
    let cut : reading_after_lines 1 (take n (lines text) ++ drop n (lines text)) empty_reading
    ≡ Ok r = ap (λ (ls : List (List ℕ)). reading_after_lines 1 ls empty_reading)
    (take-append-drop n (lines text)) ∙ e in
    record {
      first = omega arith;
      last = omega arith;
      clear = is_ok_first (reading_after_lines 1 (take n (lines text)) empty_reading)
          (reading_after_lines (1 + length (take n (lines text))) (drop n (lines text))) r
          (sym (reading-append 1 (take n (lines text)) (drop n (lines text)) empty_reading) ∙ cut);
    }

-- memory may be wanting where no line is at fault
pub lacks_last : (text : List ℕ) (r : Reading) → reading_of text ≡ Ok r
    → MayLackMemory text (last_line text)
unfolding reading_of
lacks_last text r e =
    let long : length (lines text) ≤ last_line text = omega arith in
    let all : reading_after_lines 1 (take (last_line text) (lines text)) empty_reading ≡ Ok r =
    rw (take_all (last_line text) (lines text) long) e in
    record { first = omega arith; last = omega arith; clear = rw all refl; saying = inl refl }

-- lines that go on with one that has no fault have none
ok_with : (n : ℕ) (said : Result Reading Why) → IsOk said
    → IsOk (at_line n said >>= reading_after_lines (n + 1) [])
ok_with n (Ok r) ok = refl
ok_with n (Err why) ok = cc

seam : (xs ys : List (List ℕ)) (y : List ℕ) → slice_get (xs ++ y ∷ ys) (length xs) ≡ Some y
seam [] ys y = refl
seam (x ∷ xs) ys y = seam xs ys y

-- memory may be wanting for the next line
pub lacks_next : (text : List ℕ) (last n : ℕ) (r : Reading) (line : List ℕ)
    (left after : List (ℕ × List ℕ)) → IsAt text last r left → left ≡ (n, line) ∷ after
    → IsOk (reading_after line r) → IsTrue (says_something (words_said line)) → MayLackMemory text n
lacks_next text last n r line left after h next ok says =
    let is = line_read text h.front left after n line h.are_left next in
    let back : n - 1 ≡ length h.front = omega (arith, is.number) in
    let many : length (lines text) ≡ length h.front + length (line ∷ is.rest) = ap length is.split
    ∙ length-append h.front (line ∷ is.rest) in
    let here : slice_get (lines text) (n - 1) ≡ Some line =
    rw (back, is.split) (seam h.front is.rest line) in
    let parts : lines text ≡ (h.front ++ line ∷ []) ++ is.rest = is.split
    ∙ sym (append_assoc h.front (line ∷ []) is.rest) in
    let count : n ≡ length (h.front ++ line ∷ []) =
    omega (arith, is.number, length-append h.front (line ∷ [])) in
    let down_to : take n (lines text) ≡ h.front ++ line ∷ [] =
    rw (count, parts) (take-append_seam (h.front ++ line ∷ []) is.rest) in
    let said : reading_after_lines 1 (take n (lines text)) empty_reading ≡ at_line
    (1 + length h.front) (reading_after line r) >>= reading_after_lines (1 + length h.front + 1)
    [] =
    rw down_to (reading-append 1 h.front (line ∷ []) empty_reading ∙ rw h.said refl)
    in
    record {
      first = omega (arith, is.number);
      last = omega (arith, is.number, many);
      clear = rw said (ok_with (1 + length h.front) (reading_after line r) ok);
      saying = inr (rw here says);
    }
