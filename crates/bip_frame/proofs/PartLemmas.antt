-- Lists of parts whose numbers rise: what is read is spelled so, and what is spelled so is read.
use Rattle.std.proofs.Common.{◌≡◌, ℕ, zero, suc, ◌+◌, ◌*◌, ◌<◌, ◌≤◌, false, cond, eqb, ltb}
use Rattle.std.proofs.Common.{List, [], ◌∷◌, ◌++◌, length, map, slice_index}
use Rattle.std.proofs.Common.{Ok, Err}
use Rattle.std.proofs.Common.{refl, sym, ap, subst, ◌∙◌, append_assoc, arith}
use Rattle.std.specs.List.{flat_map, AllByRecursion}
use Rattle.std.specs.List.Sorted.{IsStrictlyIncreasing}
use Rattle.std.proofs.Math.Nat.{mul-suc}
use Rattle.std.proofs.lemmas.Bool.{eqb-false, ltb-false, le-ltb, ne_eqb}
use Rattle.std.proofs.lemmas.List.{take_at, drop_at, length-append}
use Rattle.std.proofs.lemmas.List.Concat.{flat_map-cons}
use Rattle.bip_frame.specs.declared.faults.FrameFault.TheVariants.{Count}
use Rattle.bip_frame.specs.Entries.{PartReader, passed, read_parts, read_count, read_list}
use Rattle.bip_frame.specs.Faults.{Parts, IsNextPart, AreNext, IsCount, IsList, list_spelled}
use Rattle.bip_frame.specs.Fields.{◌>>=◌, read_byte}
use Rattle.bip_frame.specs.Lent.{parts_in}
use Rattle.bip_frame.specs.Reading.{Lies}
use Rattle.bip_frame.proofs.FieldLemmas.{IsBytes, bind_ok, guarded, done, ok_is, Takes}
use Rattle.bip_frame.proofs.FieldLemmas.{Takes-then, byte_takes, Part}

-- a reader of the parts of a list
abbrev pub ReadsParts : {A : Type 0} → Parts A → PartReader A → Type 0
ReadsParts p read = (low : ℕ) → Part (read low) (IsNextPart p low) p.spell

-- ---- so many parts

parts_take : {A : Type 0} (p : Parts A) (read : PartReader A) → ReadsParts p read
    → (n low : ℕ) (bytes : List ℕ) (xs : List A) (rest : List ℕ) → IsBytes bytes
    → read_parts read p.number n low bytes ≡ Ok (xs, rest)
    → Takes bytes (flat_map p.spell xs) rest × AreNext p n low xs
unfolding read_parts
parts_take {A = A} p read part zero low bytes xs rest fits e =
    subst (λ (q : List A × List ℕ). Takes bytes (flat_map p.spell q.0) q.1 × AreNext p 0 low q.0)
    (ok_is ([], bytes) (xs, rest) e) (record { parts = refl; rest_fits = fits }, tt)
parts_take {A = A} p read part (suc n) low bytes xs rest fits e =
    let a =
    bind_ok (read low bytes) (λ first. read_parts read p.number n
    (p.number first.0 + 1) first.1 >>= λ others. Ok (first.0 ∷ others.0, others.1))
    (xs, rest) e in
    let b =
    bind_ok (read_parts read p.number n (p.number a.0.0 + 1) a.0.1)
    (λ others. Ok (a.0.0 ∷ others.0, others.1)) (xs, rest) a.2 in
    let first = (part low).takes bytes a.0.0 a.0.1 fits a.1 in
    let second =
    parts_take p read part n (p.number a.0.0 + 1) a.0.1 b.0.0 b.0.1 first.0.rest_fits b.1 in
    let both =
    Takes-then bytes (p.spell a.0.0) a.0.1 (flat_map p.spell b.0.0) b.0.1 first.0 second.0 in
    let made : List A × List ℕ = (a.0.0 ∷ b.0.0, b.0.1) in
    let whole : Takes bytes (flat_map p.spell (a.0.0 ∷ b.0.0)) b.0.1 =
    subst (λ (t : List ℕ). Takes bytes t b.0.1) (sym (flat_map-cons p.spell a.0.0 b.0.0)) both in
    subst (λ (q : List A × List ℕ). Takes bytes (flat_map p.spell q.0) q.1
    × AreNext p (suc n) low q.0) (ok_is made (xs, rest) b.2) (whole, (first.1, second.1))

-- the first of parts stands in front
first_front : {A : Type 0} (spell : A → List ℕ) (x : A) (xs : List A) (rest : List ℕ)
    → flat_map spell (x ∷ xs) ++ rest ≡ spell x ++ (flat_map spell xs ++ rest)
first_front spell x xs rest =
    ap (λ (t : List ℕ). t ++ rest) (flat_map-cons spell x xs)
    ∙ append_assoc (spell x) (flat_map spell xs) rest

parts_again : {A : Type 0} (p : Parts A) (read : PartReader A) → ReadsParts p read
    → (n low : ℕ) (xs : List A) (rest : List ℕ) → AreNext p n low xs
    → read_parts read p.number n low (flat_map p.spell xs ++ rest) ≡ Ok (xs, rest)
unfolding read_parts
parts_again p read part zero low [] rest next = refl
parts_again p read part zero low (x ∷ xs) rest next = absurd next
parts_again p read part (suc n) low [] rest next = absurd next
parts_again p read part (suc n) low (x ∷ xs) rest next =
    ap (read_parts read p.number (suc n) low) (first_front p.spell x xs rest)
    ∙ rw (
      (part low).again x (flat_map p.spell xs ++ rest) next.0,
      parts_again p read part n (p.number x + 1) xs rest next.1,
    ) refl

next_counted : {A : Type 0} (p : Parts A) (n low : ℕ) (xs : List A) → AreNext p n low xs
    → length xs ≡ n
next_counted p zero low [] next = refl
next_counted p zero low (x ∷ xs) next = absurd next
next_counted p (suc n) low [] next = absurd next
next_counted p (suc n) low (x ∷ xs) next = ap suc (next_counted p n (p.number x + 1) xs next.1)

-- ---- a count, and so many parts

count_takes : (most : ℕ) (bytes : List ℕ) (n : ℕ) (rest : List ℕ) → IsBytes bytes
    → read_count most bytes ≡ Ok (n, rest) → Takes bytes (n ∷ []) rest × IsCount most n
unfolding read_count
count_takes most bytes n rest fits e =
    let a =
    bind_ok (read_byte bytes) (λ c. cond (eqb c.0 0) (Err Count)
    (cond (ltb most c.0) (Err Count) (Ok c))) (n, rest) e in
    let g = guarded (eqb a.0.0 0) Count (cond (ltb most a.0.0) (Err Count) (Ok a.0))
    (n, rest) a.2 in
    let h = guarded (ltb most a.0.0) Count (Ok a.0) (n, rest) g.1 in
    let t = byte_takes bytes a.0.0 a.0.1 fits a.1 in
    let some : 1 ≤ a.0.0 = omega (arith, eqb-false a.0.0 0 g.0) in
    subst (λ (p : ℕ × List ℕ). Takes bytes (p.0 ∷ []) p.1 × IsCount most p.0)
    (ok_is a.0 (n, rest) h.1) (t.0, (some, ltb-false most a.0.0 h.0))

count_again : (most n : ℕ) (rest : List ℕ) → IsCount most n
    → read_count most (n ∷ rest) ≡ Ok (n, rest)
unfolding read_count
count_again most n rest good =
    let not_zero : eqb n 0 ≡ false = ne_eqb n 0 (λ e. omega (arith, e, good.0)) in
    let low : ltb most n ≡ false = le-ltb most n good.1 in
    rw (not_zero, low) refl

pub count_part : (most : ℕ) → Part (read_count most) (IsCount most) (λ n. n ∷ [])
count_part most = record { takes = count_takes most; again = count_again most }

pub listed : {A : Type 0} (p : Parts A) (n : ℕ) (xs : List A) → IsCount p.most n → AreNext p n 0 xs
    → IsList p xs
listed p n xs count next =
    let is : n ≡ length xs = sym (next_counted p n 0 xs next) in
    record {
      counted = subst (IsCount p.most) is count;
      next = subst (λ (k : ℕ). AreNext p k 0 xs) is next;
    }

list_takes : {A : Type 0} (p : Parts A) (read : PartReader A) → ReadsParts p read
    → (bytes : List ℕ) (xs : List A) (rest : List ℕ) → IsBytes bytes
    → read_list p.most read p.number bytes ≡ Ok (xs, rest)
    → Takes bytes (list_spelled p xs) rest × IsList p xs
unfolding read_list
list_takes p read part bytes xs rest fits e =
    let a =
    bind_ok (read_count p.most bytes) (λ c. read_parts read p.number c.0 0 c.1) (xs, rest) e in
    let first = count_takes p.most bytes a.0.0 a.0.1 fits a.1 in
    let second = parts_take p read part a.0.0 0 a.0.1 xs rest first.0.rest_fits a.2 in
    let both = Takes-then bytes (a.0.0 ∷ []) a.0.1 (flat_map p.spell xs) rest first.0 second.0 in
    let is : a.0.0 ≡ length xs = sym (next_counted p a.0.0 0 xs second.1) in (
      subst (λ (k : ℕ). Takes bytes (k ∷ flat_map p.spell xs) rest) is both,
      listed p a.0.0 xs first.1 second.1,
    )

list_again : {A : Type 0} (p : Parts A) (read : PartReader A) → ReadsParts p read
    → (xs : List A) (rest : List ℕ) → IsList p xs
    → read_list p.most read p.number (list_spelled p xs ++ rest) ≡ Ok (xs, rest)
unfolding read_list
list_again p read part xs rest list = rw (
  count_again p.most (length xs) (flat_map p.spell xs
      ++ rest) list.counted,
  parts_again p read part (length xs) 0 xs rest list.next,
) refl

pub list_part : {A : Type 0} (p : Parts A) (read : PartReader A) → ReadsParts p read
    → Part (read_list p.most read p.number) (IsList p) (list_spelled p)
list_part p read part = record { takes = list_takes p read part; again = list_again p read part }

-- ---- numbers rise

pub increasing_from_next : {A : Type 0} (p : Parts A) (n low : ℕ) (xs : List A) → AreNext p n low xs
    → IsStrictlyIncreasing (map p.number xs)
increasing_from_next p n low [] next k within = absurd (omega arith)
increasing_from_next p n low (x ∷ []) next k within = absurd (omega arith)
increasing_from_next p zero low (x ∷ y ∷ ys) next k within = absurd next
increasing_from_next p (suc zero) low (x ∷ y ∷ ys) next k within = absurd next.1
increasing_from_next p (suc (suc n)) low (x ∷ y ∷ ys) next zero within =
    let above : p.number x + 1 ≤ p.number y = next.1.0.1 in
    let less : p.number x < p.number y = omega arith in
    less
increasing_from_next p (suc (suc n)) low (x ∷ y ∷ ys) next (suc k) within =
    let after : suc k + 1 ≡ suc (k + 1) = omega arith in
    rw after (increasing_from_next p (suc n) (p.number x + 1) (y ∷ ys) next.1 k (omega arith))

pub good_from_next : {A : Type 0} (p : Parts A) (n low : ℕ) (xs : List A) → AreNext p n low xs
    → AllByRecursion p.Good xs
good_from_next p n low [] next = tt
good_from_next p zero low (x ∷ xs) next = absurd next
good_from_next p (suc n) low (x ∷ xs) next = (
  next.0.0,
  good_from_next p n (p.number x + 1) xs next.1,
)

next_after : {A : Type 0} (p : Parts A) (x : A) (xs : List A) → AllByRecursion p.Good xs
    → IsStrictlyIncreasing (map p.number (x ∷ xs)) → AreNext p (length xs) (p.number x + 1) xs
next_after p x [] good increasing = tt
next_after p x (y ∷ ys) good increasing =
    let less : p.number x < p.number y = increasing 0 (omega arith) in
    ((good.0, omega arith), next_after p y ys good.1 tail)
  where
    tail : IsStrictlyIncreasing (map p.number (y ∷ ys))
    tail k within =
        let next : suc k + 1 ≡ suc (k + 1) = omega arith in
        subst (λ (j : ℕ). slice_index (map p.number (y ∷ ys)) k < slice_index
        (map p.number (x ∷ y ∷ ys)) j) next (increasing (suc k) (omega arith))

pub next_from_increasing : {A : Type 0} (p : Parts A) (xs : List A) → AllByRecursion p.Good xs
    → IsStrictlyIncreasing (map p.number xs) → AreNext p (length xs) 0 xs
next_from_increasing p [] good increasing = tt
next_from_increasing p (x ∷ xs) good increasing =
    ((good.0, omega arith), next_after p x xs good.1 increasing)

-- ---- parts at their places

-- parts of one size, which their bytes say
pub record HasSize {A : Type 0} (p : Parts A) (size : ℕ) (one : List ℕ → A) : Type 0 where
  pub long : (x : A) → length (p.spell x) ≡ size
  pub lies : (x : A) → p.Good x → one (p.spell x) ≡ x

pub parts_long : {A : Type 0} (p : Parts A) (size : ℕ) (one : List ℕ → A) → HasSize p size one
    → (xs : List A) → length (flat_map p.spell xs) ≡ size * length xs
parts_long p size one has [] = omega arith
parts_long p size one has (x ∷ xs) =
    ap length (flat_map-cons p.spell x xs)
    ∙ omega (
      arith,
      length-append (p.spell x) (flat_map p.spell xs),
      has.long x,
      parts_long p size one has xs,
      mul-suc size (length xs),
    )

pub parts_lie : {A : Type 0} (p : Parts A) (size : ℕ) (one : List ℕ → A) → HasSize p size one
    → (xs : List A) (more : List ℕ) → AllByRecursion p.Good xs
    → parts_in size one (length xs) (flat_map p.spell xs ++ more) ≡ xs
parts_lie p size one has [] more good = refl
parts_lie p size one has (x ∷ xs) more good =
    ap (parts_in size one (suc (length xs))) (first_front p.spell x xs more)
    ∙ rw (
      take_at (p.spell x) (flat_map p.spell xs ++ more) size (has.long x),
      drop_at (p.spell x) (flat_map p.spell xs ++ more) size (has.long x),
      has.lies x good.0,
      parts_lie p size one has xs more good.1,
    ) refl

list_is : {A : Type 0} (most : ℕ) (read : PartReader A) (key : A → ℕ) (bytes : List ℕ) (count : ℕ)
    (list : List ℕ) (xs : List A) (rest : List ℕ) → read_count most bytes ≡ Ok (count, list)
    → read_parts read key count 0 list ≡ Ok (xs, rest)
    → read_list most read key bytes ≡ Ok (xs, rest)
unfolding read_list
list_is most read key bytes count list xs rest counted e = rw (counted, e) refl

pub list_lies : {A B : Type 0} (p : Parts A) (read : PartReader A) → ReadsParts p read
    → (size : ℕ) (one : List ℕ → A) → HasSize p size one
    → (say : List A → B) (bytes : List ℕ) (count : ℕ) (list : List ℕ) (said : B) (rest : List ℕ)
    → IsBytes bytes → read_count p.most bytes ≡ Ok (count, list)
    → passed say (read_parts read p.number count 0 list) ≡ Ok (said, rest)
    → Lies p (parts_in size one count list) list rest × (said ≡ say (parts_in size one count list))
    × (read_list p.most read p.number bytes ≡ Ok (parts_in size one count list, rest))
list_lies {A = A} {B = B} p read part size one has say bytes count list said rest fits counted e =
    let first = count_takes p.most bytes count list fits counted in
    let a =
    bind_ok (read_parts read p.number count 0 list) (λ x. Ok (say x.0, x.1)) (said, rest) e in
    let made : B × List ℕ = (say a.0.0, a.0.1) in
    let both : made ≡ (said, rest) = ok_is made (said, rest) a.2 in
    let behind : a.0.1 ≡ rest = ap (λ (q : B × List ℕ). q.1) both in
    let second = parts_take p read part count 0 list a.0.0 a.0.1 first.0.rest_fits a.1 in
    let len : length a.0.0 ≡ count = next_counted p count 0 a.0.0 second.1 in
    let lie : parts_in size one count list ≡ a.0.0 =
    ap (parts_in size one count) second.0.parts
    ∙ ap (λ (k : ℕ). parts_in size one k (flat_map p.spell a.0.0 ++ a.0.1)) (sym len)
    ∙ parts_lie p size one has a.0.0 a.0.1 (good_from_next p count 0 a.0.0 second.1) in
    let front : Lies p a.0.0 list rest =
    record {
      are = listed p count a.0.0 first.1 second.1;
      spelled = second.0.parts ∙ ap (λ (t : List ℕ). flat_map p.spell a.0.0 ++ t) behind;
    } in
    let read_is : read_list p.most read p.number bytes ≡ Ok (a.0.0, rest) =
    list_is p.most read p.number bytes count list a.0.0 a.0.1 counted a.1
    ∙ ap (λ (t : List ℕ). done (a.0.0, t)) behind in (
      subst (λ (xs : List A). Lies p xs list rest) (sym lie) front,
      sym (ap (λ (q : B × List ℕ). q.0) both) ∙ ap say (sym lie),
      read_is
          ∙ ap (λ (xs : List A). done (xs, rest)) (sym lie),
    )
