-- Entries of a request's frame.
use Rattle.std.proofs.Common.{◌≡◌, ℕ, zero, suc, ◌*◌, ◌^◌, ◌<◌, ◌≤◌, true, false, cond}
use Rattle.std.proofs.Common.{ltb, List, [], ◌∷◌, ◌++◌, length, Ok, Err}
use Rattle.std.proofs.Common.{refl, sym, ap, subst, ◌∙◌, append_assoc, arith}
use Rattle.std.specs.Int.{w16, w64, to_be_bytes}
use Rattle.std.specs.List.{flat_map, AllByRecursion}
use Rattle.std.proofs.lemmas.Bool.{ltb-false, le-ltb}
use Rattle.std.proofs.lemmas.List.{length-append}
use Rattle.std.proofs.lemmas.List.Elements.{All-from_recursion, recursion_from_All}
use Rattle.bip_model.specs.Wants.{IsWants}
use Rattle.bip_model.specs.declared.wants.Role.{Role}
use Rattle.bip_model.specs.declared.wants.Role.TheVariants.{Moved, Seen}
use Rattle.bip_model.specs.declared.wants.Want.{Want}
use Rattle.bip_frame.specs.declared.faults.FrameFault.TheVariants as faults
use Rattle.bip_frame.specs.declared.faults.FrameFault.TheVariants.{Order}
use Rattle.bip_frame.specs.Faults.{IsGoodEntry, IsList, list_spelled, entry_parts}
use Rattle.bip_frame.specs.Frames.{entry, role_byte, IsEntry}
use Rattle.bip_frame.specs.Lent.{role_in, want_in}
use Rattle.bip_frame.specs.Entries.{want_made, one_moves, read_rising, read_role, read_entry}
use Rattle.bip_frame.specs.Entries.{read_entries}
use Rattle.bip_frame.specs.Fields.{◌>>=◌, read_byte, read_number, read_positive}
use Rattle.bip_frame.proofs.FieldLemmas.{IsBytes, bind_ok, guarded, ok_is, Part, Takes}
use Rattle.bip_frame.proofs.FieldLemmas.{Takes-then, wide16, wide64, number_takes, number_again}
use Rattle.bip_frame.proofs.FieldLemmas.{positive_takes, positive_again, byte_takes}
use Rattle.bip_frame.proofs.PartLemmas.{HasSize, ReadsParts, good_from_next, increasing_from_next}
use Rattle.bip_frame.proofs.PartLemmas.{list_part, next_from_increasing, parts_long}

-- ---- one entry

pub rising_takes : (low : ℕ) (bytes : List ℕ) (c : ℕ) (rest : List ℕ) → IsBytes bytes
    → read_rising low bytes ≡ Ok (c, rest)
    → Takes bytes (to_be_bytes w16 c) rest × (c < 2 ^ 16) × (low ≤ c)
unfolding read_rising
rising_takes low bytes c rest fits e =
    let a =
    bind_ok (read_number w16 bytes) (λ comp. cond (ltb comp.0 low) (Err Order) (Ok comp))
    (c, rest) e in
    let g = guarded (ltb a.0.0 low) Order (Ok a.0) (c, rest) a.2 in
    let t = number_takes w16 (2 ^ 16) wide16 bytes a.0.0 a.0.1 fits a.1 in
    subst (λ (p : ℕ × List ℕ). Takes bytes (to_be_bytes w16 p.0) p.1 × (p.0 < 2 ^ 16) × (low ≤ p.0))
    (ok_is a.0 (c, rest) g.1) (t.0, t.1, ltb-false a.0.0 low g.0)

pub rising_again : (low c : ℕ) (rest : List ℕ) → c < 2 ^ 16 → low ≤ c
    → read_rising low (to_be_bytes w16 c ++ rest) ≡ Ok (c, rest)
unfolding read_rising
rising_again low c rest lt le =
    let above : ltb c low ≡ false = le-ltb c low le in
    rw (number_again w16 (2 ^ 16) wide16 c rest lt, above) refl

byte_says : (b : ℕ) → b ≤ 1 → role_byte (role_in b) ≡ b
byte_says zero le = refl
byte_says (suc zero) le = refl
byte_says (suc (suc b)) le = absurd (omega arith)

pub role_takes : (bytes : List ℕ) (r : Role) (rest : List ℕ) → IsBytes bytes
    → read_role bytes ≡ Ok (r, rest) → Takes bytes (role_byte r ∷ []) rest
unfolding read_role
role_takes bytes r rest fits e =
    let a =
    bind_ok (read_byte bytes) (λ b. cond (ltb 1 b.0) (Err faults.Role) (Ok (role_in b.0, b.1)))
    (r, rest) e in
    let g = guarded (ltb 1 a.0.0) faults.Role (Ok (role_in a.0.0, a.0.1)) (r, rest) a.2 in
    let t = byte_takes bytes a.0.0 a.0.1 fits a.1 in
    let same : role_byte (role_in a.0.0) ≡ a.0.0 = byte_says a.0.0 (ltb-false 1 a.0.0 g.0) in
    let made : Role × List ℕ = (role_in a.0.0, a.0.1) in
    subst (λ (p : Role × List ℕ). Takes bytes (role_byte p.0 ∷ []) p.1) (ok_is made (r, rest) g.1)
    (subst (λ (b : ℕ). Takes bytes (b ∷ []) a.0.1) (sym same) t.0)

pub role_again : (r : Role) (rest : List ℕ) → read_role (role_byte r ∷ rest) ≡ Ok (r, rest)
unfolding read_role
role_again Moved rest = refl
role_again Seen rest = refl

entry_takes : (low : ℕ) (bytes : List ℕ) (w : Want) (rest : List ℕ) → IsBytes bytes
    → read_entry low bytes ≡ Ok (w, rest)
    → Takes bytes (entry w) rest × IsEntry w × (1 ≤ w.number) × (low ≤ w.comp.0)
unfolding read_entry
entry_takes low bytes w rest fits e =
    let a =
    bind_ok (read_rising low bytes) (λ comp. read_role comp.1 >>= λ role. read_positive role.1 >>=
    λ number. Ok (want_made comp.0 role.0 number.0, number.1)) (w, rest) e in
    let b =
    bind_ok (read_role a.0.1) (λ role. read_positive role.1 >>= λ number.
    Ok (want_made a.0.0 role.0 number.0, number.1)) (w, rest) a.2 in
    let c =
    bind_ok (read_positive b.0.1) (λ number. Ok (want_made a.0.0 b.0.0 number.0, number.1))
    (w, rest) b.2 in
    let t0 = rising_takes low bytes a.0.0 a.0.1 fits a.1 in
    let t1 = role_takes a.0.1 b.0.0 b.0.1 t0.0.rest_fits b.1 in
    let t2 = positive_takes b.0.1 c.0.0 c.0.1 t1.rest_fits c.1 in
    let e12 = Takes-then a.0.1 (role_byte b.0.0 ∷ []) b.0.1 (to_be_bytes w64 c.0.0) c.0.1 t1 t2.0 in
    let e02 =
    Takes-then bytes (to_be_bytes w16 a.0.0) a.0.1
    (role_byte b.0.0 ∷ to_be_bytes w64 c.0.0) c.0.1 t0.0 e12 in
    let made : Want × List ℕ = (want_made a.0.0 b.0.0 c.0.0, c.0.1) in
    subst (λ (p : Want × List ℕ). Takes bytes (entry p.0) p.1 × IsEntry p.0 × (1 ≤ p.0.number)
    × (low ≤ p.0.comp.0)) (ok_is made (w, rest) c.2)
    (e02, record { comp = t0.1; number = t2.2 }, t2.1, t0.2)

pub too_few : (low : ℕ) (bytes : List ℕ) (w : Want) (rest : List ℕ) → IsBytes bytes
    → length bytes < 11 → read_entry low bytes ≡ Ok (w, rest) → ⊥
too_few low bytes w rest fits few e = omega (
  arith,
  few,
  ap length (entry_takes low bytes w rest fits e).0.parts,
  length-append (entry w) rest,
)

entry_again : (low : ℕ) (w : Want) (rest : List ℕ) → IsEntry w → 1 ≤ w.number → low ≤ w.comp.0
    → read_entry low (entry w ++ rest) ≡ Ok (w, rest)
unfolding read_entry
entry_again low w rest fits some le =
    let regrouped : entry w ++ rest
    ≡ to_be_bytes w16 w.comp.0 ++ (role_byte w.role ∷ (to_be_bytes w64 w.number ++ rest)) =
    append_assoc (to_be_bytes w16 w.comp.0) (role_byte w.role ∷ to_be_bytes w64 w.number) rest in
    ap (read_entry low) regrouped ∙ rw (
      rising_again low w.comp.0 (role_byte w.role
          ∷ (to_be_bytes w64 w.number ++ rest)) fits.comp le,
      role_again w.role
          (to_be_bytes w64 w.number ++ rest),
      positive_again w.number rest some fits.number,
    ) refl

role_lies : (r : Role) → role_in (role_byte r) ≡ r
role_lies Moved = refl
role_lies Seen = refl

same_want : (c d n k : ℕ) (r t : Role) → c ≡ d → r ≡ t → n ≡ k → want_made c r n ≡ want_made d t k
same_want c d n k r t comps roles numbers = rw (comps, roles, numbers) refl

want_again : (w : Want) → IsEntry w → want_in (entry w) ≡ w
want_again w fits = same_want _ _ _ _ _ _ (wide16.again w.comp.0 fits.comp) (role_lies w.role)
    (wide64.again w.number fits.number)

entry_lies : (w : Want) → IsGoodEntry w → want_in (entry w) ≡ w
entry_lies w good = want_again w good.fits

pub entry_part : ReadsParts entry_parts read_entry
entry_part low = record {
  takes = λ bytes w rest fits e. (let t = entry_takes low bytes w rest fits e in
      (t.0, (record { fits = t.1; some = t.2 }, t.3)));
  again = λ w rest good. entry_again low w rest good.0.fits good.0.some good.1;
}

pub entry_size : HasSize entry_parts 11 want_in
entry_size = record { long = λ w. refl; lies = entry_lies }

-- ---- all entries

abbrev pub entries_spelled : List Want → List ℕ
entries_spelled ws = flat_map entry ws

pub entries_long : (ws : List Want) → length (entries_spelled ws) ≡ 11 * length ws
entries_long ws = parts_long entry_parts 11 want_in entry_size ws

numbers_some : (ws : List Want) → AllByRecursion IsGoodEntry ws
    → AllByRecursion (λ (w : Want). 1 ≤ w.number) ws
numbers_some [] good = tt
numbers_some (w ∷ ws) good = (good.0.some, numbers_some ws good.1)

numbers_fit : (ws : List Want) → AllByRecursion IsGoodEntry ws → AllByRecursion IsEntry ws
numbers_fit [] good = tt
numbers_fit (w ∷ ws) good = (good.0.fits, numbers_fit ws good.1)

both_good : (ws : List Want) → AllByRecursion IsEntry ws
    → AllByRecursion (λ (w : Want). 1 ≤ w.number) ws → AllByRecursion IsGoodEntry ws
both_good [] fit some = tt
both_good (w ∷ ws) fit some = (record { fits = fit.0; some = some.0 }, both_good ws fit.1 some.1)

-- entries without fault are the wants of one grant, where one of them moves its component
pub are_wants : (ws : List Want) → IsList entry_parts ws → one_moves ws ≡ true → IsWants ws
are_wants ws list moving = record {
  few = list.counted.1;
  rising = increasing_from_next entry_parts (length ws) 0 ws list.next;
  numbered = All-from_recursion (λ (w : Want). 1 ≤ w.number) ws
      (numbers_some ws (good_from_next entry_parts (length ws) 0 ws list.next));
  moving = moving;
}

pub entries_fit : (ws : List Want) → IsList entry_parts ws → AllByRecursion IsEntry ws
entries_fit ws list = numbers_fit ws (good_from_next entry_parts (length ws) 0 ws list.next)

pub some_wants : (ws : List Want) → one_moves ws ≡ true → 1 ≤ length ws
some_wants [] moving = absurd cc
some_wants (w ∷ ws) moving = omega arith

pub wants_listed : (ws : List Want) → IsWants ws → AllByRecursion IsEntry ws → IsList entry_parts ws
wants_listed ws are fits = record {
  counted = (some_wants ws are.moving, are.few);
  next = next_from_increasing entry_parts ws (both_good ws fits
      (recursion_from_All (λ (w : Want). 1 ≤ w.number) ws are.numbered)) are.rising;
}

pub entries_list : Part read_entries (IsList entry_parts) (list_spelled entry_parts)
entries_list = list_part entry_parts read_entry entry_part
