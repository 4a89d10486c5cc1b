-- Passing parts one after the other, as a loop does.
use Rattle.std.proofs.Common.{◌≡◌, ℕ, suc, ◌-◌, ◌+◌, ◌≤◌, ◌<◌, Bool, true, false, List, [], ◌∷◌}
use Rattle.std.proofs.Common.{Result, Ok, Err, refl, sym, ◌∙◌, arith}
use Rattle.std.specs.Prelude.{◌||◌}
use Rattle.bip_model.specs.Wants.{is_moved}
use Rattle.bip_model.specs.declared.wants.Want.{Want}
use Rattle.bip_frame.specs.declared.faults.FrameFault.{FrameFault}
use Rattle.bip_frame.specs.Entries.{PartReader, one_moves, passed, read_parts}
use Rattle.bip_frame.specs.Fields.{◌>>=◌}

regroup : {A B : Type 0} (say next : List A → B) (x : A)
    → ((xs : List A) → next xs ≡ say (x ∷ xs)) → (read : Result (List A × List ℕ) FrameFault)
    → passed say (read >>= λ y. Ok (x ∷ y.0, y.1)) ≡ passed next read
regroup say next x same (Ok y) = rw (same y.0) refl
regroup say next x same (Err f) = refl

-- one part more is passed: what is said of the others is said with it
pub goes_on : {A B : Type 0} (read : PartReader A) (key : A → ℕ) (say next : List A → B)
    (count i low : ℕ) (bytes : List ℕ) (x : A) (after : List ℕ)
    (total : Result (B × List ℕ) FrameFault) → ((xs : List A) → next xs ≡ say (x ∷ xs))
    → i < count → read low bytes ≡ Ok (x, after)
    → passed say (read_parts read key (count - i) low bytes) ≡ total
    → passed next (read_parts read key (count - (i + 1)) (key x + 1) after) ≡ total
unfolding read_parts
goes_on read key say next count i low bytes x after total same lt h so_far =
    let k : count - i ≡ suc (count - (i + 1)) = omega arith in
    let one : passed say (read_parts read key (count - i) low bytes)
    ≡ passed next (read_parts read key (count - (i + 1)) (key x + 1) after) =
    rw (k, h) (regroup say next x same (read_parts read key (count - (i + 1)) (key x + 1) after)) in
    sym one ∙ so_far

pub ends : {A B : Type 0} (read : PartReader A) (key : A → ℕ) (say : List A → B) (f : FrameFault)
    (count i low : ℕ) (bytes : List ℕ) (total : Result (B × List ℕ) FrameFault) → i < count
    → read low bytes ≡ Err f → passed say (read_parts read key (count - i) low bytes) ≡ total
    → total ≡ Err f
unfolding read_parts
ends read key say f count i low bytes total lt h so_far =
    let k : count - i ≡ suc (count - (i + 1)) = omega arith in
    let one : passed say (read_parts read key (count - i) low bytes) ≡ Err f = rw (k, h) refl in
    sym so_far ∙ one

pub is_done : {A B : Type 0} (read : PartReader A) (key : A → ℕ) (say : List A → B)
    (count i low : ℕ) (bytes : List ℕ) (total : Result (B × List ℕ) FrameFault) → count ≤ i
    → passed say (read_parts read key (count - i) low bytes) ≡ total → total ≡ Ok (say [], bytes)
unfolding read_parts
is_done read key say count i low bytes total le so_far =
    let k : count - i ≡ 0 = omega arith in
    let one : passed say (read_parts read key (count - i) low bytes) ≡ Ok (say [], bytes) =
    rw k refl in
    sym so_far ∙ one

-- whether one moved before, or one of these does
abbrev pub moved_or : Bool → List Want → Bool
moved_or moved ws = moved || one_moves ws

either : (a b c : Bool) → ((a || b) || c) ≡ (a || (b || c))
either true b c = refl
either false b c = refl

pub one_more_moves : (moved : Bool) (w : Want) (ws : List Want)
    → moved_or (moved || is_moved w.role) ws ≡ moved_or moved (w ∷ ws)
one_more_moves moved w ws = either moved (is_moved w.role) (one_moves ws)

pub no_more : (moved : Bool) → moved_or moved [] ≡ moved
no_more true = refl
no_more false = refl
