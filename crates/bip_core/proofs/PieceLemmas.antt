-- Lists in pieces: what is read, taken out or put last in one piece is so in the whole.
use Rattle.std.proofs.Common.{◌≡◌, ℕ, suc, zero, ◌+◌, ◌-◌, ◌<◌, List, [], ◌∷◌, ◌++◌, length, get_or}
use Rattle.std.proofs.Common.{set, take}
use Rattle.std.proofs.Common.{refl, sym, ap, ◌∙◌, subst, append_assoc, slice_get, Some, arith}
use Rattle.std.specs.Global.{Vec}
use Rattle.std.specs.List.{flat_map, remove}
use Rattle.std.specs.Prelude.{Err, IsOk, Ok, OnErr, Result, if◌then◌else◌, is_ok}
use Rattle.std.proofs.Math.Nat.{zero-add}
use Rattle.std.proofs.lemmas.Bool.{false≢true}
use Rattle.std.proofs.lemmas.List.{append-nil, get_or_read, length-append}
use Rattle.std.proofs.lemmas.List.Concat.{get_or-flat_map}
use Rattle.std.proofs.lemmas.List.Edits.{remove-append_left, remove-append_right}
use Rattle.std.proofs.lemmas.Option.{slice_get-get_or}
use Rattle.bip_core.specs.Mailbags.{IsPlaceIn, in_chunks, of_chunk}
use Rattle.bip_core.specs.declared.messages.Message.{Message}

-- what is read in a piece stands there in the whole
pub found_in : {X T : Type 0} (of : X → List T) (xs : List X) (before i j : ℕ) (e : X) (m : T)
    → before < length (flat_map of xs)
    → IsPlaceIn of xs before i j → m ≡ get_or (of (get_or xs i e)) j m
    → slice_get (flat_map of xs) before ≡ Some m
found_in {X} {T} of xs before i j e m h place read =
    let there : get_or (flat_map of xs) (length (flat_map of (take i xs)) + j) m ≡ get_or
    (of (get_or xs i e)) j m = get_or-flat_map of xs i j e m place.piece_is
    (place.within_is e) in
    slice_get-get_or (flat_map of xs) before m h
    ∙ ap Some (subst (λ (n : ℕ). get_or (flat_map of xs) n m ≡ get_or (of (get_or xs i e)) j m)
    place.before_is there ∙ sym read)

-- what is taken out of a piece is taken out of the whole
taken_after : {X T : Type 0} (of : X → List T) (xs : List X) (i j : ℕ) (y e : X) → i < length xs
    → j < length (of (get_or xs i e))
    → of y ≡ remove (of (get_or xs i e)) j → flat_map of (set xs i y) ≡ remove (flat_map of xs)
    (length (flat_map of (take i xs)) + j)
taken_after of [] i j y e h within is = absurd (omega arith)
taken_after {X} {T} of (x ∷ xs) zero j y e h within is =
    ap (λ (ms : List T). ms ++ flat_map of xs) is
    ∙ sym (remove-append_left (of x) (flat_map of xs) j within)
    ∙ ap (λ (n : ℕ). remove (of x ++ flat_map of xs) n) (sym (zero-add j))
taken_after {X} {T} of (x ∷ xs) (suc i) j y e h within is =
    let n : ℕ = length (flat_map of (take i xs)) + j in
    let later : flat_map of (set xs i y) ≡ remove (flat_map of xs) n =
    taken_after of xs i j y e (omega arith) within is in
    let behind : remove (of x ++ flat_map of xs) (length (of x) + n) ≡ of x ++ remove
    (flat_map of xs) (length (of x) + n - length (of x)) =
    remove-append_right (of x) (flat_map of xs) (length (of x)) (length (of x) + n) refl
    (omega arith) in
    let off : length (of x) + n - length (of x) ≡ n = omega arith in
    let long : length (of x) + n ≡ length (of x ++ flat_map of (take i xs)) + j =
    omega (arith, length-append (of x) (flat_map of (take i xs))) in
    ap (λ (ms : List T). of x ++ ms) (later ∙ ap (λ (k : ℕ). remove (flat_map of xs) k) (sym off))
    ∙ sym behind ∙ ap (λ (k : ℕ). remove (of x ++ flat_map of xs) k) long

pub taken_in : {X T : Type 0} (of : X → List T) (xs : List X) (before i j : ℕ) (y e : X)
    → IsPlaceIn of xs before i j
    → of y ≡ remove (of (get_or xs i e)) j → flat_map of (set xs i y) ≡ remove
    (flat_map of xs) before
taken_in {X} {T} of xs before i j y e place is =
    subst (λ (n : ℕ). flat_map of (set xs i y) ≡ remove (flat_map of xs) n) place.before_is
    (taken_after of xs i j y e place.piece_is (place.within_is e) is)

-- what is put last in the last piece is last in the whole
pub put_in : {X T : Type 0} (of : X → List T) (xs : List X) (i : ℕ) (y e : X) (m : T)
    → i + 1 ≡ length xs
    → of y ≡ of (get_or xs i e) ++ m ∷ [] → flat_map of (set xs i y) ≡ flat_map of xs ++ m ∷ []
put_in of [] i y e m h is = absurd (omega arith)
put_in {X} {T} of (x ∷ []) zero y e m h is =
    append-nil (of y) ∙ is ∙ ap (λ (ms : List T). ms ++ m ∷ []) (sym (append-nil (of x)))
put_in of (x ∷ x' ∷ xs) zero y e m h is = absurd (omega arith)
put_in {X} {T} of (x ∷ xs) (suc i) y e m h is =
    ap (λ (ms : List T). of x ++ ms) (put_in of xs i y e m (omega arith) is)
    ∙ sym (append_assoc (of x) (flat_map of xs) (m ∷ []))

-- another piece with the same
pub same_in : {X T : Type 0} (of : X → List T) (xs : List X) (i : ℕ) (y e : X) → i < length xs
    → of y ≡ of (get_or xs i e) → flat_map of (set xs i y) ≡ flat_map of xs
same_in of [] i y e h is = absurd (omega arith)
same_in {X} {T} of (x ∷ xs) zero y e h is = ap (λ (ms : List T). ms ++ flat_map of xs) is
same_in {X} {T} of (x ∷ xs) (suc i) y e h is =
    ap (λ (ms : List T). of x ++ ms) (same_in of xs i y e (omega arith) is)

-- without a piece that has nothing
pub left_out : {X T : Type 0} (of : X → List T) (xs : List X) (i : ℕ) (e : X) → i < length xs
    → of (get_or xs i e) ≡ []
    → flat_map of (remove xs i) ≡ flat_map of xs
left_out of [] i e h none = absurd (omega arith)
left_out {X} {T} of (x ∷ xs) zero e h none = sym (ap (λ (ms : List T). ms ++ flat_map of xs) none)
left_out {X} {T} of (x ∷ xs) (suc i) e h none =
    ap (λ (ms : List T). of x ++ ms) (left_out of xs i e (omega arith) none)

-- with a piece that has what the next one had too, which left
joined_after : {X T : Type 0} (of : X → List T) (xs : List X) (i : ℕ) (y e : X) → suc i < length xs
    → of y ≡ of (get_or xs i e) ++ of (get_or xs (suc i) e)
    → flat_map of (set (remove xs (suc i)) i y) ≡ flat_map of xs
joined_after of [] i y e h is = absurd (omega arith)
joined_after of (x ∷ []) i y e h is = absurd (omega arith)
joined_after {X} {T} of (x ∷ x' ∷ xs) zero y e h is =
    ap (λ (ms : List T). ms ++ flat_map of xs) is ∙ append_assoc (of x) (of x') (flat_map of xs)
joined_after {X} {T} of (x ∷ xs) (suc i) y e h is =
    ap (λ (ms : List T). of x ++ ms) (joined_after of xs i y e (omega arith) is)

pub joined_in : {X T : Type 0} (of : X → List T) (xs : List X) (i j : ℕ) (y e : X) → j < length xs
    → j ≡ suc i
    → of y ≡ of (get_or xs i e) ++ of (get_or xs j e)
    → flat_map of (set (remove xs j) i y) ≡ flat_map of xs
joined_in {X} {T} of xs i j y e h next is =
    let within : suc i < length xs = omega arith in
    let both : of y ≡ of (get_or xs i e) ++ of (get_or xs (suc i) e) =
    subst (λ (k : ℕ). of y ≡ of (get_or xs i e) ++ of (get_or xs k e)) next is in
    subst (λ (k : ℕ). flat_map of (set (remove xs k) i y) ≡ flat_map of xs) (sym next)
    (joined_after of xs i y e within both)

-- the same, of chunks
pub joined_chunks : (xs : List (Vec Message)) (i j : ℕ) (m r y : Vec Message) → j < length xs
    → j ≡ suc i → m ≡ get_or xs i m → r ≡ get_or xs j r
    → y.items ≡ m.items ++ r.items → in_chunks (set (remove xs j) i y) ≡ in_chunks xs
joined_chunks xs i j m r y h next here there both =
    let right : r ≡ get_or xs j m = get_or_read xs j r h there m in
    let parts : m.items ++ r.items ≡ of_chunk (get_or xs i m) ++ of_chunk (get_or xs j m) =
    ap (λ (u : Vec Message). u.items ++ r.items) here
    ∙ ap (λ (u : Vec Message). of_chunk (get_or xs i m) ++ u.items) right in
    joined_in of_chunk xs i j y m h next (both ∙ parts)

-- what holds after a call that succeeded, and after one that may have failed
pub all_moved : {T E X : Type 0} (r : Result T E) (xs ys zs : List X) → IsOk r
    → zs ≡ (if is_ok r then xs ++ ys else xs) → zs ≡ xs ++ ys
all_moved (Ok x) xs ys zs ok is = is
all_moved (Err e) xs ys zs ok is = absurd (false≢true ok)

pub on_err : {T E : Type 0} {P : Type 0} (r : Result T E) → P → OnErr r P
on_err (Ok x) p = tt
on_err (Err e) p = p
