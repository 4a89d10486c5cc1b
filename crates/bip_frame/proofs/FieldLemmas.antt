-- A field that is read is the field that was written, and what was written is read again.
use Rattle.std.proofs.Common.{◌≡◌, ℕ, zero, suc, ◌+◌, ◌*◌, ◌^◌, ◌<◌, ◌≤◌, Bool, true, false, cond}
use Rattle.std.proofs.Common.{eqb, ltb, List, [], ◌∷◌, ◌++◌, length, get_or, take, drop, Result, Ok}
use Rattle.std.proofs.Common.{Err, refl, sym, ap, subst, ◌∙◌, append_assoc, arith, inl, inr}
use Rattle.std.specs.Int.{Width, w16, w32, w64, byte_len, from_be_bytes, to_be_bytes}
use Rattle.std.specs.List.{flat_map, AllByRecursion}
use Rattle.std.proofs.lemmas.Bool.{cases_lt, eqb-false, ltb-false, le-ltb, ne_eqb}
use Rattle.std.proofs.lemmas.List.{take_at, drop_at, take-append-drop, length-append, length-drop}
use Rattle.std.proofs.lemmas.List.{length-take, get_or-drop, get_or-take, get_or_past}
use Rattle.std.proofs.lemmas.List.{nil_from_length}
use Rattle.std.proofs.lemmas.List.Concat.{flat_map-cons}
use Rattle.std.proofs.lemmas.Nat.{be_bytes_2, be_bytes_4, be_bytes_8, from_be_bytes-to_be_bytes_2}
use Rattle.std.proofs.lemmas.Nat.{from_be_bytes-to_be_bytes_4, from_be_bytes-to_be_bytes_8}
use Rattle.bip_frame.specs.declared.faults.FrameFault.{FrameFault}
use Rattle.bip_frame.specs.declared.faults.FrameFault.TheVariants.{Short, Count, ZeroNumber, PortNo}
use Rattle.bip_frame.specs.Frames.{Head, counted_values, head_fields, IsHead}
use Rattle.bip_frame.specs.Lent.{values_in}
use Rattle.bip_frame.specs.Fields.{head_made, ◌>>=◌, read_byte, read_number, read_positive}
use Rattle.bip_frame.specs.Fields.{read_port, read_values, read_head}

abbrev pub IsBytes : List ℕ → Type 0
IsBytes bytes = (i : ℕ) → get_or bytes i 0 < 256

pub IsBytes-drop : (n : ℕ) (bytes : List ℕ) → IsBytes bytes → IsBytes (drop n bytes)
IsBytes-drop n bytes h i = rw get_or-drop (h (n + i))

pub IsBytes-take : (n : ℕ) (bytes : List ℕ) → IsBytes bytes → IsBytes (take n bytes)
IsBytes-take n bytes h i =
    elim (cases_lt i n) [
      | inl lt ↦ rw (get_or-take n bytes i 0 lt) (h i)
      | inr le ↦ rw (get_or_past (take n bytes) i 0 (omega (arith, length-take n bytes)))
          (omega arith)
    ]

pub IsBytes-rest : (b : ℕ) (bytes : List ℕ) → IsBytes (b ∷ bytes) → IsBytes bytes
IsBytes-rest b bytes h i = h (suc i)

-- the value of a step that did not fail
pub bind_ok : {A B : Type 0} (r : Result A FrameFault) (f : A → Result B FrameFault) (y : B)
    → (r >>= f) ≡ Ok y → (x : A) × (r ≡ Ok x) × (f x ≡ Ok y)
bind_ok (Ok x) f y e = (x, refl, e)
bind_ok (Err d) f y e = absurd cc

-- a test that did not fail
pub guarded : {A : Type 0} (b : Bool) (d : FrameFault) (r : Result A FrameFault) (y : A)
    → cond b (Err d) r ≡ Ok y → (b ≡ false) × (r ≡ Ok y)
guarded true d r y e = absurd cc
guarded false d r y e = (refl, e)

pub allowed : {A : Type 0} (b : Bool) (d : FrameFault) (r : Result A FrameFault) (y : A)
    → cond b r (Err d) ≡ Ok y → (b ≡ true) × (r ≡ Ok y)
allowed true d r y e = (refl, e)
allowed false d r y e = absurd cc

abbrev pub done : {A : Type 0} → A → Result A FrameFault
done x = Ok x

pub ok_is : {A : Type 0} (x y : A) → done x ≡ done y → x ≡ y
ok_is x y e = cc

-- what a reader took from the front
pub record Takes (bytes text rest : List ℕ) : Type 0 where
  pub parts : bytes ≡ text ++ rest
  pub rest_fits : IsBytes rest

pub Takes-then : (a x b y c : List ℕ) → Takes a x b → Takes b y c → Takes a (x ++ y) c
Takes-then a x b y c p q = record {
  parts = p.parts ∙ ap (λ (t : List ℕ). x
      ++ t) q.parts ∙ sym (append_assoc x y c);
  rest_fits = q.rest_fits;
}

-- a reader takes just the good parts
pub record Part {A : Type 0} (read : List ℕ → Result (A × List ℕ) FrameFault) (Good : A → Type 0)
    (spell : A → List ℕ) : Type 0 where
  pub takes : (bytes : List ℕ) (x : A) (rest : List ℕ) → IsBytes bytes → read bytes ≡ Ok (x, rest)
      → Takes bytes (spell x) rest × Good x
  pub again : (x : A) (rest : List ℕ) → Good x → read (spell x ++ rest) ≡ Ok (x, rest)

-- ---- numbers

pub record IsWide (w : Width) (limit : ℕ) : Type 0 where
  pub len : (n : ℕ) → length (to_be_bytes w n) ≡ byte_len w
  pub back : (bytes : List ℕ) → length bytes ≡ byte_len w → IsBytes bytes
      → to_be_bytes w (from_be_bytes w bytes) ≡ bytes
  pub again : (n : ℕ) → n < limit → from_be_bytes w (to_be_bytes w n) ≡ n
  pub below : (bytes : List ℕ) → IsBytes bytes → from_be_bytes w bytes < limit

pub wide16 : IsWide w16 (2 ^ 16)
wide16 = record {
  len = λ n. refl;
  back = λ bytes len fits. be_bytes_2 bytes _ len fits refl;
  again = λ n lt. from_be_bytes-to_be_bytes_2 n lt;
  below = λ bytes fits. omega (arith, fits 0, fits 1);
}

pub wide32 : IsWide w32 (2 ^ 32)
wide32 = record {
  len = λ n. refl;
  back = λ bytes len fits. be_bytes_4 bytes _ len fits refl;
  again = λ n lt. from_be_bytes-to_be_bytes_4 n lt;
  below = λ bytes fits. omega (arith, fits 0, fits 1, fits 2, fits 3);
}

pub wide64 : IsWide w64 (2 ^ 64)
wide64 = record {
  len = λ n. refl;
  back = λ bytes len fits. be_bytes_8 bytes _ len fits refl;
  again = λ n lt. from_be_bytes-to_be_bytes_8 n lt;
  below = λ bytes fits. omega (
    arith,
    fits 0,
    fits 1,
    fits 2,
    fits 3,
    fits 4,
    fits 5,
    fits 6,
    fits 7,
  );
}

pub number_takes : (w : Width) (limit : ℕ) (wide : IsWide w limit) (bytes : List ℕ) (n : ℕ)
    (rest : List ℕ) → IsBytes bytes → read_number w bytes ≡ Ok (n, rest)
    → Takes bytes (to_be_bytes w n) rest × (n < limit)
number_takes w limit wide bytes n rest fits e =
    let g =
    guarded (ltb (length bytes) (byte_len w)) Short
    (Ok (from_be_bytes w (take (byte_len w) bytes), drop (byte_len w) bytes)) (n, rest) e in
    let long : byte_len w ≤ length bytes = ltb-false _ _ g.0 in
    let same : (from_be_bytes w (take (byte_len w) bytes), drop (byte_len w) bytes) ≡ (n, rest) =
    ok_is (from_be_bytes w (take (byte_len w) bytes), drop (byte_len w) bytes) (n, rest) g.1 in
    let n-is : from_be_bytes w (take (byte_len w) bytes) ≡ n = ap (λ (p : ℕ × List ℕ). p.0) same in
    let rest-is : drop (byte_len w) bytes ≡ rest = ap (λ (p : ℕ × List ℕ). p.1) same in
    let front : to_be_bytes w n ≡ take (byte_len w) bytes =
    rw (← n-is) (wide.back (take (byte_len w) bytes) (omega (arith, length-take (byte_len w) bytes))
    (IsBytes-take (byte_len w) bytes fits)) in (
      record {
        parts = rw (front, ← rest-is) (sym (take-append-drop (byte_len w) bytes));
        rest_fits = rw (← rest-is) (IsBytes-drop (byte_len w) bytes fits);
      },
      rw (← n-is)
          (wide.below (take (byte_len w) bytes) (IsBytes-take (byte_len w) bytes fits)),
    )

pub number_again : (w : Width) (limit : ℕ) (wide : IsWide w limit) (n : ℕ) (rest : List ℕ)
    → n < limit → read_number w (to_be_bytes w n ++ rest) ≡ Ok (n, rest)
number_again w limit wide n rest lt =
    let len = wide.len n in
    let long : ltb (length (to_be_bytes w n ++ rest)) (byte_len w) ≡ false =
    le-ltb _ _ (omega (arith, length-append (to_be_bytes w n) rest)) in
    rw (
      long,
      take_at (to_be_bytes w n) rest (byte_len w) len,
      drop_at (to_be_bytes w n) rest (byte_len w) len,
      wide.again n lt,
    ) refl

pub positive_takes : (bytes : List ℕ) (n : ℕ) (rest : List ℕ) → IsBytes bytes
    → read_positive bytes ≡ Ok (n, rest)
    → Takes bytes (to_be_bytes w64 n) rest × (1 ≤ n) × (n < 2 ^ 64)
unfolding read_positive
positive_takes bytes n rest fits e =
    let a =
    bind_ok (read_number w64 bytes) (λ n. cond (eqb n.0 0) (Err ZeroNumber) (Ok n)) (n, rest) e in
    let g = guarded (eqb a.0.0 0) ZeroNumber (Ok a.0) (n, rest) a.2 in
    let t = number_takes w64 (2 ^ 64) wide64 bytes a.0.0 a.0.1 fits a.1 in
    let some : 1 ≤ a.0.0 = omega (arith, eqb-false a.0.0 0 g.0) in
    subst (λ (p : ℕ × List ℕ). Takes bytes (to_be_bytes w64 p.0) p.1 × (1 ≤ p.0) × (p.0 < 2 ^ 64))
    (ok_is a.0 (n, rest) g.1) (t.0, some, t.1)

pub positive_again : (n : ℕ) (rest : List ℕ) → 1 ≤ n → n < 2 ^ 64
    → read_positive (to_be_bytes w64 n ++ rest) ≡ Ok (n, rest)
unfolding read_positive
positive_again n rest some lt =
    let not_zero : eqb n 0 ≡ false = ne_eqb n 0 (λ e. omega (arith, e)) in
    rw (number_again w64 (2 ^ 64) wide64 n rest lt, not_zero) refl

pub byte_takes : (bytes : List ℕ) (b : ℕ) (rest : List ℕ) → IsBytes bytes
    → read_byte bytes ≡ Ok (b, rest) → Takes bytes (b ∷ []) rest × (b < 256)
byte_takes [] b rest fits e = absurd cc
byte_takes (a ∷ bytes) b rest fits e =
    subst (λ (p : ℕ × List ℕ). Takes (a ∷ bytes) (p.0 ∷ []) p.1 × (p.0 < 256))
    (ok_is (a, bytes) (b, rest) e) (
      record {
        parts = refl;
        rest_fits = IsBytes-rest a bytes fits;
      },
      fits 0,
    )

pub port_takes : (bytes : List ℕ) (b : ℕ) (rest : List ℕ) → IsBytes bytes
    → read_port bytes ≡ Ok (b, rest) → Takes bytes (b ∷ []) rest × (b < 16)
unfolding read_port
port_takes bytes b rest fits e =
    let a = bind_ok (read_byte bytes) (λ p. cond (ltb 15 p.0) (Err PortNo) (Ok p)) (b, rest) e in
    let g = guarded (ltb 15 a.0.0) PortNo (Ok a.0) (b, rest) a.2 in
    let t = byte_takes bytes a.0.0 a.0.1 fits a.1 in
    let low : a.0.0 < 16 = omega (arith, ltb-false 15 a.0.0 g.0) in
    subst (λ (p : ℕ × List ℕ). Takes bytes (p.0 ∷ []) p.1 × (p.0 < 16)) (ok_is a.0 (b, rest) g.1)
    (t.0, low)

pub port_again : (b : ℕ) (rest : List ℕ) → b < 16 → read_port (b ∷ rest) ≡ Ok (b, rest)
unfolding read_port
port_again b rest lt = let low : ltb 15 b ≡ false = le-ltb 15 b (omega arith) in rw low refl

-- ---- values

pub values_spelled : (n : ℕ) (bytes : List ℕ) → IsBytes bytes → length bytes ≡ 4 * n
    → (flat_map (to_be_bytes w32) (values_in n bytes) ≡ bytes) × (length (values_in n bytes) ≡ n)
    × AllByRecursion (λ v. v < 2 ^ 32) (values_in n bytes)
values_spelled zero bytes fits len = (sym (nil_from_length bytes (omega arith)), refl, tt)
values_spelled (suc n) bytes fits len =
    let others =
    values_spelled n (drop 4 bytes) (IsBytes-drop 4 bytes fits)
    (omega (arith, length-drop 4 bytes)) in
    let first : ℕ = from_be_bytes w32 (take 4 bytes) in
    let values : List ℕ = values_in n (drop 4 bytes) in
    let front : to_be_bytes w32 first ≡ take 4 bytes =
    wide32.back (take 4 bytes) (omega (arith, length-take 4 bytes)) (IsBytes-take 4 bytes fits) in
    let whole : flat_map (to_be_bytes w32) (first ∷ values) ≡ bytes =
    flat_map-cons (to_be_bytes w32) first values
    ∙ ap (λ (t : List ℕ). t ++ flat_map (to_be_bytes w32) values) front
    ∙ ap (λ (t : List ℕ). take 4 bytes ++ t) others.0 ∙ take-append-drop 4 bytes in
    (whole, ap suc others.1, (wide32.below (take 4 bytes) (IsBytes-take 4 bytes fits), others.2))

pub values_again : (values : List ℕ) → AllByRecursion (λ v. v < 2 ^ 32) values
    → values_in (length values) (flat_map (to_be_bytes w32) values) ≡ values
values_again [] fits = refl
values_again (v ∷ values) fits =
    let open_front : values_in (suc (length values)) (flat_map (to_be_bytes w32) (v ∷ values))
    ≡ values_in (suc (length values)) (to_be_bytes w32 v ++ flat_map (to_be_bytes w32) values) =
    ap (values_in (suc (length values))) (flat_map-cons (to_be_bytes w32) v values) in
    open_front ∙ ap (λ (x : ℕ). x ∷ values_in (length values) (flat_map (to_be_bytes w32) values))
    (wide32.again v fits.0) ∙ ap (λ (xs : List ℕ). v ∷ xs) (values_again values fits.1)

pub values_long : (values : List ℕ) → length (flat_map (to_be_bytes w32) values) ≡ 4 * length values
values_long [] = refl
values_long (v ∷ values) = ap length (flat_map-cons (to_be_bytes w32) v values)
    ∙ omega (
      arith,
      length-append (to_be_bytes w32 v) (flat_map (to_be_bytes w32) values),
      values_long values,
      wide32.len v,
    )

pub values_take : (bytes values rest : List ℕ) → IsBytes bytes
    → read_values bytes ≡ Ok (values, rest)
    → Takes bytes (counted_values values) rest × (length values ≤ 8)
    × AllByRecursion (λ v. v < 2 ^ 32) values
unfolding read_values
values_take [] values rest fits e = absurd cc
values_take (n ∷ more) values rest fits e =
    let front : List ℕ = take (4 * n) more in
    let after : List ℕ = drop (4 * n) more in
    let made : List ℕ × List ℕ = (values_in n front, after) in
    let few =
    guarded (ltb 8 n) Count (cond (ltb (length more) (4 * n)) (Err Short) (Ok made))
    (values, rest) e in
    let long = guarded (ltb (length more) (4 * n)) Short (Ok made) (values, rest) few.1 in
    let enough : 4 * n ≤ length more = ltb-false (length more) (4 * n) long.0 in
    let len : length front ≡ 4 * n = omega (arith, length-take (4 * n) more) in
    let more_fits = IsBytes-rest n more fits in
    let lie = values_spelled n front (IsBytes-take (4 * n) more more_fits) len in
    let parts : n ∷ more ≡ counted_values (values_in n front) ++ after =
    ap (λ (t : List ℕ). n ∷ t) (sym (take-append-drop (4 * n) more))
    ∙ ap (λ (k : ℕ). k ∷ (front ++ after)) (sym lie.1)
    ∙ ap (λ (t : List ℕ). length (values_in n front) ∷ (t ++ after)) (sym lie.0) in
    let most : length (values_in n front) ≤ 8 = omega (arith, lie.1, ltb-false 8 n few.0) in
    subst (λ (p : List ℕ × List ℕ). Takes (n ∷ more) (counted_values p.0) p.1 × (length p.0 ≤ 8)
    × AllByRecursion (λ v. v < 2 ^ 32) p.0) (ok_is made (values, rest) long.1)
    (record { parts = parts; rest_fits = IsBytes-drop (4 * n) more more_fits }, most, lie.2)

-- the values that lie behind their count
pub values_lie : (bytes : List ℕ) (n : ℕ) (rest : List ℕ) → IsBytes bytes
    → read_byte bytes ≡ Ok (n, rest) → 4 * n ≤ length rest
    → take (4 * n) rest ≡ flat_map (to_be_bytes w32) (values_in n (take (4 * n) rest))
values_lie bytes n rest fits e enough =
    let t = byte_takes bytes n rest fits e in
    let len : length (take (4 * n) rest) ≡ 4 * n = omega (arith, length-take (4 * n) rest) in
    sym (values_spelled n (take (4 * n) rest) (IsBytes-take (4 * n) rest t.0.rest_fits) len).0

pub values_read : (values rest : List ℕ) → length values ≤ 8
    → AllByRecursion (λ v. v < 2 ^ 32) values
    → read_values (counted_values values ++ rest) ≡ Ok (values, rest)
unfolding read_values
values_read values rest few fits =
    let spelled : List ℕ = flat_map (to_be_bytes w32) values in
    let len : length spelled ≡ 4 * length values = values_long values in
    let low : ltb 8 (length values) ≡ false = le-ltb 8 (length values) few in
    let long : ltb (length (spelled ++ rest)) (4 * length values) ≡ false =
    le-ltb _ _ (omega (arith, length-append spelled rest)) in
    rw (
      low,
      long,
      take_at spelled rest (4 * length values) len,
      drop_at spelled rest (4 * length values) len,
      values_again values fits,
    ) refl

-- ---- class, request and interaction

pub head_takes : (bytes : List ℕ) (h : Head) (rest : List ℕ) → IsBytes bytes
    → read_head bytes ≡ Ok (h, rest)
    → Takes bytes (head_fields h.class h.request h.inter) rest × IsHead h.class h.request h.inter
unfolding read_head
head_takes bytes h rest fits e =
    let a =
    bind_ok (read_number w16 bytes) (λ class. read_positive class.1 >>= λ request. read_number w16
    request.1 >>= λ inter. Ok (head_made class.0 request.0 inter.0, inter.1)) (h, rest) e in
    let b =
    bind_ok (read_positive a.0.1) (λ request. read_number w16 request.1 >>= λ inter.
    Ok (head_made a.0.0 request.0 inter.0, inter.1)) (h, rest) a.2 in
    let c =
    bind_ok (read_number w16 b.0.1) (λ inter. Ok (head_made a.0.0 b.0.0 inter.0, inter.1))
    (h, rest) b.2 in
    let t0 = number_takes w16 (2 ^ 16) wide16 bytes a.0.0 a.0.1 fits a.1 in
    let t1 = positive_takes a.0.1 b.0.0 b.0.1 t0.0.rest_fits b.1 in
    let t2 = number_takes w16 (2 ^ 16) wide16 b.0.1 c.0.0 c.0.1 t1.0.rest_fits c.1 in
    let e12 =
    Takes-then a.0.1 (to_be_bytes w64 b.0.0) b.0.1 (to_be_bytes w16 c.0.0) c.0.1 t1.0 t2.0 in
    let e02 =
    Takes-then bytes (to_be_bytes w16 a.0.0) a.0.1
    (to_be_bytes w64 b.0.0 ++ to_be_bytes w16 c.0.0) c.0.1 t0.0 e12 in
    let made : Head × List ℕ = (head_made a.0.0 b.0.0 c.0.0, c.0.1) in
    subst (λ (p : Head × List ℕ). Takes bytes (head_fields p.0.class p.0.request p.0.inter) p.1
    × IsHead p.0.class p.0.request p.0.inter) (ok_is made (h, rest) c.2)
    (e02, record { class_fits = t0.1; some = t1.1; request_fits = t1.2; inter_fits = t2.1 })

pub head_again : (c r i : ℕ) (rest : List ℕ) → IsHead c r i
    → read_head (head_fields c r i ++ rest) ≡ Ok (head_made c r i, rest)
unfolding read_head
head_again c r i rest fits =
    let regrouped : head_fields c r i ++ rest
    ≡ to_be_bytes w16 c ++ (to_be_bytes w64 r ++ (to_be_bytes w16 i ++ rest)) =
    append_assoc (to_be_bytes w16 c) (to_be_bytes w64 r ++ to_be_bytes w16 i) rest
    ∙ ap (λ (x : List ℕ). to_be_bytes w16 c ++ x)
    (append_assoc (to_be_bytes w64 r) (to_be_bytes w16 i) rest) in
    ap read_head regrouped ∙ rw (
      number_again w16 (2 ^ 16) wide16 c (to_be_bytes w64 r
          ++ (to_be_bytes w16 i ++ rest)) fits.class_fits,
      positive_again r
          (to_be_bytes w16 i ++ rest) fits.some fits.request_fits,
      number_again w16
          (2 ^ 16) wide16 i rest fits.inter_fits,
    ) refl
