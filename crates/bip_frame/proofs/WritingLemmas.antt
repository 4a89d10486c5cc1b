-- Fields written one after the other.
use Rattle.std.proofs.Common.{◌≡◌, ℕ, zero, suc, ◌+◌, ◌≤◌, ◌<◌, List, [], ◌∷◌, ◌++◌, length, take}
use Rattle.std.proofs.Common.{get_or, refl, Result, Ok, Err}
use Rattle.std.proofs.Common.{sym, ap, subst, ◌∙◌, append_assoc, arith}
use Rattle.std.specs.Prelude.{IfOk}
use Rattle.std.specs.List.{AllByRecursion, flat_map}
use Rattle.std.proofs.lemmas.Grind.{flat_map-append}
use Rattle.std.proofs.lemmas.List.{append-nil, take_more}
use Rattle.std.proofs.lemmas.List.Concat.{flat_map-cons}
use Rattle.bip_model.specs.Reasons.{IsReasons}
use Rattle.bip_model.specs.Wants.{IsWants}
use Rattle.bip_model.specs.declared.messages.Request.{Request}
use Rattle.bip_model.specs.declared.reasons.Why.{Why}
use Rattle.bip_frame.specs.Frames.{FitsInter, IsEntry, IsFrame, IsHead, counted_entries}
use Rattle.bip_frame.specs.Frames.{counted_reasons, head_fields, of_request, reason_fields}
use Rattle.bip_frame.specs.Frames.{Message, request_kind}

pub three : (old x y z p q r a b c : List ℕ) → a ≡ old ++ p → p ≡ x → b ≡ a ++ q → q ≡ y
    → c ≡ b ++ r → r ≡ z → c ≡ old ++ (x ++ (y ++ z))
three old x y z p q r a b c first px second qy third rz =
    let one : a ≡ old ++ x = first ∙ ap (λ (t : List ℕ). old ++ t) px in
    let two : b ≡ (old ++ x) ++ y =
    second ∙ ap (λ (t : List ℕ). a ++ t) qy ∙ ap (λ (t : List ℕ). t ++ y) one in
    let whole : c ≡ ((old ++ x) ++ y) ++ z =
    third ∙ ap (λ (t : List ℕ). b ++ t) rz ∙ ap (λ (t : List ℕ). t ++ z) two in
    let regrouped : ((old ++ x) ++ y) ++ z ≡ old ++ (x ++ (y ++ z)) = simp append_assoc in
    whole ∙ regrouped

-- one part more can be spelled
pub one_more_fits : {A : Type 0} (Fits : A → Type 0) (xs : List A) (i : ℕ) (x : A) → i < length xs
    → AllByRecursion Fits (take i xs) → Fits (get_or xs i x) → AllByRecursion Fits (take (i + 1) xs)
one_more_fits Fits [] i x lt all one = absurd (omega arith)
one_more_fits Fits (y ∷ xs) zero x lt all one = (one, tt)
one_more_fits Fits (y ∷ xs) (suc i) x lt all one =
    let next : suc i + 1 ≡ suc (i + 1) = omega arith in
    rw next (all.0, one_more_fits Fits xs i x (omega arith) all.1 one)

-- one part more was written
pub one_more_written : {A : Type 0} (spell : A → List ℕ) (old : List ℕ) (n : ℕ) (xs : List A)
    (i : ℕ)
    (x : A) (before after : List ℕ) → i < length xs → get_or xs i x ≡ x
    → before ≡ old ++ n ∷ flat_map spell (take i xs) → after ≡ before ++ spell x
    → after ≡ old ++ n ∷ flat_map spell (take (i + 1) xs)
one_more_written {A = A} spell old n xs i x before after within here so_far is =
    let front : List ℕ = flat_map spell (take i xs) in
    let more : take (i + 1) xs ≡ take i xs ++ x ∷ [] =
    take_more xs i x within ∙ ap (λ (y : A). take i xs ++ y ∷ []) here in
    let one : flat_map spell (x ∷ []) ≡ spell x =
    flat_map-cons spell x [] ∙ append-nil (spell x) in
    let spelled : flat_map spell (take (i + 1) xs) ≡ front ++ spell x =
    ap (flat_map spell) more ∙ flat_map-append spell (take i xs) (x ∷ [])
    ∙ ap (λ (t : List ℕ). front ++ t) one in
    is ∙ ap (λ (t : List ℕ). t ++ spell x) so_far ∙ append_assoc old (n ∷ front) (spell x)
    ∙ ap (λ (t : List ℕ). old ++ n ∷ t) (sym spelled)

-- a request with reasons was written
pub explained_frame : (r : Request) (head lists whole : List ℕ) → 1 ≤ length r.reasons
    → IsHead r.class.0 r.request r.inter.0 → IsWants r.wants → AllByRecursion IsEntry r.wants
    → IsReasons r.reasons → AllByRecursion FitsInter r.reasons
    → head ≡ 6 ∷ head_fields r.class.0 r.request r.inter.0 → lists ≡ head ++ counted_entries r.wants
    → whole ≡ lists ++ counted_reasons r.reasons → IsFrame (of_request r) whole
explained_frame r head lists whole some head_fits wants entries reasons inters first second third =
    record {
      can = record {
        head = head_fits;
        wants = wants;
        entries = entries;
        reasons = reasons;
        inters = inters;
      };
      is = third ∙ ap (λ (t : List ℕ). t ++ counted_reasons r.reasons)
          (second ∙ ap (λ (t : List ℕ). t ++ counted_entries r.wants) first)
          ∙ append_assoc (6 ∷ head_fields r.class.0 r.request r.inter.0) (counted_entries r.wants)
          (counted_reasons r.reasons) ∙ by_reasons r.reasons some;
    }
  where
    by_reasons : (ys : List Why) → 1 ≤ length ys
        → (6 ∷ head_fields r.class.0 r.request r.inter.0)
        ++ (counted_entries r.wants ++ counted_reasons ys) ≡ request_kind ys
        ∷ (head_fields r.class.0 r.request r.inter.0
        ++ (counted_entries r.wants ++ reason_fields ys))
    by_reasons [] some = absurd (omega arith)
    by_reasons (y ∷ ys) some = refl

-- a copy of what was written is the frame too
pub written_is : {E : Type 0} (m : Message) (bytes copied : List ℕ) (result : Result (List ℕ) E)
    → IfOk result (λ b. b ≡ copied) → copied ≡ bytes → IsFrame m bytes → IfOk result (IsFrame m)
written_is m bytes copied (Ok b) is same frame = subst (IsFrame m) (sym (is ∙ same)) frame
written_is m bytes copied (Err e) is same frame = tt
