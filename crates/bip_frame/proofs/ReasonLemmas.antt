-- Reasons of a request's frame.
use Rattle.std.proofs.Common.{◌≡◌, ℕ, ◌*◌, ◌^◌, ◌<◌, ◌≤◌, eqb, List, [], ◌∷◌}
use Rattle.std.proofs.Common.{◌++◌, length, Ok, refl, sym, ap, subst, ◌∙◌, append_assoc, arith, inl}
use Rattle.std.proofs.Common.{inr}
use Rattle.std.specs.Int.{w16, to_be_bytes}
use Rattle.std.specs.List.{flat_map, AllByRecursion}
use Rattle.std.proofs.lemmas.Bool.{cases_Bool, eqb-true, eqb-false}
use Rattle.std.proofs.lemmas.List.Elements.{All-from_recursion, recursion_from_All}
use Rattle.bip_model.specs.Reasons.{IsNameable, IsReasons, cause_number, cause_of_number}
use Rattle.bip_model.specs.declared.reasons.Cause.{Cause}
use Rattle.bip_model.specs.declared.reasons.Cause.TheVariants.{Port, Guard}
use Rattle.bip_model.specs.declared.reasons.Why.{Why}
use Rattle.bip_model.proofs.ReasonLemmas.{cause_back}
use Rattle.bip_frame.specs.Entries.{read_reason, read_reasons, read_rising, why_made}
use Rattle.bip_frame.specs.Faults.{IsGoodReason, IsList, list_spelled, reason_parts}
use Rattle.bip_frame.specs.Fields.{◌>>=◌, read_number}
use Rattle.bip_frame.specs.Frames.{FitsInter, reason_entry, reason_fields}
use Rattle.bip_frame.specs.Lent.{why_in}
use Rattle.bip_frame.proofs.EntryLemmas.{rising_takes, rising_again}
use Rattle.bip_frame.proofs.FieldLemmas.{IsBytes, bind_ok, ok_is, Part, Takes, Takes-then, wide16}
use Rattle.bip_frame.proofs.FieldLemmas.{number_takes, number_again}
use Rattle.bip_frame.proofs.PartLemmas.{HasSize, ReadsParts, good_from_next, increasing_from_next}
use Rattle.bip_frame.proofs.PartLemmas.{list_part, next_from_increasing, parts_long}

-- ---- one reason

cause_fits : (cause : Cause) → IsNameable cause → cause_number cause < 2 ^ 16
cause_fits (Port c) named = omega (arith, named)
cause_fits Guard named = omega arith

-- a number comes back from the cause that it stands for, which can be named
record Stands (number : ℕ) : Type 0 where
  pub nameable : IsNameable (cause_of_number number)
  pub back : cause_number (cause_of_number number) ≡ number

number_stands : (number : ℕ) → number < 2 ^ 16 → Stands number
number_stands number lt =
    elim (cases_Bool (eqb number 65535)) [
      | inl guard ↦
          let is : number ≡ 65535 = eqb-true number 65535 guard in
          subst Stands (sym is) (record { nameable = tt; back = refl })
      | inr port ↦
          let below : number < 65535 = omega (arith, eqb-false number 65535 port) in
          record { nameable = rw port below; back = rw port refl }
    ]

reason_takes : (low : ℕ) (bytes : List ℕ) (y : Why) (rest : List ℕ) → IsBytes bytes
    → read_reason low bytes ≡ Ok (y, rest)
    → Takes bytes (reason_entry y) rest × IsGoodReason y × (low ≤ y.inter.0)
unfolding read_reason
reason_takes low bytes y rest fits e =
    let a =
    bind_ok (read_rising low bytes) (λ inter. read_number w16 inter.1 >>= λ cause.
    Ok (why_made inter.0 (cause_of_number cause.0), cause.1)) (y, rest) e in
    let b =
    bind_ok (read_number w16 a.0.1) (λ cause.
    Ok (why_made a.0.0 (cause_of_number cause.0), cause.1)) (y, rest) a.2 in
    let t0 = rising_takes low bytes a.0.0 a.0.1 fits a.1 in
    let t1 = number_takes w16 (2 ^ 16) wide16 a.0.1 b.0.0 b.0.1 t0.0.rest_fits b.1 in
    let stands = number_stands b.0.0 t1.1 in
    let both = Takes-then bytes (to_be_bytes w16 a.0.0) a.0.1
    (to_be_bytes w16 b.0.0) b.0.1 t0.0 t1.0 in
    let spelled : Takes bytes (to_be_bytes w16 a.0.0 ++ to_be_bytes w16
    (cause_number (cause_of_number b.0.0))) b.0.1 =
    subst (λ (k : ℕ). Takes bytes (to_be_bytes w16 a.0.0 ++ to_be_bytes w16 k) b.0.1)
    (sym stands.back) both in
    let made : Why × List ℕ = (why_made a.0.0 (cause_of_number b.0.0), b.0.1) in
    subst (λ (p : Why × List ℕ). Takes bytes (reason_entry p.0) p.1 × IsGoodReason p.0
    × (low ≤ p.0.inter.0)) (ok_is made (y, rest) b.2)
    (spelled, record { fits = t0.1; nameable = stands.nameable }, t0.2)

reason_again : (low : ℕ) (y : Why) (rest : List ℕ) → IsGoodReason y → low ≤ y.inter.0
    → read_reason low (reason_entry y ++ rest) ≡ Ok (y, rest)
unfolding read_reason
reason_again low y rest good le =
    ap (read_reason low) (append_assoc (to_be_bytes w16 y.inter.0)
    (to_be_bytes w16 (cause_number y.cause)) rest)
    ∙ rw (
      rising_again low y.inter.0 (to_be_bytes w16 (cause_number y.cause) ++ rest) good.fits le,
      number_again w16 (2 ^ 16) wide16 (cause_number y.cause) rest
          (cause_fits y.cause good.nameable),
      cause_back y.cause good.nameable,
    ) refl

pub reason_part : ReadsParts reason_parts read_reason
reason_part low = record {
  takes = λ bytes y rest fits e. (let t = reason_takes low bytes y rest fits e in
      (t.0, (t.1, t.2)));
  again = λ y rest good. reason_again low y rest good.0 good.1;
}

same_why : (i j : ℕ) (a b : Cause) → i ≡ j → a ≡ b → why_made i a ≡ why_made j b
same_why i j a b inters causes = rw (inters, causes) refl

reason_lies : (y : Why) → IsGoodReason y → why_in (reason_entry y) ≡ y
reason_lies y good = same_why _ _ _ _ (wide16.again y.inter.0 good.fits)
    (ap cause_of_number (wide16.again (cause_number y.cause) (cause_fits y.cause good.nameable))
    ∙ cause_back y.cause good.nameable)

pub reason_size : HasSize reason_parts 4 why_in
reason_size = record { long = λ y. refl; lies = reason_lies }

-- ---- all reasons

pub reasons_long : (ys : List Why) → length (flat_map reason_entry ys) ≡ 4 * length ys
reasons_long ys = parts_long reason_parts 4 why_in reason_size ys

inters_fit : (ys : List Why) → AllByRecursion IsGoodReason ys → AllByRecursion FitsInter ys
inters_fit [] good = tt
inters_fit (y ∷ ys) good = (good.0.fits, inters_fit ys good.1)

causes_named : (ys : List Why) → AllByRecursion IsGoodReason ys
    → AllByRecursion (λ (y : Why). IsNameable y.cause) ys
causes_named [] good = tt
causes_named (y ∷ ys) good = (good.0.nameable, causes_named ys good.1)

both_good : (ys : List Why) → AllByRecursion FitsInter ys
    → AllByRecursion (λ (y : Why). IsNameable y.cause) ys → AllByRecursion IsGoodReason ys
both_good [] fit named = tt
both_good (y ∷ ys) fit named = (
  record { fits = fit.0; nameable = named.0 },
  both_good ys fit.1 named.1,
)

-- reasons without fault can be those of one request
pub are_reasons : (ys : List Why) → IsList reason_parts ys → IsReasons ys
are_reasons ys list = record {
  few = list.counted.1;
  rising = increasing_from_next reason_parts (length ys) 0 ys list.next;
  nameable = All-from_recursion (λ (y : Why). IsNameable y.cause) ys
      (causes_named ys (good_from_next reason_parts (length ys) 0 ys list.next));
}

pub reasons_fit : (ys : List Why) → IsList reason_parts ys → AllByRecursion FitsInter ys
reasons_fit ys list = inters_fit ys (good_from_next reason_parts (length ys) 0 ys list.next)

pub reasons_listed : (ys : List Why) → 1 ≤ length ys → IsReasons ys → AllByRecursion FitsInter ys
    → IsList reason_parts ys
reasons_listed ys some are fits = record {
  counted = (some, are.few);
  next = next_from_increasing reason_parts ys
      (both_good ys fits (recursion_from_All (λ (y : Why). IsNameable y.cause) ys are.nameable))
      are.rising;
}

pub reasons_list : Part read_reasons (IsList reason_parts) (list_spelled reason_parts)
reasons_list = list_part reason_parts read_reason reason_part

-- some reasons have a spelling of their own
pub some_reasons : (ys : List Why) → 1 ≤ length ys → reason_fields ys ≡ list_spelled reason_parts ys
some_reasons [] some = absurd (omega arith)
some_reasons (y ∷ ys) some = refl
