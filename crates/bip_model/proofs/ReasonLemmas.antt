-- Reasons as they are kept: each comes back.
use Rattle.std.proofs.Common.{◌≡◌, ℕ, ◌+◌, ◌<◌, ◌≤◌, eqb, List, [], ◌∷◌, length, map, All, get_or}
use Rattle.std.proofs.Common.{inl, inr, set, take, refl, ap, ◌∙◌, arith}
use Rattle.std.proofs.lemmas.Bool.{cases_Bool}
use Rattle.std.proofs.Common.{eqb-true}
use Rattle.std.proofs.lemmas.List.{map-append, take_all, take_more, take_more_set}
use Rattle.std.proofs.lemmas.List.Elements.{All-head, All-tail}
use Rattle.bip_model.specs.Reasons.{IsNameable, cause_number, cause_of_number, entry_of, whys_in}
use Rattle.bip_model.specs.Reasons.{why_of}
use Rattle.bip_model.specs.declared.reasons.Cause.{Cause}
use Rattle.bip_model.specs.declared.reasons.Cause.TheVariants.{Port, Guard}
use Rattle.bip_model.specs.declared.reasons.Kept.{Kept}
use Rattle.bip_model.specs.declared.reasons.Why.{Why}

-- a cause that can be named comes back from its number
pub cause_back : (cause : Cause) → IsNameable cause → cause_of_number (cause_number cause) ≡ cause
cause_back (Port c) below = elim (cases_Bool (eqb c.0 65535)) [
  | inl guard ↦ absurd (omega (arith, eqb-true c.0 65535 guard, below))
  | inr port ↦ rw port refl
]
cause_back Guard named = refl

why_back : (y : Why) → IsNameable y.cause → why_of (entry_of y) ≡ y
why_back y named = ap (λ (cause : Cause). record y { cause = cause }) (cause_back y.cause named)

whys_back : (ys : List Why) → All (λ (y : Why). IsNameable y.cause) ys
    → map why_of (map entry_of ys) ≡ ys
whys_back [] named = refl
whys_back (y ∷ ys) named = rw (
  why_back y (All-head (λ (z : Why). IsNameable z.cause) y ys named),
  whys_back ys (All-tail (λ (z : Why). IsNameable z.cause) y ys named),
) refl

-- one more is kept
pub entry_kept : (ys : List Why) (kept : List Kept) (i : ℕ) (y : Why) (e : Kept) → i < length kept
    → i < length ys → get_or ys i y ≡ y → e ≡ entry_of y → take i kept ≡ map entry_of (take i ys)
    → take (i + 1) (set kept i e) ≡ map entry_of (take (i + 1) ys)
entry_kept ys kept i y e room within here is before =
    rw (
      take_more_set kept i e room,
      take_more ys i y within,
      here,
      map-append entry_of (take i ys) (y ∷ []),
      before,
      is,
    ) refl

-- and all are
pub all_kept : (ys : List Why) (kept : List Kept) (i : ℕ) → length ys ≤ i → i ≤ length ys
    → All (λ (y : Why). IsNameable y.cause) ys → take i kept ≡ map entry_of (take i ys)
    → whys_in (length ys) kept ≡ ys
all_kept ys kept i past within named same =
    let end : i ≡ length ys = omega arith in
    let all : take (length ys) kept ≡ map entry_of ys = (rw end at same)
    ∙ ap (map entry_of) (take_all (length ys) ys (omega arith)) in
    ap (map why_of) all ∙ whys_back ys named
