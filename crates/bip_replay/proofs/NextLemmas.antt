-- Where a grant that is expected leads: the used numbers of what it moves.
use Rattle.std.proofs.Common.{◌≡◌, ℕ, ◌+◌, ◌<◌, Bool, true, false, cond, ◌||◌, eqb, eqb-true}
use Rattle.std.proofs.Common.{eq-eqb, List, [], ◌∷◌, length, take, set, get_or, refl, subst, sym}
use Rattle.std.proofs.Common.{arith}
use Rattle.std.specs.Prelude.{All}
use Rattle.std.specs.List.{list_any}
use Rattle.std.specs.List.Sorted.{IsStrictlyIncreasing}
use Rattle.std.proofs.lemmas.Bool.{ne_eqb}
use Rattle.std.proofs.lemmas.Grind.{common_steps}
use Rattle.std.proofs.lemmas.List.{get_or-take, get_or_default, length-take-le, take_more}
use Rattle.std.proofs.lemmas.List.Elements.{All-contains, All-from_get_or, All-head, All-tail}
use Rattle.std.proofs.lemmas.List.Folds.{list_any-append, list_any_at, list_any_none}
use Rattle.bip_model.proofs.ListLemmas.{below_later}
use Rattle.bip_model.proofs.LookLemmas.{moves_known}
use Rattle.bip_model.proofs.PartyLemmas.{all_parties_cover}
use Rattle.bip_model.specs.Numbering.{last_number}
use Rattle.bip_model.specs.Parties.{AreParties, CoverAbove, IsWanted, is_moving}
use Rattle.bip_model.specs.Parts.{IsSystem, Participant, components_in}
use Rattle.bip_model.specs.Steps.{MayRun, moves, participants_of}
use Rattle.bip_model.specs.Wants.{moved_in, raised}
use Rattle.bip_model.specs.declared.grants.Grant.{Grant}
use Rattle.bip_model.specs.declared.wants.Role.TheVariants.{Moved}
use Rattle.bip_model.specs.declared.wants.Want.{Want}
use Rattle.bip_replay.specs.Expected.{HasNextIn, IsExpectedGrant, takes_part}
use Rattle.bip_replay.specs.Runs.{HasNextNumber, IsNextAt, Kept, Standing, standing_of}
use Rattle.bip_replay.proofs.ExpectedLemmas.{moving}

-- of components that rise, one isn't among those before it
new_part : (qs : List Participant) (i : ℕ) (d : Participant)
    → IsStrictlyIncreasing (components_in qs) → i < length qs
    → takes_part (take i qs) (get_or qs i d).0.0 ≡ false
new_part qs i d rising within =
    let shorter : length (take i qs) ≡ i = length-take-le i qs (omega arith) in
    list_any_none (λ (q : Participant). eqb q.0.0 (get_or qs i d).0.0) (take i qs)
    (All-from_get_or (λ (q : Participant). eqb q.0.0 (get_or qs i d).0.0 ≡ false) (take i qs) d
    (λ k below.
    let less = below_later (λ (q : Participant). q.0.0) qs rising k i d (omega arith) within in
    rw (get_or-take i qs k d (omega arith)) (ne_eqb _ _ (λ same. omega arith))))

-- a component's used number is as it was until its participant comes
pub unused_yet : (old now : List ℕ) (qs : List Participant) (i : ℕ) (d : Participant) (base : ℕ)
    → IsStrictlyIncreasing (components_in qs) → i < length qs
    → ((b n : ℕ) → get_or now n b ≡ cond (takes_part (take i qs) n) (get_or old n b + 1)
    (get_or old n b))
    → get_or now (get_or qs i d).0.0 base ≡ get_or old (get_or qs i d).0.0 base
unused_yet old now qs i d base rising within before =
    let new = new_part qs i d rising within in
    let first = before base (get_or qs i d).0.0 in
    grind arith

-- a number is put at a place
put_one : (u : List ℕ) (k c base n : ℕ) → k < length u
    → get_or (set u k n) c base ≡ cond (eqb k c) n (get_or u c base)
put_one u k c base n within = grind (arith, common_steps)

-- the used numbers after the next move of one participant more
pub used_more : (old now : List ℕ) (qs : List Participant) (i : ℕ) (d : Participant) (base c : ℕ)
    → IsStrictlyIncreasing (components_in qs) → i < length qs → length now ≡ length old
    → (get_or qs i d).0.0 < length old
    → ((b n : ℕ) → get_or now n b ≡ cond (takes_part (take i qs) n) (get_or old n b + 1)
    (get_or old n b))
    → get_or (set now (get_or qs i d).0.0 (get_or now (get_or qs i d).0.0 0 + 1)) c base ≡ cond
    (takes_part (take (i + 1) qs) c) (get_or old c base + 1) (get_or old c base)
used_more old now qs i d base c rising within long inside before =
    rw (
      put_one now k c base (get_or now k 0 + 1) (omega arith),
      take_more qs i d within,
      list_any-append (λ (q : Participant). eqb q.0.0 c) (take i qs) (get_or qs i d ∷ []),
    )
    (by_test (eqb k c) refl)
  where
    k : ℕ
    k = (get_or qs i d).0.0

    by_test : (b : Bool) → eqb k c ≡ b → cond b (get_or now k 0 + 1) (get_or now c base) ≡ cond
        (takes_part (take i qs) c || (b || false)) (get_or old c base + 1) (get_or old c base)
    by_test true e =
        let same : k ≡ c = eqb-true k c e in
        let new = new_part qs i d rising within in
        let first = before 0 k in
        let any = get_or_default old k 0 base inside in
        grind arith
    by_test false e = let first = before base c in grind arith

-- what an expected grant moves
moved_as : (used : ℕ → ℕ) (ws : List Want) (n : ℕ) → All (HasNextNumber used) ws
    → moved_in ws n ≡ cond (list_any (is_moving n) ws) (used n + 1) 0
moved_as used [] n numbers = refl
moved_as used (w ∷ ws) n numbers =
    let later = moved_as used ws n (All-tail (HasNextNumber used) w ws numbers) in
    let first = All-head (HasNextNumber used) w ws numbers in
    grind arith

same_tests : (x y : Bool) → (x ≡ true → y ≡ true) → (y ≡ true → x ≡ true) → x ≡ y
same_tests true y there back = sym (there refl)
same_tests false true there back = back refl
same_tests false false there back = refl

-- the used numbers after an expected grant
pub raised_expected : (p : Standing) (a : ℕ) (g : Grant) (n : ℕ) → IsExpectedGrant p a g
    → raised p.used g.wants n ≡ cond (moves p.model a n) (p.used n + 1) (p.used n)
raised_expected p a g n is =
    let same = same_tests (list_any (is_moving n) g.wants) (moves p.model a n)
    (λ test. (is.parties.moved n).0 ((moving g.wants n).1 test))
    (λ takes. (moving g.wants n).0 ((is.parties.moved n).1 takes)) in
    let by = moved_as p.used g.wants n is.numbers in
    grind arith

-- what an expected grant moves has a next number
pub expected_next : (p : Kept) (a : ℕ) (g : Grant) (qs : List Participant) → IsSystem p.model
    → length p.used ≡ length p.model.components → IsExpectedGrant (standing_of p) a g
    → qs ≡ participants_of p.model a → All (λ (q : Participant). HasNextIn p.used q.0) qs
expected_next p a g qs valid long is same k d within =
    let c : ℕ = (get_or qs k d).0.0 in
    let takes : moves p.model a c ≡ true = rw (← same)
    (list_any_at (λ (q : Participant). eqb q.0.0 c) qs k d within (eq-eqb c c refl)) in
    let at : IsWanted Moved g.wants c = (is.parties.moved c).1 takes in
    let has = All-contains (HasNextNumber (standing_of p).used) g.wants at.1 is.numbers
    (at.0, at.2, at.3) in
    let inside : c < length p.used = omega (arith, moves_known p.model a c valid.so_far takes) in
    let next : get_or p.used c p.base < last_number =
    rw (← at.4.0) (omega (arith, has.next, has.fits)) in
    record { known = inside; next = rw (get_or_default p.used c 0 p.base inside) next }

-- an expected grant of an interaction that may run is next
pub expected_is_next : (p : Standing) (a : ℕ) (g : Grant) → MayRun p.model p.state a
    → IsExpectedGrant p a g → IsNextAt p g
expected_is_next p a g may is = record {
  may = subst (MayRun p.model p.state) (sym is.inter) may;
  numbers = is.numbers;
  parties = subst (λ (b : ℕ). AreParties p.model b g.wants) (sym is.inter) is.parties;
  covered = subst (λ (b : ℕ). CoverAbove p.model p.state b g.wants) (sym is.inter)
      (all_parties_cover p.model a g.wants is.parties is.all p.state);
}
