-- A call goes from want to want: what is claimed, what is left, and what is noted.
use Rattle.std.proofs.Common.{◌≡◌, ◌≢◌, ◌⊎◌, ℕ, zero, suc, ◌*◌, ◌%◌, ◌<◌, ◌≤◌, max, Bool, true}
use Rattle.std.proofs.Common.{false, ◌&&◌, List, [], ◌∷◌, ◌++◌, length, get_or, refl, sym, ap, ◌∙◌}
use Rattle.std.proofs.Common.{subst, inl, inr, ⊎_elim, append_assoc, append-nil, eq-eqb, ne_eqb}
use Rattle.std.proofs.Common.{arith, All, Any, IsTrue, ◌||◌, ◌/◌, ◌^◌, Option, None, Some, IfSome}
use Rattle.std.proofs.Common.{◌+◌}
use Rattle.std.specs.Prelude.{if◌then◌else◌, ◌==◌}
use Rattle.std.specs.List.{AllByRecursion, list_any}
use mathlib.Core.Option.{some, some-injective}
use lib.ListN.{get_elem?}
use Rattle.bip_model.proofs.NumberingLemmas.{Rises, rises_from_increasing}
use Rattle.bip_model.specs.Wants.{components_of, is_moved, moved_in}
use Rattle.bip_model.specs.declared.wants.Want.{Want}
use Rattle.bip_model.specs.declared.grants.Grant.{Grant}
use Rattle.bip_model.specs.declared.numbering.CompId.{CompId}
use Rattle.bip_words.specs.declared.knowledge.Learned.TheVariants.{Look, Changed, Wrote}
use Rattle.bip_words.specs.declared.tables.Attempt.TheVariants.{Granted, Used, Busy, Unknown}
use Rattle.bip_model.specs.Numbering.{IsLowest}
use Rattle.std.specs.List.Sorted.{IsStrictlyIncreasing}
use Rattle.std.specs.Prelude.{slice_index_or}
use mathlib.Core.Logic.{dite}
use native.Mathlib.Decide.{ℕ_discrete}
use Rattle.bip_words.proofs.ClaimLemmas.{noted}
use Rattle.bip_words.proofs.Totals.{each_append, each_weaker, off_row}
use Rattle.bip_words.specs.Knowledge.{change_count, claim, claims_on, look_count, note, seen_in}
use Rattle.bip_words.specs.Knowledge.{with_note}
use Rattle.bip_words.specs.Reserving.{Answered, Covers, FoundBusy, FoundFresh, FoundFreshBelow}
use Rattle.bip_words.specs.Reserving.{FoundUsed, HasWrittenRow, IsAttempt, IsFree, IsGrantedWith}
use Rattle.bip_words.specs.Reserving.{IsRefusedIn, IsWantedBelow, LookedInOrder, Noted, NotedChange}
use Rattle.bip_words.specs.Reserving.{TriedOnce, claims_after, is_granted, tried_wants, up_to}
use Rattle.bip_words.specs.Rows.{HasRow, IsRowOf, WantsWithoutRow, is_row_of, row_comps}
use Rattle.bip_words.specs.Steps.{IsBelow, IsCovered, IsSeenMost, all_due, owing}
use Rattle.bip_words.specs.declared.knowledge.Claim.{Claim}
use Rattle.bip_words.specs.declared.knowledge.Knowledge.{Knowledge}
use Rattle.bip_words.specs.declared.knowledge.Note.{Note}
use Rattle.bip_words.specs.declared.tables.Attempt.{Attempt}

pub row_found : (key : List (CompId × ℕ)) (r : ℕ) (d : CompId × ℕ) (c : ℕ) → r < length key
    → (get_or key r d).0.0 ≡ c → get_elem? (row_comps key) r ≡ some c
row_found [] r d c within is = absurd (omega arith)
row_found (e ∷ es) zero d c within is = ap some is
row_found (e ∷ es) (suc r) d c within is = row_found es r d c (omega arith) is

pub rises_later : (done rest : List Want) → Rises (components_of (done ++ rest))
    → Rises (components_of rest)
rises_later [] rest rises = rises
rises_later (x ∷ xs) rest rises = rises_later xs rest rises.1

none_later : (c : ℕ) (ws : List Want) → AllByRecursion (λ y. c < y) (components_of ws)
    → moved_in ws c ≡ 0
none_later c [] above = refl
none_later c (w ∷ ws) above = let less = above.0 in
    rw (ne_eqb w.comp.0 c (λ e. omega (arith, e, less))) (none_later c ws above.1)

above_of : (x : ℕ) (done more : List Want) (w : Want)
    → AllByRecursion (λ y. x < y) (components_of (done ++ w ∷ more)) → x < w.comp.0
above_of x [] more w above = above.0
above_of x (v ∷ vs) more w above = above_of x vs more w above.1

choose : (b : Bool) (m n : ℕ) → n ≡ 0 → (if b then m else n) ≡ owing b m
choose true m n none = refl
choose false m n none = none

-- the number with which wants move the component of one of them
pub moved_here : (done more : List Want) (w : Want) → Rises (components_of (done ++ w ∷ more))
    → moved_in (done ++ w ∷ more) w.comp.0 ≡ owing (is_moved w.role) w.number
moved_here [] more w rises = rw (eq-eqb w.comp.0 w.comp.0 refl)
    (choose (is_moved w.role) w.number (moved_in more w.comp.0) (none_later w.comp.0 more rises.0))
moved_here (x ∷ xs) more w rises = let less = above_of x.comp.0 xs more w rises.0 in
    rw (ne_eqb x.comp.0 w.comp.0 (λ e. omega (arith, e, less))) (moved_here xs more w rises.1)

pub free_more : (comps : List ℕ) (cs : List Claim) (x : Claim) (w : Want) (more : List Want)
    → get_elem? comps x.row ≡ some w.comp.0 → AllByRecursion (λ y. w.comp.0 < y)
    (components_of more) → AllByRecursion (IsFree comps cs) more
    → AllByRecursion (IsFree comps (x ∷ cs)) more
free_more comps cs x w [] row above all = tt
free_more comps cs x w (v ∷ vs) row above all = (
  λ r there. off_row r x cs (λ e. let same = some-injective w.comp.0 v.comp.0
      (sym row ∙ (ap (get_elem? comps) e ∙ there)) in let less = above.0 in
      omega (arith, same, less)) ∙ all.0 r there,
  free_more comps cs x w vs row above.1 all.1,
)

pub covers_more : (comps : List ℕ) (cs : List Claim) (x : Claim) (w : Want) (wants more : List Want)
    → Covers comps cs wants (w ∷ more) → get_elem? comps x.row ≡ some w.comp.0 → x.used < w.number
    → Covers comps (x ∷ cs) wants more
covers_more comps cs x w wants more covers row less = (
  covers.0 ++ w ∷ [],
  covers.1 ∙ sym (append_assoc covers.0 (w ∷ []) more),
  each_append (IsCovered comps (x ∷ cs)) covers.0 (w ∷ [])
      (each_weaker (IsCovered comps cs) (IsCovered comps (x ∷ cs)) (λ v c. inr c) covers.0 covers.2)
      (inl (row, less), tt),
)

pub covers_all : (comps : List ℕ) (cs : List Claim) (wants : List Want) → Covers comps cs wants []
    → AllByRecursion (IsCovered comps cs) wants
covers_all comps cs wants covers = subst (AllByRecursion (IsCovered comps cs))
    (sym (covers.1 ∙ append-nil covers.0)) covers.2

covered_row : (comps : List ℕ) (cs : List Claim) (w : Want) → IsCovered comps cs w → HasRow comps w
covered_row comps [] w none = absurd none
covered_row comps (c ∷ cs) w (inl this) = (c.row, this.0)
covered_row comps (c ∷ cs) w (inr rest) = covered_row comps cs w rest

not_moved : (b : Bool) (d : Bool) (m n : ℕ) → d ≡ false → (if b && d then m else n) ≡ n
not_moved true d m n e = ap (λ (x : Bool). if x then m else n) e
not_moved false d m n e = refl

abbrev pub Moves : List ℕ → List Want → Type 0
Moves comps ws = (r d : ℕ) × (get_elem? comps r ≡ some d) × (0 < moved_in ws d)

moves_first : (comps : List ℕ) (w : Want) (ws : List Want) → HasRow comps w → 1 ≤ w.number
    → is_moved w.role ≡ true → Moves comps (w ∷ ws)
moves_first comps w ws row one is = (
  row.0,
  w.comp.0,
  row.1,
  rw (eq-eqb w.comp.0 w.comp.0 refl, is) (omega (arith, one)),
)

moves_rest : (comps : List ℕ) (w : Want) (ws : List Want) → is_moved w.role ≡ false → Moves comps ws
    → Moves comps (w ∷ ws)
moves_rest comps w ws is rest = (
  rest.0,
  rest.1,
  rest.2,
  subst (λ (n : ℕ). 0 < n) (sym (not_moved (w.comp.0 == rest.1) (is_moved w.role) w.number
      (moved_in ws rest.1) is)) rest.3,
)

either_role : (b : Bool) → (b ≡ true) ⊎ (b ≡ false)
either_role true = inl refl
either_role false = inr refl

-- what is covered and moves something moves a row
pub moves_row : (comps : List ℕ) (cs : List Claim) (ws : List Want)
    → AllByRecursion (IsCovered comps cs) ws → All (λ (w : Want). 1 ≤ w.number) ws
    → IsTrue (list_any (λ (w : Want). is_moved w.role) ws) → Moves comps ws
moves_row comps cs [] covers numbered moving = cc
moves_row comps cs (w ∷ ws) covers numbered moving = ⊎_elim
    (λ (is : is_moved w.role ≡ true). moves_first comps w ws (covered_row comps cs w covers.0)
    (numbered 0 w (omega arith)) is)
    (λ (is : is_moved w.role ≡ false). moves_rest comps w ws is
    (moves_row comps cs ws covers.1 (λ k d within. numbered (suc k) d (omega arith))
    (subst (λ (b : Bool). IsTrue (b || list_any (λ (v : Want). is_moved v.role) ws)) is
    moving)))
    (either_role (is_moved w.role))

pub any_middle : (P : Want → Type 0) (done more : List Want) (w : Want) → P w
    → Any P (done ++ w ∷ more)
any_middle P [] more w is = (0, w, omega arith, refl, is)
any_middle P (x ∷ xs) more w is = let rest = any_middle P xs more w is in
    (suc rest.0, rest.1, omega (arith, rest.2), rest.3, rest.4)

pub each_middle : (P : Want → Type 0) (done more : List Want) (w : Want)
    → AllByRecursion P (done ++ w ∷ more) → P w
each_middle P [] more w all = all.0
each_middle P (x ∷ xs) more w all = each_middle P xs more w all.1

-- nothing above what a look found was seen of the row
pub seen_least : (r word : ℕ) (ns : List Note) → AllByRecursion (IsSeenMost r word) ns
    → seen_in r ns ≤ word / 2
seen_least r word [] all = omega arith
seen_least r word (n ∷ ns) all =
    let rest = seen_least r word ns all.1 in
    dite (ℕ_discrete n.row r)
    (λ e. let here = all.0 e in rw (eq-eqb n.row r e) (omega (arith, here, rest)))
    (λ ne. rw (ne_eqb n.row r ne) (omega (arith, rest)))

pub busy_look : (comps : List ℕ) (r found own c : ℕ) (old new : Knowledge) → IsRowOf comps r c
    → found % 2 ≡ 1 → own ≡ 0 → new ≡ with_note (note r found own Look) old
    → (new.grants ≡ old.grants) × FoundBusy comps c old new
busy_look comps r found own c old new row odd free is = (
  ap (λ (v : Knowledge). v.grants) is,
  (
    r,
    row,
    inl (
      found,
      odd,
      (
        [],
        [],
        ap (λ (v : Knowledge). v.notes) is ∙ ap (λ (k : ℕ). note r
            found k Look ∷ old.notes) free,
      ),
    ),
  ),
)

pub busy_change : (comps : List ℕ) (r word found own again c : ℕ) (old mid new : Knowledge)
    → IsRowOf comps r c → found ≢ word → own ≡ 0 → again ≡ 0
    → mid ≡ with_note (note r word own Look) old → new ≡ with_note (note r found again Changed) mid
    → (new.grants ≡ old.grants) × FoundBusy comps c old new
busy_change comps r word found own again c old mid new row ne free still first is = (
  ap (λ (v : Knowledge). v.grants) is ∙ ap (λ (v : Knowledge). v.grants) first,
  (
    r,
    row,
    inr (
      word,
      found,
      ne,
      (
        [],
        [],
        ap (λ (v : Knowledge). v.notes) is
            ∙ (ap (λ (v : Knowledge). note r found again Changed ∷ v.notes) first
            ∙ (ap (λ (k : ℕ). note r found k Changed ∷ note r word own Look ∷ old.notes) still
            ∙ ap (λ (k : ℕ). note r found 0 Changed ∷ note r word k Look ∷ old.notes) free)),
      ),
    ),
  ),
)

pub used_look : (comps : List ℕ) (wants : List Want) (r found own c : ℕ) (old new : Knowledge)
    → IsRowOf comps r c → 2 * (found / 2) ≡ found → own ≡ 0
    → Any (IsWantedBelow c (found / 2)) wants → AllByRecursion (IsSeenMost r found) old.notes
    → new ≡ with_note (note r found own Look) old
    → (new.grants ≡ old.grants) × FoundUsed comps wants c (found / 2) old new
used_look comps wants r found own c old new row even free any most is = (
  ap (λ (v : Knowledge). v.grants) is,
  (
    r,
    row,
    any,
    (
      [],
      [],
      ap (λ (v : Knowledge). v.notes) is
          ∙ (ap (λ (k : ℕ). note r found k Look ∷ old.notes) free
          ∙ ap (λ (n : ℕ). note r n 0 Look ∷ old.notes) (sym even)),
    ),
    seen_least r found old.notes most,
  ),
)

pub claims_head : (ans : Attempt) (r u : ℕ) (cs : List Claim)
    → claims_after ans (claim r u false ∷ cs) ≡ claim r u (is_granted ans) ∷ claims_after ans cs
claims_head (Granted s) r u cs = refl
claims_head (Used c n) r u cs = refl
claims_head (Busy c) r u cs = refl
claims_head (Unknown c) r u cs = refl

pub granted_map : {P Q : Type 0} (ans : Attempt) → (P → Q) → IsGrantedWith ans P
    → IsGrantedWith ans Q
granted_map (Granted s) f p = f p
granted_map (Used c n) f p = tt
granted_map (Busy c) f p = tt
granted_map (Unknown c) f p = tt

pub number_is : (ans : Attempt) (b : Bool) (n u m : ℕ) → u < n → IsGrantedWith ans (m ≡ owing b n)
    → (if is_granted ans && b then n else u) ≡ max u (owing (is_granted ans) m)
number_is (Granted s) true n u m less is = omega (arith, is)
number_is (Granted s) false n u m less is = omega (arith, is)
number_is (Used c k) b n u m less is = omega arith
number_is (Busy c) b n u m less is = omega arith
number_is (Unknown c) b n u m less is = omega arith

-- a note that was made while more was claimed is a note of the whole
outer : (n first last : Note) (old mid inner new : Knowledge) → mid.notes ≡ first ∷ old.notes
    → new.notes ≡ last ∷ inner.notes → Noted n mid inner → Noted n old new
outer n first last old mid inner new begin end noted = (
  last ∷ noted.0,
  noted.1 ++ first ∷ [],
  end ∙ ap (λ (l : List Note). last ∷ l) (noted.2
      ∙ ap (λ (l : List Note). noted.0 ++ n ∷ l)
      (ap (λ (l : List Note). noted.1 ++ l) begin
      ∙ sym (append_assoc noted.1 (first ∷ []) old.notes))),
)

outer_change : (r word found : ℕ) (first last : Note) (old mid inner new : Knowledge)
    → mid.notes ≡ first ∷ old.notes → new.notes ≡ last ∷ inner.notes
    → NotedChange r word found mid inner → NotedChange r word found old new
outer_change r word found first last old mid inner new begin end noted = (
  last ∷ noted.0,
  noted.1 ++ first ∷ [],
  end ∙ ap (λ (l : List Note). last ∷ l) (noted.2
      ∙ ap (λ (l : List Note). noted.0 ++ note r found 0 Changed ∷ note r word 0 Look ∷ l)
      (ap (λ (l : List Note). noted.1 ++ l) begin
      ∙ sym (append_assoc noted.1 (first ∷ []) old.notes))),
)

pub answered_out : (comps : List ℕ) (g : Grant) (ans : Attempt) (first last : Note)
    (old mid inner new : Knowledge) → mid.grants ≡ old.grants → mid.notes ≡ first ∷ old.notes
    → new.grants ≡ inner.grants → new.notes ≡ last ∷ inner.notes
    → Answered comps g ans mid inner → Answered comps g ans old new
answered_out comps g (Granted s) first last old mid inner new same begin list end is = (
  list ∙ (is.0 ∙ ap (λ (l : List (ℕ × Grant)). (s, g) ∷ l) same),
  subst (AllByRecursion (IsBelow s)) same is.1,
  is.2,
  subst (λ (l : List (ℕ × Grant)). length l ≤ s) same is.3,
)
answered_out comps g (Used c u) first last old mid inner new same begin list end is =
    let f = is.1 in (
      list ∙ (is.0 ∙ same),
      (
        f.0,
        f.1,
        f.2,
        outer (note f.0
            (2 * u) 0 Look) first last old mid inner new begin end f.3,
        (let less = f.4 in let more : seen_in f.0 (first ∷ old.notes) ≤ u =
            subst (λ (ns : List Note). seen_in f.0 ns ≤ u) begin less in omega (arith, more)),
      ),
    )
answered_out comps g (Busy c) first last old mid inner new same begin list end is =
    let f = is.1 in (
      list ∙ (is.0 ∙ same),
      (
        f.0,
        f.1,
        ⊎_elim
            (λ (x : (word : ℕ) × (word % 2 ≡ 1) × Noted (note f.0 word 0 Look) mid inner).
            inl (
              x.0,
              x.1,
              outer (note f.0 x.0 0
                  Look) first last old mid inner new begin end x.2,
            ))
            (λ (x : (word found : ℕ) × (found ≢ word) × NotedChange f.0 word found mid inner).
            inr (
              x.0,
              x.1,
              x.2,
              outer_change f.0 x.0 x.1 first last old mid inner new begin end x.3,
            ))
            f.2,
      ),
    )
answered_out comps g (Unknown c) first last old mid inner new same begin list end is = absurd is

pub empty_is : {A : Type 0} (xs : List A) → length xs ≡ 0 → xs ≡ []
empty_is [] e = refl
empty_is (x ∷ xs) e = absurd (omega (arith, e))

pub no_row : (key : List (CompId × ℕ)) (w : Want) → HasRow (row_comps key) w
    → All (λ (e : CompId × ℕ). e.0.0 ≢ w.comp.0) key → ⊥
no_row key w has none = go key has.0 has.1 none
  where
    go : (k : List (CompId × ℕ)) (r : ℕ) → get_elem? (row_comps k) r ≡ some w.comp.0
        → All (λ (e : CompId × ℕ). e.0.0 ≢ w.comp.0) k → ⊥
    go [] r at none = cc
    go (e ∷ es) zero at none = none 0 e (omega arith) (some-injective e.0.0 w.comp.0 at)
    go (e ∷ es) (suc r) at none = go es r at (λ k d within. none (suc k) d (omega arith))

pub nothing_moves : (comps : List ℕ) → Moves comps [] → ⊥
nothing_moves comps moves = let m = moves.3 in omega (arith, m)

pub number_small : (ans : Attempt) (b : Bool) (n u k : ℕ) → n < 2 ^ 58 → u < 2 ^ 63
    → k ≡ (if is_granted ans && b then n else u) → k < 2 ^ 63
number_small (Granted s) true n u k x y is = omega (arith, is)
number_small (Granted s) false n u k x y is = omega (arith, is)
number_small (Used c i) b n u k x y is = omega (arith, is)
number_small (Busy c) b n u k x y is = omega (arith, is)
number_small (Unknown c) b n u k x y is = omega (arith, is)

-- the first want without a row is of the lowest component that lacks one
pub lacking_first : (rows : List (CompId × ℕ)) (wants more : List Want) (w : Want)
    → wants ≡ w ∷ more → IsStrictlyIncreasing (components_of wants)
    → All (λ (e : CompId × ℕ). e.0.0 ≢ w.comp.0) rows
    → IsLowest (WantsWithoutRow rows wants) w.comp.0
lacking_first rows wants more w is rising none =
    let rises = rises_from_increasing (components_of (w ∷ more))
    (subst (λ (ws : List Want). IsStrictlyIncreasing (components_of ws)) is rising) in
    subst (λ (ws : List Want). IsLowest (WantsWithoutRow rows ws) w.comp.0) (sym is) (record {
      here = ((0, w, omega arith, refl, refl), none);
      lower = λ k below lacks. let l = lacks.0 in
          not_below (w ∷ more) w.comp.0 (le_refl, lows more rises.0) l.0 l.1 l.2 l.3 k l.4 below;
    })
  where
    le_refl : w.comp.0 ≤ w.comp.0
    le_refl = omega arith

    lows : (ws : List Want) → AllByRecursion (λ y. w.comp.0 < y) (components_of ws)
        → AllByRecursion (λ (v : Want). w.comp.0 ≤ v.comp.0) ws
    lows [] all = tt
    lows (v ∷ vs) all = (let a = all.0 in omega (arith, a), lows vs all.1)

    not_below : (ws : List Want) (c : ℕ) → AllByRecursion (λ (v : Want). c ≤ v.comp.0) ws
        → (i : ℕ) (v : Want) → i < length ws → slice_index_or ws i v ≡ v → (k : ℕ) → v.comp.0 ≡ k
        → k < c → ⊥
    not_below [] c all i v within at k is below = omega arith
    not_below (x ∷ xs) c all zero v within at k is below = let a = all.0 in let e =
        ap (λ (u : Want). u.comp.0) at in omega (arith, a, e, is, below)
    not_below (x ∷ xs) c all (suc i) v within at k is below =
        not_below xs c all.1 i v (omega arith) at k is below

pub lacking_later : (rows : List (CompId × ℕ)) (wants more : List Want) (w : Want)
    (o : Option CompId) → wants ≡ w ∷ more → HasRow (row_comps rows) w
    → IfSome o (λ c. IsLowest (WantsWithoutRow rows more) c.0)
    → IfSome o (λ c. IsLowest (WantsWithoutRow rows wants) c.0)
lacking_later rows wants more w None is row low = tt
lacking_later rows wants more w (Some c) is row low =
    subst (λ (ws : List Want). IsLowest (WantsWithoutRow rows ws) c.0) (sym is) (record {
      here = (let l = low.here.0 in (suc l.0, l.1, omega (arith, l.2), l.3, l.4), low.here.1);
      lower = λ k below lacks. lower k below lacks.0 lacks.1;
    })
  where
    lower : (k : ℕ) → k < c.0 → Any (λ (v : Want). v.comp.0 ≡ k) (w ∷ more)
        → All (λ (e : CompId × ℕ). e.0.0 ≢ k) rows → ⊥
    lower k below (zero, v, within, at, is_k) none =
        no_row rows w row (subst (λ (i : ℕ). All (λ (e : CompId × ℕ). e.0.0 ≢ i) rows)
        (sym is_k ∙ sym (ap (λ (u : Want). u.comp.0) at)) none)
    lower k below (suc i, v, within, at, is_k) none =
        low.lower k below ((i, v, omega arith, at, is_k), none)

-- each row of the wants was looked at once at most

row_is : (comps : List ℕ) (r c : ℕ) → IsRowOf comps r c → is_row_of comps r c ≡ true
row_is [] r c at = cc
row_is (d ∷ ds) zero c at = eq-eqb d c (some-injective d c at)
row_is (d ∷ ds) (suc r) c at = row_is ds r c at

-- a look at a wanted row
look_counts : (comps : List ℕ) (row c r n : ℕ) → IsRowOf comps row c
    → (if row == r then 1 else 0) + n ≤ (if is_row_of comps r c then 1 else 0) + n
look_counts comps row c r n at = dite (ℕ_discrete row r)
    (λ e. rw (eq-eqb row r e, row_is comps r c (subst (λ (i : ℕ). IsRowOf comps i c) e at))
    (omega arith))
    (λ ne. rw (ne_eqb row r ne) (omega arith))

-- up to the first want there is no other
first_alone : (w : Want) (more : List Want) → up_to w.comp.0 (w ∷ more) ≡ w ∷ []
first_alone w more = rw (eq-eqb w.comp.0 w.comp.0 refl) refl

-- who is refused at a later want has tried the first one
pub tried_more : (answer : Attempt) (wants done rest more : List Want) (w : Want)
    → IsStrictlyIncreasing (components_of wants) → wants ≡ done ++ rest → rest ≡ w ∷ more
    → IsRefusedIn answer more → tried_wants answer (w ∷ more) ≡ w ∷ tried_wants answer more
tried_more answer wants done rest more w rising whole is within = tried answer within
  where
    apart : (c : ℕ) (ws : List Want) → AllByRecursion (λ y. w.comp.0 < y) (components_of ws)
        → Any (λ (v : Want). v.comp.0 ≡ c) ws → w.comp.0 ≢ c
    apart c [] above (i, v, below, at, on) e = omega (arith, below)
    apart c (x ∷ xs) above (zero, v, below, at, on) e = let head = above.0 in let same =
        ap (λ (u : Want). u.comp.0) at in omega (arith, head, same, on, e)
    apart c (x ∷ xs) above (suc i, v, below, at, on) e =
        apart c xs above.1 (i, v, omega (arith, below), at, on) e

    goes_on : (c : ℕ) → Any (λ (v : Want). v.comp.0 ≡ c) more
        → up_to c (w ∷ more) ≡ w ∷ up_to c more
    goes_on c later = let rises = rises_later done (w ∷ more)
        (subst (λ (l : List Want). Rises (components_of l))
        (whole ∙ ap (λ (l : List Want). done ++ l) is)
        (rises_from_increasing (components_of wants) rising)) in
        rw (ne_eqb w.comp.0 c (apart c more rises.0 later)) refl

    tried : (a : Attempt) → IsRefusedIn a more → tried_wants a (w ∷ more) ≡ w ∷ tried_wants a more
    tried (Granted s) within = refl
    tried (Used c u) within = goes_on c.0 within
    tried (Busy c) within = goes_on c.0 within
    tried (Unknown c) within = absurd within

-- who is refused at one of the later wants is so at one of all
pub refused_later : (answer : Attempt) (rest more : List Want) (w : Want) → rest ≡ w ∷ more
    → IsRefusedIn answer more → IsRefusedIn answer rest
refused_later answer rest more w is within = subst (IsRefusedIn answer) (sym is)
    (refused answer within)
  where
    longer : (c : ℕ) → Any (λ (v : Want). v.comp.0 ≡ c) more
        → Any (λ (v : Want). v.comp.0 ≡ c) (w ∷ more)
    longer c l = (suc l.0, l.1, omega (arith, l.2), l.3, l.4)

    refused : (a : Attempt) → IsRefusedIn a more → IsRefusedIn a (w ∷ more)
    refused (Granted s) within = tt
    refused (Used c u) within = longer c.0 within
    refused (Busy c) within = longer c.0 within
    refused (Unknown c) within = absurd within

pub refused_here : (rest more : List Want) (w : Want) → rest ≡ w ∷ more
    → Any (λ (v : Want). v.comp.0 ≡ w.comp.0) rest
refused_here rest more w is = subst (Any (λ (v : Want). v.comp.0 ≡ w.comp.0)) (sym is)
    (any_middle (λ (v : Want). v.comp.0 ≡ w.comp.0) [] more w refl)

no_looks : (b : Bool) → ◌≡◌ {A = ℕ} (if b then 0 else 0) 0
no_looks true = refl
no_looks false = refl

module _ (comps : List ℕ) where
  pub once_drawn : (rest : List Want) (serial : ℕ) (old new : Knowledge) → rest ≡ []
      → new.notes ≡ old.notes → TriedOnce comps rest (Granted serial) old new
  once_drawn rest serial old new none same = record {
    keeps = ([], same);
    looks = λ r. rw (none, same) (omega arith);
    changes = rw same (omega arith);
  }

  -- a call that ends at the first want tries no other
  pub once_looked : (rest more : List Want) (w : Want) (answer : Attempt) (row word own : ℕ)
      (old new : Knowledge) → rest ≡ w ∷ more
      → tried_wants answer (w ∷ more) ≡ up_to w.comp.0 (w ∷ more) → IsRowOf comps row w.comp.0
      → new.notes ≡ note row word own Look ∷ old.notes → TriedOnce comps rest answer old new
  once_looked rest more w answer row word own old new is ends at notes = record {
    keeps = (note row word own Look ∷ [], notes);
    looks = λ r. let l = look_counts comps row w.comp.0 r 0 at in let tried =
        ap (tried_wants answer) is ∙ (ends ∙ first_alone w more) in
        rw (tried, notes) (omega (arith, l));
    changes = rw notes (omega arith);
  }

  pub once_changed : (rest more : List Want) (w : Want) (row word own found again : ℕ)
      (old new : Knowledge) → rest ≡ w ∷ more → IsRowOf comps row w.comp.0
      → new.notes ≡ note row found again Changed ∷ note row word own Look ∷ old.notes
      → TriedOnce comps rest (Busy w.comp) old new
  once_changed rest more w row word own found again old new is at notes = record {
    keeps = (note row found again Changed ∷ note row word own Look ∷ [], notes);
    looks = λ r. let l = look_counts comps row w.comp.0 r 0 at in let z = no_looks (row == r) in
        let tried = ap (up_to w.comp.0) is ∙ first_alone w more in
        rw (tried, notes) (omega (arith, l, z));
    changes = rw notes (omega arith);
  }

  pub once_around : (rest more : List Want) (w : Want) (answer : Attempt)
      (row word own last mine : ℕ) (old mid inner new : Knowledge) → rest ≡ w ∷ more
      → tried_wants answer (w ∷ more) ≡ w ∷ tried_wants answer more → IsRowOf comps row w.comp.0
      → mid.notes ≡ note row word own Look ∷ old.notes
      → new.notes ≡ note row last mine Wrote ∷ inner.notes → TriedOnce comps more answer mid inner
      → TriedOnce comps rest answer old new
  once_around rest more w answer row word own last mine old mid inner new is later at begin end
      once = record {
        keeps = (
          note row last mine Wrote ∷ (once.keeps.0 ++ note row word own Look ∷ []),
          end ∙ ap (λ (l : List Note). note row last mine Wrote ∷ l)
              (once.keeps.1 ∙ (ap (λ (l : List Note). once.keeps.0 ++ l) begin
              ∙ sym (append_assoc once.keeps.0 (note row word own Look ∷ []) old.notes))),
        );
        looks = λ r.
            let l = look_counts comps row w.comp.0 r 0 at in
            let z = no_looks (row == r) in
            let i = once.looks r in
            let b = ap (look_count r) begin in
            let tried = ap (tried_wants answer) is ∙ later in
            rw (tried, end) (omega (arith, l, z, i, b));
        changes =
            let i = once.changes in
            let b = ap change_count begin in
            rw end (omega (arith, i, b));
      }

pub all_free : (comps : List ℕ) (cs : List Claim) (ws : List Want) → cs ≡ []
    → AllByRecursion (IsFree comps cs) ws
all_free comps cs [] none = tt
all_free comps cs (w ∷ ws) none = (λ r there. ap (claims_on r) none, all_free comps cs ws none)

-- what is left of the claims that were there, where none were
pub none_after : (answer : Attempt) (cs : List Claim) → cs ≡ [] → claims_after answer cs ≡ []
none_after (Granted serial) cs none = ap all_due none
none_after (Used c u) cs none = none
none_after (Busy c) cs none = none
none_after (Unknown c) cs none = none

pub attempted : (rows : List (CompId × ℕ)) (g : Grant) (answer : Attempt) (old new : Knowledge)
    → AllByRecursion (HasRow (row_comps rows)) g.wants → Answered (row_comps rows) g answer old new
    → IsGrantedWith answer (AllByRecursion (HasWrittenRow (row_comps rows) new.notes) g.wants)
    → IsAttempt rows g answer old new
attempted rows g (Granted serial) old new have is written = (written, is)
attempted rows g (Used c u) old new have is written = (have, is)
attempted rows g (Busy c) old new have is written = (have, is)
attempted rows g (Unknown c) old new have is written = absurd is

-- what was written before stays so, and the row of one more want is written
pub written_more : (comps : List ℕ) (answer : Attempt) (rest more : List Want) (w : Want)
    (row used number mine : ℕ) (inner new : Knowledge) → rest ≡ w ∷ more
    → IsRowOf comps row w.comp.0 → number ≡ (if is_granted answer
    && is_moved w.role then w.number else used)
    → new.notes ≡ note row (2 * number) mine Wrote ∷ inner.notes
    → IsGrantedWith answer (AllByRecursion (HasWrittenRow comps inner.notes) more)
    → IsGrantedWith answer (AllByRecursion (HasWrittenRow comps new.notes) rest)
written_more comps (Granted serial) rest more w row used number mine inner new is at number_is notes
    written =
    subst (λ (ws : List Want). AllByRecursion (HasWrittenRow comps new.notes) ws) (sym is)
    (subst (λ (ns : List Note). AllByRecursion (HasWrittenRow comps ns) (w ∷ more)) (sym notes) (
      (row, at, rw (eq-eqb row row refl) (here (is_moved w.role) number_is)),
      each_weaker (HasWrittenRow comps inner.notes)
          (HasWrittenRow comps (note row (2 * number) mine Wrote ∷ inner.notes))
          (λ v there. (there.0, there.1, (let t = there.2 in omega (arith, t)))) more written,
    ))
  where
    here : (b : Bool) → number ≡ (if b then w.number else used)
        → owing b w.number ≤ max (2 * number / 2) (seen_in row inner.notes)
    here true e = omega (arith, e)
    here false e = omega arith
written_more comps (Used c u) rest more w row used number mine inner new is at number_is notes
    written = tt
written_more comps (Busy c) rest more w row used number mine inner new is at number_is notes
    written = tt
written_more comps (Unknown c) rest more w row used number mine inner new is at number_is notes
    written = tt

-- wants are looked at by component

none_lower : (P : Want → Type 0) (c : ℕ) (ws : List Want)
    → AllByRecursion (λ y. c < y) (components_of ws)
    → AllByRecursion (λ (v : Want). v.comp.0 < c → P v) ws
none_lower P c [] above = tt
none_lower P c (v ∷ vs) above = (
  (λ less. absurd (let up = above.0 in omega (arith, less, up))),
  none_lower P c vs above.1,
)

-- of the rest of the wants, none is of a lower component than the first
pub refused_first : (P : Want → Type 0) (wants done rest more : List Want) (w : Want)
    → IsStrictlyIncreasing (components_of wants) → wants ≡ done ++ rest → rest ≡ w ∷ more
    → AllByRecursion (λ (v : Want). v.comp.0 < w.comp.0 → P v) rest
refused_first P wants done rest more w rising whole is =
    let rises = rises_later done (w ∷ more) (subst (λ (l : List Want). Rises (components_of l))
    (whole ∙ ap (λ (l : List Want). done ++ l) is)
    (rises_from_increasing (components_of wants) rising)) in
    subst (AllByRecursion (λ (v : Want). v.comp.0 < w.comp.0 → P v)) (sym is)
    ((λ less. absurd (omega (arith, less))), none_lower P w.comp.0 more rises.0)

-- the row of one more want was found fresh
pub in_order : (comps : List ℕ) (answer : Attempt) (rest more : List Want) (w : Want)
    (row found own : ℕ) (last : Note) (old mid inner new : Knowledge) → rest ≡ w ∷ more
    → IsRowOf comps row w.comp.0 → 2 * (found / 2) ≡ found → own ≡ 0 → found / 2 < w.number
    → mid.notes ≡ note row found own Look ∷ old.notes → new.notes ≡ last ∷ inner.notes
    → ((made : List Note) × (inner.notes ≡ made ++ mid.notes))
    → LookedInOrder comps more answer mid inner → LookedInOrder comps rest answer old new
in_order comps answer rest more w row found own last old mid inner new is at even free less begin
    end keeps order = subst (λ (ws : List Want). LookedInOrder comps ws answer old new) (sym is)
    (each answer order)
  where
    here : FoundFresh comps old new w
    here = (
      row,
      found / 2,
      at,
      less,
      (
        last ∷ keeps.0,
        [],
        end ∙ ap (λ (l : List Note). last ∷ l)
            (keeps.1 ∙ ap (λ (l : List Note). keeps.0 ++ l)
            (begin ∙ (ap (λ (k : ℕ). note row found k Look ∷ old.notes) free
            ∙ ap (λ (n : ℕ). note row n 0 Look ∷ old.notes) (sym even)))),
      ),
    )

    out : (v : Want) → FoundFresh comps mid inner v → FoundFresh comps old new v
    out v f = (
      f.0,
      f.1,
      f.2,
      f.3,
      outer (note f.0
          (2 * f.1) 0 Look) (note row found own Look) last old mid inner new begin end f.4,
    )

    each : (a : Attempt) → LookedInOrder comps more a mid inner
        → LookedInOrder comps (w ∷ more) a old new
    each (Granted s) all = (
      here,
      each_weaker (FoundFresh comps mid inner) (FoundFresh comps old
          new) out more all,
    )
    each (Used c u) all = (
      (λ _. here),
      each_weaker (FoundFreshBelow comps c.0 mid
          inner) (FoundFreshBelow comps c.0 old new) (λ v f below. out v (f below)) more all,
    )
    each (Busy c) all = (
      (λ _. here),
      each_weaker (FoundFreshBelow comps c.0 mid
          inner) (FoundFreshBelow comps c.0 old new) (λ v f below. out v (f below)) more all,
    )
    each (Unknown c) all = tt
