-- Each kind of step keeps the rule.
use Rattle.std.proofs.Common.{◌≡◌, ◌≢◌, ℕ, suc, pred, add-one, ◌+◌, ◌*◌, ◌/◌, ◌%◌, ◌<◌, ◌≤◌, ◌^◌}
use Rattle.std.proofs.Common.{max, false, List, [], ◌∷◌, ◌++◌, length, set, refl, sym, ap, ◌∙◌}
use Rattle.std.proofs.Common.{subst, inl, arith}
use Rattle.std.specs.Prelude.{slice_index, ◌==◌}
use mathlib.Core.Option.{some, none, some-injective}
use prog.Atomic.{either}
use lib.ListN.{get_elem?}
use Rattle.atomic_table.specs.Table.{State, Me, Act, keeps, step, stepped, Allows, Splits, Joins}
use Rattle.atomic_table.specs.Table.{Enters, Valid, carried_after}
use Rattle.atomic_table.proofs.Lists.{exchanged, set_again}
use Rattle.bip_model.specs.Wants.{moved_in}
use Rattle.bip_model.specs.Grants.{used_by}
use Rattle.bip_model.specs.declared.numbering.CompId.{CompId}
use Rattle.bip_words.specs.declared.knowledge.Learned.TheVariants.{Look, Changed, Wrote}
use Rattle.std.specs.List.{AllByRecursion}
use Rattle.bip_model.specs.declared.messages.Request.{Request}
use Rattle.bip_words.proofs.ClaimLemmas.{drawn, noted, opened, taken_in, wrote}
use Rattle.bip_words.proofs.FlightLemmas.{flies_drawn, flies_given, flies_joined, flies_opened}
use Rattle.bip_words.proofs.FlightLemmas.{flies_set}
use Rattle.bip_words.proofs.LogLemmas.{claimed_log, drawn_log, given_log, opened_log, taken_in_log}
use Rattle.bip_words.proofs.LogLemmas.{unmoved_words}
use Rattle.bip_words.proofs.OwedLemmas.{due_claims, placed_below, weight_below}
use Rattle.bip_words.proofs.Passes.{IsClaimed, IsLogged, Stands, count_of}
use Rattle.bip_words.proofs.RuleLemmas.{kept, length_comps, stands}
use Rattle.bip_words.proofs.Totals.{claims_stay, counts_stay, each_weaker, notes_stay, off_row}
use Rattle.bip_words.proofs.Totals.{on_row, row_written, total_at, word_again, word_same}
use Rattle.bip_words.specs.Knowledge.{asked_by, both_of, claim, claims_on, knows, nobody, note}
use Rattle.bip_words.specs.Knowledge.{that_counted, with_note}
use Rattle.bip_words.specs.Rows.{floor_of, row_comps}
use Rattle.bip_words.specs.Rule.{IsClaimIn, IsCountedIn, IsKept, IsKnownIn, IsNotDue, IsPlaced}
use Rattle.bip_words.specs.Rule.{IsSeenIn, claims_of, row_word}
use Rattle.bip_words.specs.Steps.{Claims, Counts, Draws, IsGivenBack, IsBelow, IsCovered}
use Rattle.bip_words.specs.Steps.{IsSeenMost, IsSmall, Looks, OpensSeat, all_due, owing, rest_of}
use Rattle.bip_words.specs.Steps.{with_count}
use Rattle.bip_words.specs.declared.knowledge.Claim.{Claim}
use Rattle.bip_words.specs.declared.knowledge.Knowledge.{Knowledge}
use Rattle.bip_words.specs.declared.knowledge.Note.{Note}

-- a view with one note more, while the words stay
noted_step : (key : List (CompId × ℕ)) (s : State Request Knowledge) (id r n : ℕ)
    (m : Me Request Knowledge) (x : Note) → Stands key s → get_elem? s.views id ≡ some m.0
    → n ≡ slice_index s.words (suc r) → IsSeenIn s.words x
    → Stands key (stepped s (suc r) n id m.1 (with_note x m.0) keeps)
noted_step key s id r n m x h at is seen =
    let w : Knowledge = with_note x m.0 in
    let same : set s.words (suc r) n ≡ s.words = ap (set s.words (suc r)) is
    ∙ word_again s.words (suc r) in
    let known = h.first.known id m.0 at in record {
      log = h.log;
      first = subst (λ (l : List ℕ). IsClaimed (length (row_comps key)) l (set s.views id w))
          (sym same) (noted (length (row_comps key)) s.words s.views id m.0 w h.first at (λ k. refl)
          (known.0, (seen, known.1), known.2));
      second = subst (λ (l : List ℕ). IsLogged (row_comps key) (floor_of key) l
          (set s.views id w) h.log) (sym same)
          (unmoved_words (row_comps key) (floor_of key) s.words s.views id m.0 w h.log h.second at
          (λ r c. refl) refl (h.second.flight id m.0 at));
      third = flies_set (row_comps key) (floor_of key) s.views h.log id m.0 w h.third at (λ f. f);
    }

looks_stands : (key : List (CompId × ℕ)) (slots id r : ℕ) (m : Me Request Knowledge)
    → Allows (Stands key) slots id m (suc r) (λ n. n) (Looks (step slots (suc r) 0 0 none) m)
looks_stands key slots id r m s h homes at fits =
    let n : ℕ = slice_index s.words (suc r) in (
      with_note (note r n (claims_on r m.0.claims) Look) m.0,
      keeps,
      tt,
      noted_step key s id r n m (note r n (claims_on r m.0.claims) Look) h at refl (omega arith),
      (
        refl,
        each_weaker (IsSeenIn s.words) (IsSeenMost r n) (λ x all on.
            subst (λ (k : ℕ). x.word / 2 ≤ row_word s.words k / 2) on all) m.0.notes
            (h.first.known id m.0 at).1,
      ),
    )

abbrev Wins : (key : List (CompId × ℕ)) (slots id r u : ℕ) (g : Request) (m : Me Request Knowledge)
    → State Request Knowledge → ℕ → Type 0
Wins key slots id r u g m s new = (w : Knowledge) × (a : Act Request) × Valid s.homes m.1 a
    × Stands key (stepped s (suc r) new id m.1 w a)
    × Claims (step slots (suc r) (2 * u) (2 * u + 1) (some g)) m (slice_index s.words (suc r))
    (w, carried_after m.1 a)

takes_stands : (key : List (CompId × ℕ)) (slots id r u : ℕ) (g : Request) (m : Me Request Knowledge)
    → r < length (row_comps key) → AllByRecursion IsNotDue m.0.claims
    → Allows (Stands key) slots id m (suc r) (λ n. either (n == 2 * u) (2 * u + 1) n)
    (Claims (step slots (suc r) (2 * u) (2 * u + 1) (some g)) m)
takes_stands key slots id r u g m lt idle s h homes at fits =
    exchanged (slice_index s.words (suc r)) (2 * u) (2 * u + 1)
    (Wins key slots id r u g m s) hit miss
  where
    n : ℕ
    n = slice_index s.words (suc r)

    hit : slice_index s.words (suc r) ≡ 2 * u → Wins key slots id r u g m s (2 * u + 1)
    hit e =
        let rows : ℕ = length (row_comps key) in
        let w : Knowledge = knows (claim r (slice_index s.words (suc r) / 2) false ∷ m.0.claims)
        m.0.notes g m.0.grants m.0.counts in
        let words : List ℕ = set s.words (suc r) (2 * u + 1) in
        let size = h.first.size in
        let long : suc r < length s.words = omega (arith, size, lt) in
        let most = total_at (claims_of r) s.views id m.0 at in
        let old = h.first.claims r lt in
        let none_mine : claims_of r m.0 ≡ 0 = omega (arith, most, old, e) in
        let new = word_same s.words (suc r) (2 * u + 1) long in
        let known = h.first.known id m.0 at in
        let one = on_row r (claim r (slice_index s.words (suc r) / 2) false) m.0.claims refl in
        let mine : IsKnownIn rows words w = (
          (
            (lt, new ∙ omega (arith, e)),
            claims_stay rows r (2 * u +
                1) s.words m.0.claims none_mine known.0,
          ),
          notes_stay r (2 * u + 1) s.words m.0.notes long (omega (arith, e)) known.1,
          counts_stay s.words words m.0.counts (row_written s.words r (2 * u + 1)) known.2,
        ) in (
          w,
          keeps,
          tt,
          record {
            log = h.log;
            first = wrote rows s.words s.views id r (2 * u + 1) m.0 w h.first at lt
                (omega (arith, one, none_mine, e))
                (λ k ne. off_row k (claim r (slice_index s.words (suc r) / 2) false) m.0.claims
                (λ i. ne (sym i))) (omega (arith, none_mine, e)) (omega (arith, e)) mine;
            second = claimed_log (row_comps key) (floor_of key) s.words s.views id r
                (2 * u + 1) m.0 w h.log h.second at long lt (omega (arith, e)) idle
                (refl, idle) refl;
            third = flies_set (row_comps key) (floor_of key) s.views h.log id m.0 w h.third at
                (λ f. inl (refl, idle));
          },
          (
            (λ _ g' is. ap (λ (k : Request). (
              knows (claim r (slice_index s.words (suc r) / 2) false
                  ∷ m.0.claims) m.0.notes k m.0.grants m.0.counts,
              m.1,
            )) (some-injective g g' is)),
            λ ne. absurd (ne e),
          ),
        )

    miss : slice_index s.words (suc r) ≢ 2 * u
        → Wins key slots id r u g m s (slice_index s.words (suc r))
    miss ne = (
      with_note (note r (slice_index s.words (suc r)) (claims_on r m.0.claims) Changed) m.0,
      keeps,
      tt,
      noted_step key s id r (slice_index s.words (suc r)) m
          (note r (slice_index s.words (suc r)) (claims_on r m.0.claims) Changed) h at refl
          (omega arith),
      ((λ e. absurd (ne e)), λ _. refl),
    )

draws_stands : (key : List (CompId × ℕ)) (slots id r d : ℕ) (m : Me Request Knowledge)
    → AllByRecursion IsNotDue m.0.claims → AllByRecursion
    (IsCovered (row_comps key) m.0.claims) m.0.asked.wants → AllByRecursion IsSmall m.0.asked.wants
    → get_elem? (row_comps key) r ≡ some d → 0 < moved_in m.0.asked.wants d
    → Allows (Stands key) slots id m 0 (λ n. (n + 1) % 2 ^ 64) (Draws (step slots 0 1 0 none) m)
draws_stands key slots id r d m idle covers small row moves s h homes at fits =
    let n : ℕ = slice_index s.words 0 in
    let w : Knowledge = knows (all_due m.0.claims) m.0.notes m.0.asked
    ((n, asked_by m.0.asked) ∷ m.0.grants) m.0.counts in
    let l = h.second in
    let is : n ≡ length h.log = l.ticket in
    let a = l.rises in
    let b = weight_below (used_by (floor_of key) h.log) (row_comps key) l.small in
    let c = l.few in
    let sum : (n + 1) % 2 ^ 64 ≡ n + 1 = omega (arith, is, a, b, c) in
    let known = h.first.known id m.0 at in
    let mine = total_at count_of s.views id m.0 at in
    let all = l.counts in
    let first = drawn (length (row_comps key)) s.words s.views id (n + 1) m.0 w h.first at
    (omega arith) (λ k. due_claims k m.0.claims)
    (all_claimed m.0.claims known.0, known.1, known.2) in (
      w,
      keeps,
      tt,
      record {
        log = h.log ++ asked_by m.0.asked ∷ [];
        first = subst (λ (k : ℕ). IsClaimed (length (row_comps key)) (set s.words 0 k)
            (set s.views id w)) (sym sum) first;
        second = subst (λ (k : ℕ). IsLogged (row_comps key) (floor_of key) (set s.words 0 k)
            (set s.views id w) (h.log ++ asked_by m.0.asked ∷ [])) (sym sum)
            (drawn_log (row_comps key) (floor_of key) s.words s.views id n m.0 w h.log l h.first
            first at is idle covers small r d row moves refl);
        third = flies_drawn (row_comps key) (floor_of key) s.words s.views h.log id n m.0 w h.third
            l h.first at is idle covers refl;
      },
      (
        refl,
        each_weaker (IsPlaced h.log) (IsBelow n) (λ p there. subst (λ (k : ℕ). p.0 < k)
            (sym is) (placed_below h.log p there)) m.0.grants (l.placed id m.0 at),
        omega (arith, mine, all, is),
        omega (arith, is, a, b, c),
      ),
    )
  where
    all_claimed : (cs : List Claim) → AllByRecursion (IsClaimIn (length (row_comps key)) s.words) cs
        → AllByRecursion (IsClaimIn (length (row_comps key)) s.words) (all_due cs)
    all_claimed [] all = tt
    all_claimed (c ∷ cs) all = (all.0, all_claimed cs all.1)

gives_stands : (key : List (CompId × ℕ)) (slots id r d y : ℕ) (x : Claim) (rest : List Claim)
    (m : Me Request Knowledge) → m.0.claims ≡ x ∷ rest → x.row ≡ r
    → get_elem? (row_comps key) r ≡ some d
    → y ≡ max x.used (owing x.due (moved_in m.0.asked.wants d))
    → Allows (Stands key) slots id m (suc r) (λ _. 2 * y)
    (λ _. IsGivenBack (step slots (suc r) (2 * y) 0 none) m (2 * y))
gives_stands key slots id r d y x rest m has on comp is s h homes at fits =
    let rows : ℕ = length (row_comps key) in
    let w : Knowledge = knows (rest_of m.0.claims)
    (note r (2 * y) (claims_on r m.0.claims) Wrote ∷ m.0.notes) m.0.asked m.0.grants
    m.0.counts in
    let known = h.first.known id m.0 at in
    let each = subst (AllByRecursion (IsClaimIn rows s.words)) has known.0 in
    let lt : r < rows = subst (λ (k : ℕ). k < rows) on each.0.0 in
    let word : row_word s.words r ≡ 2 * x.used + 1 = ap (row_word s.words) (sym on) ∙ each.0.1 in
    let size = h.first.size in
    let long : suc r < length s.words = omega (arith, size, lt) in
    let most = total_at (claims_of r) s.views id m.0 at in
    let old = h.first.claims r lt in
    let one : claims_of r m.0 ≡ suc (claims_on r rest) = ap (claims_on r) has
    ∙ on_row r x rest on in
    let none_left : claims_on r rest ≡ 0 = omega (arith, most, old, one, word) in
    let leaves : w.claims ≡ rest = ap rest_of has in
    let left : claims_of r w ≡ 0 = ap (claims_on r) leaves ∙ none_left in
    let up : row_word s.words r / 2 ≤ 2 * y / 2 = omega (arith, word, is) in
    let new = word_same s.words (suc r) (2 * y) long in
    let mine : IsKnownIn rows (set s.words (suc r) (2 * y)) w = (
      subst (AllByRecursion (IsClaimIn rows (set s.words (suc r) (2 * y)))) (sym leaves)
          (claims_stay rows r (2 * y) s.words rest none_left each.1),
      (omega (arith, new), notes_stay r (2 * y) s.words m.0.notes long up known.1),
      counts_stay s.words (set s.words (suc r) (2 * y)) m.0.counts
          (row_written s.words r (2 * y)) known.2,
    ) in
    let first = wrote rows s.words s.views id r (2 * y) m.0 w h.first at lt
    (omega (arith, left, one, none_left, word))
    (λ k ne. ap (claims_on k) leaves ∙ (sym (off_row k x rest (λ e. ne (sym e ∙ on)))
    ∙ sym (ap (claims_on k) has))) (omega (arith, one, none_left, word)) up mine in (
      w,
      keeps,
      tt,
      record {
        log = h.log;
        first = first;
        second = given_log (row_comps key) (floor_of key) s.words s.views id r d y x rest m.0 w
            h.log h.second h.first first at lt comp has leaves refl refl on none_left word is;
        third = flies_set (row_comps key) (floor_of key) s.views h.log id m.0 w h.third at
            (flies_given (row_comps key) (floor_of key) h.log x rest m.0 w has leaves refl);
      },
      refl,
    )

-- the grants are counted
counts_stands : (key : List (CompId × ℕ)) (slots id : ℕ) (m : Me Request Knowledge)
    → Allows (Stands key) slots id m 0 (λ n. n) (Counts (step slots 0 0 0 none) m)
counts_stands key slots id m s h homes at fits =
    let n : ℕ = slice_index s.words 0 in
    let w : Knowledge = with_count n m.0 in
    let same : set s.words 0 n ≡ s.words = word_again s.words 0 in
    let known = h.first.known id m.0 at in
    let mine = total_at count_of s.views id m.0 at in
    let all = h.second.counts in
    let is = h.second.ticket in (
      w,
      keeps,
      tt,
      record {
        log = h.log;
        first = subst (λ (l : List ℕ). IsClaimed (length (row_comps key)) l (set s.views id w))
            (sym same) (noted (length (row_comps key)) s.words s.views id m.0 w h.first at
            (λ k. refl) (known.0, known.1, (omega arith, known.2)));
        second = subst (λ (l : List ℕ). IsLogged (row_comps key) (floor_of key) l
            (set s.views id w) h.log) (sym same)
            (unmoved_words (row_comps key) (floor_of key) s.words s.views id m.0 w h.log h.second at
            (λ r c. refl) refl (h.second.flight id m.0 at));
        third = flies_set (row_comps key) (floor_of key) s.views h.log id m.0 w h.third at (λ f. f);
      },
      (refl, omega (arith, mine, all, is)),
    )

-- one more seat
opened_stands : (key : List (CompId × ℕ)) (s : State Request Knowledge) (ns : List ℕ) → Stands key s
    → AllByRecursion (IsCountedIn s.words) ns
    → Stands key (record {
      words = s.words;
      homes = s.homes;
      views = s.views ++ that_counted ns ∷ [];
    })
opened_stands key s ns h counted = record {
  log = h.log;
  first = opened (length (row_comps key)) s.words s.views ns h.first counted;
  second = opened_log (row_comps key) (floor_of key) s.words s.views ns h.log h.second;
  third = flies_opened (row_comps key) (floor_of key) s.views h.log ns h.third;
}

joins_stands : (key : List (CompId × ℕ)) (id : ℕ) (v : Knowledge) (other : ℕ) (w : Knowledge)
    → v.claims ≡ [] → w.claims ≡ [] → Joins (Stands key) id v other w (both_of v w) nobody
joins_stands key id v other w free idle s h at apart there = record {
  log = h.log;
  first = taken_in (length (row_comps key)) s.words s.views id other v w h.first at apart there
      idle;
  second = taken_in_log (row_comps key) (floor_of key) s.words s.views id other v w h.log h.second
      at apart there idle;
  third = flies_joined (row_comps key) (floor_of key) s.views h.log id other v w h.third free at
      there;
}

-- the row of a word
pub row_back : (r : ℕ) → pred (r + 1) ≡ r
row_back r = ap pred (add-one r)

-- what keeps the passes keeps the rule
allows : (key : List (CompId × ℕ)) (slots id i : ℕ) (m : Me Request Knowledge) (f : ℕ → ℕ)
    (then : ℕ → Me Request Knowledge → Type 0) → Allows (Stands key) slots id m i f then
    → Allows (IsKept key) slots id m i f then
allows key slots id i m f then steps s h homes at fits =
    let x = steps s (stands key s h) homes at fits in (
      x.0,
      x.1,
      x.2,
      kept key (stepped s i (f (slice_index s.words i)) id m.1 x.0 x.1) h.valid x.3,
      x.4,
    )

pub looks : (key : List (CompId × ℕ)) (slots id r : ℕ) (m : Me Request Knowledge)
    → Allows (IsKept key) slots id m (suc r) (λ n. n) (Looks (step slots (suc r) 0 0 none) m)
looks key slots id r m = allows key slots id (suc r) m (λ n. n)
    (Looks (step slots (suc r) 0 0 none) m) (looks_stands key slots id r m)

pub takes : (key : List (CompId × ℕ)) (slots id r u : ℕ) (g : Request) (m : Me Request Knowledge)
    → r < length key → AllByRecursion IsNotDue m.0.claims
    → Allows (IsKept key) slots id m (suc r) (λ n. either (n == 2 * u) (2 * u + 1) n)
    (Claims (step slots (suc r) (2 * u) (2 * u + 1) (some g)) m)
takes key slots id r u g m lt idle =
    allows key slots id (suc r) m (λ n. either (n == 2 * u) (2 * u + 1) n)
    (Claims (step slots (suc r) (2 * u) (2 * u + 1) (some g)) m)
    (takes_stands key slots id r u g m (let same = length_comps key in omega (arith, same, lt))
    idle)

pub draws : (key : List (CompId × ℕ)) (slots id r d : ℕ) (m : Me Request Knowledge)
    → AllByRecursion IsNotDue m.0.claims → AllByRecursion
    (IsCovered (row_comps key) m.0.claims) m.0.asked.wants → AllByRecursion IsSmall m.0.asked.wants
    → get_elem? (row_comps key) r ≡ some d → 0 < moved_in m.0.asked.wants d
    → Allows (IsKept key) slots id m 0 (λ n. (n + 1) % 2 ^ 64) (Draws (step slots 0 1 0 none) m)
draws key slots id r d m idle covers small row moves =
    allows key slots id 0 m (λ n. (n + 1) % 2 ^ 64) (Draws (step slots 0 1 0 none) m)
    (draws_stands key slots id r d m idle covers small row moves)

pub gives : (key : List (CompId × ℕ)) (slots id r d y : ℕ) (x : Claim) (rest : List Claim)
    (m : Me Request Knowledge) → m.0.claims ≡ x ∷ rest → x.row ≡ r
    → get_elem? (row_comps key) r ≡ some d
    → y ≡ max x.used (owing x.due (moved_in m.0.asked.wants d))
    → Allows (IsKept key) slots id m (suc r) (λ _. 2 * y)
    (λ _. IsGivenBack (step slots (suc r) (2 * y) 0 none) m (2 * y))
gives key slots id r d y x rest m has on comp is =
    allows key slots id (suc r) m (λ _. 2 * y)
    (λ _. IsGivenBack (step slots (suc r) (2 * y) 0 none) m (2 * y))
    (gives_stands key slots id r d y x rest m has on comp is)

pub counts : (key : List (CompId × ℕ)) (slots id : ℕ) (m : Me Request Knowledge)
    → Allows (IsKept key) slots id m 0 (λ n. n) (Counts (step slots 0 0 0 none) m)
counts key slots id m = allows key slots id 0 m (λ n. n) (Counts (step slots 0 0 0 none) m)
    (counts_stands key slots id m)

opens_seat : (key : List (CompId × ℕ)) (s : State Request Knowledge) (ns : List ℕ) → IsKept key s
    → AllByRecursion (IsCountedIn s.words) ns
    → IsKept key (record {
      words = s.words;
      homes = s.homes;
      views = s.views ++ that_counted ns ∷ [];
    })
opens_seat key s ns h counted = kept key (record {
  words = s.words;
  homes = s.homes;
  views = s.views ++ that_counted ns ∷ [];
}) h.valid
    (opened_stands key s ns (stands key s h) counted)

splits_into : (key : List (CompId × ℕ)) (id : ℕ) (v : Knowledge) (ns : List ℕ)
    → ((words : List ℕ) → AllByRecursion (IsCountedIn words) v.counts
    → AllByRecursion (IsCountedIn words) ns) → Splits (IsKept key) id v v (that_counted ns)
splits_into key id v ns fewer s h at =
    subst (λ (l : List Knowledge). IsKept key
    (record { words = s.words; homes = s.homes; views = l ++ that_counted ns ∷ [] }))
    (sym (set_again s.views id v at)) (opens_seat key s ns h
    (fewer s.words (h.known id v at).2))

pub splits : (key : List (CompId × ℕ)) (id : ℕ) (v : Knowledge) → Splits (IsKept key) id v v nobody
splits key id v = splits_into key id v [] (λ words all. tt)

-- a seat opens that knows what another one counted
pub witnesses : (key : List (CompId × ℕ)) (id : ℕ) (v : Knowledge)
    → Splits (IsKept key) id v v (that_counted v.counts)
witnesses key id v = splits_into key id v v.counts (λ words all. all)

pub joins : (key : List (CompId × ℕ)) (id : ℕ) (v : Knowledge) (other : ℕ) (w : Knowledge)
    → v.claims ≡ [] → w.claims ≡ [] → Joins (IsKept key) id v other w (both_of v w) nobody
joins key id v other w free idle s h at apart there =
    kept key (record {
      words = s.words;
      homes = s.homes;
      views = set (set s.views id (both_of v w)) other nobody;
    }) h.valid
    (joins_stands key id v other w free idle s (stands key s h) at apart there)

pub enters : (key : List (CompId × ℕ)) (slots : ℕ)
    → Enters (IsKept key) slots 0 (λ n w. OpensSeat (step slots 0 0 0 none) (nobody, []) n (w, []))
enters key slots s h homes fits = (nobody, opens_seat key s [] h tt, refl)
