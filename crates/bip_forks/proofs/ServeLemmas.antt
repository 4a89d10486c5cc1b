-- A station that serves: all that is kept of forks stays so.
use Rattle.std.proofs.Common.{◌≡◌, ◌≢◌, ℕ, ◌≤◌, max, length, List, Option, None, Some, refl, sym}
use Rattle.std.proofs.Common.{ap, ◌∙◌, subst, inl, inr, arith}
use Rattle.std.specs.Prelude.{◌⊎◌, Contains}
use Rattle.std.proofs.lemmas.Bool.Decides.{eqb_tells}
use Rattle.std.proofs.lemmas.List.{length_push}
use Rattle.std.proofs.lemmas.List.Elements.{Contains-push_cases}
use Rattle.bip_model.proofs.HistoryLemmas.{used_by-push}
use Rattle.bip_model.proofs.ListLemmas.{Contains-head, Contains-tail}
use Rattle.bip_model.specs.Numbering.{put}
use Rattle.bip_model.specs.Wants.{moved_in}
use Rattle.bip_model.specs.declared.grants.Grant.{Grant}
use Rattle.bip_model.specs.declared.messages.Request.{Request}
use Rattle.bip_table.specs.Reservations.{grant_of}
use Rattle.bip_table.specs.declared.reservations.Decision.{Decision}
use Rattle.bip_table.specs.declared.reservations.Decision.TheVariants.{Granted, Refused}
use Rattle.bip_bank.specs.Central.{IsOpen}
use Rattle.bip_bank.specs.Laws.{IsAllowed}
use Rattle.bip_forks.proofs.CountLemmas.{flies, flies_back}
use Rattle.bip_forks.proofs.HoldLemmas.{rows_exact, share_swap, used_above_base, used_goes_on}
use Rattle.bip_forks.proofs.HoldLemmas.{used_most}
use Rattle.bip_forks.specs.Machines.{AreForks, AtBoth, AtStation, LyingFork, Machine, Holds}
use Rattle.bip_forks.specs.Machines.{IsServed, IsForkWritten, Net, Owns, ShareFork, flying}
use Rattle.bip_forks.specs.Machines.{grants_after, here, rows_after, sent_fork, serial_after}
use Rattle.bip_forks.specs.Machines.{used_by_all}

-- a value of a function with another row is of that row, or was there
pub row_cases : {X : Type 0} (f : ℕ → ℕ → X) (s : ℕ) (g : ℕ → X) (i j : ℕ) (y : X)
    → put f s g i j ≡ y
    → ((i ≡ s) × (g j ≡ y)) ⊎ ((i ≢ s) × (f i j ≡ y))
row_cases f s g i j y is = elim (eqb_tells i s) [
  | inl same ↦ inl (same.1, rw same.0 at is)
  | inr other ↦ inr (other.1, rw other.0 at is)
]

-- the raised rows, and what is left of them, say the used numbers
pub served_exact : (m later : Machine) (s : ℕ) (q : Request) (d : Decision) → AreForks m
    → (is : IsServed m s q d later) → (c : ℕ) → AtStation m.net s c
    → is.rows c ≡ used_by_all m.net m.grants c
served_exact m later s q d are is c at =
    rows_exact m.net m.grants m.forks (m.used s) s is.rows are.net are.allowed
    (λ t f lies. are.hold s t f lies) (are.own s is.station) is.station is.complete is.raised c
    at

after_exact : (n : Net) (gs : List Grant) (rows : ℕ → ℕ) (q : Request) (d : Decision) (c : ℕ)
    → rows c ≡ used_by_all n gs c → rows_after rows q d c ≡ used_by_all n (grants_after gs q d) c
after_exact n gs rows q (Granted k) c same = ap (λ x. max x (moved_in q.wants c)) same
    ∙ sym (ap (λ (u : ℕ → ℕ). u c) (used_by-push (λ e. n.base) gs (grant_of q)))
after_exact n gs rows q (Refused e k) c same = same

used_after : (n : Net) (gs : List Grant) (q : Request) (d : Decision) (c : ℕ)
    → used_by_all n gs c ≤ used_by_all n (grants_after gs q d) c
used_after n gs q (Granted k) c = used_goes_on n gs (grant_of q) c
used_after n gs q (Refused e k) c = omega arith

-- a grant was there, or is of the request
grant_cases : (gs : List Grant) (q : Request) (d : Decision) (g : Grant)
    → Contains (grants_after gs q d) g → Contains gs g ⊎ (grant_of q ≡ g)
grant_cases gs q (Granted k) g has = Contains-push_cases gs (grant_of q) g has
grant_cases gs q (Refused e k) g has = inl has

counted_after : (n : ℕ) (gs : List Grant) (q : Request) (d : Decision) → n ≤ length gs
    → serial_after n d ≤ length (grants_after gs q d)
counted_after n gs q (Granted k) within = omega (arith, length_push gs (grant_of q))
counted_after n gs q (Refused e k) within = within

grown : (gs : List Grant) (q : Request) (d : Decision) → length gs ≤ length (grants_after gs q d)
grown gs q (Granted k) = omega (arith, length_push gs (grant_of q))
grown gs q (Refused e k) = omega arith

-- what forks of others hold, and their tables
holds_on : (n : Net) (gs : List Grant) (q : Request) (d : Decision) (s t : ℕ) (numbers : ℕ → ℕ)
    → q.inter.0 ≢ n.inter s → q.inter.0 ≢ n.inter t → Holds n gs s t numbers
    → Holds n (grants_after gs q d) s t numbers
holds_on n gs q d s t numbers one other holds = record {
  least = λ c g both has of. elim (grant_cases gs q d g has) [
    | inl old ↦ holds.least c g both old of
    | inr new ↦ absurd (elim of [
      | inl first ↦ one (ap (λ (h : Grant). h.inter.0) new ∙ first)
      | inr second ↦ other (ap (λ (h : Grant). h.inter.0) new ∙ second)
    ])
  ];
  most = λ c both. omega (arith, holds.most c both, used_after n gs q d c);
}

owns_on : (n : Net) (gs : List Grant) (q : Request) (d : Decision) (s : ℕ) (used : ℕ → ℕ)
    → q.inter.0 ≢ n.inter s → Owns n gs s used → Owns n (grants_after gs q d) s used
owns_on n gs q d s used other owns = record {
  floor = owns.floor;
  least = λ c g at has of. elim (grant_cases gs q d g has) [
    | inl old ↦ owns.least c g at old of
    | inr new ↦ absurd (other (ap (λ (h : Grant). h.inter.0) new ∙ of))
  ];
  most = λ c at. omega (arith, owns.most c at, used_after n gs q d c);
}

-- what was written
written_cases : (n : Net) (s t : ℕ) (rows : ℕ → ℕ) (x y : Option LyingFork) (f : LyingFork)
    → IsForkWritten n s t rows x y → y ≡ Some f
    → ((k : LyingFork) × (x ≡ Some k)) × ((c : ℕ) → AtBoth n s t c → f.numbers c ≡ rows c)
written_cases n s t rows None None f written is = cc
written_cases n s t rows None (Some g) f written is = absurd written
written_cases n s t rows (Some k) None f written is = absurd written
written_cases n s t rows (Some k) (Some g) f written is =
    let same : g ≡ f = cc in (
      (k, refl),
      subst (λ (h : LyingFork). (c : ℕ) → AtBoth n s t c
          → h.numbers c ≡ rows c) same written.1,
    )

written_here : (n : Net) (s t : ℕ) (rows : ℕ → ℕ) (x y : Option LyingFork)
    → IsForkWritten n s t rows x y → here y ≡ here x
written_here n s t rows None None written = refl
written_here n s t rows None (Some g) written = absurd written
written_here n s t rows (Some k) None written = absurd written
written_here n s t rows (Some k) (Some g) written = refl

row_here : (f : ℕ → ℕ → Option LyingFork) (s : ℕ) (g : ℕ → Option LyingFork) (i j : ℕ)
    → ((t : ℕ) → here (g t) ≡ here (f s t)) → here (put f s g i j) ≡ here (f i j)
row_here f s g i j same = elim (eqb_tells i s)
    [ inl is ↦ rw (is.0, is.1) (same j) | inr other ↦ rw other.0 refl ]

-- a station that has all its forks: none of them is elsewhere
not_there : (m : Machine) (s t : ℕ) (k f : LyingFork) → AreForks m → ShareFork m.net s t
    → m.forks s t ≡ Some k → m.forks t s ≡ Some f → ⊥
not_there m s t k f are share lies there =
    omega (arith, are.one s t share, ap here lies, ap here there)

not_flying : (m : Machine) (s t : ℕ) (k : LyingFork) → AreForks m → ShareFork m.net s t
    → m.forks s t ≡ Some k → 1 ≤ flying s t m.flight → ⊥
not_flying m s t k are share lies flies' =
    omega (arith, are.one s t share, ap here lies, flies')

pub served : (m later : Machine) (s : ℕ) (q : Request) (d : Decision) → AreForks m
    → IsServed m s q d later → AreForks later
served m later s q d are is = subst AreForks (sym is.after) (record {
  net = are.net;
  allowed = λ g has. elim (grant_cases m.grants q d g has) [
    | inl old ↦ are.allowed g old
    | inr new ↦ subst (λ (h : Grant). IsAllowed m.net.plan h) new
        (record { reserved = fit.0.reserved; parties = fit.0.parties })
  ];
  fit = λ a r has. elim (eqb_tells a (m.net.inter s)) [
    | inl same ↦ are.fit a r (rw same.1 (rw is.oldest
        (Contains-tail q r is.rest (rw same.0 at has))))
    | inr other ↦ are.fit a r (rw other.0 at has)
  ];
  counted = λ t. elim (eqb_tells t s) [
    | inl same ↦ rw same.0 (counted_after (m.serial s) m.grants q d (are.counted s))
    | inr other ↦ rw other.0 (omega (arith, are.counted t, grown m.grants q d))
  ];
  one = λ i j share. omega (
    arith,
    are.one i j share,
    row_here m.forks s is.forks i j stays,
    row_here m.forks s is.forks j i stays,
  );
  shared = λ i j f at. elim (row_cases m.forks s is.forks i j (Some f) at) [
    | inl row ↦ rw row.0 (are.shared s j ((written_cases m.net s j (rows_after is.rows q d)
        (m.forks s j) (is.forks j) f (is.written j) row.1).0.0)
        ((written_cases m.net s j (rows_after is.rows q d) (m.forks s j) (is.forks j) f
        (is.written j) row.1).0.1))
    | inr row ↦ are.shared i j f row.1
  ];
  sent_shared = are.sent_shared;
  one_token = are.one_token;
  token_shared = are.token_shared;
  sent_token_shared = are.sent_token_shared;
  hold = λ i j f at. elim (row_cases m.forks s is.forks i j (Some f) at) [
    | inl row ↦ rw row.0 (rewritten j f (written_cases m.net s j (rows_after is.rows q d)
        (m.forks s j) (is.forks j) f (is.written j) row.1).1)
    | inr row ↦ elsewhere i j f row.0 row.1
  ];
  sent_hold = λ i j numbers has.
      let share = are.sent_shared i j numbers has in
      holds_on m.net m.grants q d i j numbers
      (λ same. let i_is : i ≡ s = are.net.apart i s share.one is.station (sym same ∙ fit.1) in
      sent_from i j numbers has i_is)
      (λ same. let j_is : j ≡ s = are.net.apart j s share.other is.station (sym same ∙ fit.1) in
      sent_to i j numbers has j_is)
      (are.sent_hold i j numbers has);
  own = λ t known. elim (eqb_tells t s) [
    | inl same ↦ rw (same.0, same.1) owned
    | inr other ↦ rw other.0 (owns_on m.net m.grants q d t (m.used t)
        (λ same. other.1 (are.net.apart t s known is.station (sym same ∙ fit.1))) (are.own t known))
  ];
})
  where
    fit : IsOpen m.net.plan (m.net.inter s) q
    fit = are.fit (m.net.inter s) q (rw is.oldest (Contains-head q is.rest))

    exact : (c : ℕ) → AtStation m.net s c → rows_after is.rows q d c ≡ used_by_all m.net
        (grants_after m.grants q d) c
    exact c at = after_exact m.net m.grants is.rows q d c (served_exact m later s q d are is c at)

    stays : (t : ℕ) → here (is.forks t) ≡ here (m.forks s t)
    stays t = written_here m.net s t (rows_after is.rows q d) (m.forks s t) (is.forks t)
        (is.written t)

    rewritten : (j : ℕ) (f : LyingFork) → ((c : ℕ) → AtBoth m.net s j c
        → f.numbers c ≡ rows_after is.rows q d c)
        → Holds m.net (grants_after m.grants q d) s j f.numbers
    rewritten j f is_rows = record {
      least = λ c g both has of. omega (
        arith,
        used_most m.net (grants_after m.grants q d) c g has,
        exact c both.one,
        is_rows c both,
      );
      most = λ c both. omega (arith, exact c both.one, is_rows c both);
    }

    owned : Owns m.net (grants_after m.grants q d) s (rows_after is.rows q d)
    owned = record {
      floor = λ c at. omega (
        arith,
        used_above_base m.net (grants_after m.grants q d) c,
        exact c at,
      );
      least = λ c g at has of. omega (
        arith,
        used_most m.net (grants_after m.grants q d) c g has,
        exact c at,
      );
      most = λ c at. omega (arith, exact c at);
    }

    elsewhere : (i j : ℕ) (f : LyingFork) → i ≢ s → m.forks i j ≡ Some f
        → Holds m.net (grants_after m.grants q d) i j f.numbers
    elsewhere i j f apart lies =
        let share = are.shared i j f lies in
        holds_on m.net m.grants q d i j f.numbers
        (λ same. apart (are.net.apart i s share.one is.station (sym same ∙ fit.1)))
        (λ same. let j_is : j ≡ s = are.net.apart j s share.other is.station (sym same ∙ fit.1) in
        back i j f lies j_is)
        (are.hold i j f lies)
      where
        back : (x y : ℕ) (k : LyingFork) → m.forks x y ≡ Some k → y ≡ s → ⊥
        back x y k at same =
            let lies' : m.forks x s ≡ Some k = rw same at at in
            let share : ShareFork m.net s x = share_swap m.net x s (are.shared x s k lies') in
            let own = is.complete x share in
            not_there m s x own.0 k are share own.1 lies'

    sent_from : (x y : ℕ) (numbers : ℕ → ℕ) → Contains m.flight (sent_fork x y numbers) → x ≡ s → ⊥
    sent_from x y numbers has same =
        let has' : Contains m.flight (sent_fork s y numbers) =
        subst (λ z. Contains m.flight (sent_fork z y numbers)) same has in
        let share : ShareFork m.net s y = are.sent_shared s y numbers has' in
        let own = is.complete y share in
        not_flying m s y own.0 are share own.1 (flies s y numbers m.flight has')

    sent_to : (x y : ℕ) (numbers : ℕ → ℕ) → Contains m.flight (sent_fork x y numbers) → y ≡ s → ⊥
    sent_to x y numbers has same =
        let has' : Contains m.flight (sent_fork x s numbers) =
        subst (λ z. Contains m.flight (sent_fork x z numbers)) same has in
        let share : ShareFork m.net s x = share_swap m.net x s (are.sent_shared x s numbers has') in
        let own = is.complete x share in
        not_flying m s x own.0 are share own.1 (flies_back s x numbers m.flight has')
