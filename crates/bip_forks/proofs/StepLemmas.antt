-- What any step leaves, and that forks are a bank.
use Rattle.std.proofs.Common.{◌≡◌, ℕ, ◌+◌, ◌<◌, Bool, true, false, cond, List, [], ◌∷◌, ◌++◌}
use Rattle.std.proofs.Common.{Option, None, Some, refl, sym, ap, subst, inl, inr, arith}
use Rattle.std.specs.Prelude.{◌⊎◌, Contains}
use Rattle.std.proofs.lemmas.Bool.{cases_order, false≢true}
use Rattle.std.proofs.lemmas.Bool.Decides.{eqb_tells}
use Rattle.std.proofs.lemmas.List.Elements.{Contains-append_cases, Contains-append_left}
use Rattle.std.proofs.lemmas.List.Elements.{Contains-append_right, Contains-push_cases}
use Rattle.bip_model.proofs.ListLemmas.{Contains-head, Contains-none, Contains-tail}
use Rattle.bip_model.specs.Numbering.{put}
use Rattle.bip_model.specs.declared.grants.Grant.{Grant}
use Rattle.bip_model.specs.declared.messages.Request.{Request}
use Rattle.bip_partition.specs.Plans.{IsFit}
use Rattle.bip_bank.specs.Central.{IsOpen}
use Rattle.bip_bank.specs.declared.banks.Acted.{Acted}
use Rattle.bip_bank.specs.declared.banks.Acted.TheVariants.{Answered, Moved, Nothing}
use Rattle.bip_bank.specs.declared.banks.BankStep.{BankStep}
use Rattle.bip_bank.specs.declared.banks.BankStep.TheVariants.{Ask, Deliver, Pass, Serve}
use Rattle.bip_forks.proofs.CountLemmas.{arrived_count, asking-append, asks, flies, flying-append}
use Rattle.bip_forks.proofs.CountLemmas.{joins_swap, put_cases, sent_count}
use Rattle.bip_forks.proofs.HoldLemmas.{holds_swap, share_swap}
use Rattle.bip_forks.proofs.ServeLemmas.{served}
use Rattle.bip_forks.specs.Laws.{AreNew, ForksStay, LeadOn, asked, at_rest, stepped}
use Rattle.bip_forks.specs.Machines.{AreForks, LyingFork, Machine, Holds, IsAskedFor, HasArrived}
use Rattle.bip_forks.specs.Machines.{IsForkStep, IsPassed, Sending, ShareFork, arrived, asking}
use Rattle.bip_forks.specs.Machines.{flying, held, here, sent_fork, sent_token, used_by_all}

same_fork : (a b c d : ℕ) (n k : ℕ → ℕ) → sent_fork a b n ≡ sent_fork c d k → (a ≡ c) × (b ≡ d)
    × (n ≡ k)
same_fork a b c d n k is = (cc, cc, cc)

same_token : (a b c d : ℕ) → sent_token a b ≡ sent_token c d → (a ≡ c) × (b ≡ d)
same_token a b c d is = (cc, cc)

not_a_token : (a b c d : ℕ) (k : ℕ → ℕ) → sent_token a b ≡ sent_fork c d k → ⊥
not_a_token a b c d k is = cc

pub passed : (m later : Machine) (s t : ℕ) → AreForks m → IsPassed m s t later → AreForks later
passed m later s t are is = subst AreForks (sym is.after) (record {
  net = are.net;
  allowed = are.allowed;
  fit = are.fit;
  counted = are.counted;
  one = λ i j share. omega (
    arith,
    are.one i j share,
    sent_count here m.forks s t None i j (are.shared s t is.fork is.here).apart
        (ap here is.here) refl,
    flying-append i j m.flight (sent_fork s t is.fork.numbers ∷ []),
  );
  shared = λ i j f at. elim (put_cases m.forks s t None i j (Some f) at)
      [ inl new ↦ absurd (no_fork f new.2) | inr old ↦ are.shared i j f old ];
  sent_shared = λ i j numbers has. elim (Contains-push_cases m.flight
      (sent_fork s t is.fork.numbers) (sent_fork i j numbers) has) [
        | inl old ↦ are.sent_shared i j numbers old
        | inr new ↦ let same = same_fork s t i j is.fork.numbers numbers new in
            rw (← same.0, ← same.1) (are.shared s t is.fork is.here)
      ];
  one_token = λ i j share. omega (
    arith,
    are.one_token i j share,
    asking-append i j m.flight (sent_fork s t is.fork.numbers ∷ []),
  );
  token_shared = are.token_shared;
  sent_token_shared = λ i j there. elim (Contains-push_cases m.flight
      (sent_fork s t is.fork.numbers) (sent_token i j) there) [
        | inl old ↦ are.sent_token_shared i j old
        | inr new ↦ absurd (not_a_token i j s t is.fork.numbers (sym new))
      ];
  hold = λ i j f at. elim (put_cases m.forks s t None i j (Some f) at)
      [ inl new ↦ absurd (no_fork f new.2) | inr old ↦ are.hold i j f old ];
  sent_hold = λ i j numbers has. elim (Contains-push_cases m.flight (sent_fork s t is.fork.numbers)
      (sent_fork i j numbers) has) [
        | inl old ↦ are.sent_hold i j numbers old
        | inr new ↦ let same = same_fork s t i j is.fork.numbers numbers new in
            rw (← same.0, ← same.1, ← same.2) (are.hold s t is.fork is.here)
      ];
  own = are.own;
})
  where
    no_fork : (f : LyingFork) → None ≡ Some f → ⊥
    no_fork f is' = cc

pub asked_for : (m later : Machine) (s t : ℕ) → AreForks m → IsAskedFor m s t later → AreForks later
asked_for m later s t are is = subst AreForks (sym is.after) (record {
  net = are.net;
  allowed = are.allowed;
  fit = are.fit;
  counted = are.counted;
  one = λ i j share. omega (
    arith,
    are.one i j share,
    flying-append i j m.flight (sent_token s t ∷ []),
  );
  shared = are.shared;
  sent_shared = λ i j numbers has. elim (Contains-push_cases m.flight (sent_token s t)
      (sent_fork i j numbers) has) [
        | inl old ↦ are.sent_shared i j numbers old
        | inr new ↦ absurd (not_a_token s t i j numbers new)
      ];
  one_token = λ i j share. omega (
    arith,
    are.one_token i j share,
    sent_count held m.tokens s t false i j (are.token_shared s t is.asked).apart
        (ap held is.asked) refl,
    asking-append i j m.flight (sent_token s t ∷ []),
  );
  token_shared = λ i j at. elim (put_cases m.tokens s t false i j true at)
      [ inl new ↦ absurd (false≢true new.2) | inr old ↦ are.token_shared i j old ];
  sent_token_shared = λ i j there. elim (Contains-push_cases m.flight (sent_token s t)
      (sent_token i j) there) [
        | inl old ↦ are.sent_token_shared i j old
        | inr new ↦ let same = same_token s t i j new in
            rw (← same.0, ← same.1) (are.token_shared s t is.asked)
      ];
  hold = are.hold;
  sent_hold = λ i j numbers has. elim (Contains-push_cases m.flight (sent_token s t)
      (sent_fork i j numbers) has) [
        | inl old ↦ are.sent_hold i j numbers old
        | inr new ↦ absurd (not_a_token s t i j numbers new)
      ];
  own = are.own;
})

-- what stays in flight was there
still : (front back : List Sending) (x y : Sending) → Contains (front ++ back) y
    → Contains (front ++ x ∷ back) y
still front back x y has = elim (Contains-append_cases front back y has) [
  | inl before ↦ Contains-append_left front (x ∷ back) y before
  | inr behind ↦ Contains-append_right front (x ∷ back) y (Contains-tail x y back behind)
]

pub delivered : (m later : Machine) (k : ℕ) → AreForks m → HasArrived m k later → AreForks later
delivered m later k are is = subst AreForks (sym is.after) (by_sent is.sent refl)
  where
    was : (x : Sending) → is.sent ≡ x → (y : Sending) → Contains (is.front ++ is.back) y
        → Contains m.flight y
    was x same y has = rw is.whole (still is.front is.back is.sent y has)

    counts : (i j : ℕ) → flying i j m.flight ≡ flying i j is.front + flying i j (is.sent ∷ is.back)
    counts i j = rw is.whole (flying-append i j is.front (is.sent ∷ is.back))

    token_counts : (i j : ℕ) → asking i j m.flight ≡ asking i j is.front + asking i j
        (is.sent ∷ is.back)
    token_counts i j = rw is.whole (asking-append i j is.front (is.sent ∷ is.back))

    by_sent : (x : Sending) → is.sent ≡ x → AreForks
        (arrived x (record m { flight = is.front ++ is.back }))
    by_sent (sent_token a b) same =
        let there : Contains m.flight (sent_token a b) =
        rw is.whole (Contains-append_right is.front (is.sent ∷ is.back) (sent_token a b)
        (subst (λ (y : Sending). Contains (is.sent ∷ is.back) y) same
        (Contains-head is.sent is.back))) in
        let share : ShareFork m.net a b = are.sent_token_shared a b there in
        let gone : held (m.tokens a b) + held (m.tokens b a) ≡ 0 =
        omega (arith, are.one_token a b share, asks a b m.flight there) in
        record {
          net = are.net;
          allowed = are.allowed;
          fit = are.fit;
          counted = are.counted;
          one = λ i j share. omega (
            arith,
            are.one i j share,
            counts i j,
            ap (λ (y : Sending). flying i j (y ∷ is.back)) same,
            flying-append i j is.front is.back,
          );
          shared = are.shared;
          sent_shared = λ i j numbers there'. are.sent_shared i j numbers
              (was (sent_token a b) same (sent_fork i j numbers) there');
          one_token = λ i j both. omega (
            arith,
            are.one_token i j both,
            token_counts i j,
            ap (λ (y : Sending). asking i j (y ∷ is.back)) same,
            asking-append i j is.front is.back,
            ap {B = ℕ} (λ (b' : Bool). cond b' 1 0)
                (joins_swap a b i j),
            arrived_count held m.tokens b a true i j
                (λ e. share.apart (sym e)) (omega (arith, gone)) refl,
          );
          token_shared = λ i j at. elim (put_cases m.tokens b a true i j true at) [
            | inl new ↦ rw (new.0, new.1) (share_swap m.net a b share)
            | inr old ↦
                are.token_shared i j old
          ];
          sent_token_shared = λ i j there'. are.sent_token_shared i j
              (was (sent_token a b) same (sent_token i j) there');
          hold = are.hold;
          sent_hold = λ i j numbers there'. are.sent_hold i j numbers
              (was (sent_token a b) same (sent_fork i j numbers) there');
          own = are.own;
        }
    by_sent (sent_fork a b n) same =
        let has : Contains m.flight (sent_fork a b n) =
        rw is.whole (Contains-append_right is.front (is.sent ∷ is.back) (sent_fork a b n)
        (subst (λ (y : Sending). Contains (is.sent ∷ is.back) y) same
        (Contains-head is.sent is.back))) in
        let share : ShareFork m.net a b = are.sent_shared a b n has in
        let gone : here (m.forks a b) + here (m.forks b a) ≡ 0 =
        omega (arith, are.one a b share, flies a b n m.flight has) in
        record {
          net = are.net;
          allowed = are.allowed;
          fit = are.fit;
          counted = are.counted;
          one = λ i j both. omega (
            arith,
            are.one i j both,
            counts i j,
            ap (λ (y : Sending). flying i j (y ∷ is.back)) same,
            flying-append i j is.front is.back,
            ap {B = ℕ} (λ (b' : Bool). cond b' 1 0)
                (joins_swap a b i j),
            arrived_count here m.forks b a
                (Some (record { clean = true; numbers = n })) i j (λ e. share.apart (sym e))
                (omega (arith, gone)) refl,
          );
          shared = λ i j f at. elim (put_cases m.forks b a
              (Some (record { clean = true; numbers = n })) i j (Some f) at) [
                | inl new ↦ rw (new.0, new.1) (share_swap m.net a b share)
                | inr old ↦ are.shared i j f old
              ];
          one_token = λ i j both. omega (
            arith,
            are.one_token i j both,
            token_counts i j,
            ap (λ (y : Sending). asking i j (y ∷ is.back)) same,
            asking-append i j is.front is.back,
          );
          token_shared = are.token_shared;
          sent_token_shared = λ i j there'. are.sent_token_shared i j
              (was (sent_fork a b n) same (sent_token i j) there');
          sent_shared = λ i j numbers still'. are.sent_shared i j numbers
              (was (sent_fork a b n) same (sent_fork i j numbers) still');
          hold = λ i j f at. elim (put_cases m.forks b a
              (Some (record { clean = true; numbers = n })) i j (Some f) at) [
                | inl new ↦ rw (new.0, new.1) (subst (λ (g : LyingFork). Holds m.net m.grants b a
                    g.numbers) (same_some (record { clean = true; numbers = n }) f new.2)
                    (holds_swap m.net m.grants a b n (are.sent_hold a b n has)))
                | inr old ↦ are.hold i j f old
              ];
          sent_hold = λ i j numbers still'. are.sent_hold i j numbers
              (was (sent_fork a b n) same (sent_fork i j numbers) still');
          own = are.own;
        }
      where
        same_some : (g f : LyingFork) → Some g ≡ Some f → g ≡ f
        same_some g f is' = cc

pub taken_in : (m : Machine) (q : Request) → AreForks m → IsFit m.net.plan q
    → AreForks (record m { waiting = put m.waiting q.inter.0 (m.waiting q.inter.0 ++ q ∷ []) })
taken_in m q are fits = record {
  net = are.net;
  allowed = are.allowed;
  fit = λ a r has. elim (eqb_tells a q.inter.0) [
    | inl same ↦ by_place a r same.1 (Contains-push_cases (m.waiting q.inter.0) q r
        (rw same.0 at has))
    | inr other ↦ are.fit a r (rw other.0 at has)
  ];
  counted = are.counted;
  one = are.one;
  shared = are.shared;
  sent_shared = are.sent_shared;
  one_token = are.one_token;
  token_shared = are.token_shared;
  sent_token_shared = are.sent_token_shared;
  hold = are.hold;
  sent_hold = are.sent_hold;
  own = are.own;
}
  where
    by_place : (a : ℕ) (r : Request) → a ≡ q.inter.0 → Contains (m.waiting q.inter.0) r ⊎ (q ≡ r)
        → IsOpen m.net.plan a r
    by_place a r same (inl old) = are.fit a r (rw same old)
    by_place a r same (inr new) = rw (← new, same) (fits, refl)

pub step_keeps : (m later : Machine) (step : BankStep) (did : Acted) → AreForks m
    → IsForkStep m step did later → AreForks later
step_keeps m later step Nothing are is = subst AreForks (sym is.1) are
step_keeps m later (Deliver k) Moved are is = delivered m later k are is
step_keeps m later (Pass s t) Moved are is = passed m later s.0 t.0 are is
step_keeps m later (Ask s t) Moved are is = asked_for m later s.0 t.0 are is
step_keeps m later (Serve s) Moved are is = absurd is
step_keeps m later (Serve s) (Answered q d) are is = served m later s.0 q d are is
step_keeps m later (Deliver k) (Answered q d) are is = absurd is
step_keeps m later (Pass s t) (Answered q d) are is = absurd is
step_keeps m later (Ask s t) (Answered q d) are is = absurd is

-- how forks begin
pub begins : (m : Machine) → AreNew m → AreForks m
begins m new = record {
  net = new.net;
  allowed = λ g has. absurd (no_grant g has);
  fit = λ a q has. absurd (Contains-none q (subst (λ (w : ℕ → List Request). Contains (w a) q)
      new.waiting has));
  counted = λ s. omega (arith, new.serials s);
  one = λ i j share. elim (cases_order i j) [
    | inl same ↦ absurd (share.apart same)
    | inr apart ↦ elim apart [
      | inl lower ↦ let fork = new.given i j share lower in
          omega (
            arith,
            ap here fork.1,
            ap here (not_higher j i (m.forks j i) refl lower),
            nothing_flies i j,
          )
      | inr higher ↦ let fork = new.given j i (share_swap m.net i j share) higher in
          omega (
            arith,
            ap here fork.1,
            ap here (not_higher i j (m.forks i j) refl higher),
            nothing_flies i j,
          )
    ]
  ];
  shared = λ s t f at. (new.first s t f at).share;
  sent_shared = λ s t numbers has. absurd (none_sent s t numbers has);
  one_token = λ i j share. elim (cases_order i j) [
    | inl same ↦ absurd (share.apart same)
    | inr apart ↦ elim apart [
      | inl lower ↦ omega (
        arith,
        ap held ((new.tokens j i).1 (share_swap m.net i j share, lower)),
        lacks i j (m.tokens i j) refl lower,
        nobody_asks i j,
      )
      | inr higher ↦ omega (
        arith,
        ap held ((new.tokens i j).1 (share, higher)),
        lacks j i (m.tokens j i) refl higher,
        nobody_asks i j,
      )
    ]
  ];
  token_shared = λ s t at. ((new.tokens s t).0 at).0;
  sent_token_shared = λ s t there. absurd (Contains-none (sent_token s t)
      (subst (λ (xs : List Sending). Contains xs (sent_token s t)) new.flight there));
  hold = λ s t f at. record {
    least = λ c g both has of. absurd (no_grant g has);
    most = λ c both. omega (arith, (new.first s t f at).numbers c both, unused c);
  };
  sent_hold = λ s t numbers has. absurd (none_sent s t numbers has);
  own = λ s known. record {
    floor = λ c at. omega (arith, new.used s c known at);
    least = λ c g at has of. absurd (no_grant g has);
    most = λ c at. omega (arith, new.used s c known at, unused c);
  };
}
  where
    no_grant : (g : Grant) → Contains m.grants g → ⊥
    no_grant g has = Contains-none g (subst (λ (gs : List Grant). Contains gs g) new.grants has)

    none_sent : (s t : ℕ) (numbers : ℕ → ℕ) → Contains m.flight (sent_fork s t numbers) → ⊥
    none_sent s t numbers has = Contains-none (sent_fork s t numbers)
        (subst (λ (xs : List Sending). Contains xs (sent_fork s t numbers)) new.flight has)

    unused : (c : ℕ) → used_by_all m.net m.grants c ≡ m.net.base
    unused c = rw new.grants refl

    nothing_flies : (i j : ℕ) → flying i j m.flight ≡ 0
    nothing_flies i j = rw new.flight refl

    nobody_asks : (i j : ℕ) → asking i j m.flight ≡ 0
    nobody_asks i j = rw new.flight refl

    lacks : (i j : ℕ) (b : Bool) → m.tokens i j ≡ b → i < j → held (m.tokens i j) ≡ 0
    lacks i j true is lower = absurd (omega (arith, lower, ((new.tokens i j).0 is).1))
    lacks i j false is lower = ap held is

    not_higher : (i j : ℕ) (x : Option LyingFork) → m.forks i j ≡ x → j < i → m.forks i j ≡ None
    not_higher i j None is lower = is
    not_higher i j (Some f) is lower = absurd (omega (arith, lower, (new.first i j f is).lower))

-- whatever is done, forks stay
stay : (m later : Machine) → AreForks m → LeadOn m later → AreForks later
stay m later are at_rest = are
stay m later are (asked q fits rest) = stay (record m {
  waiting = put m.waiting q.inter.0 (m.waiting q.inter.0 ++ q ∷ []);
}) later
    (taken_in m q are fits) rest
stay m later are (stepped {next = n} step did is rest) =
    stay n later (step_keeps m n step did are is) rest

pub forks_stay : ForksStay
forks_stay m later new leads = stay m later (begins m new) leads
