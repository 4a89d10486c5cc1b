-- The central bank: which requests have rows, what serving a station leaves, and when that doesn't
-- apply.
use Rattle.std.proofs.Common.{◌≡◌, ◌↔◌, ℕ, ◌<◌, Bool, true, List, [], ◌∷◌, ◌++◌, map, length}
use Rattle.std.proofs.Common.{get_or, set, replicate, None, Some, slice_get, refl, sym, ap, ◌∙◌}
use Rattle.std.proofs.Common.{subst, inl, inr, arith}
use Rattle.std.specs.Prelude.{All, Contains, IfErr, IfOk, IsTrue, OnErr, Ok, Err, Result}
use Rattle.std.specs.declared.alloc.AllocError.{AllocError}
use Rattle.std.proofs.lemmas.Bool.{cases_lt, false≢true}
use Rattle.std.proofs.lemmas.Option.{get_or_from_slice_get, slice_get_within}
use Rattle.std.proofs.lemmas.Bool.Decides.{eqb_tells}
use Rattle.std.proofs.lemmas.List.{get_or-replicate, get_or_default, get_or_past, length-replicate}
use Rattle.std.proofs.lemmas.List.{length-set, length_push}
use Rattle.std.proofs.lemmas.List.Elements.{All-contains, All-head, All-nil, All-push, All-tail}
use Rattle.std.proofs.Math.Path.{fun_ext}
use Rattle.bip_model.proofs.ListLemmas.{Contains-cases, Contains-head, Contains-none, Contains-tail}
use Rattle.bip_model.proofs.HistoryLemmas.{used_by-push}
use Rattle.bip_model.proofs.NumberingLemmas.{rises_from_increasing, same_list}
use Rattle.bip_model.proofs.PutLemmas.{read-set}
use Rattle.bip_model.specs.Grants.{used_by}
use Rattle.bip_model.specs.Numbering.{put}
use Rattle.bip_model.specs.Priorities.{inter}
use Rattle.bip_model.specs.Wants.{raised}
use Rattle.bip_model.specs.declared.grants.Grant.{Grant}
use Rattle.bip_model.specs.declared.messages.Request.{Request}
use Rattle.bip_model.specs.declared.numbering.CompId.{CompId}
use Rattle.bip_model.specs.declared.numbering.InterId.{InterId}
use Rattle.bip_model.specs.declared.wants.Role.{Role}
use Rattle.bip_model.specs.declared.wants.Role.TheVariants.{Moved, Seen}
use Rattle.bip_model.specs.declared.wants.Want.{Want}
use Rattle.bip_model.specs.Parts.{IsSystem}
use Rattle.bip_partition.proofs.LawLemmas.{reserved_all}
use Rattle.bip_partition.proofs.TableLemmas.{reserved_known}
use Rattle.bip_partition.specs.Plans.{AreStations, IsFit, IsTabled, Planned, Touches}
use Rattle.bip_table.specs.Reservations.{KeptRows, Reservations, grant_of}
use Rattle.bip_table.specs.Rows.{has_row, rows_of, used_at}
use Rattle.bip_table.specs.declared.reservations.Decision.TheVariants as decision
use Rattle.bip_bank.proofs.UsedLemmas.{HaveRows, above_first, above_raised, decision_above}
use Rattle.bip_bank.proofs.UsedLemmas.{fresh_above, refused_stale}
use Rattle.bip_bank.specs.Banks.{used_above}
use Rattle.bip_bank.specs.Banks.{BankContent, CanDecide, CanWantMemory, DoesStep, HasNextSerial}
use Rattle.bip_bank.specs.Banks.{IsActed, IsEnded, WantsMemory, asked_nothing, content_of}
use Rattle.bip_bank.specs.Banks.{with_request}
use Rattle.bip_bank.specs.Sharing.{alone}
use Rattle.bip_bank.specs.Central.{CannotKeep, IsCentral, IsFirstDecided, IsOpen, IsUndecided}
use Rattle.bip_bank.specs.Central.{KeptCentral, kept_central}
use Rattle.bip_bank.specs.Opening.{IsListTabled, IsOpening}
use Rattle.bip_bank.specs.declared.banks.Acted.TheVariants.{Answered, Nothing}
use Rattle.bip_bank.specs.declared.banks.Acted.TheVariants as did
use Rattle.bip_bank.specs.declared.banks.Acted.{Acted}
use Rattle.bip_bank.specs.declared.banks.BankStep.TheVariants.{Ask, Deliver, Pass, Serve}
use Rattle.bip_bank.specs.declared.banks.BankStep.{BankStep}
use Rattle.bip_bank.specs.declared.banks.StationId.{StationId}

-- the wants of a request that fits are of components with rows
pub have_rows : (c : KeptCentral) → IsCentral c → (q : Request) → IsFit c.plan q
    → HaveRows c.table.rows q.wants
have_rows c is q fit = λ k d within.
    let w = get_or q.wants k d in
    let at : get_or q.wants k w ≡ w = get_or_default q.wants k w d within in
    (is.rows w.comp.0).1 (reserved_all c.plan q.inter.0 w.comp.0 fit.reserved
    (by_role w k within at w.role refl))
  where
    by_role : (w : Want) (k : ℕ) → k < length q.wants → get_or q.wants k w ≡ w → (r : Role)
        → w.role ≡ r → Touches c.plan.model q.inter.0 w.comp.0
    by_role w k within at Moved role = inl ((fit.parties.moved w.comp.0).0
        (k, w, within, at, (refl, role)))
    by_role w k within at Seen role = inr (fit.parties.seen w.comp.0
        (k, w, within, at, (refl, role)))

-- a plan has one list of stations
pub stations_same : (p : Planned) (xs ys : List InterId) → AreStations p xs → AreStations p ys
    → xs ≡ ys
stations_same p xs ys one other =
    same_list (λ (a : InterId). a.0) xs ys (rises_from_increasing
    (map (λ (a : InterId). a.0) xs) one.rising)
    (rises_from_increasing (map (λ (a : InterId). a.0) ys) other.rising)
    (λ a at. (other.exact a.0).1 ((one.exact a.0).0 at))
    (λ a at. (one.exact a.0).1 ((other.exact a.0).0 at))

-- open requests of each interaction, with others of one
open_put : (p : Planned) (waiting : ℕ → List Request) (a : ℕ) (qs : List Request)
    → ((k : ℕ) → All (IsOpen p k) (waiting k)) → All (IsOpen p a) qs → (k : ℕ)
    → All (IsOpen p k) (put waiting a qs k)
open_put p waiting a qs all these k = elim (eqb_tells k a)
    [ inl same ↦ rw (same.0, same.1) these | inr other ↦ rw other.0 (all k) ]

abbrev content : Planned → ℕ → (ℕ → ℕ) → List Grant → (ℕ → List Request) → BankContent
content p base u gs w = record {
  plan = p;
  base = base;
  used = u;
  grants = gs;
  waiting = w;
  sharing = alone;
}

same_content : (p : Planned) (base : ℕ) (u v : ℕ → ℕ) (gs hs : List Grant) (w x : ℕ → List Request)
    → u ≡ v → gs ≡ hs → w ≡ x
    → content p base u gs w ≡ content p base v hs x
same_content p base u v gs hs w x numbers grants open' = rw (numbers, grants, open') refl

-- the central bank with another table and other open requests
abbrev pub with_parts : KeptCentral → KeptRows → List (List Request) → KeptCentral
with_parts c t waiting = record { plan = c.plan; base = c.base; table = t; waiting = waiting }

-- what is kept after a call is kept of a central bank, and its content is this
pub record Leaves (c : KeptCentral) (t : KeptRows) (waiting : List (List Request))
    (P : BankContent → Type 0) : Type 0 where
  pub valid : IsCentral (with_parts c t waiting)
  pub content : P (content_of (kept_central (with_parts c t waiting)))

-- the waiting lists read as a function, with another one at a place
read_put : (waiting later : List (List Request)) (a : ℕ) (qs : List Request) → a < length waiting
    → later ≡ set waiting a qs → (λ (k : ℕ). get_or later k []) ≡ put
    (λ (k : ℕ). get_or waiting k []) a qs
read_put waiting later a qs within is = ap (λ (xs : List (List Request)). λ (k : ℕ). get_or xs k [])
    is ∙ read-set waiting a qs [] within

-- with other lists of open requests that fit
open_later : (c : KeptCentral) (t : KeptRows) (later : List (List Request)) (a : ℕ)
    (qs : List Request) → IsCentral c → a < length c.waiting → later ≡ set c.waiting a qs
    → All (IsOpen c.plan a) qs
    → (length later ≡ length c.plan.model.interactions)
    × ((k : ℕ) → All (IsOpen c.plan k) (get_or later k []))
open_later c t later a qs is within same all = (
  ap length same ∙ (length-set c.waiting a qs ∙ is.each),
  λ k. subst (All (IsOpen c.plan k)) (ap (λ (f : ℕ → List Request). f k)
      (sym (read_put c.waiting later a qs within same)))
      (open_put c.plan (λ j. get_or c.waiting j []) a qs is.open_fit all k),
)

pub submits : (c : KeptCentral) (q : Request) (later : List (List Request)) → IsCentral c
    → IsFit c.plan q → q.inter.0 < length c.waiting
    → later ≡ set c.waiting q.inter.0 (get_or c.waiting q.inter.0 [] ++ q ∷ [])
    → Leaves c c.table later (λ b. b ≡ with_request q (content_of (kept_central c)))
submits c q later is fit within same =
    let both = open_later c c.table later q.inter.0
    (get_or c.waiting q.inter.0 [] ++ q ∷ []) is within same
    (All-push (IsOpen c.plan q.inter.0) (get_or c.waiting q.inter.0 []) q
    (is.open_fit q.inter.0) (fit, refl)) in
    record {
      valid = record {
        rows = is.rows;
        each = both.0;
        open_fit = both.1;
        explained = is.explained;
        counted = is.counted;
      };
      content = same_content c.plan c.base _ _ _ _ _ _ refl refl
          (read_put c.waiting later q.inter.0
          (get_or c.waiting q.inter.0 [] ++ q ∷ []) within same);
    }

-- the first open request of an interaction, and the others
first_open : (c : KeptCentral) (a : ℕ) (q : Request) (rest : List Request) → IsCentral c
    → get_or c.waiting a [] ≡ q ∷ rest → IsOpen c.plan a q × All (IsOpen c.plan a) rest
first_open c a q rest is oldest =
    let all = subst (All (IsOpen c.plan a)) oldest (is.open_fit a) in
    (All-head (IsOpen c.plan a) q rest all, All-tail (IsOpen c.plan a) q rest all)

pub serves : (c : KeptCentral) (a : ℕ) (t : KeptRows) (later : List (List Request)) (did : Acted)
    → IsCentral c → a < length c.waiting → IsFirstDecided a c.table c.waiting t later did
    → Leaves c t later (IsActed did (content_of (kept_central c)))
serves c a t later Nothing is within served =
    rw (served.0, served.1) (record { valid = is; content = refl })
serves c a t later did.Moved is within served = absurd served
serves c a t later (Answered q (decision.Granted s)) is within (rest, oldest, answer, left, same) =
    let open' = first_open c a q rest is oldest in
    let rows = have_rows c is q open'.0.0 in
    let tabled : has_row t.rows ≡ has_row c.table.rows =
    ap (λ (r : Reservations). r.tabled) left.0 in
    let used : used_at t.rows ≡ raised (used_at c.table.rows) q.wants =
    ap (λ (r : Reservations). r.used) left.0 in
    let journal = ap (λ (r : Reservations). r.journal) left.0 in
    let above = above_raised c.base c.table.rows t.rows q.wants rows tabled used in
    let both = open_later c t later a rest is within same open'.1 in
    record {
      valid = record {
        rows = λ k. subst (λ (f : ℕ → Bool). IsTrue (f k) ↔ IsTabled c.plan k) (sym tabled)
            (is.rows k);
        each = both.0;
        open_fit = both.1;
        explained = above ∙ (ap (λ (u : ℕ → ℕ). raised u q.wants) is.explained
            ∙ (sym (used_by-push (λ k. c.base) c.table.journal (grant_of q))
            ∙ ap (λ (gs : List Grant). used_by (λ k. c.base) gs) (sym journal)));
        counted = omega (
          arith,
          ap (λ (r : Reservations). r.serial) left.0,
          is.counted,
          ap length journal,
          length_push c.table.journal (grant_of q),
        );
      };
      content = record {
        rest = rest;
        oldest = ap (λ k. get_or c.waiting k []) open'.0.1 ∙ oldest;
        decision = fresh_above c.base c.table.rows q.wants rows answer.0.fresh;
        left = λ ended. absurd (omega (arith, answer.0.left, is.counted, ended.1));
        sharing = refl;
        after = same_content c.plan c.base _ _ _ _ _ _ above journal
            (rw open'.0.1 (read_put c.waiting later a rest within same));
      };
    }
serves c a t later (Answered q (decision.Refused d n)) is within
    (rest, oldest, answer, left, same) =
    let open' = first_open c a q rest is oldest in
    let rows = have_rows c is q open'.0.0 in
    let both = open_later c t later a rest is within same open'.1 in
    rw left (record {
      valid = record {
        rows = is.rows;
        each = both.0;
        open_fit = both.1;
        explained = is.explained;
        counted = is.counted;
      };
      content = record {
        rest = rest;
        oldest = ap (λ k. get_or c.waiting k []) open'.0.1 ∙ oldest;
        decision = decision_above c.base c.table.rows q.wants (decision.Refused d n) rows answer.1;
        left = λ ended. refused_stale (used_above c.base c.table.rows) q.wants d n
            (decision_above c.base c.table.rows q.wants (decision.Refused d n) rows answer.1)
            ended.0;
        sharing = refl;
        after = same_content c.plan c.base _ _ _ _ _ _ refl refl
            (rw open'.0.1 (read_put c.waiting later a rest within same));
      };
    })

-- where the table doesn't decide, the step doesn't apply
stays_undecided : (c : KeptCentral) (q : Request) (rest : List Request) → IsCentral c
    → IsFit c.plan q → (¬ IsEnded (content_of (kept_central c)) q) → (open' : List Request)
    → open' ≡ q ∷ rest → IsUndecided c.table open' → ⊥
stays_undecided c q rest is fit left [] same undecided = cc
stays_undecided c q rest is fit left (r ∷ rs) same undecided =
    let first : r ≡ q = cc in
    elim undecided [
      | inl ended ↦ left (
        fresh_above c.base c.table.rows q.wants (have_rows c is q fit) (rw first
            at ended.1),
        sym is.counted ∙ ended.2,
      )
      | inr unknown ↦
          let lacks = rw first at unknown.1.here in
          let row : has_row c.table.rows lacks.0.1.comp.0 ≡ true =
          All-contains (λ (w : Want). IsTrue (has_row c.table.rows w.comp.0)) q.wants lacks.0.1
          (have_rows c is q fit) (lacks.0.0, lacks.0.2, lacks.0.3) in
          false≢true (sym lacks.1 ∙ (ap (has_row c.table.rows) (sym lacks.0.4) ∙ row))
    ]

pub serves_station : (c : KeptCentral) (s : StationId) (stations : List InterId) (a : InterId)
    (t : KeptRows) (later : List (List Request)) (did : Acted) (b : BankContent) → IsCentral c
    → AreStations c.plan stations → slice_get stations s.0 ≡ Some a
    → IsFirstDecided a.0 c.table c.waiting t later did
    → DoesStep (content_of (kept_central c)) (Serve s) did b
serves_station c s stations a t later Nothing b is listed here served = λ can.
    let oldest = can.oldest in
    let same : Some (inter oldest.number) ≡ Some a = sym oldest.station.here
    ∙ (ap (λ (xs : List InterId). slice_get xs s.0)
    (stations_same c.plan oldest.station.stations stations oldest.station.listed listed)
    ∙ here) in
    let e : inter oldest.number ≡ a = cc in
    let at : get_or c.waiting a.0 [] ≡ oldest.request ∷ oldest.rest =
    ap (λ (x : InterId). get_or c.waiting x.0 []) (sym e) ∙ oldest.first in
    stays_undecided c oldest.request oldest.rest is
    (first_open c a.0 oldest.request oldest.rest is at).0.0 can.left
    (get_or c.waiting a.0 []) at served.2
serves_station c s stations a t later did.Moved b is listed here served = absurd served
serves_station c s stations a t later (Answered q d) b is listed here served =
    let first = first_open c a.0 q served.0 is served.1 in (
      tt,
      record {
        stations = stations;
        listed = listed;
        here = here ∙ ap (λ n. Some (inter n)) (sym first.0.1);
      },
    )

pub no_station : (c : KeptCentral) (s : StationId) (stations : List InterId)
    → AreStations c.plan stations → slice_get stations s.0 ≡ None
    → ¬ CanDecide (content_of (kept_central c)) s.0
no_station c s stations listed none can =
    let station = can.oldest.station in
    let same : Some (inter can.oldest.number) ≡ None = sym station.here
    ∙ (ap (λ (xs : List InterId). slice_get xs s.0)
    (stations_same c.plan station.stations stations station.listed listed) ∙ none) in
    cc

-- a grant has the next serial
pub next_serial : (c : KeptCentral) (a : ℕ) (t : KeptRows) (later : List (List Request))
    (did : Acted) → IsCentral c → IsFirstDecided a c.table c.waiting t later did
    → HasNextSerial (content_of (kept_central c)) did
next_serial c a t later Nothing is served = tt
next_serial c a t later did.Moved is served = tt
next_serial c a t later (Answered q (decision.Granted n)) is (rest, oldest, answer, left, same) =
    answer.1 ∙ is.counted
next_serial c a t later (Answered q (decision.Refused d n)) is served = tt

-- a component is in a list where its number is among those of the list
pub listed_row : (base : ℕ) (list : List CompId) (k : ℕ)
    → IsTrue (has_row (rows_of (map (λ (d : CompId). (d, base)) list)) k) ↔ Contains list
    (record { 0 = k })
listed_row base [] k = (λ row. cc, λ at. absurd (Contains-none (record { 0 = k }) at))
listed_row base (d ∷ ds) k = elim (eqb_tells d.0 k) [
  | inl same ↦ (
    λ row. subst (Contains (d ∷ ds)) (ap (λ n. record { 0 = n }) same.1) (Contains-head
        d ds),
    λ at. rw same.0 refl,
  )
  | inr other ↦ (
    λ row. Contains-tail d (record { 0 = k }) ds ((listed_row base ds k).0 (rw other.0 at row)),
    λ at. elim (Contains-cases d ds (record { 0 = k }) at) [
      | inl is ↦ absurd (other.1 (ap (λ (x : CompId). x.0) is))
      | inr there ↦ rw other.0 ((listed_row base ds k).1 there)
    ],
  )
]

abbrev pub none_open : List Request
none_open = []

-- no request waits in any of so many lists without one
none_waits : (n a : ℕ) → get_or (replicate n none_open) a none_open ≡ none_open
none_waits n a = elim (cases_lt a n) [
  | inl within ↦ get_or-replicate n a none_open none_open within
  | inr past ↦ get_or_past (replicate n none_open) a none_open
      (rw (length-replicate n none_open) past)
]

-- the components of entries
pub entry_components : (base : ℕ) (list : List CompId)
    → map (λ (e : CompId × ℕ). e.0.0) (map (λ (d : CompId). (d, base)) list) ≡ map
    (λ (d : CompId). d.0) list
entry_components base [] = refl
entry_components base (d ∷ ds) = ap (λ (ks : List ℕ). d.0 ∷ ks) (entry_components base ds)

-- a new one
pub first_central : (p : Planned) (base : ℕ) (list : List CompId) (t : KeptRows)
    (waiting : List (List Request)) → IsListTabled p list
    → t.rows ≡ rows_of (map (λ (d : CompId). (d, base)) list) → t.journal ≡ [] → t.serial ≡ 0
    → waiting ≡ replicate (length p.model.interactions) none_open
    → IsCentral (record { plan = p; base = base; table = t; waiting = waiting })
first_central p base list t waiting tabled rows none zero' empty = record {
  rows = λ k. let e = listed_row base list k in let f = tabled.exact k in
      rw rows (λ row. f.0 (e.0 row), λ row. e.1 (f.1 row));
  each = ap length empty ∙ length-replicate (length p.model.interactions) none_open;
  open_fit = λ a. subst (λ (w : List (List Request)). All (IsOpen p a) (get_or w a [])) (sym empty)
      (subst (All (IsOpen p a)) (sym (none_waits (length p.model.interactions) a))
      (All-nil (IsOpen p a)));
  explained = rw (rows, none) (above_first base list);
  counted = zero' ∙ ap (λ (gs : List Grant). length gs) (sym none);
}

pub first_content : (p : Planned) (base : ℕ) (list : List CompId) (t : KeptRows)
    (waiting : List (List Request)) → t.rows ≡ rows_of (map (λ (d : CompId). (d, base)) list)
    → t.journal ≡ [] → waiting ≡ replicate (length p.model.interactions) none_open
    → content_of (kept_central (record { plan = p; base = base; table = t; waiting = waiting }))
    ≡ asked_nothing p base alone
first_content p base list t waiting rows none empty =
    same_content p base _ _ _ _ _ _ (rw rows (above_first base list)) none
    (ap (λ (w : List (List Request)). λ (k : ℕ). get_or w k []) empty
    ∙ fun_ext (λ a. none_waits (length p.model.interactions) a))

-- a new table of the components with a row is the opening one
pub opens : (p : Planned) (base : ℕ) (list : List CompId) (r : Result KeptRows AllocError)
    → IsListTabled p list → (entries : List (CompId × ℕ))
    → entries ≡ map (λ (d : CompId). (d, base)) list
    → IfOk r (λ t. t ≡ record {
      rows = rows_of entries;
      floor = rows_of entries;
      journal = [];
      serial = 0;
      room = t.room;
    }) → IfOk r (IsOpening p base)
opens p base list (Ok t) tabled entries are new = record {
  list = list;
  tabled = tabled;
  rows = ap (λ (k : KeptRows). k.rows) new ∙ ap rows_of are;
  journal = ap (λ (k : KeptRows). k.journal) new;
  serial = ap (λ (k : KeptRows). k.serial) new;
}
opens p base list (Err e) tabled entries are new = tt

-- what serving a station leaves, with or without memory
pub served_leaves : (c : KeptCentral) (a : ℕ) (t : KeptRows) (later : List (List Request))
    (r : Result Acted AllocError) → IsCentral c → a < length c.waiting
    → IfOk r (IsFirstDecided a c.table c.waiting t later) → OnErr r (t ≡ c.table)
    → OnErr r (later ≡ c.waiting)
    → IsCentral (with_parts c t later) × IfOk r
    (λ did. IsActed did (content_of (kept_central c))
    (content_of (kept_central (with_parts c t later))))
served_leaves c a t later (Ok did) is within served table queues = let all =
    serves c a t later did is within served in (all.valid, all.content)
served_leaves c a t later (Err e) is within served table queues = (rw (table, queues) is, tt)

pub served_steps : (c : KeptCentral) (s : StationId) (stations : List InterId) (a : InterId)
    (t : KeptRows) (later : List (List Request)) (r : Result Acted AllocError) (b : BankContent)
    → IsCentral c → AreStations c.plan stations → slice_get stations s.0 ≡ Some a
    → IfOk r (IsFirstDecided a.0 c.table c.waiting t later)
    → IfOk r (λ did. DoesStep (content_of (kept_central c)) (Serve s) did b)
    × IfOk r (HasNextSerial (content_of (kept_central c)))
served_steps c s stations a t later (Ok did) b is listed here served = (
  serves_station c s stations a t later did b is listed here served,
  next_serial c a.0 t later did is served,
)
served_steps c s stations a t later (Err e) b is listed here served = (tt, tt)

-- the interaction of a station has a list of open requests
pub station_known : (c : KeptCentral) (s : ℕ) (stations : List InterId) (a : InterId) → IsCentral c
    → IsSystem c.plan.model → AreStations c.plan stations → slice_get stations s ≡ Some a
    → a.0 < length c.waiting
station_known c s stations a is valid listed here =
    omega (
      arith,
      is.each,
      reserved_known c.plan a.0 valid ((listed.exact a.0).0
          (s, slice_get_within stations s a here, get_or_from_slice_get stations s a a here)),
    )

-- memory is wanted only in place of a grant
starves : (c : KeptCentral) (s : StationId) (stations : List InterId) (a : InterId) → IsCentral c
    → AreStations c.plan stations → slice_get stations s.0 ≡ Some a → (open' : List Request)
    → get_or c.waiting a.0 [] ≡ open' → CannotKeep c.table open'
    → WantsMemory (content_of (kept_central c)) (Serve s)
starves c s stations a is listed here [] same wants = absurd wants
starves c s stations a is listed here (q ∷ rest) same wants =
    let fit = (first_open c a.0 q rest is same).0.0 in
    let can : CanDecide (content_of (kept_central c)) s.0 = record {
      complete = tt;
      oldest = record {
        number = a.0;
        request = q;
        rest = rest;
        station = record { stations = stations; listed = listed; here = here };
        first = same;
      };
      left = λ ended. absurd (omega (arith, wants.0.left, is.counted, ended.1));
    } in
    (can, fresh_above c.base c.table.rows q.wants (have_rows c is q fit) wants.0.fresh)

pub served_starves : (c : KeptCentral) (s : StationId) (stations : List InterId) (a : InterId)
    (r : Result Acted AllocError) → IsCentral c → AreStations c.plan stations
    → slice_get stations s.0 ≡ Some a → IfErr r (λ e. CannotKeep c.table (get_or c.waiting a.0 []))
    → IfErr r (λ e. WantsMemory (content_of (kept_central c)) (Serve s))
served_starves c s stations a (Ok did) is listed here wants = tt
served_starves c s stations a (Err e) is listed here wants =
    starves c s stations a is listed here (get_or c.waiting a.0 []) refl wants

-- what wants memory at a bank with one list of grants can want it at any
pub wants_as_any : (b : BankContent) (step : BankStep) → WantsMemory b step → CanWantMemory b step
wants_as_any b (Serve s) (can, fresh) = (can.complete, can.oldest)
wants_as_any b (Deliver k) wants = absurd wants
wants_as_any b (Pass s t) wants = absurd wants
wants_as_any b (Ask s t) wants = absurd wants
