-- What a request's frame shows of the bytes that it lends.
use Rattle.std.proofs.Common.{◌≡◌, ℕ, ◌+◌, ◌-◌, ◌*◌, ◌≤◌, List, [], ◌∷◌, ◌++◌, length, take, drop}
use Rattle.std.proofs.Common.{slice_index_or, true, Result, Ok, refl, sym, ap, subst, ◌∙◌}
use Rattle.std.proofs.Common.{append_assoc, arith}
use Rattle.std.specs.List.{AllByRecursion, flat_map}
use Rattle.std.proofs.lemmas.List.{append-nil, drop_at, length-append, length-drop, length-take}
use Rattle.std.proofs.lemmas.List.{take_at}
use Rattle.bip_model.specs.Reasons.{IsReasons}
use Rattle.bip_model.specs.declared.messages.Request.{Request}
use Rattle.bip_model.specs.declared.reasons.Why.{Why}
use Rattle.bip_model.specs.declared.wants.Want.{Want}
use Rattle.bip_frame.specs.declared.faults.FrameFault.{FrameFault}
use Rattle.bip_frame.specs.Faults.{IsGoodReason, IsList, entry_parts, reason_parts}
use Rattle.bip_frame.specs.Frames.{Head, entry, reason_entry, reason_fields}
use Rattle.bip_frame.specs.Lent.{listed_whys, reasons_in, want_in, wants_in}
use Rattle.bip_frame.specs.Lent.{why_in, whys_lent}
use Rattle.bip_frame.specs.Laws.{reasons_length}
use Rattle.bip_frame.specs.Entries.{one_moves, read_entries, read_reasons}
use Rattle.bip_frame.specs.Fields.{◌>>=◌, read_head}
use Rattle.bip_frame.specs.Reading.{Lies, if_moving, read_explained, read_request, request_made}
use Rattle.bip_frame.proofs.EntryLemmas.{entry_size, entries_long}
use Rattle.bip_frame.proofs.LengthLemmas.{reason_fields_long}
use Rattle.bip_frame.proofs.LentLemmas.{wants_counted, whys_counted}
use Rattle.bip_frame.proofs.PartLemmas.{good_from_next, parts_lie}
use Rattle.bip_frame.proofs.ReasonLemmas.{reason_size, reasons_long, some_reasons}

pub record Shown (parts : List ℕ) (count : ℕ) (ws : List Want) (ys : List Why) : Type 0 where
  pub wants : wants_in count parts ≡ ws
  pub reasons : reasons_in count parts ≡ ys
  pub whole : 11 * count ≤ length parts
  pub spelled : parts ≡ flat_map entry ws ++ reason_fields ys

-- reasons come back from their fields
reasons_back : (ys : List Why) → AllByRecursion IsGoodReason ys
    → listed_whys (reason_fields ys) ≡ ys
reasons_back [] good = refl
reasons_back (y ∷ ys) good =
    ap (whys_lent (length (y ∷ ys))) (sym (append-nil (flat_map reason_entry (y ∷ ys))))
    ∙ parts_lie reason_parts 4 why_in reason_size (y ∷ ys) [] good

-- entries at the front, and behind them the reasons' fields
shown_by : (count : ℕ) (ws : List Want) (ys : List Why) → IsList entry_parts ws
    → length ws ≡ count → AllByRecursion IsGoodReason ys
    → Shown (flat_map entry ws ++ reason_fields ys) count ws ys
shown_by count ws ys list counted good =
    let front : List ℕ = flat_map entry ws in
    let tail : List ℕ = reason_fields ys in
    let front_long : length front ≡ 11 * count =
    entries_long ws ∙ ap (λ (k : ℕ). 11 * k) counted in
    record {
      wants = ap (λ (k : ℕ). wants_in k (front ++ tail)) (sym counted)
          ∙ parts_lie entry_parts 11 want_in entry_size ws tail
          (good_from_next entry_parts (length ws) 0 ws list.next);
      reasons = ap listed_whys (drop_at front tail (11 * count) front_long) ∙ reasons_back ys good;
      whole = omega (arith, front_long, length-append front tail);
      spelled = refl;
    }

cut_here : (a b more list : List ℕ) (k : ℕ) → list ≡ a ++ (b ++ more) → length a + length b ≡ k
    → take k list ≡ a ++ b
cut_here a b more list k is long =
    ap (take k) (is ∙ sym (append_assoc a b more))
    ∙ take_at (a ++ b) more k (length-append a b ∙ long)

-- the parts that a frame lends, where they are these bytes
along : (parts spelled : List ℕ) (count : ℕ) (ws : List Want) (ys : List Why) → parts ≡ spelled
    → Shown spelled count ws ys → Shown parts count ws ys
along parts spelled count ws ys is shown = subst (λ (t : List ℕ). Shown t count ws ys)
    (sym is) shown

pub bare_shown : (count : ℕ) (list rest parts : List ℕ)
    → Lies entry_parts (wants_in count list) list rest → parts ≡ take (11 * count) list
    → Shown parts count (wants_in count list) []
bare_shown count list rest parts lie is =
    let ws : List Want = wants_in count list in
    let front_long : length (flat_map entry ws) + 0 ≡ 11 * count =
    omega (arith, entries_long ws, wants_counted count list) in
    along parts (flat_map entry ws ++ []) count ws []
    (is ∙ cut_here (flat_map entry ws) [] rest list (11 * count) lie.spelled front_long)
    (shown_by count ws [] lie.are (wants_counted count list) tt)

pub explained_shown : (count n : ℕ) (list rest whys more parts : List ℕ)
    → Lies entry_parts (wants_in count list) list rest → rest ≡ n ∷ whys
    → Lies reason_parts (whys_lent n whys) whys more → parts ≡ take (11 * count + 1 + 4 * n) list
    → Shown parts count (wants_in count list) (whys_lent n whys)
explained_shown count n list rest whys more parts lie behind reasons is =
    let ws : List Want = wants_in count list in
    let ys : List Why = whys_lent n whys in
    let front : List ℕ = flat_map entry ws in
    let counted : length ys ≡ n = whys_counted n whys in
    let fields : reason_fields ys ≡ length ys ∷ flat_map reason_entry ys =
    some_reasons ys reasons.are.counted.0 in
    let tail : reason_fields ys ++ more ≡ rest =
    ap (λ (t : List ℕ). t ++ more) fields ∙ ap (λ (t : List ℕ). length ys ∷ t) (sym reasons.spelled)
    ∙ ap (λ (k : ℕ). k ∷ whys) counted ∙ sym behind in
    let whole : length front + length (reason_fields ys) ≡ 11 * count + 1 + 4 * n =
    omega (
      arith,
      entries_long ws,
      wants_counted count list,
      ap length fields,
      reasons_long ys,
      counted,
    ) in
    along parts (front ++ reason_fields ys) count ws ys
    (is ∙ cut_here front (reason_fields ys) more list (11 * count + 1 + 4 * n)
    (lie.spelled ∙ ap (λ (t : List ℕ). front ++ t) (sym tail)) whole)
    (shown_by count ws ys lie.are (wants_counted count list)
    (good_from_next reason_parts (length ys) 0 ys reasons.are.next))

-- ---- room for what is lent

pub bare_room : (count : ℕ) (list rest : List ℕ) → Lies entry_parts (wants_in count list) list rest
    → 11 * count ≤ length list
bare_room count list rest lie = omega (
  arith,
  ap length lie.spelled,
  length-append (flat_map entry (wants_in count list)) rest,
  entries_long (wants_in count list),
  wants_counted count list,
)

pub explained_room : (count n : ℕ) (list rest whys more : List ℕ)
    → Lies entry_parts (wants_in count list) list rest → rest ≡ n ∷ whys
    → Lies reason_parts (whys_lent n whys) whys more → 11 * count + 1 + 4 * n ≤ length list
explained_room count n list rest whys more lie behind reasons =
    omega (
      arith,
      ap length lie.spelled,
      length-append (flat_map entry (wants_in count list)) rest,
      entries_long (wants_in count list),
      wants_counted count list,
      ap length behind,
      ap length reasons.spelled,
      length-append (flat_map reason_entry (whys_lent n whys)) more,
      reasons_long (whys_lent n whys),
      whys_counted n whys,
    )

-- ---- what a frame keeps

pub few_shown : (count : ℕ) (list rest : List ℕ) → Lies entry_parts (wants_in count list) list rest
    → count ≤ 32
few_shown count list rest lie = omega (arith, lie.are.counted.1, wants_counted count list)

pub spelled_shown : (parts : List ℕ) (count : ℕ) (ws : List Want) (ys : List Why)
    → Shown parts count ws ys
    → parts ≡ flat_map entry (wants_in count parts) ++ reason_fields (reasons_in count parts)
spelled_shown parts count ws ys shown =
    shown.spelled
    ∙ ap (λ (us : List Want). flat_map entry us ++ reason_fields ys) (sym shown.wants)
    ∙ ap (λ (zs : List Why). flat_map entry (wants_in count parts) ++ reason_fields zs)
    (sym shown.reasons)

abbrev made : Request → List ℕ → Result (Request × List ℕ) FrameFault
made r rest = Ok (r, rest)

-- a request that was read is the one that its frame shows
same_request : (h : Head) (ws : List Want) (ys : List Why) (rest parts : List ℕ) (count : ℕ)
    → Shown parts count ws ys
    → made (request_made h ws ys) rest ≡ made
    (request_made h (wants_in count parts) (reasons_in count parts)) rest
same_request h ws ys rest parts count shown =
    ap (λ (us : List Want). made (request_made h us ys) rest) (sym shown.wants)
    ∙ ap (λ (zs : List Why). made (request_made h (wants_in count parts) zs) rest)
    (sym shown.reasons)

pub is_request : (bytes : List ℕ) (h : Head) (behind : List ℕ) (ws : List Want)
    (rest parts : List ℕ) (count : ℕ) → read_head bytes ≡ Ok (h, behind)
    → read_entries behind ≡ Ok (ws, rest) → one_moves ws ≡ true → Shown parts count ws []
    → read_request bytes ≡ Ok (request_made h (wants_in count parts) (reasons_in count parts), rest)
unfolding read_request
is_request bytes h behind ws rest parts count head entries moving shown =
    let read : (read_head bytes >>= λ h. read_entries h.1 >>= λ ws. if_moving
    (request_made h.0 ws.0 []) ws.1) ≡ Ok (request_made h ws [], rest) =
    rw (head, entries, moving) refl in
    read ∙ same_request h ws [] rest parts count shown

pub is_explained : (bytes : List ℕ) (h : Head) (behind : List ℕ) (ws : List Want) (more : List ℕ)
    (ys : List Why) (rest parts : List ℕ) (count : ℕ) → read_head bytes ≡ Ok (h, behind)
    → read_entries behind ≡ Ok (ws, more) → read_reasons more ≡ Ok (ys, rest)
    → one_moves ws ≡ true → Shown parts count ws ys
    → read_explained bytes ≡ Ok (
      request_made h (wants_in count parts) (reasons_in count parts),
      rest,
    )
unfolding read_explained
is_explained bytes h behind ws more ys rest parts count head entries reasons moving shown =
    let read : (read_head bytes >>= λ h. read_entries h.1 >>= λ ws. read_reasons ws.1 >>= λ ys.
    if_moving (request_made h.0 ws.0 ys.0) ys.1) ≡ Ok (request_made h ws ys, rest) =
    rw (head, entries, reasons, moving) refl in
    read ∙ same_request h ws ys rest parts count shown

-- ---- the reasons of a frame

-- reasons that are shown lie behind their count, and nothing lies behind them
pub listed_whole : (count n : ℕ) (parts reasons : List ℕ)
    → parts ≡ flat_map entry (wants_in count parts) ++ reason_fields (reasons_in count parts)
    → drop (11 * count) parts ≡ n ∷ reasons → length reasons ≡ 4 * n
listed_whole count n parts reasons spelled is =
    let ws : List Want = wants_in count parts in
    let ys : List Why = reasons_in count parts in
    let counted : length ys ≡ n = ap (λ (t : List ℕ). length (listed_whys t)) is
    ∙ whys_counted n reasons in
    let long : length parts ≡ 11 * count + reasons_length ys =
    omega (
      arith,
      ap length spelled,
      length-append (flat_map entry ws) (reason_fields ys),
      entries_long ws,
      wants_counted count parts,
      reason_fields_long ys,
    ) in
    let behind : length parts - 11 * count ≡ length reasons + 1 =
    omega (arith, length-drop (11 * count) parts, ap length is) in
    by_reasons ys counted long behind
  where
    by_reasons : (ys : List Why) → length ys ≡ n → length parts ≡ 11 * count + reasons_length ys
        → length parts - 11 * count ≡ length reasons + 1 → length reasons ≡ 4 * n
    by_reasons [] counted long behind = absurd (omega (arith, long, behind))
    by_reasons (y ∷ ys) counted long behind = omega (arith, counted, long, behind)

pub listed_long : (count : ℕ) (parts behind : List ℕ)
    → parts ≡ flat_map entry (wants_in count parts) ++ reason_fields (reasons_in count parts)
    → behind ≡ drop (11 * count) parts → 1 ≤ length behind
    → length (take (length behind - 1) (drop 1 behind)) ≡ 4 * slice_index_or behind 0 0
listed_long count parts [] spelled is some = absurd (omega arith)
listed_long count parts (n ∷ reasons) spelled is some =
    omega (
      arith,
      length-take (length (n ∷ reasons) - 1) reasons,
      listed_whole count n parts reasons spelled (sym is),
    )

pub listed_few : (count : ℕ) (parts behind : List ℕ) → IsReasons (reasons_in count parts)
    → behind ≡ drop (11 * count) parts → 1 ≤ length behind → slice_index_or behind 0 0 ≤ 127
listed_few count parts [] are is some = absurd (omega arith)
listed_few count parts (n ∷ reasons) are is some =
    let few : length (whys_lent n reasons) ≤ 127 =
    subst (λ (t : List ℕ). length (listed_whys t) ≤ 127) (sym is) are.few in
    omega (arith, few, whys_counted n reasons)
