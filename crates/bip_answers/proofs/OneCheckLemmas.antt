-- The text of a model has one answer to its check.
use Rattle.std.proofs.Common.{◌≡◌, ℕ, List, length, map, refl, sym, ap, ◌∙◌, subst, inl, inr}
use Rattle.std.proofs.lemmas.Bool.{cases_order}
use Rattle.bip_model.specs.declared.numbering.CompId.{CompId}
use Rattle.bip_model.specs.declared.parts.System.{System}
use Rattle.bip_model.proofs.NumberingLemmas.{rises_from_increasing, same_list}
use Rattle.bip_partition.proofs.TableLemmas.{one_stations}
use Rattle.bip_partition.specs.Faults.{IsLowestTooMany}
use Rattle.bip_partition.specs.Plans.{IsCountTabled, Planned}
use Rattle.bip_answers.specs.Answers.{AreCountsOf, HasPlan, IsCheckAnswer, IsRefusedModel, no_plan}
use Rattle.bip_answers.specs.Answers.{no_text, planned, unchecked}
use Rattle.bip_answers.specs.declared.answers.Answer.{Answer}
use Rattle.bip_answers.specs.declared.wording.Counts.{Counts}
use Rattle.bip_answers.proofs.OneAnswerLemmas.{AreExact}

-- components with rows are counted in one way
one_tabled : (p : Planned) (n k : ℕ) → IsCountTabled p n → IsCountTabled p k → n ≡ k
one_tabled p n k a b =
    let same : a.list ≡ b.list =
    same_list (λ (c : CompId). c.0) a.list b.list
    (rises_from_increasing (map (λ (c : CompId). c.0) a.list) a.rising)
    (rises_from_increasing (map (λ (c : CompId). c.0) b.list) b.rising)
    (λ z at. (b.exact z.0).1 ((a.exact z.0).0 at)) (λ z at. (a.exact z.0).1 ((b.exact z.0).0 at)) in
    a.counted ∙ (ap length same ∙ sym b.counted)

one_counts : (p : Planned) (n k : Counts) → AreCountsOf p n → AreCountsOf p k → n ≡ k
one_counts p n k a b =
    let components : n.components ≡ k.components = a.components ∙ sym b.components in
    let interactions : n.interactions ≡ k.interactions = a.interactions ∙ sym b.interactions in
    let classes : n.classes ≡ k.classes = a.classes ∙ sym b.classes in
    let tabled : n.tabled ≡ k.tabled = one_tabled p n.tabled k.tabled a.tabled b.tabled in
    let reserved : n.reserved ≡ k.reserved =
    a.counted ∙ (ap length (one_stations p a.stations b.stations a.reserved b.reserved)
    ∙ sym b.counted) in
    let same : record {
      components = n.components;
      interactions = n.interactions;
      classes = n.classes;
      tabled = n.tabled;
      reserved = n.reserved;
    } ≡ k =
    rw (components, interactions, classes, tabled, reserved) refl in
    same

-- there is one lowest interaction that touches too many
one_lowest : (m : System) (a b : ℕ) → IsLowestTooMany m a → IsLowestTooMany m b → a ≡ b
one_lowest m a b h k = elim (cases_order a b) [
  | inl same ↦ same
  | inr other ↦ elim other [
    | inl below ↦ absurd (k.lower a below h.many)
    | inr above ↦ absurd (h.lower b above k.many)
  ]
]

-- a text has one plan, and then it isn't refused
one_plan : AreExact → (text : List ℕ) (p q : Planned) → HasPlan text p → HasPlan text q → p ≡ q
one_plan exact text p q h k =
    let same = exact.meaning text p.model q.model p.classes q.classes h.means k.means in
    let whole : record { model = p.model; classes = p.classes }
    ≡ record { model = q.model; classes = q.classes } = rw (same.0, same.1) refl in
    whole

pub planned_or_refused : AreExact → (text : List ℕ) (p : Planned) (answer : Answer) → HasPlan text p
    → IsRefusedModel text answer → ⊥
planned_or_refused exact text p answer has (no_plan m c a means lowest) =
    has.few a (subst (λ s. IsLowestTooMany s a)
    (exact.meaning text m p.model c p.classes means has.means).0 lowest).many
planned_or_refused exact text p answer has (no_text f other has') =
    exact.either text p.model p.classes f has.means has'

one_refusal : AreExact → (text : List ℕ) (a b : Answer) → IsRefusedModel text a
    → IsRefusedModel text b → a ≡ b
one_refusal exact text a b (no_plan m c i means lowest) (no_plan m' c' j means' lowest') =
    let same : m' ≡ m = (exact.meaning text m' m c' c means' means).0 in
    let numbers : i ≡ j = one_lowest m i j lowest (subst (λ s. IsLowestTooMany s j) same lowest') in
    rw (same, numbers) refl
one_refusal exact text a b (no_plan m c i means lowest) (no_text f other has) =
    absurd (exact.either text m c f means has)
one_refusal exact text a b (no_text f other has) (no_plan m c i means lowest) =
    absurd (exact.either text m c f means has)
one_refusal exact text a b (no_text f other has) (no_text g other' has') =
    let same : f ≡ g = exact.fault text f g has has' in rw same refl

pub has_one_check : AreExact → (text : List ℕ) (a b : Answer) → IsCheckAnswer text a
    → IsCheckAnswer text b → a ≡ b
has_one_check exact text a b (planned p n has is) (planned q k has' is') =
    let same = one_plan exact text q p has' has in
    let counts : n ≡ k = one_counts p n k is (subst (λ r. AreCountsOf r k) same is') in
    rw counts refl
has_one_check exact text a b (planned p n has is) (unchecked b' refused) =
    absurd (planned_or_refused exact text p b has refused)
has_one_check exact text a b (unchecked a' refused) (planned p n has is) =
    absurd (planned_or_refused exact text p a has refused)
has_one_check exact text a b (unchecked a' refused) (unchecked b' refused') =
    one_refusal exact text a b refused refused'
