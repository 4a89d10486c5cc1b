-- Two texts and a base have one answer.
use Rattle.std.proofs.Common.{◌≡◌, ℕ, List, length, Result, Ok, refl, sym, ap, ◌∙◌, subst}
use Rattle.bip_model.specs.declared.grants.Grant.{Grant}
use Rattle.bip_model.specs.declared.parts.System.{System}
use Rattle.bip_model.specs.declared.partitions.Partition.{Partition}
use Rattle.bip_reader.specs.Laws.{NoFault, OneFault, OneMeaning}
use Rattle.bip_reader.specs.Texts.{Means}
use Rattle.bip_replay.specs.Replays.{IsFirstFault, IsRunOf}
use Rattle.bip_replay.specs.Runs.{IsModelRun}
use Rattle.bip_replay.specs.Traces.{grants_of}
use Rattle.bip_replay.specs.declared.faults.BookFault.{BookFault}
use Rattle.bip_replay.specs.declared.faults.ReplayFault.{ReplayFault}
use Rattle.bip_replay.specs.declared.faults.ReplayFault.TheVariants.{NotARun}
use Rattle.bip_answers.specs.Answers.{IsAnswer, SaysNoGrant, run, not_a_run, no_trace, no_model}
use Rattle.bip_answers.specs.declared.answers.Answer.{Answer}

-- what the libraries below say of texts
pub record AreExact : Type 0 where
  pub meaning : OneMeaning
  pub fault : OneFault
  pub either : NoFault
  pub no_run : (m : System) (base : ℕ) (text : List ℕ) (number : ℕ) (fault : ReplayFault)
      → IsFirstFault m base text number fault → (gs : List Grant) → grants_of m text ≡ Ok gs
      → IsModelRun m base gs → ⊥
  pub one : (m : System) (base : ℕ) (text : List ℕ) (n k : ℕ) (f g : ReplayFault)
      → IsFirstFault m base text n f → IsFirstFault m base text k g → (n ≡ k) × (f ≡ g)

same_grants : {E : Type 0} (found : Result (List Grant) E) (gs hs : List Grant) → found ≡ Ok gs
    → found ≡ Ok hs → gs ≡ hs
same_grants found gs hs a b = cc

-- a run has one count
one_count : (m : System) (base : ℕ) (trace : List ℕ) (n k : ℕ) → IsRunOf m base trace n
    → IsRunOf m base trace k → n ≡ k
one_count m base trace n k a b =
    sym a.counted ∙ ap length (same_grants (grants_of m trace) a.grants b.grants a.reads b.reads)
    ∙ b.counted

-- no trace is a run that has a first fault
no_both : AreExact
    → (m n : System) (c d : Partition) (base : ℕ) (text trace : List ℕ) (count number : ℕ)
    (fault : ReplayFault)
    → Means text m c → Means text n d → IsRunOf m base trace count
    → IsFirstFault n base trace number fault → ⊥
no_both exact m n c d base text trace count number fault at_m at_n is_run first =
    let here : IsFirstFault m base trace number fault =
    subst (λ s. IsFirstFault s base trace number fault)
    (sym (exact.meaning text m n c d at_m at_n).0) first in
    exact.no_run m base trace number fault here is_run.grants is_run.reads is_run.run

-- the first faults of one trace, of what one text means
same_fault : AreExact
    → (m n : System) (c d : Partition) (base : ℕ) (text trace : List ℕ) (i k : ℕ)
    (f g : ReplayFault)
    → Means text m c → Means text n d → IsFirstFault m base trace i f
    → IsFirstFault n base trace k g → (m ≡ n) × (i ≡ k) × (f ≡ g)
same_fault exact m n c d base text trace i k f g at_m at_n here there =
    let same : m ≡ n = (exact.meaning text m n c d at_m at_n).0 in
    let one =
    exact.one m base trace i k f g here
    (subst (λ s. IsFirstFault s base trace k g) (sym same) there) in
    (same, one.0, one.1)

-- a grant that can't be next is no fault of a line's form
apart : (why : BookFault) (f : ReplayFault) → NotARun why ≡ f → SaysNoGrant f → ⊥
apart why f e none = subst SaysNoGrant (sym e) none

one_book_fault : (f g : BookFault) → NotARun f ≡ NotARun g → f ≡ g
one_book_fault f g e = cc

pub has_one_answer : AreExact → (base : ℕ) (text trace : List ℕ) (a b : Answer)
    → IsAnswer base text trace a → IsAnswer base text trace b → a ≡ b
has_one_answer exact base text trace a b (run m c n means is) (run m' c' k means' is') =
    let same : m' ≡ m = (exact.meaning text m' m c' c means' means).0 in
    let counts : n ≡ k =
    one_count m base trace n k is (subst (λ s. IsRunOf s base trace k) same is') in
    rw counts refl
has_one_answer exact base text trace a b (run m c n means is) (not_a_run m' c' k f means' is') =
    absurd (no_both exact m m' c c' base text trace n k (NotARun f) means means' is is')
has_one_answer exact base text trace a b (run m c n means is) (no_trace m' c' k f means' none is') =
    absurd (no_both exact m m' c c' base text trace n k f means means' is is')
has_one_answer exact base text trace a b (run m c n means is) (no_model f other has) =
    absurd (exact.either text m c f means has)
has_one_answer exact base text trace a b (not_a_run m c k f means is) (run m' c' n means' is') =
    absurd (no_both exact m' m c' c base text trace n k (NotARun f) means' means is' is)
has_one_answer exact base text trace a b (not_a_run m c n f means is)
    (not_a_run m' c' k g means' is') =
    let same =
    same_fault exact m m' c c' base text trace n k (NotARun f) (NotARun g) means means' is is' in
    let whys : f ≡ g = one_book_fault f g same.2 in
    rw (same.0, same.1, whys) refl
has_one_answer exact base text trace a b (not_a_run m c n f means is)
    (no_trace m' c' k g means' none' is') =
    absurd (apart f g
    (same_fault exact m m' c c' base text trace n k (NotARun f) g means means' is is').2 none')
has_one_answer exact base text trace a b (not_a_run m c n f means is) (no_model g other has) =
    absurd (exact.either text m c g means has)
has_one_answer exact base text trace a b (no_trace m c k f means none is) (run m' c' n means' is') =
    absurd (no_both exact m' m c' c base text trace n k f means' means is' is)
has_one_answer exact base text trace a b (no_trace m c n f means none is)
    (not_a_run m' c' k g means' is') =
    absurd (apart g f
    (sym (same_fault exact m m' c c' base text trace n k f (NotARun g) means means' is is').2)
    none)
has_one_answer exact base text trace a b (no_trace m c n f means none is)
    (no_trace m' c' k g means' none' is') =
    let same = same_fault exact m m' c c' base text trace n k f g means means' is is' in
    rw (same.1, same.2) refl
has_one_answer exact base text trace a b (no_trace m c n f means none is) (no_model g other has) =
    absurd (exact.either text m c g means has)
has_one_answer exact base text trace a b (no_model f other has) (run m c n means is) =
    absurd (exact.either text m c f means has)
has_one_answer exact base text trace a b (no_model f other has) (not_a_run m c n g means is) =
    absurd (exact.either text m c f means has)
has_one_answer exact base text trace a b (no_model f other has) (no_trace m c n g means none is) =
    absurd (exact.either text m c f means has)
has_one_answer exact base text trace a b (no_model f other has) (no_model g other' has') =
    let same : f ≡ g = exact.fault text f g has has' in rw same refl
