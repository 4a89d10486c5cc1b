-- What the stations of a plan's forks share at first is one thing.
use Rattle.std.proofs.Common.{◌≡◌, ◌≢◌, ℕ, ◌<◌, Bool, true, false, List, [], Option, Some, None}
use Rattle.std.proofs.Common.{get_or, length, refl, sym, ap, ap₂, ◌∙◌, subst, inl, inr, arith}
use Rattle.std.specs.Prelude.{◌⊎◌, slice_get, slice_index_or}
use Rattle.std.proofs.lemmas.Bool.{cases_order}
use Rattle.std.proofs.lemmas.List.{ext_get_or}
use Rattle.std.proofs.lemmas.Option.{slice_get-get_or}
use Rattle.bip_bank.proofs.CentralLemmas.{stations_same}
use Rattle.bip_bank.specs.ForkSharing.{ForkSharing, ForkSide, ForkState, Parcel, away, clean, dirty}
use Rattle.bip_bank.specs.ForkSharing.{side_of}
use Rattle.bip_bank.specs.Sharing.{Sharing, forks}
use Rattle.bip_model.specs.declared.numbering.InterId.{InterId}
use Rattle.bip_partition.specs.Plans.{Planned}
use Rattle.bip_forks.specs.Opening.{AreForksAtFirst, IsFirstShare, SharedByPlan}

-- equal or not
state_told : (x y : ForkState) → (x ≡ y) ⊎ (x ≢ y)
state_told away away = inl refl
state_told away dirty = inr (λ is. cc)
state_told away clean = inr (λ is. cc)
state_told dirty away = inr (λ is. cc)
state_told dirty dirty = inl refl
state_told dirty clean = inr (λ is. cc)
state_told clean away = inr (λ is. cc)
state_told clean dirty = inr (λ is. cc)
state_told clean clean = inl refl

token_told : (x y : Bool) → (x ≡ y) ⊎ (x ≢ y)
token_told true true = inl refl
token_told true false = inr (λ is. cc)
token_told false true = inr (λ is. cc)
token_told false false = inl refl

abbrev side_by : ForkState → Bool → ForkSide
side_by fork token = record { fork = fork; token = token }

side_told : (x y : ForkSide) → (x ≡ y) ⊎ (x ≢ y)
side_told x y = elim (state_told x.fork y.fork) [
  | inl fork ↦ elim (token_told x.token y.token) [
    | inl token ↦ inl (ap₂ side_by fork token)
    | inr other ↦ inr (λ is. other (ap (λ (z : ForkSide). z.token) is))
  ]
  | inr other ↦ inr (λ is. other (ap (λ (z : ForkSide). z.fork) is))
]

some_side : (x y : ForkSide) → Some x ≡ Some y → x ≡ y
some_side x y is = cc

shared_told : (x y : Option ForkSide) → (x ≡ y) ⊎ (x ≢ y)
shared_told None None = inl refl
shared_told None (Some y) = inr (λ is. cc)
shared_told (Some x) None = inr (λ is. cc)
shared_told (Some x) (Some y) = elim (side_told x y) [
  | inl same ↦ inl (ap Some same)
  | inr other ↦ inr (λ is. other (some_side x y is))
]

-- whether or not it can be told that two stations share a fork
first_share : (p : Planned) (s a t b : ℕ) (x y : Option ForkSide) → IsFirstShare p s a t b x
    → IsFirstShare p s a t b y → x ≡ y
first_share p s a t b x y one other = elim (shared_told x y) [
  | inl same ↦ same
  | inr apart ↦ absurd (apart (one.none (λ shared. apart (by_order shared (cases_order s t)))
      ∙ sym (other.none (λ shared. apart (by_order shared (cases_order s t))))))
]
  where
    by_order : SharedByPlan p s a t b → (s ≡ t) ⊎ (s < t) ⊎ (t < s) → x ≡ y
    by_order shared (inl same) = absurd (shared.0 same)
    by_order shared (inr (inl lower)) = one.lower shared lower ∙ sym (other.lower shared lower)
    by_order shared (inr (inr higher)) = one.higher shared higher ∙ sym (other.higher shared higher)

abbrev sharing_by : List (List (Option ForkSide)) → List Parcel → ForkSharing
sharing_by sides flight = record { sides = sides; flight = flight }

abbrev AreFirstShares : Planned → List InterId → List (List (Option ForkSide)) → Type 0
AreFirstShares p stations sides =
    (s t : ℕ) (a c : InterId) → slice_get stations s ≡ Some a → slice_get stations t ≡ Some c
    → IsFirstShare p s a.0 t c.0 (side_of sides s t)

abbrev AreOfEach : List InterId → List (List (Option ForkSide)) → Type 0
AreOfEach stations sides =
    (length sides ≡ length stations) × ((s : ℕ) → s < length stations
    → length (slice_index_or sides s []) ≡ length stations)

same_at : (p : Planned) (stations : List InterId) (x y : List (List (Option ForkSide))) (s t : ℕ)
    → AreFirstShares p stations x → AreFirstShares p stations y → s < length stations
    → t < length stations
    → get_or (get_or x s []) t None ≡ get_or (get_or y s []) t None
same_at p stations x y s t one two within inside =
    let a = get_or stations s (record { 0 = 0 }) in
    let c = get_or stations t (record { 0 = 0 }) in
    let here = slice_get-get_or stations s (record { 0 = 0 }) within in
    let there = slice_get-get_or stations t (record { 0 = 0 }) inside in
    first_share p s a.0 t c.0 (side_of x s t) (side_of y s t) (one s t a c here there)
    (two s t a c here there)

same_row : (p : Planned) (stations : List InterId) (x y : List (List (Option ForkSide))) (s : ℕ)
    → AreOfEach stations x → AreOfEach stations y → AreFirstShares p stations x
    → AreFirstShares p stations y → s < length stations
    → get_or x s [] ≡ get_or y s []
same_row p stations x y s each other one two within =
    ext_get_or None (get_or x s []) (get_or y s []) (each.1 s within ∙ sym (other.1 s within))
    (λ t inside. same_at p stations x y s t one two within
    (omega (arith, inside, each.1 s within)))

same_sides : (p : Planned) (stations : List InterId) (x y : List (List (Option ForkSide)))
    → AreOfEach stations x → AreOfEach stations y → AreFirstShares p stations x
    → AreFirstShares p stations y → x ≡ y
same_sides p stations x y each other one two =
    ext_get_or [] x y (each.0 ∙ sym other.0) (λ s within. same_row p stations x y s each other one
    two (omega (arith, within, each.0)))

-- the forks of a plan begin in one way
pub forks_begin_once : (p : Planned) (x y : Sharing) → AreForksAtFirst p x → AreForksAtFirst p y
    → x ≡ y
forks_begin_once p x y one other =
    let stations : other.stations ≡ one.stations =
    stations_same p other.stations one.stations other.listed one.listed in
    let each = subst (λ (list : List InterId). AreOfEach list other.sharing.sides) stations
    (other.each, other.with_each) in
    let shares = subst (λ (list : List InterId). AreFirstShares p list other.sharing.sides) stations
    other.sides in
    let sides : one.sharing.sides ≡ other.sharing.sides =
    same_sides p one.stations one.sharing.sides other.sharing.sides
    (one.each, one.with_each) each one.sides shares in
    one.is ∙ (ap forks (ap₂ sharing_by sides (one.flight ∙ sym other.flight)) ∙ sym other.is)
