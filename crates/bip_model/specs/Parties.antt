-- The parties of an interaction: wants that move just what it moves, and see none but what it looks
-- at; and which of these are enough.
use Rattle.std.specs.Prelude.{◌≡◌, ◌↔◌, ◌⊎◌, ℕ, Bool, ◌==◌, ◌&&◌, ◌||◌, not, List, [], ◌∷◌}
use Rattle.std.specs.Prelude.{All, Any, IsTrue, false, if◌then◌else◌, true}
use Rattle.std.specs.List.{list_all, list_any}
use Rattle.std.specs.List.Sorted.{IsStrictlyIncreasing}
use Rattle.bip_model.specs.Parts.{Participant}
use Rattle.bip_model.specs.Priorities.{HasAbove}
use Rattle.bip_model.specs.Reasons.{AreForEach, AreNaming, IsNamedBy}
use Rattle.bip_model.specs.States.{State}
use Rattle.bip_model.specs.Steps.{IsLookedAt, moves, offered, participants_of}
use Rattle.bip_model.specs.Wants.{components_of, is_moved}
use Rattle.bip_model.specs.declared.messages.Offer.{Offer}
use Rattle.bip_model.specs.declared.numbering.CompId.{CompId}
use Rattle.bip_model.specs.declared.parts.System.{System}
use Rattle.bip_model.specs.declared.reasons.Why.{Why}
use Rattle.bip_model.specs.declared.wants.Role.{Role}
use Rattle.bip_model.specs.declared.wants.Role.TheVariants.{Moved, Seen}
use Rattle.bip_model.specs.declared.wants.Want.{Want}

-- a component is wanted with a role
abbrev pub IsWanted : Role → List Want → ℕ → Type 0
IsWanted role wants c = Any (λ (w : Want). (w.comp.0 ≡ c) × (w.role ≡ role)) wants

-- wants have one of a component
abbrev pub HasWantOf : List Want → ℕ → Type 0
HasWantOf wants c = Any (λ (w : Want). w.comp.0 ≡ c) wants

-- wants move just the components that an interaction moves, and see none but such as it looks at
pub record AreParties (m : System) (a : ℕ) (wants : List Want) : Type 0 where
  pub moved : (c : ℕ) → IsWanted Moved wants c ↔ IsTrue (moves m a c)
  pub seen : (c : ℕ) → IsWanted Seen wants c → IsLookedAt m a c

-- wants see each component that an interaction looks at
abbrev pub SeeAll : System → ℕ → List Want → Type 0
SeeAll m a wants = (c : ℕ) → IsLookedAt m a c → IsWanted Seen wants c

-- wants cover an interaction in a state: one of its participants is wanted, and doesn't offer its
-- port there; or all of them are wanted
abbrev pub Cover : System → State → List Want → ℕ → Type 0
Cover m s wants b =
    Any (λ (q : Participant). HasWantOf wants q.0.0 × (offered m s q ≡ false)) (participants_of m b)
    ⊎ All (λ (q : Participant). HasWantOf wants q.0.0) (participants_of m b)

-- they cover each interaction above one
abbrev pub CoverAbove : System → State → ℕ → List Want → Type 0
CoverAbove m s a wants = (b : ℕ) → HasAbove m.priorities a b → Cover m s wants b

-- what an interaction's reason names is among its participants, and wanted
abbrev pub IsBorne : System → List Want → Why → Type 0
IsBorne m wants y =
    (c : ℕ) → IsNamedBy m y.inter.0 y.cause c → (moves m y.inter.0 c ≡ true) × HasWantOf wants c

-- reasons for an interaction, with its wants: for each interaction above it, each borne by the
-- wants
pub record AreReasonsFor (m : System) (a : ℕ) (wants : List Want) (reasons : List Why) : Type 0
  where
    pub each : AreForEach m a reasons
    pub borne : All (IsBorne m wants) reasons

-- wants with reasons say enough: where there are no reasons, the wants see all that the interaction
-- looks at; else the reasons are for it
abbrev pub AreExplained : System → ℕ → List Want → List Why → Type 0
AreExplained m a wants [] = SeeAll m a wants
AreExplained m a wants (y ∷ ys) = AreReasonsFor m a wants (y ∷ ys)

-- the wants of an interaction by offers and reasons, by component, each with the number of its
-- offer: they move what it moves, and see what the reasons name beside that
pub record AreWantsBy (m : System) (o : ℕ → Offer) (a : ℕ) (reasons : List Why) (wants : List Want)
    : Type 0 where
  pub parties : AreParties m a wants
  pub named : (c : ℕ) → IsWanted Seen wants c ↔ ((moves m a c ≡ false) × AreNaming m reasons c)
  pub rising : IsStrictlyIncreasing (components_of wants)
  pub numbers : All (λ (w : Want). w.number ≡ (o w.comp.0).number) wants

-- What contracts of private functions say.

-- whether a want moves a participant's component, or sees one that is looked at
abbrev pub is_party : List Participant → List CompId → Want → Bool
is_party participants looks w =
    if is_moved w.role then list_any (λ (q : Participant). q.0.0 == w.comp.0) participants
    else list_any (λ (c : CompId). c.0 == w.comp.0) looks

-- whether a want moves a component, or sees it
abbrev pub is_moving : ℕ → Want → Bool
is_moving c w = (w.comp.0 == c) && is_moved w.role

abbrev pub is_seeing : ℕ → Want → Bool
is_seeing c w = (w.comp.0 == c) && not (is_moved w.role)

-- whether wants move just the participants, and see none but what is looked at
abbrev pub are_parties : List Want → List Participant → List CompId → Bool
are_parties wants participants looks =
    list_all (is_party participants looks) wants
    && list_all (λ (q : Participant). list_any (is_moving q.0.0) wants) participants

-- whether they see each of these
abbrev pub see_all : List Want → List CompId → Bool
see_all wants looks = list_all (λ (c : CompId). list_any (is_seeing c.0) wants) looks

-- whether they have one of a component
abbrev pub has_want_of : List Want → ℕ → Bool
has_want_of wants c = list_any (λ (w : Want). w.comp.0 == c) wants

-- whether they cover an interaction in a state
abbrev pub is_covered : System → State → List Want → ℕ → Bool
is_covered m s wants b =
    list_any (λ (q : Participant). has_want_of wants q.0.0 && not (offered m s q))
    (participants_of m b)
    || list_all (λ (q : Participant). has_want_of wants q.0.0) (participants_of m b)
