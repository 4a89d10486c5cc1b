-- Why the wants of a line's grant aren't enough in the state before the line, and how it is told.
use Rattle.std.specs.Prelude.{◌≡◌, ◌↔◌, ℕ, ◌<◌, false, true, not, List, [], ◌∷◌, ◌++◌, codes, ⊤}
use Rattle.std.specs.Prelude.{All, Bool, IsTrue, Option, None, Some, Ok, filter, length, map}
use Rattle.std.specs.Prelude.{◌&&◌}
use Rattle.std.specs.List.{list_all}
use Rattle.bip_model.specs.Expressions.{holds}
use Rattle.bip_model.specs.Parts.{Participant}
use Rattle.bip_model.specs.Parties.{AreParties, Cover, HasWantOf, IsWanted, has_want_of}
use Rattle.bip_model.specs.Priorities.{HasAbove}
use Rattle.bip_model.specs.States.{State}
use Rattle.bip_model.specs.Steps.{IsLookedAt, guard_of, moves, offered, participants_of, values_of}
use Rattle.bip_model.specs.Texts.{line_at}
use Rattle.bip_model.specs.declared.grants.Grant.{Grant}
use Rattle.bip_model.specs.declared.numbering.CompId.{CompId}
use Rattle.bip_model.specs.declared.parts.System.{System}
use Rattle.bip_model.specs.declared.wants.Role.TheVariants as role
use Rattle.bip_model.specs.declared.wants.Want.{Want}
use Rattle.bip_replay.specs.Lines.{grant_on}
use Rattle.bip_replay.specs.declared.faults.BookFault.TheVariants as book
use Rattle.bip_explain.specs.Explanations.{Telling, Tells}
use Rattle.bip_explain.specs.Grants.{IsWantTold, component_parts, front_parts, name_parts}
use Rattle.bip_explain.specs.Hindrances.{IsStateBefore, MayKeepStep}
use Rattle.bip_explain.specs.declared.parties.Lack.{Lack}
use Rattle.bip_explain.specs.declared.parties.Lack.TheVariants.{Off, Unseen}
use Rattle.bip_explain.specs.declared.parties.Named.{Named}
use Rattle.bip_explain.specs.declared.parties.Named.TheVariants.{Moved, Seen, Absent}
use Rattle.bip_explain.specs.declared.parties.PartyReason.{PartyReason}
use Rattle.bip_explain.specs.declared.parties.PartyReason.TheVariants.{Misnamed, Uncovered}

-- wants have a component as those of an interaction's parties do: they move it where it does, and
-- see it only where it is looked at
pub record IsNamedRight (m : System) (a : ℕ) (wants : List Want) (c : ℕ) : Type 0 where
  pub moved : IsWanted role.Moved wants c ↔ IsTrue (moves m a c)
  pub seen : IsWanted role.Seen wants c → IsLookedAt m a c

-- the lowest component of the model that they don't have so
pub record IsLowestMisnamed (m : System) (a : ℕ) (wants : List Want) (c : ℕ) : Type 0 where
  pub known : c < length m.components
  pub wrong : ¬ IsNamedRight m a wants c
  pub lower : (d : ℕ) → d < c → IsNamedRight m a wants d

-- what an interaction does with a component
abbrev pub IsNamedSo : System → ℕ → ℕ → Named → Type 0
IsNamedSo m a c Moved = moves m a c ≡ true
IsNamedSo m a c Seen = IsLookedAt m a c
IsNamedSo m a c Absent = (moves m a c ≡ false) × ¬ IsLookedAt m a c

-- the lowest interaction above one that wants don't cover in a state
pub record IsLowestUncovered (m : System) (s : State) (a : ℕ) (wants : List Want) (b : ℕ) : Type 0
  where
    pub above : HasAbove m.priorities a b
    pub uncovered : ¬ Cover m s wants b
    pub lower : (c : ℕ) → c < b → HasAbove m.priorities a c → Cover m s wants c

-- those of participants whose ports aren't offered in a state, in their order
abbrev pub off_among : System → State → List Participant → List CompId
off_among m s qs =
    map (λ (q : Participant). q.0) (filter (λ (q : Participant). not (offered m s q)) qs)

-- those that wants don't have, in their order
abbrev pub unseen_among : List Want → List Participant → List CompId
unseen_among wants qs =
    map (λ (q : Participant). q.0)
    (filter (λ (q : Participant). not (has_want_of wants q.0.0)) qs)

-- some components, none of which wants have
pub record AreOthers (wants : List Want) (comps : List CompId) : Type 0 where
  pub some : 0 < length comps
  pub other : All (λ (c : CompId). ¬ HasWantOf wants c.0) comps

-- what wants lack that would cover an interaction in a state: one of those whose ports aren't
-- offered, of which they have none; or, where each port is offered and the guard doesn't hold, all
-- the others
abbrev pub IsCoverLack : System → State → List Want → ℕ → Lack → Type 0
IsCoverLack m s wants b (Off comps) =
    (comps.items ≡ off_among m s (participants_of m b)) × AreOthers wants comps.items
IsCoverLack m s wants b (Unseen comps) =
    (list_all (offered m s) (participants_of m b) ≡ true)
    × (holds (guard_of m b) (values_of m s b) ≡ false)
    × (comps.items ≡ unseen_among wants (participants_of m b)) × AreOthers wants comps.items

-- an interaction is the lowest above a grant's that isn't covered in the state before a line, and
-- this is what the grant's wants lack there
pub record IsUncoveredAt (m : System) (base : ℕ) (text : List ℕ) (number : ℕ) (g : Grant) (b : ℕ)
    (what : Lack) : Type 0 where
  pub state : State
  pub before : IsStateBefore m base text number state
  pub parties : AreParties m g.inter.0 g.wants
  pub lowest : IsLowestUncovered m state g.inter.0 g.wants b
  pub lack : IsCoverLack m state g.wants b what

-- a reason is true of a line's grant: the first component that it doesn't have as it should, with
-- what its interaction does with that, and the word of the line that names it; or else the first
-- interaction above that isn't covered
abbrev pub IsPartyReason : System → ℕ → List ℕ → ℕ → Grant → PartyReason → Type 0
IsPartyReason m base text number g (Misnamed placed inter comp named) =
    IsWantTold m (line_at text number) comp.0 placed × (inter ≡ g.inter)
    × IsLowestMisnamed m inter.0 g.wants comp.0 × IsNamedSo m inter.0 comp.0 named
IsPartyReason m base text number g (Uncovered above lack) =
    IsUncoveredAt m base text number g above.0 lack

-- what is told is true of the line's grant; nothing is stated where no memory is left to tell it
abbrev pub IsPartyTold : System → ℕ → List ℕ → ℕ → Option PartyReason → Type 0
IsPartyTold m base text number None = ⊤
IsPartyTold m base text number (Some reason) =
    (g : Grant) × (grant_on m (line_at text number) ≡ Ok (Some g))
    × IsPartyReason m base text number g reason

abbrev pub named_text : Named → List ℕ
named_text Moved = codes " moves "
named_text Seen = codes " looks at "
named_text Absent = codes " neither moves nor looks at "

abbrev pub seen_text : Named → List ℕ
seen_text Moved = []
seen_text Seen = codes ", which is wanted behind `see`"
seen_text Absent = []

-- components by their names, the first behind a text, and each other one behind a second text
abbrev pub names_parts : System → List ℕ → List ℕ → List CompId → List (List ℕ)
names_parts m front between [] = []
names_parts m front between (c ∷ cs) =
    front ∷ name_parts m.component_names c.0 ++ names_parts m between between cs

abbrev pub cover_lack_parts : System → ℕ → Lack → List (List ℕ)
cover_lack_parts m b (Off comps) =
    codes "nothing shows that " ∷ name_parts m.interaction_names b
    ++ names_parts m (codes " is not enabled: see ") (codes " or ") comps.items
cover_lack_parts m b (Unseen comps) =
    name_parts m.interaction_names b
    ++ names_parts m (codes "'s guard is false: see ") (codes " and ") comps.items

-- how a reason is told
abbrev pub party_parts : System → PartyReason → List (List ℕ)
party_parts m (Misnamed placed inter comp named) =
    front_parts placed ++ name_parts m.interaction_names inter.0
    ++ (named_text named ∷ component_parts m comp.0) ++ seen_text named ∷ []
party_parts m (Uncovered above lack) = cover_lack_parts m above.0 lack

abbrev pub parties_parts : System → Option PartyReason → List (List ℕ)
parties_parts m None = codes "no memory is left to say more" ∷ []
parties_parts m (Some reason) = party_parts m reason

-- what is told of a grant whose wants aren't enough; nothing only where the trace hasn't that fault
abbrev pub TellsParties : System → ℕ → List ℕ → ℕ → Telling → Telling → Type 0
TellsParties m base text number old new =
    Tells (MayKeepStep m base text number book.Parties) (IsPartyTold m base text number)
    (parties_parts m) old new

-- What contracts of private functions say.

-- whether wants that move a component, or see it, have it as an interaction does
abbrev pub is_right : Named → Bool → Bool → Bool
is_right Moved is_moved is_seen = is_moved && not is_seen
is_right Seen is_moved is_seen = not is_moved
is_right Absent is_moved is_seen = not is_moved && not is_seen
