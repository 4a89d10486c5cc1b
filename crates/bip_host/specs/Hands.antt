-- What the hands of actors do with inboxes.
use Rattle.std.specs.Prelude.{◌≡◌, ◌++◌, [], ◌∷◌, MatchOption, Option}
use Rattle.bip_host.specs.Addressed.{IsPostedTo, IsPutOrBack}
use Rattle.bip_host.specs.Layers.{IsAskedFor}
use Rattle.bip_host.specs.Posting.{IsPostedBy, got_by}
use Rattle.bip_host.specs.declared.classes.ClassAct.{ClassAct}
use Rattle.bip_host.specs.declared.classes.ClassAct.TheVariants.{Ask, Tell}
use Rattle.bip_host.specs.declared.classes.ClassAnswer.{ClassAnswer}
use Rattle.bip_host.specs.declared.classes.ClassAnswer.TheVariants as class
use Rattle.bip_host.specs.declared.ends.Intake.{Intake}
use Rattle.bip_host.specs.declared.hands.ClassHands.{ClassHands}
use Rattle.bip_host.specs.declared.hands.StationHands.{StationHands}
use Rattle.bip_host.specs.declared.stations.StationAct.{StationAct}
use Rattle.bip_host.specs.declared.stations.StationAct.TheVariants.{Answer, Share}
use Rattle.bip_host.specs.declared.stations.StationAnswer.{StationAnswer}
use Rattle.bip_host.specs.declared.stations.StationAnswer.TheVariants.{Answered, Shared}

module _ {M : Type 0} where
  -- what a reader gets: the next message, and no other one; or there is none
  abbrev pub IsGot : Intake M → Option M → Intake M → Type 0
  IsGot old message new =
      MatchOption message (got_by new.reader ≡ got_by old.reader)
      (λ m. got_by new.reader ≡ got_by old.reader ++ m ∷ [])

module _ {L G : Type 0} where
  -- what is put by an act of a class: a notification for its component, a request for the station
  -- of its interaction; else nothing is
  abbrev pub IsClassActDone : ClassAct → ClassHands L G → ClassAnswer → ClassHands L G → Type 0
  IsClassActDone (Tell n) old (class.Told posted) new =
      IsPostedTo n.comp.0 n old.components.outlets.items posted new.components.outlets.items
      × (new.layer ≡ old.layer)
  IsClassActDone (Ask q) old answer new =
      IsAskedFor q old.layer answer new.layer × (new.components ≡ old.components)
  IsClassActDone act old answer new =
      (new.components ≡ old.components) × (new.layer ≡ old.layer)

-- what is put by an act of a station: an answer for its class, what stations share for the one that
-- is named; else nothing is
abbrev pub IsStationActDone : StationAct → StationHands → StationAnswer → StationHands → Type 0
IsStationActDone (Answer m) old (Answered posted) new =
    IsPostedBy m old.class.writer posted new.class.writer × (new.stations ≡ old.stations)
IsStationActDone (Share to m) old (Shared back) new =
    IsPutOrBack to.0 m old.stations.outlets.items back new.stations.outlets.items
    × (new.class ≡ old.class)
IsStationActDone act old answer new =
    (new.class ≡ old.class) × (new.stations ≡ old.stations)
