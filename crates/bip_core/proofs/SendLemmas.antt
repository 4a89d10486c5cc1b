-- Messages that are put last, one after another.
use Rattle.std.proofs.Common.{◌≡◌, ℕ, ◌+◌, ◌<◌, ◌≤◌, List, [], ◌∷◌, ◌++◌, length, map, take, get_or}
use Rattle.std.proofs.Common.{refl, sym, ap, subst, ◌∙◌, arith}
use Rattle.std.specs.Prelude.{All}
use Rattle.std.proofs.lemmas.List.{append_assoc, append-nil, length-append, map-append, take_more}
use Rattle.std.proofs.lemmas.List.Elements.{All-append, All-cons, All-head, All-tail}
use Rattle.bip_partition.specs.Plans.{Planned}
use Rattle.bip_partition.specs.Laws.{IsPlanned}
use Rattle.bip_core.specs.Letters.{CanBeHandedOn}
use Rattle.bip_core.proofs.LetterLemmas.{sent_accepted}
use Rattle.bip_core.specs.declared.events.What.{What}
use Rattle.bip_core.specs.Events.{AreKeptOf, ArePut, AreSent, IsSending, SendsWhatFits, all_done}
use Rattle.bip_core.specs.Events.{effect_of, one_kept, one_lost}
use Rattle.bip_core.specs.declared.messages.Message.{Message}
use Rattle.bip_core.specs.declared.outcomes.Outcome.{Outcome}

-- what is kept of two lists, one after the other
kept-append : (ps xs qs ys : List Message) → AreKeptOf ps xs → AreKeptOf qs ys
    → AreKeptOf (ps ++ qs) (xs ++ ys)
kept-append [] [] qs ys all_done other = other
kept-append (p ∷ ps) (x ∷ xs) qs ys (one_kept one) other =
    one_kept (kept-append ps xs qs ys one other)
kept-append (p ∷ ps) [] qs ys x4 other = elim x4 [ ]
kept-append ps (x ∷ xs) qs ys (one_lost one) other = one_lost (kept-append ps xs qs ys one other)

-- what holds of all holds of those that are kept
pub kept_all : (P : Message → Type 0) (ps xs : List Message) → AreKeptOf ps xs → All P xs → All P ps
kept_all P [] [] all_done all = all
kept_all P (p ∷ ps) (x ∷ xs) (one_kept kept) all =
    All-cons P p ps (All-head P x xs all) (kept_all P ps xs kept (All-tail P x xs all))
kept_all P (p ∷ ps) [] x4 all = elim x4 [ ]
kept_all P ps (x ∷ xs) (one_lost kept) all = kept_all P ps xs kept (All-tail P x xs all)

-- nothing is put
pub none_put : (mail : List Message) → ArePut [] 0 mail mail
none_put mail = record { put = []; kept = all_done; count = refl; last = sym (append-nil mail) }

-- one list after another
pub put_more : (xs ys : List Message) (n k : ℕ) (mail middle later : List Message)
    → ArePut xs n mail middle → ArePut ys k middle later → ArePut (xs ++ ys) (n + k) mail later
put_more xs ys n k mail middle later one other = record {
  put = one.put ++ other.put;
  kept = kept-append one.put xs other.put ys one.kept other.kept;
  count = rw (length-append one.put other.put, length-append xs ys)
      (omega (arith, one.count, other.count));
  last = other.last ∙ (ap (λ (l : List Message). l ++ other.put) one.last
      ∙ append_assoc mail one.put other.put);
}

-- one more of a list of messages
pub put_one_more : {X : Type 0} (f : X → Message) (xs : List X) (i : ℕ) (d : X) (n k : ℕ)
    (mail middle later : List Message) → i < length xs → ArePut (map f (take i xs)) n mail middle
    → ArePut (f (get_or xs i d) ∷ []) k middle later
    → ArePut (map f (take (i + 1) xs)) (n + k) mail later
put_one_more f xs i d n k mail middle later within one other =
    rw (take_more xs i d within, map-append f (take i xs) (get_or xs i d ∷ []))
    (put_more (map f (take i xs)) (f (get_or xs i d) ∷ []) n k mail middle later one other)

-- no more are lost than are sent
pub lost_few : (xs : List Message) (n : ℕ) (mail later : List Message) → ArePut xs n mail later
    → n ≤ length xs
lost_few xs n mail later put = omega (arith, put.count)

-- one message, put or lost
pub one_put : (m : Message) (mail : List Message) → ArePut (m ∷ []) 0 mail (mail ++ m ∷ [])
one_put m mail = record { put = m ∷ []; kept = one_kept all_done; count = refl; last = refl }

pub one_missed : (m : Message) (mail : List Message) → ArePut (m ∷ []) 1 mail mail
one_missed m mail = record {
  put = [];
  kept = one_lost all_done;
  count = refl;
  last = sym (append-nil mail);
}

-- an answer that sends nothing
pub sends_nothing : (p : Planned) (what : What) (outcome : Outcome) (mail : List Message)
    → AreSent p what [] → outcome ≡ record { effect = effect_of what; lost = 0 }
    → IsSending p what outcome mail mail
sends_nothing p what outcome mail sends is = record {
  sent = [];
  sends = sends;
  put = subst (λ (n : ℕ). ArePut [] n mail mail) (sym (ap (λ (o : Outcome). o.lost) is))
      (none_put mail);
  effect = ap (λ (o : Outcome). o.effect) is;
}

-- all are missed
pub all_missed : (xs : List Message) (mail : List Message) → ArePut xs (length xs) mail mail
all_missed xs mail = record {
  put = [];
  kept = none_kept xs;
  count = omega arith;
  last = sym (append-nil mail);
}
  where
    none_kept : (xs : List Message) → AreKeptOf [] xs
    none_kept [] = all_done
    none_kept (x ∷ xs) = one_lost (none_kept xs)

-- so what is in flight is accepted after it is put
pub put_fit : (p : Planned) (what : What) (outcome : Outcome) (mail later : List Message)
    → IsPlanned p → SendsWhatFits p what → IsSending p what outcome mail later
    → All (CanBeHandedOn p) mail → All (CanBeHandedOn p) later
put_fit p what outcome mail later planned fits sending all =
    rw sending.put.last (All-append (CanBeHandedOn p) mail sending.put.put all
    (kept_all (CanBeHandedOn p) sending.put.put sending.sent sending.put.kept
    (sent_accepted p what sending.sent planned fits sending.sends)))
