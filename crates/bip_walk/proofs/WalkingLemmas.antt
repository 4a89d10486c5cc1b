-- Walks: the grant of a word, and grants that are drawn one after another.
use Rattle.std.proofs.Common.{◌≡◌, ◌%◌, ℕ, ◌+◌, ◌<◌, ◌≤◌, ◌∷◌, true, false, List, []}
use Rattle.std.proofs.Common.{Ok, Some, ap, arith, get_or, length, refl, subst, sym}
use Rattle.std.proofs.lemmas.List.{length-append}
use Rattle.std.proofs.lemmas.List.Elements.{Contains-get_or}
use Rattle.std.proofs.lemmas.Nat.{mod_below}
use Rattle.std.proofs.lemmas.Option.{slice_get-get_or}
use Rattle.rand_pcg.specs.Lcg.{Lcg}
use Rattle.rand_pcg.specs.Pcg.{pcg32}
use Rattle.bip_model.specs.Priorities.{inter}
use Rattle.bip_model.specs.declared.grants.Grant.{Grant}
use Rattle.bip_model.specs.declared.numbering.InterId.{InterId}
use Rattle.bip_model.specs.declared.parts.System.{System}
use Rattle.bip_replay.proofs.NextLemmas.{expected_is_next}
use Rattle.bip_replay.proofs.RunLemmas.{run_on}
use Rattle.bip_replay.specs.Book.{Content, IsRunWith}
use Rattle.bip_replay.specs.Runs.{StandsAfter, Standing, standing_after}
use Rattle.bip_walk.specs.Chance.{generator_of}
use Rattle.bip_walk.specs.Choices.{AreDrawable, CanBeDrawn, IsFullGrant}
use Rattle.bip_walk.specs.Walking.{AreWalked, WalksOn, IsBookOfWalk, IsGrantDrawn, none_walked}
use Rattle.bip_walk.specs.Walking.{one_walked}

-- the interaction that a word takes of the list can be drawn
module _ (p : Standing) (list : List InterId) (word : ℕ) (d : InterId) (are : AreDrawable p list)
    (some : 0 < length list) where
  abbrev place : ℕ
  place = word % length list

  within : place < length list
  within = mod_below word (length list) some

  pub can_at : CanBeDrawn p (get_or list (word % length list) d).0
  can_at = (are.exact (get_or list place d).0).0 (Contains-get_or list place d within)

  -- and its full grant is that of the word
  pub drawn_at : (g : Grant) → IsFullGrant p (get_or list (word % length list) d).0 g
      → IsGrantDrawn p word g
  drawn_at g full =
      let same : get_or list place d ≡ g.inter = ap inter (sym full.expected.inter) in
      record {
        list = list;
        are = are;
        at = rw (slice_get-get_or list place d within) (ap Some same);
        full = subst (λ (a : ℕ). IsFullGrant p a g) (sym full.expected.inter) full;
      }

-- a full grant of what can be drawn takes a book on
pub takes_on : (b : Content) (p : Standing) (a : ℕ) (g : Grant)
    → StandsAfter b.model b.base b.grants p → CanBeDrawn p a → IsFullGrant p a g → IsRunWith b g
takes_on b p a g stands can full =
    run_on b.model b.base b.grants p g stands (expected_is_next p a g can.may full.expected)

-- a book that so many grants of a walk have led on
pub record IsWalkedSoFar (m : System) (base seed count : ℕ) (b : Content) (words : Lcg) : Type 0
  where
    pub model : b.model ≡ m
    pub base_is : b.base ≡ base
    pub walked : AreWalked (generator_of seed) m base b.grants words
    pub each : length b.grants ≡ count

pub none_so_far : (m : System) (base seed : ℕ) (b : Content)
    → b ≡ record { model = m; base = base; grants = [] }
    → IsWalkedSoFar m base seed 0 b (generator_of seed)
none_so_far m base seed b is =
    rw is (record { model = refl; base_is = refl; walked = none_walked; each = refl })

module _ (m : System) (base seed count : ℕ) (b : Content) (words : Lcg)
    (so : IsWalkedSoFar m base seed count b words) where
  here : standing_after b.model b.base b.grants ≡ standing_after m base b.grants
  here = rw (so.model, so.base_is) refl

  pub more_so_far : (after : Content) (left : Lcg)
      → WalksOn b words (Ok true) after left
      → IsWalkedSoFar m base seed (count + 1) after left
  more_so_far after left goes =
      let g = goes.0 in
      rw (goes.2, goes.3) (record {
        model = so.model;
        base_is = so.base_is;
        walked = one_walked b.grants words g so.walked
            (subst (λ (p : Standing). IsGrantDrawn p (pcg32 words).0 g) here goes.1);
        each = omega (arith, so.each, length-append b.grants (g ∷ []));
      })

  pub ends_so_far : (most : ℕ) (after : Content) (left : Lcg) → count ≤ most
      → WalksOn b words (Ok false) after left → IsBookOfWalk m base seed most after
  ends_so_far most after left few goes =
      rw goes.1 (record {
        model = so.model;
        base_is = so.base_is;
        walk = record {
          words = words;
          walked = so.walked;
          few = omega (arith, so.each, few);
          ends = λ less. subst (λ (p : Standing). (a : ℕ) → ¬ CanBeDrawn p a) here goes.0;
        };
      })

  pub all_so_far : (most : ℕ) → count ≤ most → most ≤ count → IsBookOfWalk m base seed most b
  all_so_far most few all = record {
    model = so.model;
    base_is = so.base_is;
    walk = record {
      words = words;
      walked = so.walked;
      few = omega (arith, so.each, few);
      ends = λ less. absurd (omega (arith, so.each, all, less));
    };
  }
