-- Parts that are said last.
use Rattle.std.proofs.Common.{◌≡◌, ℕ, ◌+◌, ◌≤◌, ◌<◌, ◌∷◌, Bool, true, false, List, [], ◌++◌, map}
use Rattle.std.proofs.Common.{length, refl, codes, sym, ap, ◌∙◌, inr}
use Rattle.std.proofs.lemmas.Bool.{le-leb, lt-leb, true≢false}
use Rattle.std.proofs.lemmas.List.Folds.{list_all-append}
use Rattle.std.specs.List.{list_all}
use Rattle.bip_explain.specs.Explanations.{Telling, is_shown, said_byte, most_whole, with_part}
use Rattle.bip_explain.specs.Explanations.{with_parts, Tells, is_open}

shown_is_shown : (b : ℕ) → is_shown (said_byte b) ≡ true
shown_is_shown b = by_test (is_shown b) refl where
  by_test : (t : Bool) → is_shown b ≡ t → is_shown (said_byte b) ≡ true
  by_test true h = rw (h, h) refl
  by_test false h = rw h refl

all_said : (bytes : List ℕ) → list_all is_shown (map said_byte bytes) ≡ true
all_said [] = refl
all_said (b ∷ bytes) = rw shown_is_shown (all_said bytes)

-- shown bytes stay so where bytes are said behind them
pub all_shown : (said bytes : List ℕ) → list_all is_shown said ≡ true
    → list_all is_shown (said ++ map said_byte bytes) ≡ true
all_shown said bytes h = rw (list_all-append is_shown said (map said_byte bytes), h)
    (all_said bytes)

-- a part that has room is said whole
pub said_whole : (w c : Bool) (said part after : List ℕ) → w ≡ true → c ≡ false
    → length said + length part ≤ most_whole → after ≡ said ++ map said_byte part
    → record { is_wanted = w; is_cut = c; said = after } ≡ with_part part
    (record { is_wanted = w; is_cut = c; said = said })
unfolding with_part
said_whole w c said part after hw hc h e = rw (
  hw,
  hc,
  e,
  le-leb (length said + length part) most_whole h,
) refl

-- one that has none is not said
pub said_cut : (w c : Bool) (said part after : List ℕ) → w ≡ true → c ≡ false
    → most_whole < length said + length part → after ≡ said ++ codes ".."
    → record { is_wanted = w; is_cut = true; said = after } ≡ with_part part
    (record { is_wanted = w; is_cut = c; said = said })
unfolding with_part
said_cut w c said part after hw hc h e = rw (
  hw,
  hc,
  e,
  lt-leb (length said + length part) most_whole h,
) refl

-- nothing is said where it isn't wanted
pub unwanted : (w c : Bool) (said part : List ℕ) → w ≡ false
    → record { is_wanted = w; is_cut = c; said = said } ≡ with_part part
    (record { is_wanted = w; is_cut = c; said = said })
unfolding with_part
unwanted w c said part h = rw h refl

-- nor behind what is cut
pub unsaid : (w c : Bool) (said part : List ℕ) → c ≡ true
    → record { is_wanted = w; is_cut = c; said = said } ≡ with_part part
    (record { is_wanted = w; is_cut = c; said = said })
unfolding with_part
unsaid true c said part h = rw h refl
unsaid false c said part h = rw h refl

-- parts behind parts
pub said_behind : (a b : List (List ℕ)) (e : Telling)
    → with_parts (a ++ b) e ≡ with_parts b (with_parts a e)
said_behind [] b e = refl
said_behind (part ∷ a) b e = said_behind a b (with_part part e)

-- a reason that is true is told, where nothing is said yet
pub tells : {R : Type 0} (MayBeSilent : Type 0) (IsTrue : R → Type 0) (parts : R → List (List ℕ))
    (old new : Telling) (reason : R) → is_open old ≡ true → IsTrue reason
    → new ≡ with_parts (parts reason) old → Tells MayBeSilent IsTrue parts old new
tells MayBeSilent IsTrue parts old new reason told true_of is =
    record {
      closed = λ h. absurd (true≢false (sym told ∙ h));
      opened = λ _. inr (reason, true_of, is);
    }

-- parts that were said in two goes
pub then_said : (a b : List (List ℕ)) (old mid new : Telling) → mid ≡ with_parts a old
    → new ≡ with_parts b mid → new ≡ with_parts (a ++ b) old
then_said a b old mid new first second = second
    ∙ (ap (λ (e : Telling). with_parts b e) first ∙ sym (said_behind a b old))
