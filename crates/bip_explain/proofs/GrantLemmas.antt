-- Words that name a component with a number.
use Rattle.std.proofs.Common.{◌≡◌, ℕ, true, false, List, Option, None, Some, eqb, eq-eqb, refl, sym}
use Rattle.std.proofs.Common.{ap, ◌∙◌, position}
use Rattle.std.specs.Option.{option_map_or}
use Rattle.std.proofs.lemmas.Bool.{eqb-true, false≢true}
use Rattle.bip_model.specs.Naming.{same_text}
use Rattle.bip_model.specs.declared.parts.System.{System}
use Rattle.bip_model.proofs.WrittenLemmas.{is_name-from}
use Rattle.bip_explain.specs.Grants.{IsWantOf, names_comp}
use Rattle.bip_explain.specs.Words.{IsWant, named_in}
use Rattle.bip_explain.proofs.SaidLemmas.{want_is_named}

want_named : (component word : List ℕ) → IsWant component word → named_in word ≡ Some component
want_named component word (named, (spelled, number, split, fits)) =
    rw (split, is_name-from component named, fits) refl

pub comp_named : (m : System) (comp : ℕ) (word : List ℕ) → IsWantOf m comp word
    → names_comp m comp word ≡ true
comp_named m comp word (component, want, place) =
    rw (want_named component word want, place, eq-eqb comp comp refl) refl

pub comp_wanted : (m : System) (comp : ℕ) (word : List ℕ) → names_comp m comp word ≡ true
    → IsWantOf m comp word
comp_wanted m comp word is = by_name (named_in word) refl is
  where
    by_name : (o : Option (List ℕ)) → named_in word ≡ o
        → option_map_or (λ name. option_map_or (λ c. eqb c comp)
        (position (same_text name) m.component_names) false) o false ≡ true → IsWantOf m comp word
    by_name None e h = absurd (false≢true h)
    by_name (Some name) e h = by_place (position (same_text name) m.component_names) refl h
      where
        by_place : (o : Option ℕ) → position (same_text name) m.component_names ≡ o
            → option_map_or (λ c. eqb c comp) o false ≡ true → IsWantOf m comp word
        by_place None f g = absurd (false≢true g)
        by_place (Some c) f g = (name, want_is_named word name e, f ∙ ap Some (eqb-true c comp g))

pub other_word : (m : System) (comp : ℕ) (word : List ℕ) → names_comp m comp word ≡ false
    → ¬ IsWantOf m comp word
other_word m comp word none want = false≢true (sym none ∙ comp_named m comp word want)
