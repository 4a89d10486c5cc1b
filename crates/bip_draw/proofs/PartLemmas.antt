-- Texts in parts, written one after another.
use Rattle.std.proofs.Common.{◌≡◌, ℕ, List, ◌++◌, ◌∙◌, append_assoc}

pub three_parts : (o a b d : List ℕ) → ((o ++ a) ++ b) ++ d ≡ o ++ (a ++ (b ++ d))
three_parts o a b d = append_assoc (o ++ a) b d ∙ append_assoc o a (b ++ d)

pub seven_parts : (a b d e f g h : List ℕ)
    → (((((a ++ b) ++ d) ++ e) ++ f) ++ g) ++ h ≡ a ++ (b ++ (d ++ (e ++ (f ++ (g ++ h)))))
seven_parts a b d e f g h =
    append_assoc ((((a ++ b) ++ d) ++ e) ++ f) g h
    ∙ append_assoc (((a ++ b) ++ d) ++ e) f (g ++ h)
    ∙ append_assoc ((a ++ b) ++ d) e (f ++ (g ++ h))
    ∙ append_assoc (a ++ b) d (e ++ (f ++ (g ++ h)))
    ∙ append_assoc a b (d ++ (e ++ (f ++ (g ++ h))))
