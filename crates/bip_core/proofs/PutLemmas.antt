-- Functions changed at one place: what holds there and elsewhere holds everywhere. So no other
-- proof opens `put`.
use Rattle.std.proofs.Common.{◌≡◌, ◌≢◌, ℕ, eqb, refl, sym, ap, ◌∙◌, subst, inl, inr, ◌⊎◌, Option}
use Rattle.std.proofs.Common.{Some, None}
use Rattle.std.proofs.Math.Path.{fun_ext}
use Rattle.std.proofs.lemmas.Option.{same_Some, none-some}
use Rattle.std.proofs.lemmas.Bool.{cases_eq, eq-eqb, ne_eqb, cond-true, cond-false}
use Rattle.std.proofs.lemmas.Bool.Decides.{eqb_tells}
use Rattle.bip_model.specs.Numbering.{put}
use Rattle.bip_core.specs.Lists.{put_at}

-- at the changed place stands the new value
pub put_here : {X : Type 0} (f : ℕ → X) (k : ℕ) (v : X) → put f k v k ≡ v
put_here f k v = cond-true (eqb k k) v (f k) (eq-eqb k k refl)

-- and elsewhere the old one
pub put_other : {X : Type 0} (f : ℕ → X) (k : ℕ) (v : X) (j : ℕ) → j ≢ k → put f k v j ≡ f j
put_other f k v j other = cond-false (eqb j k) v (f j) (ne_eqb j k other)

-- what holds at the place and elsewhere
pub all_put : {X : Type 0} (P : ℕ → X → Type 0) (f : ℕ → X) (k : ℕ) (v : X) → P k v
    → ((j : ℕ) → j ≢ k → P j (f j)) → (j : ℕ) → P j (put f k v j)
all_put P f k v here there j = elim (cases_eq j k) [
  | inl same ↦
      let at_k : P k (put f k v k) = subst (P k) (sym (put_here f k v)) here in
      subst (λ i. P i (put f k v i)) (sym same) at_k
  | inr other ↦ subst (P j) (sym (put_other f k v j other)) (there j other)
]

-- what is read of options of which one was put
pub read_put : {X Y : Type 0} (read : Option X → Y) (f : ℕ → Option X) (k : ℕ) (v : Option X)
    → (λ j. read (put f k v j)) ≡ put (λ j. read (f j)) k (read v)
read_put read f k v = fun_ext (λ j. elim (eqb_tells j k) [
  | inl same ↦ rw same.0 refl
  | inr other ↦ rw other.0 refl
])

-- what stood there is put back
pub put_back : {X : Type 0} (f : ℕ → X) (k : ℕ) (v : X) → f k ≡ v → put f k v ≡ f
put_back f k v is = fun_ext (λ j. elim (eqb_tells j k) [
  | inl same ↦ rw same.0 (sym is ∙ ap f (sym same.1))
  | inr other ↦ rw other.0 refl
])

-- an option of the changed function is the new one or an old one
pub put_cases : {X : Type 0} (f : ℕ → Option X) (k : ℕ) (v : X) (j : ℕ) (x : X)
    → put f k (Some v) j ≡ Some x → ((j ≡ k) × (v ≡ x)) ⊎ (f j ≡ Some x)
put_cases f k v = all_put
    (λ j entry. (x : _) → entry ≡ Some x → ((j ≡ k) × (v ≡ x)) ⊎ (f j ≡ Some x)) f k (Some v)
    (λ x is. inl (refl, same_Some v x is))
    (λ j other x is. inr is)

-- The same of functions of two numbers

-- at the same places stands the same
pub at_same : {X : Type 0} (f : ℕ → ℕ → X) {j k a b : ℕ} → j ≡ k → b ≡ a → f j b ≡ f k a
at_same {X} f {k = k} {b = b} first second = ap (λ (i : ℕ). f i b) first ∙ ap (f k) second

all_put_at : {X : Type 0} (P : ℕ → ℕ → X → Type 0) (f : ℕ → ℕ → X) (k a : ℕ) (v : X) → P k a v
    → ((j b : ℕ) → ((j ≡ k) → (b ≡ a) → ⊥) → P j b (f j b)) → (j b : ℕ) → P j b (put_at f k a v j b)
all_put_at P f k a v here there =
    all_put (λ j g. (b : ℕ) → P j b (g b)) f k (put (f k) a v)
    (all_put (P k) (f k) a v here (λ b other. there k b (λ _. other)))
    (λ j other b. there j b (λ same _. other same))

-- at the changed pair stands the new value
pub put_at_here : {X : Type 0} (f : ℕ → ℕ → X) (k a : ℕ) (v : X) → put_at f k a v k a ≡ v
put_at_here {X = X} f k a v =
    ap (λ (g : ℕ → X). g a) (put_here f k (put (f k) a v)) ∙ put_here (f k) a v

-- and elsewhere the old one
pub put_at_other : {X : Type 0} (f : ℕ → ℕ → X) (k a : ℕ) (v : X) (j b : ℕ)
    → ((j ≡ k) → (b ≡ a) → ⊥) → put_at f k a v j b ≡ f j b
put_at_other f k a v = all_put_at
    (λ j b x. ((j ≡ k) → (b ≡ a) → ⊥) → x ≡ f j b) f k a v
    (λ other. absurd (other refl refl))
    (λ j b other _. refl)

-- a pair of numbers is the changed one, or what stands there is left
pub put_at_apart : {X : Type 0} (f : ℕ → ℕ → X) (k a : ℕ) (v : X) (j b : ℕ)
    → ((j ≡ k) × (b ≡ a)) ⊎ (put_at f k a v j b ≡ f j b)
put_at_apart f k a v = all_put_at
    (λ j b x. ((j ≡ k) × (b ≡ a)) ⊎ (x ≡ f j b)) f k a v
    (inl (refl, refl))
    (λ j b other. inr refl)

-- an option of the changed function is the new one or an old one
pub put_at_cases : {X : Type 0} (f : ℕ → ℕ → Option X) (k a : ℕ) (v : X) (j b : ℕ) (x : X)
    → put_at f k a (Some v) j b ≡ Some x → ((j ≡ k) × (b ≡ a) × (v ≡ x)) ⊎ (f j b ≡ Some x)
put_at_cases {X = X} f k a v = all_put_at
    (λ j b entry. (x : X) → entry ≡ Some x → ((j ≡ k) × (b ≡ a) × (v ≡ x)) ⊎ (f j b ≡ Some x))
    f k a (Some v)
    (λ x is. inl (refl, refl, same_Some v x is))
    (λ j b other x is. inr is)

-- where one was taken away, the others are left
pub taken_at : {X : Type 0} (f : ℕ → ℕ → Option X) (k a j b : ℕ) (x : X)
    → put_at f k a None j b ≡ Some x → (((j ≡ k) → (b ≡ a) → ⊥) × (f j b ≡ Some x))
taken_at {X = X} f k a = all_put_at
    (λ j b entry. (x : X) → entry ≡ Some x → (((j ≡ k) → (b ≡ a) → ⊥) × (f j b ≡ Some x)))
    f k a None
    (λ x is. absurd (none-some x is))
    (λ j b other x is. (other, is))
