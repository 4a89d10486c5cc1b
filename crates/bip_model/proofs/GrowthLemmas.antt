-- Each line keeps all that earlier lines said.
use Rattle.std.proofs.Common.{◌≡◌, ℕ, List, [], ◌∷◌, ◌++◌, Option, None, Some, Ok, refl, sym, inl}
use Rattle.std.proofs.Common.{rules, arith, IfSome, Result, unwrap_or, append-nil}
use Rattle.std.proofs.lemmas.Grind.{common_steps}
use Rattle.std.proofs.lemmas.Result.{IfOk-at_ok}
use Rattle.std.proofs.Common.{◌||◌, leb, length}
use Rattle.std.specs.List.{list_any}
use Rattle.bip_model.specs.Scopes.{are_long_assignments, is_long_guard, knows_assignments}
use Rattle.bip_model.specs.Scopes.{knows_guard, own}
use Rattle.bip_model.specs.declared.faults.BuildFault.TheVariants.{Unknown, Twice, TooMany}
use Rattle.bip_model.specs.declared.faults.BuildFault.TheVariants.{TwoTransitions}
use Rattle.bip_model.specs.Components.{leaves, number_in, loc_line, no_component, port_line}
use Rattle.bip_model.specs.Components.{trans_line, var_line}
use Rattle.std.proofs.Common.{IsNone}
use Rattle.bip_model.specs.Drafts.{begun_in, inside, priority_line, with_priority}
use Rattle.bip_model.specs.Priorities.{is_same_pair, pair}
use Rattle.bip_model.proofs.DraftLemmas.{begun_none}
use Rattle.bip_model.proofs.PriorityLemmas.{put_keeps}
use Rattle.bip_model.specs.Laws.{Begins, GoesOn, KeepsComponent, KeepsDraft}
use Rattle.bip_model.specs.declared.drafts.Draft.{Draft}
use Rattle.bip_model.specs.declared.expressions.Assignment.{Assignment}
use Rattle.bip_model.specs.declared.expressions.Comparison.{Comparison}
use Rattle.bip_model.specs.declared.faults.BuildFault.{BuildFault}
use Rattle.bip_model.specs.declared.scopes.VariableName.{VariableName}
use Rattle.bip_model.specs.declared.parts.Component.{Component}
use Rattle.bip_model.proofs.ParticipantLemmas.{allowed, bound, guarded}

begins_same : {X : Type 0} (xs : List X) → Begins xs xs
begins_same xs = ([], sym (append-nil xs))

begins_push : {X : Type 0} (xs : List X) (x : X) → Begins xs (xs ++ x ∷ [])
begins_push xs x = (x ∷ [], refl)

pub var_grows : (name : List ℕ) (value : ℕ) (c e : Component) → var_line name value c ≡ Ok e
    → KeepsComponent c e
var_grows name value c e is = grind (arith, common_steps)

pub loc_grows : (name : List ℕ) (c e : Component) → loc_line name c ≡ Ok e → KeepsComponent c e
loc_grows name c e is = grind (arith, common_steps)

pub port_grows : (name : List ℕ) (c e : Component) → port_line name c ≡ Ok e → KeepsComponent c e
port_grows name c e is = grind (arith, common_steps)

pub trans_grows : (port source target : List ℕ) (guard : List (Comparison VariableName))
    (update : List (Assignment VariableName)) (c e : Component)
    → trans_line port source target guard update c ≡ Ok e → KeepsComponent c e
trans_grows port source target guard update c e is = IfOk-at_ok (KeepsComponent c) is
    (bound (KeepsComponent c) (number_in c.ports port) _ (λ p is_p.
    bound (KeepsComponent c) (number_in c.locations source) _ (λ s is_s.
    bound (KeepsComponent c) (number_in c.locations target) _ (λ t is_t.
    allowed (KeepsComponent c) (knows_guard (own c.variables) guard) Unknown _ (λ known.
    allowed (KeepsComponent c) (knows_assignments (own c.variables) update) Unknown _
    (λ known_update.
    guarded (KeepsComponent c) (leb 256 (length c.transitions) || is_long_guard guard
    || are_long_assignments update) TooMany _ (λ fits.
    guarded (KeepsComponent c) (list_any (leaves (record { 0 = s }) (record { 0 = p }))
    c.transitions) TwoTransitions _ (λ new.
    search (rules, begins_same, begins_push)))))))))

-- what holds of the component that is begun, where one is
for_begun : (begun : Option Component) (P : Component → Type 0) → P (unwrap_or begun no_component)
    → IfSome begun P
for_begun None P holds = tt
for_begun (Some c) P holds = holds

pub priority_grows : (d e : Draft) (low high : List ℕ) → IsNone d.begun
    → priority_line d low high ≡ Ok e → KeepsDraft d e
priority_grows d e low high outside is = IfOk-at_ok (KeepsDraft d) is
    (bound (KeepsDraft d) (number_in d.system.interaction_names low) _ (λ a is_a.
    bound (KeepsDraft d) (number_in d.system.interaction_names high) _ (λ b is_b.
    bound (KeepsDraft d) (with_priority (pair a b) d.system) _ (λ m is_m.
    IfOk-at_ok (λ s. KeepsDraft d (record d { system = s })) is_m
    (guarded (λ s. KeepsDraft d (record d { system = s }))
    (list_any (is_same_pair (pair a b)) d.system.priorities) Twice _ (λ new. record {
      component_names = begins_same d.system.component_names;
      components = begins_same d.system.components;
      interaction_names = begins_same d.system.interaction_names;
      interactions = begins_same d.system.interactions;
      priorities = λ p at. put_keeps (pair a b) p d.system.priorities at;
      begun = rw (begun_none d.begun outside) tt;
    }))))))

pub inside_grows : (f : Component → Result Component BuildFault)
    → ((c e : Component) → f c ≡ Ok e → KeepsComponent c e) → (d e : Draft) → inside f d ≡ Ok e
    → KeepsDraft d e
inside_grows f grows d e is = IfOk-at_ok (KeepsDraft d) is
    (bound (KeepsDraft d) (f (begun_in d)) _ (λ c said.
    let begun = for_begun d.begun (λ b. GoesOn d b (record d { begun = Some c }))
    (c, grows (begun_in d) c said, inl refl) in
    search (rules, begins_same)))
