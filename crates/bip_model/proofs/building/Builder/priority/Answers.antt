use Rattle.std.proofs.Common.{◌≡◌, Ok, rules, sym}
use Rattle.bip_model.specs.Drafts.{priority_line}
use Rattle.bip_model.specs.Priorities.{is_before, pair}
use Rattle.bip_model.proofs.DraftLemmas.{answers_said, priority_keeps, priority_said}
use Rattle.bip_model.proofs.PriorityLemmas.{place_within, put_is_insert}
use Rattle.bip_model.proofs.building.Builder.priority.Goals as goal

said : (c : goal.In_ok-insert) → priority_line c.self.inside.draft c.args.low c.args.high
    ≡ Ok (record c.self.inside.draft {
      system = record c.self.inside.draft.system {
        priorities = c.insert.new.self;
      };
    })
said c =
    let p = pair c.in_ok-low.low c.in_ok-high.high in
    let added = put_is_insert p c.self.inside.draft.system.priorities in
    rw (
      priority_said c.self.inside.draft c.args.low c.args.high c.in_ok-low.low c.in_ok-high.high
          (search
          rules) (search rules) (search rules),
      added,
    ) (search rules)

pub insert-requires : goal.insert-requires
insert-requires c = rw (c.place_for-place.ensures, c.as_slice-pairs.ensures)
    (place_within (is_before (pair c.in_ok-low.low c.in_ok-high.high))
    c.self.inside.draft.system.priorities)

pub invariant_of-self-2 : goal.invariant_of-self-2
invariant_of-self-2 c = priority_keeps c.self.inside.draft _ c.args.low c.args.high c.self.invariant
    (said c)

pub returns-clause-said : goal.returns-clause-said
returns-clause-said c = rw (sym c.self.view_is)
    (answers_said (priority_line c.self.inside.draft c.args.low c.args.high) _ (said c))
