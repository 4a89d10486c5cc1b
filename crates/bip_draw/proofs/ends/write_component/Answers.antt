use Rattle.bip_draw.proofs.ends.write_component.Goals as goal

pub returns : goal.returns
returns c =
    rw (
      c.name_at-name.ensures,
      c.component_names.ensures.names,
      c.expected-next.ensures,
      c.component_at-component.ensures.component,
      c.state.ensures,
      c.model-model.ensures,
    ) at c.in_ok-write_place.ensures
