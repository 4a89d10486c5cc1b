use Rattle.bip_explain.proofs.unknown.find_component.Goals as goal

pub returns-in-None : goal.returns-in-None
returns-in-None c =
    let name = c.as_bytes-name.ensures.bytes in (
      c.requires.placed,
      c.requires.named,
      rw name at c.in-None.ensures.none,
      rw name at c.later_line_with-later.ensures,
    )
