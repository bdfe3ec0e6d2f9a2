use Rattle.acn_layout.proofs.line.put_head.Goals as goal

pub returns : goal.returns
returns g c = rw (← c.kind_of-kind.ensures) c.put_parts.ensures
