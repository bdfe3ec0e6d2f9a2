use Rattle.acn_stream.proofs.json_lines.JsonLinesShow.show_front.Goals as goal

pub returns-clause-added : goal.returns-clause-added
returns-clause-added c = rw c.root.ensures.same at c.put_front.ensures.put
