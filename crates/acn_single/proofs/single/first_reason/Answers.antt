use Rattle.std.proofs.Common.{List, map, ap, ◌∙◌}
use Rattle.acn_grammar.specs.View.{grammar_of}
use Rattle.acn_extreme_laws.specs.Facts.{facts_of}
use Rattle.acn_single.specs.Lines.{line_of, first_among}
use Rattle.acn_single.specs.declared.lines.Line.{Line}
use Rattle.acn_single.proofs.Here.{from_start}
use Rattle.acn_single.proofs.Seeing.{pass_finds}
use Rattle.acn_single.proofs.single.first_reason.Goals as goal

pub returns : goal.returns
returns c =
    let root = grammar_of c.args.slots.now.root.now in
    c.first_among.ensures ∙ (ap (λ (ls : List Line). first_among (map line_of ls)) c.as_slice.ensures.value
    ∙ (ap first_among (c.in_ok-list_node.ensures ∙ from_start root _ _ _ c.new-lines.ensures.items c.plain.ensures c.new-path.ensures) ∙ pass_finds root (facts_of root)))
