use Rattle.std.proofs.Common.{option_map, sym, ap, ◌∙◌}
use Rattle.acn_grammar.specs.Grammar.{item}
use Rattle.acn_json.specs.Reads.{item_number}
use Rattle.acn_lines.proofs.LeafLaw.{string_taken}
use Rattle.acn_lines.proofs.leaves.take_item.Goals as goal

pub returns-in-Ok : goal.returns-in-Ok
returns-in-Ok c = string_taken _ c.in_ok-name.name.now _ _ _ c.in_ok-name.ensures (ap (λ s. option_map item (item_number s 0 c.args.items.now)) (sym c.as_bytes.ensures.value) ∙ sym c.in-Ok.ensures)
