use Rattle.std.proofs.Common.{option_map, Some, sym, ap, ◌∙◌}
use Rattle.acn_grammar.specs.Grammar.{octet_string}
use Rattle.acn_lines.proofs.LeafLaw.{string_taken, view_octets}
use Rattle.acn_lines.proofs.leaves.take_octets.Goals as goal

pub returns-in-Ok : goal.returns-in-Ok
returns-in-Ok c = string_taken _ c.in_ok-text.text.now _ _ _ c.in_ok-text.ensures (ap (option_map octet_string) (sym c.in-Ok.ensures) ∙ ap Some (sym (view_octets c.in-Ok.octets)))
