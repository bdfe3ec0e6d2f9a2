use Rattle.std.proofs.Common.{option_map, Some, sym, ap, ◌∙◌}
use Rattle.acn_grammar.specs.Grammar.{characters}
use Rattle.acn_json.specs.Reads.{ascii_of}
use Rattle.acn_lines.proofs.LeafLaw.{string_taken, view_text}
use Rattle.acn_lines.proofs.leaves.take_characters.Goals as goal

pub returns-in-Ok : goal.returns-in-Ok
returns-in-Ok c =
    string_taken _ c.in_ok-text.text.now _ _ _ c.in_ok-text.ensures (ap (λ s. option_map characters (ascii_of s)) (sym c.as_bytes.ensures.value) ∙ (ap (option_map characters) (sym c.in-Ok.ensures) ∙ ap Some (sym (view_text c.in-Ok.characters))))
