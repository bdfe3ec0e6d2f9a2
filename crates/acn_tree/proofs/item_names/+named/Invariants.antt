use Rattle.std.proofs.Common.{◌≡◌, drop}
use Rattle.acn_grammar.specs.ItemsNamed.{fields_items_named, alternatives_items_named}
use Rattle.acn_grammar.specs.View.{fields_view, alternatives_view}
use Rattle.acn_tree.proofs.item_names.+named.Given as goal

abbrev pub invariant-fields_named-loop-field : goal.invariant-fields_named-loop-field
invariant-fields_named-loop-field l = fields_items_named (fields_view (drop l.field-index l.fields)) ≡ fields_items_named (fields_view l.fields)

abbrev pub invariant-alternatives_named-loop-alternative : goal.invariant-alternatives_named-loop-alternative
invariant-alternatives_named-loop-alternative l = alternatives_items_named (alternatives_view (drop l.alternative-index l.alternatives)) ≡ alternatives_items_named (alternatives_view l.alternatives)
