use Rattle.std.proofs.Common.{◌≡◌, drop}
use Rattle.acn_well_formed.specs.Kept.{fields_kept, alternatives_kept}
use Rattle.acn_grammar.specs.View.{fields_view, alternatives_view}
use Rattle.acn_well_formed.proofs.node_rules.+kept.Given as goal

abbrev pub invariant-fields_kept-loop-field : goal.invariant-fields_kept-loop-field
invariant-fields_kept-loop-field l = fields_kept l.slots (fields_view (drop l.field-index l.fields)) ≡ fields_kept l.slots (fields_view l.fields)

abbrev pub invariant-alternatives_kept-loop-alternative : goal.invariant-alternatives_kept-loop-alternative
invariant-alternatives_kept-loop-alternative l = alternatives_kept l.slots (alternatives_view (drop l.alternative-index l.alternatives)) ≡ alternatives_kept l.slots (alternatives_view l.alternatives)
