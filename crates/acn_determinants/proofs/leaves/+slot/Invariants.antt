use Rattle.std.proofs.Common.{◌≡◌, drop}
use Rattle.acn_grammar.specs.Slots as spec
use Rattle.acn_grammar.specs.View.{fields_view, alternatives_view}
use Rattle.acn_determinants.proofs.leaves.+slot.Given as goal

abbrev pub invariant-fields_leaf-loop-field : goal.invariant-fields_leaf-loop-field
invariant-fields_leaf-loop-field l = spec.fields_leaf (fields_view (drop l.field-index l.fields)) l.slot ≡ spec.fields_leaf (fields_view l.fields) l.slot

abbrev pub invariant-alternatives_leaf-loop-alternative : goal.invariant-alternatives_leaf-loop-alternative
invariant-alternatives_leaf-loop-alternative l = spec.alternatives_leaf (alternatives_view (drop l.alternative-index l.alternatives)) l.slot ≡ spec.alternatives_leaf (alternatives_view l.alternatives) l.slot
