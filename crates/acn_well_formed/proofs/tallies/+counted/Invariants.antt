use Rattle.std.proofs.Common.{◌≡◌, drop}
use Rattle.acn_well_formed.specs.Tallies.{fields_tally, alternatives_tally}
use Rattle.acn_grammar.specs.View.{fields_view, alternatives_view}
use Rattle.acn_well_formed.proofs.tallies.+counted.Given as goal

abbrev pub invariant-count_fields-loop-field : goal.invariant-count_fields-loop-field
invariant-count_fields-loop-field l = fields_tally l.steps (fields_view (drop l.field-index l.fields)) l.now ≡ fields_tally l.steps (fields_view l.fields) l.fn.before

abbrev pub invariant-count_alternatives-loop-alternative : goal.invariant-count_alternatives-loop-alternative
invariant-count_alternatives-loop-alternative l = alternatives_tally l.steps (alternatives_view (drop l.alternative-index l.alternatives)) l.now ≡ alternatives_tally l.steps (alternatives_view l.alternatives) l.fn.before
