use Rattle.std.proofs.Common.{◌≡◌, drop}
use Rattle.acn_well_formed.specs.Seen.{fields_seen, alternatives_seen, nothing}
use Rattle.acn_grammar.specs.View.{fields_view, alternatives_view}
use Rattle.acn_well_formed.proofs.homes.+seen.Given as goal

abbrev pub invariant-look_at_fields-loop-field : goal.invariant-look_at_fields-loop-field
invariant-look_at_fields-loop-field l =
    fields_seen l.sought.slot l.sought.total l.in_home l.seen (fields_view (drop l.field-index l.fields)) ≡ fields_seen l.sought.slot l.sought.total l.in_home nothing (fields_view l.fields)

abbrev pub invariant-look_at_alternatives-loop-alternative : goal.invariant-look_at_alternatives-loop-alternative
invariant-look_at_alternatives-loop-alternative l =
    alternatives_seen l.sought.slot l.sought.total l.in_home l.seen (alternatives_view (drop l.alternative-index l.alternatives)) ≡ alternatives_seen l.sought.slot l.sought.total l.in_home nothing (alternatives_view l.alternatives)
