use Rattle.std.proofs.Common.{◌≡◌, drop, nat_eq}
use Rattle.acn_grammar.specs.Fails.{presence_count}
use Rattle.acn_grammar.specs.View.{fields_view}
use Rattle.acn_leads.proofs.leads.no_bits.Given as goal

abbrev pub invariant-loop-field : goal.invariant-loop-field
invariant-loop-field l = nat_eq (presence_count (fields_view (drop l.field-index l.fields))) 0 ≡ nat_eq (presence_count (fields_view l.fn.fields)) 0
