use Rattle.std.proofs.Common.{◌≡◌, drop}
use Rattle.acn_grammar.specs.View.{fields_view}
use Rattle.acn_compare.specs.Accepts.{heads, Head}
use Rattle.acn_compare.specs.Tests.{together, both_by}
use Rattle.acn_compare.proofs.fields.all_there_alike.Given as goal

abbrev pub invariant-loop-k : goal.invariant-loop-k
invariant-loop-k l = together (λ (h k : Head). both_by h.presence k.presence) (heads (fields_view (drop l.k l.old))) (heads (fields_view (drop l.k l.new))) ≡ together (λ (h k : Head). both_by h.presence k.presence) (heads (fields_view l.old)) (heads (fields_view l.new))
