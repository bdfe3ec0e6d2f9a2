use Rattle.std.proofs.Common.{◌≡◌, drop}
use Rattle.acn_grammar.specs.View.{fields_view}
use Rattle.acn_compare.specs.Accepts.{heads}
use Rattle.acn_compare.specs.Tests.{together, same_field}
use Rattle.acn_compare.proofs.determinants.same_row.Given as goal

abbrev pub invariant-loop-k : goal.invariant-loop-k
invariant-loop-k l = together (same_field l.slots) (heads (fields_view (drop l.k l.old))) (heads (fields_view (drop l.k l.new))) ≡ together (same_field l.slots) (heads (fields_view l.old)) (heads (fields_view l.new))
