use Rattle.std.proofs.Common.{◌≡◌, drop}
use Rattle.std.specs.Cmp.Lexicographic.{pointwise}
use Rattle.acn_grammar.specs.View.{fields_view}
use Rattle.acn_compare.specs.Accepts.{heads}
use Rattle.acn_compare.specs.Tests.{same_place}
use Rattle.acn_compare.proofs.fields.same_row.Given as goal

abbrev pub invariant-loop-k : goal.invariant-loop-k
invariant-loop-k l = pointwise same_place (heads (fields_view (drop l.k l.old))) (heads (fields_view (drop l.k l.new))) ≡ pointwise same_place (heads (fields_view l.old)) (heads (fields_view l.new))
