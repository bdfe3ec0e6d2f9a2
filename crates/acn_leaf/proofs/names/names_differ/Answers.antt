use Rattle.std.proofs.Common.{◌∙◌}
use Rattle.std.specs.Cmp.Lexicographic.{slice_cmp}
use Rattle.std.specs.Ordering.{nat_cmp}
use Rattle.acn_grammar.specs.Asks.{same_name}
use Rattle.acn_leaf.proofs.Differ.{neighbours_say, by_octets}
use Rattle.acn_leaf.proofs.names.names_differ.Goals as goal

pub returns : goal.returns
returns c = c.neighbours_differ.ensures ∙ neighbours_say (slice_cmp nat_cmp) same_name by_octets (λ name. name.now) c.args.names.now c.sort_unstable.new.self c.sort_unstable.ensures.permutation c.sort_unstable.ensures.sorted
