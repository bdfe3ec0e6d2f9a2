-- The sizes that a field can't say. (This program's own.)
use Rattle.std.specs.Prelude.{[]}
use Rattle.acn_num.specs.Ranges.{Ranges, except}
use Rattle.acn_grammar.specs.Grammar.{Grammar}
use Rattle.acn_grammar.specs.Slots.{domain_of}
use Rattle.acn_grammar.specs.declared.node.SizeRule.{SizeRule}
use Rattle.acn_grammar.specs.declared.node.SizeRule.TheVariants.{Slot}

-- of the sizes that a node permits those that the field of its slot doesn't; none where no field says its size
abbrev pub unsaid : Grammar → Ranges → SizeRule → Ranges
unsaid root sizes (Slot s) = except sizes (domain_of root s)
unsaid root sizes _ = []
