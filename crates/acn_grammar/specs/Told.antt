-- Nothing of a value or a node is lost in the plain data that contracts speak of. (Of this program, not of a standard.)
use Rattle.std.specs.Prelude.{◌≡◌}
use Rattle.acn_grammar.specs.View.{data_of, grammar_of}
use Rattle.acn_grammar.specs.declared.node.Node.{Node}
use Rattle.acn_grammar.specs.declared.value.Value.{Value}

-- nothing of a value is lost in its data: contracts may compare values by them
abbrev pub DataTellTheValue : Type 0
DataTellTheValue = (v w : Value) → data_of v ≡ data_of w → v ≡ w

-- nothing of a node is lost in its grammar
abbrev pub GrammarsTellTheNode : Type 0
GrammarsTellTheNode = (n m : Node) → grammar_of n ≡ grammar_of m → n ≡ m
