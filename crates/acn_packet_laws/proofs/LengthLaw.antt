-- A spelling has the length that the value and the position determine.
use Rattle.std.proofs.Common.{◌≡◌, ℕ, Bool, List, length}
use Rattle.acn_grammar.specs.Grammar.{Grammar, Data}
use Rattle.acn_grammar.specs.Code.{Mode}
use Rattle.acn_grammar.specs.Env.{Env}
use Rattle.acn_grammar.specs.Length.{bit_length}
use Rattle.acn_grammar.specs.Spell.{Spell}
use Rattle.acn_grammar.proofs.LeafLengths.{code-length}
use Rattle.acn_grammar.proofs.SpellLength.{Steady, spell-length}

pub length_law : (root : Grammar) (mode : Mode) (g : Grammar) → Steady g → (env : Env) (d : Data) (at : ℕ) (bs : List Bool) → Spell root mode g env d at bs → length bs ≡ bit_length g at d
length_law root mode g w env d at bs t = spell-length root mode (code-length mode) g w env d at bs t
