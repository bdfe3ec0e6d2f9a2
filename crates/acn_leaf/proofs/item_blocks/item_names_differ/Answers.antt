use Rattle.std.proofs.Common.{ℕ, List, sym, ◌∙◌}
use Rattle.std.specs.Prelude.{ℤ}
use Rattle.acn_grammar.specs.Asks.{same_name}
use Rattle.acn_leaf.proofs.Blocks.{keyed}
use Rattle.acn_leaf.proofs.item_blocks.item_names_differ.Goals as goal

abbrev key : List ℕ × ℤ → List ℕ
key item = item.0

pub returns : goal.returns
returns c = c.list_of_names_differs.ensures ∙ sym (keyed key same_name c.args.items.now)
