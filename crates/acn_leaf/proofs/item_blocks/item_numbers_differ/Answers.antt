use Rattle.std.proofs.Common.{ℕ, List, sym, ◌∙◌}
use Rattle.std.specs.Prelude.{ℤ}
use Rattle.std.specs.Ordering.{int_eq}
use Rattle.acn_leaf.proofs.Blocks.{keyed}
use Rattle.acn_leaf.proofs.item_blocks.item_numbers_differ.Goals as goal

abbrev key : List ℕ × ℤ → ℤ
key item = item.1

pub returns : goal.returns
returns c = c.list_of_numbers_differs.ensures ∙ sym (keyed key int_eq c.args.items.now)
