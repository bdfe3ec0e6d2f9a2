-- The lines of the roots, one of each. (This program's own.)
use Rattle.std.specs.Prelude.{◌≡◌, ℕ, List}
use Rattle.std.specs.List.{flat_map}
use Rattle.acn_front.specs.Grammars.{AreGrammarsOf}
use Rattle.acn_index.specs.World.{World}
use Rattle.acn_index.specs.declared.sources.TypeId.{TypeId}
use Rattle.acn_report.specs.Texts.{bounds_line}
use Rattle.acn_tree.specs.declared.tree.Tree.{Tree}
use Rattle.acn_commands.specs.Lines.{ok_line}
use Rattle.acn_commands.specs.declared.roots.RootLine.{RootLine}
use Rattle.acn_commands.specs.declared.roots.RootLine.TheVariants.{Decodable, Bounds}

abbrev pub root_line : RootLine → Tree → List ℕ
root_line Decodable tree = ok_line tree
root_line Bounds tree = bounds_line tree

-- the types have grammars, and these are the lines of their trees
pub record AreLinesOf (w : World) (types : List TypeId) (line : RootLine) (text : List ℕ) : Type 0 where
  pub trees : List Tree
  pub grammars : AreGrammarsOf w types trees
  pub is : text ≡ flat_map (root_line line) trees
