-- Lists of names in the program as plain data.
use Rattle.std.specs.Prelude.{List, map}
use Rattle.std.specs.Borrow.{Bor}
use Rattle.acn_num.specs.Names.{Name}
use Rattle.acn_num.specs.declared.name.Name as num

abbrev pub names_view : List (Bor num.Name) → List Name
names_view names = map (λ (n : Bor num.Name). n.now) names
