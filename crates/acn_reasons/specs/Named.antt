-- What the program's own lists stand for.
use Rattle.std.specs.Prelude.{ℕ, List, map}
use Rattle.std.specs.Borrow.{Bor}
use Rattle.acn_num.specs.Names.{Name}
use Rattle.acn_asn_syntax.specs.declared.types.Item.{Item}
use Rattle.acn_acn_syntax.specs.Mirror.{Field}
use Rattle.acn_acn_syntax.specs.View.{field_of}
use Rattle.acn_acn_syntax.specs.declared.modules.AcnField.{AcnField}
use Rattle.acn_acn_syntax.specs.declared.modules.AcnPath.{AcnPath}

abbrev pub names_view : List (Bor Name) → List Name
names_view ns = map (λ (n : Bor Name). n.now) ns

abbrev pub fields_view : List AcnField → List Field
fields_view fs = map field_of fs

-- items with a place that nobody asks for
abbrev pub noted_items : List Item → List (Name × ℕ)
noted_items items = map (λ (i : Item). (i.name, 0)) items

abbrev pub paths_view : List (Bor AcnPath) → List (List Name)
paths_view ps = map (λ (p : Bor AcnPath). p.now.names) ps
