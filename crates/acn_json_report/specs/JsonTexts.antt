-- The line of each fault of a line of JSON. (This program's own.)
use Rattle.std.specs.Prelude.{ℕ, List, [], ◌∷◌, codes}
use Rattle.std.specs.Fmt.{decimal}
use Rattle.std.specs.List.{concat}
use Rattle.acn_json.specs.declared.json_fault.JsonFault.{JsonFault}
use Rattle.acn_json.specs.declared.json_fault.JsonFault.TheVariants.{NotJson, Shape, UnknownMember, MissingMember, NoMemory}
use Rattle.acn_report.specs.CheckTexts.{no_memory_line}
use Rattle.acn_report.specs.Names.{path_text}
use Rattle.acn_report.specs.Texts.{said, refused_line}
use Rattle.acn_tree.specs.declared.tree.Tree.{Tree}

-- a line that isn't JSON has no place
abbrev pub not_json_line : ℕ → List ℕ
not_json_line k = concat (codes "acn: line " ∷ decimal k ∷ codes ": NotJson\n" ∷ [])

abbrev pub json_line : Tree → ℕ → JsonFault → List ℕ
json_line tree k NotJson = not_json_line k
json_line tree k (Shape path) = refused_line k (path_text tree path) (said (codes "Shape") [])
json_line tree k (UnknownMember path member) = refused_line k (path_text tree path) (said (codes "UnknownMember") (decimal member ∷ []))
json_line tree k (MissingMember path) = refused_line k (path_text tree path) (said (codes "MissingMember") [])
json_line tree k NoMemory = no_memory_line
