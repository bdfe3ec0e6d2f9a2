-- What holds of the trees of modules, whoever reads them. (X.680, 13.)
use Rattle.std.specs.Prelude.{◌≡◌}
use Rattle.acn_asn_syntax.specs.Modules.{tokens_of, IsProper}
use Rattle.acn_asn_syntax.specs.declared.modules.AsnModules.{AsnModules}

-- tokens are those of at most one proper tree
abbrev pub OneProperTree : Type 0
OneProperTree = (t u : AsnModules) → IsProper t → IsProper u → tokens_of t ≡ tokens_of u → t ≡ u
