-- What holds of the trees of ACN modules and of mapping tables, whoever reads them. (This profile's own.)
use Rattle.std.specs.Prelude.{◌≡◌}
use Rattle.acn_acn_syntax.specs.ModuleTokens.{acn_tokens, IsProperAcn}
use Rattle.acn_acn_syntax.specs.MapTokens as maps
use Rattle.acn_acn_syntax.specs.declared.maps.MapTables.{MapTables}
use Rattle.acn_acn_syntax.specs.declared.modules.AcnModules.{AcnModules}

-- tokens are those of at most one proper tree of ACN modules
abbrev pub OneProperAcn : Type 0
OneProperAcn = (t u : AcnModules) → IsProperAcn t → IsProperAcn u → acn_tokens t ≡ acn_tokens u → t ≡ u

-- tokens are those of at most one proper tree of mapping tables
abbrev pub OneProperMap : Type 0
OneProperMap = (t u : MapTables) → maps.IsProper t → maps.IsProper u → maps.tokens_of t ≡ maps.tokens_of u → t ≡ u
