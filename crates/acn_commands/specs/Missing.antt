-- Why types that are named aren't there. (This program's own.)
use Rattle.std.specs.Prelude.{List}
use Rattle.acn_index.specs.World.{World}
use Rattle.acn_words.specs.Names.{TypeName}
use Rattle.acn_words.specs.View.{type_view}
use Rattle.acn_commands.specs.Refusals.{IsFirstUnknown}
use Rattle.acn_commands.specs.declared.grammars.Missing.{Missing}
use Rattle.acn_commands.specs.declared.grammars.Missing.TheVariants.{Unknown, NoMemory}

-- the first name that no type has; want of memory says nothing
abbrev pub IsMissing : World → List TypeName → Missing → Type 0
IsMissing w names (Unknown of) = IsFirstUnknown w names (type_view of.now)
IsMissing w names NoMemory = Unit {0}
