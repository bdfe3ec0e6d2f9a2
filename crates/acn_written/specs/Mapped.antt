-- A mapping table that isn't one to one, or leaves the numbers. (This profile's own.)
use Rattle.std.specs.Prelude.{Option, option_and_then, ℤ}
use Rattle.acn_acn_syntax.specs.declared.maps.MapTable.{MapTable}
use Rattle.acn_codings.specs.Tables.{table_fault}
use Rattle.acn_index.specs.World.{World}
use Rattle.acn_sites.specs.Sites.{Site}
use Rattle.acn_written.specs.Says.{table_attr}

-- the first key at which the table of a site is at fault
unfoldable pub bad_mapping : World → Site → Option ℤ
bad_mapping w s = option_and_then (λ (t : MapTable). table_fault t.lines) (table_attr w s)
