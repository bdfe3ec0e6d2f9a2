use Rattle.std.proofs.Common.{◌≡◌, ◌-◌, [], ◌∷◌}
use Rattle.acn_cursor.specs.Steps.{repeat, many, with_front, word}
use Rattle.acn_asn_parse.specs.Headers.{has_import, import_at}
use Rattle.acn_asn_parse.proofs.headers.import_rows.Given as goal

abbrev pub invariant-loop : goal.invariant-loop
invariant-loop l = with_front l.row (repeat has_import import_at (l.end - l.counter) l.cursor) ≡ many has_import import_at l.fn.cursor
