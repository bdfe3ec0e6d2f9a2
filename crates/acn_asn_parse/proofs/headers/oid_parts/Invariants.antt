use Rattle.std.proofs.Common.{◌≡◌, ◌-◌, [], ◌∷◌}
use Rattle.acn_cursor.specs.Steps.{repeat, many, with_front, word}
use Rattle.acn_asn_parse.specs.Headers.{has_part, oid_part}
use Rattle.acn_asn_parse.proofs.headers.oid_parts.Given as goal

abbrev pub invariant-loop : goal.invariant-loop
invariant-loop l = with_front l.row (repeat has_part oid_part (l.end - l.counter) l.cursor) ≡ many has_part oid_part l.fn.cursor
