use Rattle.std.proofs.Common.{◌≡◌, ◌-◌, [], ◌∷◌}
use Rattle.acn_cursor.specs.Steps.{repeat, many, with_front}
use Rattle.acn_asn_types.specs.Lists.{has_comma, next}
use Rattle.acn_asn_types.specs.Bases.{named}
use Rattle.acn_asn_types.proofs.bases.more_named.Given as goal

abbrev pub invariant-loop : goal.invariant-loop
invariant-loop l = with_front l.row (repeat has_comma (next named) (l.end - l.counter) l.cursor) ≡ with_front (l.fn.first ∷ []) (many has_comma (next named) l.fn.cursor)
