use Rattle.std.proofs.Common.{◌≡◌, ◌-◌, [], ◌∷◌}
use Rattle.acn_cursor.specs.Steps.{repeat, many, with_front, word}
use Rattle.acn_asn_types.specs.Lists.{has_comma, next}
use Rattle.acn_asn_syntax.specs.Modules.{is_name}
use Rattle.acn_asn_parse.proofs.headers.more_names.Given as goal

abbrev pub invariant-loop : goal.invariant-loop
invariant-loop l = with_front l.row (repeat has_comma (next (word is_name)) (l.end - l.counter) l.cursor) ≡ with_front (l.fn.first ∷ []) (many has_comma (next (word is_name)) l.fn.cursor)
