use Rattle.std.proofs.Common.{◌≡◌, ◌-◌, [], ◌∷◌}
use Rattle.acn_cursor.specs.Steps.{repeat, many, with_front}
use Rattle.acn_asn_types.specs.Types.{type_at}
use Rattle.acn_asn_parse.specs.Modules.{has_more, module_at}
use Rattle.acn_asn_parse.proofs.modules.more_modules.Given as goal

abbrev pub invariant-loop : goal.invariant-loop
invariant-loop l = with_front l.row (repeat has_more (module_at (type_at l.depth)) (l.end - l.counter) l.cursor) ≡ with_front (l.fn.first ∷ []) (many has_more (module_at (type_at l.depth)) l.fn.cursor)
