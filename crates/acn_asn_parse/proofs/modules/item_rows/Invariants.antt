use Rattle.std.proofs.Common.{◌≡◌, ◌-◌}
use Rattle.acn_cursor.specs.Steps.{repeat, many, with_front}
use Rattle.acn_asn_types.specs.Types.{type_at}
use Rattle.acn_asn_parse.specs.Modules.{has_item, assign_at}
use Rattle.acn_asn_parse.proofs.modules.item_rows.Given as goal

abbrev pub invariant-loop : goal.invariant-loop
invariant-loop l = with_front l.row (repeat has_item (assign_at (type_at l.depth)) (l.end - l.counter) l.cursor) ≡ many has_item (assign_at (type_at l.depth)) l.fn.cursor
