use Rattle.std.proofs.Common.{◌≡◌, ◌-◌, map}
use Rattle.acn_cursor.specs.Steps.{repeat, many, with_front}
use Rattle.acn_acn_syntax.specs.View.{module_of}
use Rattle.acn_acn_parse.specs.FieldReading.{has_more, module_at}
use Rattle.acn_acn_parse.proofs.modules.more_modules.Given as goal

abbrev pub invariant-loop : goal.invariant-loop
invariant-loop l = with_front (map module_of l.modules) (repeat has_more (module_at l.depth) (l.end - l.counter) l.cursor) ≡ many has_more (module_at l.depth) l.fn.cursor
