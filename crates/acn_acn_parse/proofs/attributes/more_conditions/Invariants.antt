use Rattle.std.proofs.Common.{◌≡◌, ◌-◌}
use Rattle.acn_lex.specs.declared.Kind.TheVariants.{Word}
use Rattle.acn_cursor.specs.Steps.{repeat, many, with_front}
use Rattle.acn_acn_parse.specs.AttributeReading.{has_kind, condition}
use Rattle.acn_acn_parse.proofs.attributes.more_conditions.Given as goal

abbrev pub invariant-loop : goal.invariant-loop
invariant-loop l = with_front l.conditions (repeat (has_kind Word) condition (l.end - l.counter) l.cursor) ≡ many (has_kind Word) condition l.fn.cursor
