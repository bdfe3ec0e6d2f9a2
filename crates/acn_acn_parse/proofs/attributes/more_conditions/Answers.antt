use Rattle.std.proofs.Common.{◌≡◌, true, rules}
use Rattle.acn_lex.specs.declared.Kind.TheVariants.{Word}
use Rattle.acn_cursor.proofs.Turns.{goes_on}
use Rattle.acn_acn_parse.specs.AttributeReading.{has_kind, condition}
use Rattle.acn_acn_parse.proofs.attributes.more_conditions.Goals as goal

pub loop-preserved : goal.loop-preserved
loop-preserved c =
    let goes : has_kind Word c.loop.cursor ≡ true = search rules in
    rw c.in_ok-push.ensures.ok (goes_on (has_kind Word) condition c.loop.conditions _ _ _ _ _ _ c.loop-test.true goes c.in_ok-condition.ensures c.loop.invariant)
