use Rattle.std.proofs.Common.{◌∙◌, get_or, sym, refl}
use Rattle.acn_lex.specs.Lexeme.{lexeme}
use Rattle.acn_cursor.specs.Screens.{is_over, first_too_deep}
use Rattle.acn_cursor.proofs.Firsts.{blank, take_one, rest_one, rest_stops}
use Rattle.acn_cursor.proofs.Levels.{is_over_by, level_one, level_none, not_over}
use Rattle.acn_cursor.proofs.screens.too_deep.Goals as goal

pub returns-then-is_over : goal.returns-then-is_over
unfolding first_too_deep
returns-then-is_over c =
    let over = is_over_by _ _ _ c.loop-at.invariant.0 in
    rest_stops (λ front _. is_over front) c.args.tokens.now c.loop-at.at c.loop-at-test.true (sym over ∙ sym c.is_over.ensures ∙ c.if-is_over.true) c.loop-at.invariant.1

pub loop-at-init : goal.loop-at-init
loop-at-init c = (rw c.new-level.ensures level_none, refl)

pub loop-at-preserved : goal.loop-at-preserved
loop-at-preserved c =
    let ts = c.args.tokens.now in
    let i = c.loop-at.at in
    let over = is_over_by _ _ _ c.loop-at.invariant.0 in
    let high = not_over _ _ c.loop-at.level.ofs (sym c.is_over.ensures ∙ c.if-is_over.false) in
    let level = level_one _ _ _ (lexeme (get_or ts i blank)) c.loop-at.invariant.0 high in (
      rw (c.pass.ensures, take_one ts i blank c.loop-at-test.true) level,
      rest_one (λ front _. is_over front) ts i c.loop-at-test.true (sym over ∙ sym c.is_over.ensures ∙ c.if-is_over.false) c.loop-at.invariant.1,
    )
