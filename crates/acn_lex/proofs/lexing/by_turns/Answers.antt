use Rattle.std.proofs.Common.{◌≡◌, ◌+◌, [], ◌∷◌, ◌++◌, map, length, length-append, ◌<◌, sym, ap, ◌∙◌, arith}
use Rattle.std.proofs.lemmas.List.{map_push}
use Rattle.acn_lex.specs.Lexeme.{Placed, placed}
use Rattle.acn_lex.proofs.LexTurns.{turn, ended, taken}
use Rattle.acn_lex.proofs.lexing.by_turns.Goals as goal
use Rattle.acn_lex.specs.declared.lexing.TheConstants.{MOST_TOKENS}

pub returns-in-End : goal.returns-in-End
returns-in-End c = ended _ _ (turn _ _ _ _ _ _ _ _ c.loop-test.true (sym c.in-End.ensures.value) c.loop.invariant.told)

pub returns-in-BadByte : goal.returns-in-BadByte
returns-in-BadByte c = sym (turn _ _ _ _ _ _ _ _ c.loop-test.true (sym c.in-BadByte.ensures.value) c.loop.invariant.told)

pub returns-in-Unclosed : goal.returns-in-Unclosed
returns-in-Unclosed c = sym (turn _ _ _ _ _ _ _ _ c.loop-test.true (sym c.in-Unclosed.ensures.value) c.loop.invariant.told)

pub returns-in-TooWide : goal.returns-in-TooWide
returns-in-TooWide c = sym (turn _ _ _ _ _ _ _ _ c.loop-test.true (sym c.in-TooWide.ensures.value) c.loop.invariant.told)

pub loop-preserved-in-Gap : goal.loop-preserved-in-Gap
loop-preserved-in-Gap c = record {
  within = omega (arith, c.in-Gap.ensures.within, c.split_at.ensures.back_len);
  few = c.loop.invariant.few;
  told = rw c.split_at.ensures.back (turn _ _ _ _ _ _ _ _ c.loop-test.true (sym c.in-Gap.ensures.value) c.loop.invariant.told);
}

pub loop-preserved : goal.loop-preserved
loop-preserved c =
    let t : Placed = record { kind = c.in-Token.kind; at = c.loop.at; text = c.split_at-in-Token.result.0.now } in
    let list = c.in_ok-push-in-Token.ensures.ok in
    let pushed : map placed c.push.new.self ≡ map placed c.loop.list ++ t ∷ [] = rw list (map_push placed c.loop.list _) in
    let same : length c.items.result.now ≡ length c.loop.list = ap length c.items.ensures in
    let few : length c.loop.list < MOST_TOKENS = omega (arith, same, c.if-items-eq-MOST_TOKENS.false, c.loop.invariant.few) in
    let longer : length c.push.new.self ≡ length c.loop.list + 1 = ap length list ∙ length-append c.loop.list _ in
    record {
      within = omega (arith, c.in-Token.ensures.within, c.split_at-in-Token.ensures.back_len);
      few = omega (arith, few, longer);
      told = rw (pushed, longer, c.split_at-in-Token.ensures.back, c.split_at-in-Token.ensures.front) (taken _ MOST_TOKENS (length c.loop.list) _ _ _ _ few (turn _ _ _ _ _ _ _ _ c.loop-test.true (sym c.in-Token.ensures.value) c.loop.invariant.told));
    }
