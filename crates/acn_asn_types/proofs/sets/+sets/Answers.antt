use Rattle.std.proofs.Common.{◌≡◌, ℕ, zero, suc, ◌-◌, ◌<◌, true, subst, arith, rules, refl}
use Rattle.acn_lex.specs.Lexeme.{Lexeme}
use Rattle.std.specs.Prelude.{List}
use Rattle.acn_cursor.specs.Steps.{Reads}
use Rattle.acn_cursor.proofs.Turns.{goes_on}
use Rattle.acn_asn_types.specs.Sets.{has_part_mark, has_meet_mark, next_meet, next_part, set_in, set_at}
use Rattle.acn_asn_types.proofs.sets.+sets.Goals as goal

pub more_meets-loop-preserved : goal.more_meets-loop-preserved
more_meets-loop-preserved t c =
    let goes : has_meet_mark c.loop.cursor ≡ true = search rules in
    rw c.in_ok-push.ensures.ok (goes_on has_meet_mark (next_meet (set_at c.args.depth)) c.loop.meets _ _ _ _ _ _ c.loop-test.true goes c.in_ok-next.ensures c.loop.invariant)

pub more_parts-loop-preserved : goal.more_parts-loop-preserved
more_parts-loop-preserved t c =
    let goes : has_part_mark c.loop.cursor ≡ true = search rules in
    rw c.in_ok-push.ensures.ok (goes_on has_part_mark (next_part (set_at c.args.depth)) c.loop.parts _ _ _ _ _ _ c.loop-test.true goes c.in_ok-next.ensures c.loop.invariant)

deeper : (n : ℕ) (ts : List Lexeme) → 0 < n → set_in (set_at (n - 1)) ts ≡ set_at n ts
deeper zero ts h = absurd (omega arith)
deeper (suc n) ts h = let e : suc n - 1 ≡ n = omega arith in rw e refl

pub set-returns : goal.set-returns
set-returns t c = subst (λ o. Reads o c.set_in.result c.set_in.new.cursor) (deeper c.args.depth c.args.cursor.now (omega arith)) c.set_in.ensures
