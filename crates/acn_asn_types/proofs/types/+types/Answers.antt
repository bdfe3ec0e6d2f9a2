use Rattle.std.proofs.Common.{◌≡◌, ℕ, zero, suc, ◌-◌, ◌<◌, true, subst, arith, rules, refl}
use Rattle.std.specs.Prelude.{List, Ok}
use Rattle.acn_lex.specs.Lexeme.{Lexeme}
use Rattle.acn_cursor.specs.Steps.{Reads, Outcome}
use Rattle.acn_cursor.proofs.Turns.{goes_on}
use Rattle.acn_asn_types.specs.Sets.{set_at}
use Rattle.acn_asn_types.specs.Lists.{has_comma, next}
use Rattle.acn_asn_types.specs.Types.{has_paren, component, alternative, constraint_at, step_at, type_in, type_at}
use Rattle.acn_asn_types.specs.declared.heads.Step.{Step}
use Rattle.acn_asn_types.specs.declared.heads.Step.TheVariants as step
use Rattle.acn_asn_types.proofs.Chains.{one_more}
use Rattle.acn_asn_types.proofs.types.+types.Goals as goal

pub more_components-loop-preserved : goal.more_components-loop-preserved
more_components-loop-preserved t c =
    let goes : has_comma c.loop.cursor ≡ true = search rules in
    rw c.in_ok-push.ensures.ok (goes_on has_comma (next (component (set_at c.args.depth) (type_at c.args.depth))) c.loop.row _ _ _ _ _ _ c.loop-test.true goes c.in_ok-next.ensures c.loop.invariant)

pub more_alternatives-loop-preserved : goal.more_alternatives-loop-preserved
more_alternatives-loop-preserved t c =
    let goes : has_comma c.loop.cursor ≡ true = search rules in
    rw c.in_ok-push.ensures.ok (goes_on has_comma (next (alternative (set_at c.args.depth) (type_at c.args.depth))) c.loop.row _ _ _ _ _ _ c.loop-test.true goes c.in_ok-next.ensures c.loop.invariant)

pub constraints-loop-preserved : goal.constraints-loop-preserved
constraints-loop-preserved t c =
    let goes : has_paren c.loop.cursor ≡ true = search rules in
    rw c.in_ok-push.ensures.ok (goes_on has_paren (constraint_at (set_at c.args.depth) (type_at c.args.depth)) c.loop.row _ _ _ _ _ _ c.loop-test.true goes c.in_ok-next.ensures c.loop.invariant)

deeper : (n : ℕ) (ts : List Lexeme) → 0 < n → type_in (set_at (n - 1)) (type_at (n - 1)) ts ≡ type_at n ts
deeper zero ts h = absurd (omega arith)
deeper (suc n) ts h = let e : suc n - 1 ≡ n = omega arith in rw e refl

pub type_at-returns : goal.type_at-returns
type_at-returns t c = subst (λ o. Reads o c.type_in.result c.type_in.new.cursor) (deeper c.args.depth c.args.cursor.now (omega arith)) c.type_in.ensures

abbrev found : Step → List Lexeme → Outcome Step
found s r = Ok (s, r)

pub type_in-loop-preserved : goal.type_in-loop-preserved
type_in-loop-preserved t c =
    let e : step_at (set_at c.args.depth) (type_at c.args.depth) c.loop.cursor ≡ found (step.Head c.in-Head.head) c.step_at.new.cursor = cc (c.in_ok-inner.ensures, c.in-Head.is) in
    rw c.in_ok-push-in-Head.ensures.ok (one_more (set_at c.args.depth) (type_at c.args.depth) c.loop.heads c.left-end.result c.loop.counter c.loop.cursor c.in-Head.head c.step_at.new.cursor _ c.loop-test.true e c.loop.invariant)
