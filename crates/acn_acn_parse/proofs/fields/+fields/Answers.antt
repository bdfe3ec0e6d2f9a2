use Rattle.std.proofs.Common.{◌≡◌, ℕ, zero, suc, ◌-◌, ◌<◌, List, [], ◌∷◌, ◌++◌, map, true, refl, subst, arith, rules}
use Rattle.std.proofs.lemmas.List.{map_push}
use Rattle.acn_lex.specs.Lexeme.{Lexeme}
use Rattle.acn_cursor.proofs.Turns.{goes_on}
use Rattle.acn_acn_syntax.specs.Mirror.{Field}
use Rattle.acn_acn_syntax.specs.View.{field_of}
use Rattle.acn_acn_parse.specs.AttributeReading.{has_comma}
use Rattle.acn_acn_parse.specs.FieldReading.{ReadsAs, next_field, field_in, field_at}
use Rattle.acn_acn_parse.proofs.fields.+fields.Goals as goal

pub more_fields-loop-preserved : goal.more_fields-loop-preserved
more_fields-loop-preserved t c =
    let goes : has_comma c.loop.cursor ≡ true = search rules in
    let pushed : map field_of c.push.new.self ≡ map field_of c.loop.fields ++ field_of _ ∷ [] = rw c.in_ok-push.ensures.ok (map_push field_of c.loop.fields _) in
    rw pushed (goes_on has_comma (next_field (field_at c.args.depth)) (map field_of c.loop.fields) _ _ _ _ _ _ c.loop-test.true goes c.in_ok-field.ensures c.loop.invariant)

deeper : (n : ℕ) (ts : List Lexeme) → 0 < n → field_in (field_at (n - 1)) ts ≡ field_at n ts
deeper zero ts h = absurd (omega arith)
deeper (suc n) ts h = let e : suc n - 1 ≡ n = omega arith in rw e refl

pub field-returns : goal.field-returns
field-returns t c = subst (λ o. ReadsAs field_of o c.field_in.result c.field_in.new.cursor) (deeper c.args.depth c.args.cursor.now (omega arith)) c.field_in.ensures
