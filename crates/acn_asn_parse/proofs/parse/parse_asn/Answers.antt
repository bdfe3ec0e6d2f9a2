use Rattle.std.proofs.Common.{◌≡◌, List, subst, length}
use Rattle.std.specs.Prelude.{Err}
use Rattle.std.proofs.lemmas.List.{length-map}
use Rattle.acn_lex.specs.declared.Token.{Token}
use Rattle.acn_lex.specs.Lexeme.{lexeme, lexemes}
use Rattle.acn_cursor.specs.Exact.{in_file, stops_at}
use Rattle.acn_cursor.proofs.Wholes.{IsExact}
use Rattle.acn_asn_syntax.specs.Modules.{tokens_of, IsProper}
use Rattle.acn_asn_parse.specs.Modules.{modules_at}
use Rattle.acn_asn_parse.specs.Whole.{left_out}
use Rattle.acn_asn_parse.proofs.Whole.{read_exact, stopped_exact}
use Rattle.acn_asn_parse.proofs.parse.parse_asn.Goals as goal

read : (c : goal.After-in_file) → IsExact tokens_of IsProper left_out (lexemes c.args.tokens.now.list) (stops_at modules_at (lexemes c.args.tokens.now.list)) c.in_file.result
read c =
    rw c.in_file.ensures
    (subst (λ (ts : List Token). IsExact tokens_of IsProper left_out (lexemes ts) (stops_at modules_at (lexemes ts)) (in_file (length c.items-list.result.now) c.whole-answer.result)) c.items-list.ensures
    (read_exact (lexemes c.items-list.result.now) (length c.items-list.result.now) c.whole-answer.result (length-map c.items-list.result.now lexeme) (c.in-Ok.ensures {u = tt}) c.whole-answer.ensures))

stopped : (c : goal.In-Err) → IsExact tokens_of IsProper left_out (lexemes c.args.tokens.now.list) (stops_at modules_at (lexemes c.args.tokens.now.list)) (Err c.in-Err.fault)
stopped c =
    subst (λ (ts : List Token). IsExact tokens_of IsProper left_out (lexemes ts) (stops_at modules_at (lexemes ts)) (Err c.in-Err.fault)) c.items-list.ensures
    (stopped_exact (lexemes c.items-list.result.now) c.in-Err.fault (c.in-Err.ensures {u = tt}))

pub returns-in-Ok-clause-found : goal.returns-in-Ok-clause-found
returns-in-Ok-clause-found c = (read c).found

pub returns-in-Ok-clause-only : goal.returns-in-Ok-clause-only
returns-in-Ok-clause-only c = (read c).only

pub returns-in-Ok-clause-left_out : goal.returns-in-Ok-clause-left_out
returns-in-Ok-clause-left_out c = (read c).left_out

pub returns-in-Ok-clause-too_deep : goal.returns-in-Ok-clause-too_deep
returns-in-Ok-clause-too_deep c = (read c).too_deep

pub returns-in-Ok-clause-place : goal.returns-in-Ok-clause-place
returns-in-Ok-clause-place c = (read c).at

pub returns-in-Err-clause-only : goal.returns-in-Err-clause-only
returns-in-Err-clause-only c = (stopped c).only

pub returns-in-Err-clause-left_out : goal.returns-in-Err-clause-left_out
returns-in-Err-clause-left_out c = (stopped c).left_out

pub returns-in-Err-clause-too_deep : goal.returns-in-Err-clause-too_deep
returns-in-Err-clause-too_deep c = (stopped c).too_deep

pub returns-in-Err-clause-place : goal.returns-in-Err-clause-place
returns-in-Err-clause-place c = (stopped c).at
