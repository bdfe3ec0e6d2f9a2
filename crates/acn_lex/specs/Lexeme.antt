-- A token without its place.
use Rattle.std.specs.Prelude.{ℕ, Bool, List, map}
use denote.Enum.Bare.{sameb}
use Rattle.acn_lex.specs.contracts.Kind.{the_type}
use Rattle.acn_lex.specs.declared.Kind.{Kind}
use Rattle.acn_lex.specs.declared.Token.{Token}

pub record Lexeme : Type 0 where
  pub kind : Kind
  pub text : List ℕ

abbrev pub lexeme : Token → Lexeme
lexeme t = record { kind = t.kind; text = t.text.now }

abbrev pub lexemes : List Token → List Lexeme
lexemes ts = map lexeme ts

unfoldable pub same_kind : Kind → Kind → Bool
same_kind = sameb the_type

-- a token with its place
pub record Placed : Type 0 where
  pub kind : Kind
  pub at : ℕ
  pub text : List ℕ

abbrev pub placed : Token → Placed
placed t = record { kind = t.kind; at = t.at; text = t.text.now }
