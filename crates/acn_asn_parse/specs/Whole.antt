-- The words and marks of ASN.1 that this profile leaves out.
use Rattle.std.specs.Prelude.{List}
use Rattle.acn_lex.specs.Lexeme.{Lexeme}
use Rattle.acn_lex.specs.Words.{asn_left_out_words, asn_left_out_marks}
use Rattle.acn_cursor.specs.Screens.{tokens_of}

unfoldable pub left_out : List Lexeme
left_out = tokens_of asn_left_out_words asn_left_out_marks
