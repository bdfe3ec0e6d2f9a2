-- The text of the value behind DEFAULT.
use Rattle.std.specs.Prelude.{ℕ, List, flat_map, Option, Some, None}
use Rattle.acn_asn_syntax.specs.Values.{value_tokens}
use Rattle.acn_asn_syntax.specs.declared.types.Rest.{Rest}
use Rattle.acn_asn_syntax.specs.declared.types.Rest.TheVariants as rest
use Rattle.acn_asn_syntax.specs.declared.values.AsnValue.{AsnValue}
use Rattle.acn_lex.specs.Lexeme.{Lexeme}

-- its tokens, joined
abbrev pub text_of : AsnValue → List ℕ
text_of v = flat_map (λ (t : Lexeme). t.text) (value_tokens v)

abbrev pub default_text : Rest → Option (List ℕ)
default_text rest.Required = None
default_text rest.Optional = None
default_text (rest.Default v) = Some (text_of v)
