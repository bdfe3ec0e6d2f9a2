-- From the laws of the grammar to what the parser of files answers.
use Rattle.std.proofs.Common.{◌≡◌, ℕ, List, [], Option, Some, None, sym, ap, ◌∙◌, subst, length}
use Rattle.std.specs.Prelude.{Result, Err}
use Rattle.acn_lex.specs.Lexeme.{Lexeme}
use Rattle.acn_cursor.specs.Exact.{screen, in_file, stops_at}
use Rattle.acn_cursor.specs.Steps.{Whole}
use Rattle.acn_cursor.specs.declared.fault.ParseFault.{ParseFault}
use Rattle.acn_cursor.specs.declared.stop.Stop.{Stop}
use Rattle.acn_cursor.proofs.Laws.{outcome}
use Rattle.acn_cursor.proofs.Wholes.{IsExact, screened_exact, whole_exact}
use Rattle.acn_asn_syntax.specs.Modules.{tokens_of, IsProper}
use Rattle.acn_asn_syntax.specs.declared.modules.AsnModules.{AsnModules}
use Rattle.acn_asn_types.specs.Types.{type_at}
use Rattle.acn_asn_parse.specs.Modules.{modules_in, modules_at}
use Rattle.acn_asn_parse.specs.Whole.{left_out}
use Rattle.acn_asn_parse.proofs.ModuleLaws.{modules_at_found, modules_at_again}

pub read_exact : (ts : List Lexeme) (n : ℕ) (r : Result AsnModules Stop) → length ts ≡ n → screen left_out ts ≡ None → Whole (modules_in (type_at n) ts) r → IsExact tokens_of IsProper left_out ts (stops_at modules_at ts) (in_file n r)
unfolding modules_at
read_exact ts n r is none h =
    let w : Whole (modules_at ts) r = subst (λ k. Whole (modules_in (type_at k) ts) r) (sym is) h in
    subst (λ k. IsExact tokens_of IsProper left_out ts (stops_at modules_at ts) (in_file k r)) is (whole_exact tokens_of IsProper left_out ts modules_at modules_at_found modules_at_again r none w)

pub stopped_exact : (ts : List Lexeme) (e : ParseFault) → screen left_out ts ≡ Some e → {place : Option ℕ} → IsExact tokens_of IsProper left_out ts place (Err e)
stopped_exact ts e h = screened_exact tokens_of IsProper left_out ts e h

abbrev pair : AsnModules → AsnModules × List Lexeme
pair t = (t, [])

-- tokens are those of at most one proper tree
pub one_proper : (t u : AsnModules) → IsProper t → IsProper u → tokens_of t ≡ tokens_of u → t ≡ u
one_proper t u p q e = same (sym (modules_at_again t p) ∙ ap modules_at e ∙ modules_at_again u q)
  where
    same : outcome t [] ≡ outcome u [] → t ≡ u
    same h = let p : pair t ≡ pair u = cc h in ap (λ (x : AsnModules × List Lexeme). x.0) p
