-- From the data of modules to the trees of the program.
use Rattle.std.proofs.Common.{◌≡◌, ℕ, List, [], Option, Some, None, refl, sym, ap, subst, ◌∙◌, length}
use Rattle.std.specs.Prelude.{Result, Ok, Err}
use Rattle.acn_lex.specs.Lexeme.{Lexeme}
use Rattle.acn_cursor.specs.Exact.{screen, in_file, stops_at, IsOnly, IsPlaced}
use Rattle.acn_cursor.specs.Steps.{Whole, Outcome}
use Rattle.acn_cursor.specs.declared.fault.ParseFault.{ParseFault}
use Rattle.acn_cursor.specs.declared.stop.Stop.{Stop}
use Rattle.acn_cursor.specs.declared.fault.ParseFault.TheVariants.{Syntax, TooDeep, LeftOut, NoMemory}
use Rattle.acn_cursor.proofs.Laws.{outcome}
use Rattle.acn_cursor.proofs.Wholes.{IsExact, screened_exact, whole_exact}
use Rattle.acn_acn_syntax.specs.Mirror.{Module}
use Rattle.acn_acn_syntax.specs.ModuleTokens.{tokens_of, acn_tokens, IsProperAcn}
use Rattle.acn_acn_syntax.specs.View.{modules_of}
use Rattle.acn_acn_syntax.specs.declared.modules.AcnModules.{AcnModules}
use Rattle.acn_acn_syntax.proofs.Back.{same_modules}
use Rattle.acn_acn_parse.specs.FieldReading.{WholeAs, modules_at, modules_in_file, left_out_tokens}
use Rattle.acn_acn_parse.proofs.ModuleLaws.{IsProper, modules_found, modules_again}

abbrev seen : {E : Type 0} → Result AcnModules E → Result (List Module) E
seen (Ok t) = Ok (modules_of t)
seen (Err e) = Err e

seen_in_file : (n : ℕ) (r : Result AcnModules Stop) → in_file n (seen r) ≡ seen (in_file n r)
seen_in_file n (Ok t) = refl
seen_in_file n (Err e) = refl

whole_seen : (o : Outcome (List Module)) (r : Result AcnModules Stop) → WholeAs modules_of o r → Whole o (seen r)
whole_seen o (Ok t) h = h
whole_seen o (Err e) h = h

abbrev failed : {A : Type 0} → ParseFault → Result A ParseFault
failed e = Err e

same_fault : {A B : Type 0} (e f : ParseFault) → failed {A = A} e ≡ failed f → failed {A = B} e ≡ failed f
same_fault e f h = let k : e ≡ f = cc in ap Err k

only_seen : (e : ParseFault) (t : AcnModules) → IsOnly {T = List Module} (Err e) (modules_of t) → IsOnly {T = AcnModules} (Err e) t
only_seen (Syntax _) t h = h
only_seen (TooDeep _) t h = h
only_seen (LeftOut _) t h = h
only_seen NoMemory t h = h

placed_seen : (place : Option ℕ) (e : ParseFault) → IsPlaced {T = List Module} place (Err e) → IsPlaced {T = AcnModules} place (Err e)
placed_seen place (Syntax _) h = h
placed_seen place (TooDeep _) h = h
placed_seen place (LeftOut _) h = h
placed_seen place NoMemory h = h

exact_seen : (words ts : List Lexeme) (place : Option ℕ) (r : Result AcnModules ParseFault) → IsExact tokens_of IsProper words ts place (seen r) → IsExact acn_tokens IsProperAcn words ts place r
exact_seen words ts place (Ok x) h = record {
  found = h.found;
  only = λ t fits e. same_modules x t (h.only (modules_of t) fits e);
  left_out = λ n. (λ q. absurd cc, λ q. let k = (h.left_out n).1 q in absurd cc);
  too_deep = λ n. (λ q. absurd cc, λ q. let k = (h.too_deep n).1 q in absurd cc);
  at = tt;
}
exact_seen words ts place (Err e) h = record {
  found = tt;
  only = λ t fits p. only_seen e t (h.only (modules_of t) fits p);
  left_out = λ n. (λ q. (h.left_out n).0 (same_fault e (LeftOut n) q), λ q. same_fault e (LeftOut n) ((h.left_out n).1 q));
  too_deep = λ n. (λ q. (h.too_deep n).0 (same_fault e (TooDeep n) q), λ q. same_fault e (TooDeep n) ((h.too_deep n).1 q));
  at = placed_seen place e h.at;
}

pub read_exact : (ts : List Lexeme) (n : ℕ) (r : Result AcnModules Stop) → length ts ≡ n → screen left_out_tokens ts ≡ None → WholeAs modules_of (modules_at n ts) r
    → IsExact acn_tokens IsProperAcn left_out_tokens ts (stops_at modules_in_file ts) (in_file n r)
read_exact ts n r is none h =
    let w : Whole (modules_in_file ts) (seen r) = whole_seen (modules_in_file ts) r (subst (λ k. WholeAs modules_of (modules_at k ts) r) (sym is) h) in
    let all = whole_exact tokens_of IsProper left_out_tokens ts modules_in_file (λ ts t m e. modules_found (length ts) ts t m e) modules_again (seen r) none w in
    exact_seen left_out_tokens ts (stops_at modules_in_file ts) (in_file n r)
    (subst (λ r. IsExact tokens_of IsProper left_out_tokens ts (stops_at modules_in_file ts) r) (ap (λ k. in_file k (seen r)) is ∙ seen_in_file n r) all)

pub stopped_exact : (ts : List Lexeme) (e : ParseFault) → screen left_out_tokens ts ≡ Some e → {place : Option ℕ} → IsExact acn_tokens IsProperAcn left_out_tokens ts place (Err e)
stopped_exact ts e h = screened_exact acn_tokens IsProperAcn left_out_tokens ts e h

abbrev pair : List Module → List Module × List Lexeme
pair x = (x, [])

-- tokens are those of at most one proper tree
pub one_proper : (t u : AcnModules) → IsProperAcn t → IsProperAcn u → acn_tokens t ≡ acn_tokens u → t ≡ u
one_proper t u p q e = same_modules t u (one (modules_of t) (modules_of u) p q e)
  where
    same : (x y : List Module) → outcome x [] ≡ outcome y [] → x ≡ y
    same x y h = let p : pair x ≡ pair y = cc h in ap (λ (z : List Module × List Lexeme). z.0) p

    one : (x y : List Module) → IsProper x → IsProper y → tokens_of x ≡ tokens_of y → x ≡ y
    one x y p q e = same x y (sym (modules_again x p) ∙ ap (λ ts. modules_at (length ts) ts) e ∙ modules_again y q)
