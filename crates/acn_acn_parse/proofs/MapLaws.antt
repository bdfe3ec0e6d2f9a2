-- The parser of tables takes the tokens of a proper tree, and reads each proper tree from its tokens.
use Rattle.std.proofs.Common.{◌≡◌, ℕ, ◌+◌, ◌^◌, ◌<◌, ◌≤◌, Bool, true, false, ◌&&◌, cond, List, [], ◌∷◌, ◌++◌, length, Option, Some, None, refl, sym, ap, subst, ◌∙◌, append_assoc, length-append, arith, rules}
use Rattle.std.specs.Prelude.{IfSome, IfOk, Result, Ok, Err, codes, not, option_and_then}
use Rattle.std.specs.List.{flat_map, AllByRecursion}
use Rattle.std.specs.Fmt.{decimal}
use Rattle.acn_lex.specs.declared.Kind.TheVariants.{Word, Number, Mark}
use Rattle.acn_lex.specs.Lexeme.{Lexeme, same_kind}
use Rattle.acn_cursor.specs.Steps.{Parser, given, and_then, ◌>>=◌, ◌>>◌, pure, token, sees, eat, expect, word, number, many}
use Rattle.acn_cursor.proofs.Laws.{ap2, outcome_is, Takes, done, then_found, then_again, given_found, given_again, sees_found, sees_again, sees_kind, sees_text, Eaten, eat_found, eat_again, eat_nothing, expect_found, expect_again, word_found, word_again, number_found, number_again, repeat_found, many_again, outcome}
use Rattle.std.proofs.lemmas.List.{append-nil}
use Rattle.acn_acn_syntax.specs.declared.maps.Signed.{Signed}
use Rattle.acn_acn_syntax.specs.declared.maps.MapLine.{MapLine}
use Rattle.acn_acn_syntax.specs.declared.maps.MapTable.{MapTable}
use Rattle.acn_acn_syntax.specs.declared.maps.MapTables.{MapTables}
use Rattle.acn_lex.specs.Words.{is_identifier}
use Rattle.acn_acn_syntax.specs.MapTokens.{signed_tokens, last_tokens, line_tokens, table_tokens, tokens_of, IsSigned, IsLine, IsTable, IsProper}
use Rattle.acn_acn_parse.specs.MapReading.{signed, last_if, last, line, has_line, table, has_more, tables}

-- ---- numbers

pub signed_found : (ts : List Lexeme) (s : Signed) (r : List Lexeme) → signed ts ≡ Ok (s, r) → Takes signed_tokens IsSigned ts s r
unfolding signed signed_tokens
signed_found ts s r e =
    then_found (eat Mark (codes "-") ts) _ _ e (λ negative m e1 h.
    then_found (number m) _ _ h (λ n m' e2 h.
    let a = given_found _ _ _ _ _ e1 in
    let digits = number_found _ _ _ e2 in
    let parts : ts ≡ signed_tokens (record { negative = negative; n = n }) ++ m' = simp append_assoc (cc (a, digits.0)) in
    done _ _ _ _ h parts digits.1))

pub signed_again : (s : Signed) (r : List Lexeme) → IsSigned s → signed (signed_tokens s ++ r) ≡ Ok (s, r)
unfolding signed signed_tokens same_kind
signed_again s r fits =
    rw append_assoc
    (then_again _ _ _ _ _ (given_again _ _ _ _ (sees_kind _ _ _ _ _ refl))
    (then_again _ _ _ _ _ (number_again s.n r fits) refl))

abbrev IsLast : Option Signed → Type 0
IsLast o = IfSome o IsSigned

last_if_found : (b : Bool) (ts m : List Lexeme) (o : Option Signed) (r : List Lexeme) → ts ≡ given b (token Mark (codes "..")) ++ m → last_if b m ≡ Ok (o, r) → Takes last_tokens IsLast ts o r
unfolding last_tokens
last_if_found true ts m o r p e =
    then_found (signed m) _ _ e (λ s m' e1 h.
    let a = signed_found _ _ _ e1 in
    let parts : ts ≡ last_tokens (Some s) ++ m' = cc (p, a.parts) in
    done _ _ _ _ h parts a.fits)
last_if_found false ts m o r p e = done _ _ _ _ e p tt

pub last_found : (ts : List Lexeme) (o : Option Signed) (r : List Lexeme) → last ts ≡ Ok (o, r) → Takes last_tokens IsLast ts o r
unfolding last
last_found ts o r e =
    then_found (eat Mark (codes "..") ts) _ _ e (λ found m e1 h. last_if_found found ts m o r (given_found _ _ _ _ _ e1) h)

-- before the sign of equality
pub last_again : (o : Option Signed) (r : List Lexeme) → IsLast o → last (last_tokens o ++ token Mark (codes "=") ∷ r) ≡ Ok (o, token Mark (codes "=") ∷ r)
unfolding last last_tokens
last_again None r fits = then_again _ _ _ _ _ (eat_nothing _ _ _ (sees_text _ _ _ _ refl)) refl
last_again (Some s) r fits =
    then_again _ _ _ _ _ (eat_again _ _ _)
    (then_again _ _ _ _ _ (signed_again s _ fits) refl)

pub line_found : (ts : List Lexeme) (l : MapLine) (r : List Lexeme) → line ts ≡ Ok (l, r) → Takes line_tokens IsLine ts l r
unfolding line line_tokens
line_found ts l r e =
    then_found (signed ts) _ _ e (λ first m1 e1 h.
    then_found (last m1) _ _ h (λ to m2 e2 h.
    then_found (expect Mark (codes "=") m2) _ _ h (λ _ m3 e3 h.
    then_found (signed m3) _ _ h (λ image m4 e4 h.
    let a = signed_found _ _ _ e1 in
    let b = last_found _ _ _ e2 in
    let c = expect_found _ _ _ _ _ e3 in
    let d = signed_found _ _ _ e4 in
    let parts : ts ≡ line_tokens (record { first = first; last = to; image = image }) ++ m4 = simp append_assoc (cc (a.parts, b.parts, c, d.parts)) in
    done _ _ _ _ h parts (record { first = a.fits; last = b.fits; image = d.fits })))))

pub line_again : (l : MapLine) (r : List Lexeme) → IsLine l → line (line_tokens l ++ r) ≡ Ok (l, r)
unfolding line line_tokens
line_again l r fits =
    simp append_assoc
    (then_again _ _ _ _ _ (signed_again l.first _ fits.first)
    (then_again _ _ _ _ _ (last_again l.last _ fits.last)
    (then_again _ _ _ _ _ (expect_again _ _ _)
    (then_again _ _ _ _ _ (signed_again l.image _ fits.image) refl))))

-- ---- lists of lines, and tables

signed_starts : (s : Signed) (r : List Lexeme) → has_line (signed_tokens s ++ r) ≡ true
unfolding signed_tokens same_kind
signed_starts s r = by_sign s.negative
  where
    by_sign : (b : Bool) → has_line ((given b (token Mark (codes "-")) ++ token Number (decimal s.n) ∷ []) ++ r) ≡ true
    by_sign true = ap not (sees_text _ _ _ _ refl)
    by_sign false = ap not (sees_kind _ _ _ _ _ refl)

line_starts : (l : MapLine) (r : List Lexeme) → IsLine l → has_line (line_tokens l ++ r) ≡ true
unfolding line_tokens
line_starts l r fits = simp append_assoc (signed_starts l.first _)

line_some : (l : MapLine) → IsLine l → 0 < length (line_tokens l)
unfolding line_tokens
line_some l fits = simp length-append (omega arith)

lines_found : (ts : List Lexeme) (ls : List MapLine) (r : List Lexeme) → many has_line line ts ≡ Ok (ls, r) → Takes (flat_map line_tokens) (AllByRecursion IsLine) ts ls r
lines_found ts = repeat_found has_line line line_tokens IsLine line_found (length ts) ts

lines_again : (ls : List MapLine) (r : List Lexeme) → AllByRecursion IsLine ls → many has_line line (flat_map line_tokens ls ++ token Mark (codes "}") ∷ r) ≡ Ok (ls, token Mark (codes "}") ∷ r)
lines_again ls r fits = many_again has_line line line_tokens IsLine (λ _. Unit {0}) (length (flat_map line_tokens ls ++ token Mark (codes "}") ∷ r)) (λ l r _ fits _. line_again l r fits) line_starts (λ _ _ _. tt) line_some ls _ (omega arith) fits tt (ap not (sees_again _ _ _))

pub table_found : (ts : List Lexeme) (t : MapTable) (r : List Lexeme) → table ts ≡ Ok (t, r) → Takes table_tokens IsTable ts t r
unfolding table table_tokens
table_found ts t r e =
    then_found (word is_identifier ts) _ _ e (λ name m1 e1 h.
    then_found (expect Mark (codes "{") m1) _ _ h (λ _ m2 e2 h.
    then_found (many has_line line m2) _ _ h (λ lines m3 e3 h.
    then_found (expect Mark (codes "}") m3) _ _ h (λ _ m4 e4 h.
    let a = word_found _ _ _ _ e1 in
    let b = expect_found _ _ _ _ _ e2 in
    let c = lines_found _ _ _ e3 in
    let d = expect_found _ _ _ _ _ e4 in
    let parts : ts ≡ table_tokens (record { name = name; lines = lines }) ++ m4 = simp append_assoc (cc (a.0, b, c.parts, d)) in
    done _ _ _ _ h parts (record { name = a.1; lines = c.fits })))))

pub table_again : (t : MapTable) (r : List Lexeme) → IsTable t → table (table_tokens t ++ r) ≡ Ok (t, r)
unfolding table table_tokens
table_again t r fits =
    simp append_assoc
    (then_again _ _ _ _ _ (word_again _ _ _ fits.name)
    (then_again _ _ _ _ _ (expect_again _ _ _)
    (then_again _ _ _ _ _ (lines_again t.lines r fits.lines)
    (then_again _ _ _ _ _ (expect_again _ _ _) refl))))

table_starts : (t : MapTable) (r : List Lexeme) → IsTable t → has_more (table_tokens t ++ r) ≡ true
unfolding table_tokens
table_starts t r fits = refl

table_some : (t : MapTable) → IsTable t → 0 < length (table_tokens t)
unfolding table_tokens
table_some t fits = omega arith

pub tables_found : (ts : List Lexeme) (t : MapTables) (r : List Lexeme) → tables ts ≡ Ok (t, r) → Takes tokens_of IsProper ts t r
unfolding tables
tables_found ts t r e =
    then_found (table ts) _ _ e (λ first m1 e1 h.
    then_found (many has_more table m1) _ _ h (λ more m2 e2 h.
    let a = table_found _ _ _ e1 in
    let b = repeat_found has_more table table_tokens IsTable table_found (length m1) m1 _ _ e2 in
    let parts : ts ≡ tokens_of (record { tables = first ∷ more }) ++ m2 = simp append_assoc (cc (a.parts, b.parts)) in
    done _ _ _ _ h parts (record { some = omega arith; tables = (a.fits, b.fits) })))

tables_from : (ts : List MapTable) → 0 < length ts → AllByRecursion IsTable ts → tables (flat_map table_tokens ts) ≡ Ok (record { tables = ts }, [])
unfolding tables
tables_from [] some fits = absurd (omega arith)
tables_from (t ∷ ts) some fits =
    let more : many has_more table (flat_map table_tokens ts ++ []) ≡ Ok (ts, []) = many_again has_more table table_tokens IsTable (λ _. Unit {0}) (length (flat_map table_tokens ts ++ [])) (λ t r _ fits _. table_again t r fits) table_starts (λ _ _ _. tt) table_some ts [] (omega arith) fits.1 tt refl in
    then_again _ _ _ _ _ (table_again t _ fits.0)
    (then_again _ _ _ _ _ (subst (λ (z : List Lexeme). many has_more table z ≡ outcome ts []) (append-nil (flat_map table_tokens ts)) more) refl)

-- each proper tree is read from its tokens
pub tables_again : (t : MapTables) → IsProper t → tables (tokens_of t) ≡ Ok (t, [])
tables_again t fits = tables_from t.tables fits.some fits.tables

abbrev pair : MapTables → MapTables × List Lexeme
pair t = (t, [])

-- tokens are those of at most one proper tree
pub one_proper : (t u : MapTables) → IsProper t → IsProper u → tokens_of t ≡ tokens_of u → t ≡ u
one_proper t u p q e = same (sym (tables_again t p) ∙ ap tables e ∙ tables_again u q)
  where
    same : outcome t [] ≡ outcome u [] → t ≡ u
    same h = let p : pair t ≡ pair u = cc h in ap (λ (x : MapTables × List Lexeme). x.0) p
