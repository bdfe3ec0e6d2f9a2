-- Paths and conditions: what is read is written so, and what is written is read again.
use Rattle.std.proofs.Common.{◌≡◌, ℕ, ◌+◌, ◌<◌, ◌≤◌, ◌^◌, Bool, true, false, ◌&&◌, List, [], ◌∷◌, ◌++◌, length, Option, Some, None, refl, sym, ap, subst, ◌∙◌, append_assoc, length-append, arith, nat_lt}
use Rattle.std.specs.Prelude.{codes, is_some, Ok}
use Rattle.std.specs.List.{flat_map, list_all, AllByRecursion}
use Rattle.std.proofs.lemmas.Bool.Decides.{nat_tests}
use Rattle.acn_lex.specs.declared.Kind.{Kind}
use Rattle.acn_lex.specs.declared.Kind.TheVariants.{Word, Number, Mark}
use Rattle.acn_lex.specs.Lexeme.{Lexeme, same_kind}
use Rattle.acn_cursor.specs.Steps.{token, given, sees, eat, expect, word, many, text_of}
use Rattle.acn_cursor.proofs.Laws.{Takes, done, then_found, then_again, given_found, sees_again, sees_kind, eat_again, eat_nothing, expect_found, expect_again, word_found, word_again, repeat_found, many_again, text_of_again}
use Rattle.acn_acn_syntax.specs.MapTokens.{signed_tokens, IsSigned}
use Rattle.acn_acn_syntax.specs.ModuleTokens.{Tokens, mark, joined, path_tokens, equals_tokens, condition_tokens, is_acn_identifier, is_signed, is_path, is_condition, is_some_of}
use Rattle.acn_acn_syntax.specs.declared.maps.Signed.{Signed}
use Rattle.acn_acn_syntax.specs.declared.modules.AcnPath.{AcnPath}
use Rattle.acn_acn_syntax.specs.declared.modules.Condition.{Condition}
use Rattle.acn_acn_parse.specs.AttributeReading.{has_kind, has_stop, next_name, path, equals_if, equals, condition, conditions}
use Rattle.acn_acn_parse.specs.MapReading.{signed}
use Rattle.acn_acn_parse.proofs.MapLaws.{signed_found, signed_again}
use Rattle.acn_acn_parse.proofs.WordLaws.{pass_all, all_pass}
use Rattle.std.proofs.lemmas.Bool.{lt-ltb, ltb-true, and_parts}

-- ---- paths

abbrev pub IsName : List ℕ → Type 0
IsName name = is_acn_identifier name ≡ true

abbrev pub name_tokens : List ℕ → Tokens
name_tokens name = mark (codes ".") ∷ token Word name ∷ []

name_found : (ts : List Lexeme) (x : List ℕ) (r : List Lexeme) → next_name ts ≡ Ok (x, r) → Takes name_tokens IsName ts x r
unfolding next_name
name_found ts x r e =
    then_found (expect Mark (codes ".") ts) _ _ e (λ _ m1 e1 h.
    let a = expect_found _ _ _ _ _ e1 in
    let b = word_found is_acn_identifier m1 x r h in
    record { parts = a ∙ ap (λ z. mark (codes ".") ∷ z) b.0; fits = b.1 })

name_again : (x : List ℕ) (r : List Lexeme) → IsName x → next_name (name_tokens x ++ r) ≡ Ok (x, r)
unfolding next_name
name_again x r fits = then_again _ _ _ _ _ (expect_again _ _ _) (word_again _ _ _ fits)

abbrev pub IsPath : AcnPath → Type 0
IsPath p = is_path p ≡ true

pub path_found : (ts : List Lexeme) (p : AcnPath) (r : List Lexeme) → path ts ≡ Ok (p, r) → Takes path_tokens IsPath ts p r
unfolding path path_tokens
path_found ts p r e =
    then_found (word is_acn_identifier ts) _ _ e (λ first m1 e1 h.
    then_found (many has_stop next_name m1) _ _ h (λ more m2 e2 h.
    let a = word_found _ _ _ _ e1 in
    let b = repeat_found has_stop next_name name_tokens IsName name_found (length m1) m1 _ _ e2 in
    let parts : ts ≡ (token Word first ∷ flat_map name_tokens more) ++ m2 = cc (a.0, b.parts) in
    let fits : is_path (record { names = first ∷ more }) ≡ true = rw (a.1, pass_all is_acn_identifier more b.fits) refl in
    done _ _ _ _ h parts fits))

-- what may follow a path
abbrev pub EndsPath : List Lexeme → Type 0
EndsPath r = has_stop r ≡ false

names_again : (ns : List (List ℕ)) (r : List Lexeme) → AllByRecursion IsName ns → EndsPath r → many has_stop next_name (flat_map name_tokens ns ++ r) ≡ Ok (ns, r)
names_again ns r fits ends =
    many_again has_stop next_name name_tokens IsName (λ _. Unit {0}) (length (flat_map name_tokens ns ++ r)) (λ x r _ fits _. name_again x r fits) (λ x r _. sees_again _ _ _) (λ _ _ _. tt) (λ x _. omega arith) ns r (omega arith) fits tt ends

path_from : (ns : List (List ℕ)) (r : List Lexeme) → is_path (record { names = ns }) ≡ true → EndsPath r → path (path_tokens (record { names = ns }) ++ r) ≡ Ok (record { names = ns }, r)
unfolding path path_tokens
path_from [] r fits ends = absurd cc
path_from (n ∷ ns) r fits ends =
    let k = and_parts (is_acn_identifier n) (list_all is_acn_identifier ns) fits in
    then_again _ _ _ _ _ (word_again _ _ _ k.0)
    (then_again _ _ _ _ _ (names_again ns r (all_pass is_acn_identifier ns k.1) ends) refl)

pub path_again : (p : AcnPath) (r : List Lexeme) → IsPath p → EndsPath r → path (path_tokens p ++ r) ≡ Ok (p, r)
path_again p r fits ends = path_from p.names r fits ends

-- ---- conditions

abbrev pub IsCondition : Condition → Type 0
IsCondition c = is_condition c ≡ true

abbrev IsEquals : Option Signed → Type 0
IsEquals None = Unit {0}
IsEquals (Some n) = is_signed n ≡ true

equals_if_found : (b : Bool) (ts m : List Lexeme) (o : Option Signed) (r : List Lexeme) → ts ≡ given b (mark (codes "==")) ++ m → equals_if b m ≡ Ok (o, r) → Takes equals_tokens IsEquals ts o r
equals_if_found true ts m o r p e =
    then_found (signed m) _ _ e (λ n m' e1 h.
    let a = signed_found _ _ _ e1 in
    let parts : ts ≡ equals_tokens (Some n) ++ m' = cc (p, a.parts) in
    done _ _ _ _ h parts (lt-ltb _ _ a.fits))
equals_if_found false ts m o r p e = done _ _ _ _ e p tt

equals_found : (ts : List Lexeme) (o : Option Signed) (r : List Lexeme) → equals ts ≡ Ok (o, r) → Takes equals_tokens IsEquals ts o r
unfolding equals
equals_found ts o r e = then_found (eat Mark (codes "==") ts) _ _ e (λ found m e1 h. equals_if_found found ts m o r (given_found _ _ _ _ _ e1) h)

equals_fits : (p : AcnPath) (o : Option Signed) → IsPath p → IsEquals o → IsCondition (record { path = p; equals = o })
equals_fits p None h k = rw h refl
equals_fits p (Some n) h k = rw (h, k) refl

fits_parts : (p : AcnPath) (o : Option Signed) → IsCondition (record { path = p; equals = o }) → IsPath p × IsEquals o
fits_parts p None h = (let k = and_parts (is_path p) true h in (k.0, tt))
fits_parts p (Some n) h = and_parts (is_path p) (is_signed n) h

pub condition_found : (ts : List Lexeme) (c : Condition) (r : List Lexeme) → condition ts ≡ Ok (c, r) → Takes condition_tokens IsCondition ts c r
unfolding condition condition_tokens
condition_found ts c r e =
    then_found (path ts) _ _ e (λ to m1 e1 h.
    then_found (equals m1) _ _ h (λ n m2 e2 h.
    let a = path_found _ _ _ e1 in
    let b = equals_found _ _ _ e2 in
    let parts : ts ≡ condition_tokens (record { path = to; equals = n }) ++ m2 = simp append_assoc (cc (a.parts, b.parts)) in
    done _ _ _ _ h parts (equals_fits to n a.fits b.fits)))

-- what may follow a condition
pub record EndsCondition (r : List Lexeme) : Type 0 where
  pub stop : has_stop r ≡ false
  pub equal : sees Mark (codes "==") r ≡ false

equals_stop : (o : Option Signed) (r : List Lexeme) → EndsCondition r → EndsPath (equals_tokens o ++ r)
unfolding same_kind sees
equals_stop None r ends = ends.stop
equals_stop (Some n) r ends = refl

equals_again : (o : Option Signed) (r : List Lexeme) → IsEquals o → EndsCondition r → equals (equals_tokens o ++ r) ≡ Ok (o, r)
unfolding equals
equals_again None r fits ends = then_again _ _ _ _ _ (eat_nothing _ _ _ ends.equal) refl
equals_again (Some n) r fits ends =
    then_again _ _ _ _ _ (eat_again _ _ _)
    (then_again _ _ _ _ _ (signed_again n r (ltb-true _ _ fits)) refl)

pub condition_again : (c : Condition) (r : List Lexeme) → IsCondition c → EndsCondition r → condition (condition_tokens c ++ r) ≡ Ok (c, r)
unfolding condition condition_tokens
condition_again c r fits ends =
    let k = fits_parts c.path c.equals fits in
    simp append_assoc
    (then_again _ _ _ _ _ (path_again c.path _ k.0 (equals_stop c.equals r ends))
    (then_again _ _ _ _ _ (equals_again c.equals r k.1 ends) refl))

-- ---- conditions that follow each other

path_starts : (ns : List (List ℕ)) (r : List Lexeme) → is_path (record { names = ns }) ≡ true → has_kind Word (path_tokens (record { names = ns }) ++ r) ≡ true
unfolding path_tokens
path_starts [] r fits = absurd cc
path_starts (n ∷ ns) r fits = ap is_some (text_of_again Word n _)

-- a path begins with a word, which no mark is
path_no_mark : (text : List ℕ) (ns : List (List ℕ)) (r : List Lexeme) → is_path (record { names = ns }) ≡ true → sees Mark text (path_tokens (record { names = ns }) ++ r) ≡ false
unfolding path_tokens same_kind
path_no_mark text [] r fits = absurd cc
path_no_mark text (n ∷ ns) r fits = sees_kind _ _ _ _ _ refl

condition_starts : (c : Condition) (r : List Lexeme) → IsCondition c → has_kind Word (condition_tokens c ++ r) ≡ true
unfolding condition_tokens
condition_starts c r fits = rw append_assoc (path_starts c.path.names _ (fits_parts c.path c.equals fits).0)

condition_next : (c : Condition) (r : List Lexeme) → IsCondition c → EndsCondition (condition_tokens c ++ r)
unfolding condition_tokens
condition_next c r fits =
    let k = (fits_parts c.path c.equals fits).0 in
    record { stop = rw append_assoc (path_no_mark _ c.path.names _ k); equal = rw append_assoc (path_no_mark _ c.path.names _ k) }

path_some : (ns : List (List ℕ)) → is_path (record { names = ns }) ≡ true → 0 < length (path_tokens (record { names = ns }))
unfolding path_tokens
path_some [] fits = absurd cc
path_some (n ∷ ns) fits = omega arith

condition_some : (c : Condition) → IsCondition c → 0 < length (condition_tokens c)
unfolding condition_tokens
condition_some c fits = omega (arith, length-append (path_tokens c.path) (equals_tokens c.equals), path_some c.path.names (fits_parts c.path c.equals fits).0)

abbrev AreConditions : List Condition → Type 0
AreConditions cs = (is_some_of cs && list_all is_condition cs) ≡ true

pub conditions_found : (ts : List Lexeme) (cs : List Condition) (r : List Lexeme) → conditions ts ≡ Ok (cs, r) → Takes (flat_map condition_tokens) AreConditions ts cs r
unfolding conditions
conditions_found ts cs r e =
    then_found (condition ts) _ _ e (λ first m1 e1 h.
    then_found (many (has_kind Word) condition m1) _ _ h (λ more m2 e2 h.
    let a = condition_found _ _ _ e1 in
    let b = repeat_found (has_kind Word) condition condition_tokens IsCondition condition_found (length m1) m1 _ _ e2 in
    let parts : ts ≡ flat_map condition_tokens (first ∷ more) ++ m2 = simp append_assoc (cc (a.parts, b.parts)) in
    done _ _ _ _ h parts (rw (a.fits, pass_all is_condition more b.fits) refl)))

-- what may follow conditions
pub record EndsConditions (r : List Lexeme) : Type 0 where
  pub last : EndsCondition r
  pub word : has_kind Word r ≡ false

more_again : (cs : List Condition) (r : List Lexeme) → AllByRecursion IsCondition cs → EndsConditions r → many (has_kind Word) condition (flat_map condition_tokens cs ++ r) ≡ Ok (cs, r)
more_again cs r fits ends =
    many_again (has_kind Word) condition condition_tokens IsCondition EndsCondition (length (flat_map condition_tokens cs ++ r)) (λ c r _ fits ends. condition_again c r fits ends) condition_starts condition_next condition_some cs r (omega arith) fits ends.last ends.word

more_next : (cs : List Condition) (r : List Lexeme) → AllByRecursion IsCondition cs → EndsConditions r → EndsCondition (flat_map condition_tokens cs ++ r)
more_next [] r fits ends = ends.last
more_next (c ∷ cs) r fits ends = subst EndsCondition (sym (append_assoc (condition_tokens c) (flat_map condition_tokens cs) r)) (condition_next c _ fits.0)

pub conditions_again : (cs : List Condition) (r : List Lexeme) → AreConditions cs → EndsConditions r → conditions (flat_map condition_tokens cs ++ r) ≡ Ok (cs, r)
unfolding conditions
conditions_again [] r fits ends = absurd cc
conditions_again (c ∷ cs) r fits ends =
    let k = and_parts (is_condition c) (list_all is_condition cs) fits in
    let rest = all_pass is_condition cs k.1 in
    rw append_assoc
    (then_again _ _ _ _ _ (condition_again c _ k.0 (more_next cs r rest ends))
    (then_again _ _ _ _ _ (more_again cs r rest ends) refl))
