-- Entries and modules: what is read is written so, and what is written is read again.
use Rattle.std.proofs.Common.{◌≡◌, ℕ, zero, suc, ◌+◌, ◌<◌, ◌≤◌, Bool, true, false, ◌&&◌, not, List, [], ◌∷◌, ◌++◌, length, refl, sym, ap, subst, ◌∙◌, append_assoc, length-append, arith}
use Rattle.std.proofs.lemmas.List.{append-nil}
use Rattle.std.specs.Prelude.{codes, Ok}
use Rattle.std.specs.List.{flat_map, list_all, AllByRecursion}
use Rattle.acn_lex.specs.declared.Kind.TheVariants.{Word, Mark}
use Rattle.acn_lex.specs.Lexeme.{Lexeme, same_kind}
use Rattle.acn_cursor.specs.Steps.{token, given, sees, eat, expect, word, many}
use Rattle.acn_lex.specs.Words.{is_reference, is_reserved, reserved}
use Rattle.acn_cursor.proofs.Laws.{Takes, done, outcome, then_found, then_again, given_found, sees_again, sees_kind, sees_text, eat_again, eat_nothing, expect_found, expect_again, word_found, word_again, repeat_found, many_again}
use Rattle.acn_acn_syntax.specs.Mirror.{Braces, Entry, Module, no_braces, braces}
use Rattle.acn_acn_syntax.specs.ModuleTokens.{Tokens, mark, joined, bracket_tokens, brace_tokens, parameter_kind_token, parameter_tokens_of, parameter_tokens, entry_tokens, module_tokens, tokens_of, is_acn_identifier, is_attr, is_parameter_kind, is_parameter, are_braces, is_entry, is_module, is_proper}
use Rattle.acn_acn_syntax.specs.declared.modules.Attr.{Attr}
use Rattle.acn_acn_syntax.specs.declared.modules.Param.{Param}
use Rattle.acn_acn_syntax.specs.declared.modules.ParamKind.{ParamKind}
use Rattle.acn_acn_syntax.specs.declared.modules.ParamKind.TheVariants as parameter
use Rattle.acn_acn_parse.specs.AttributeReading.{bracket, has_comma}
use Rattle.acn_acn_parse.specs.FieldReading.{braces_at, field_at, parameter_boolean_if, parameter_integer_if, parameter_kind, one_parameter, next_parameter, parameters_if, parameters, entry_at, has_entry, heading, module_at, has_more, modules_at}
use Rattle.acn_acn_parse.proofs.AttributeLaws.{AreAttrs, bracket_found, bracket_again}
use Rattle.acn_acn_parse.proofs.FieldLaws.{AreBraces, EndsField, braces_found, braces_again, field_found, field_again, no_word, integer_reserved, boolean_reserved}
use Rattle.acn_acn_parse.proofs.WordLaws.{pass_all, all_pass}
use Rattle.std.proofs.lemmas.Bool.{and_parts}

-- ---- parameters

abbrev IsKind : ParamKind → Type 0
IsKind k = is_parameter_kind k ≡ true

abbrev kind_tokens : ParamKind → Tokens
kind_tokens k = parameter_kind_token k ∷ []

boolean_found : (b : Bool) (ts m : List Lexeme) (k : ParamKind) (r : List Lexeme) → ts ≡ given b (token Word (codes "BOOLEAN")) ++ m → parameter_boolean_if b m ≡ Ok (k, r) → Takes kind_tokens IsKind ts k r
unfolding parameter_kind_token
boolean_found true ts m k r p e = done _ _ _ _ e p refl
boolean_found false ts m k r p e =
    then_found (word is_reference m) _ _ e (λ name m1 e1 h.
    let a = word_found _ _ _ _ e1 in
    done _ _ _ _ h (p ∙ a.0) a.1)

integer_found : (b : Bool) (ts m : List Lexeme) (k : ParamKind) (r : List Lexeme) → ts ≡ given b (token Word (codes "INTEGER")) ++ m → parameter_integer_if b m ≡ Ok (k, r) → Takes kind_tokens IsKind ts k r
unfolding parameter_kind_token
integer_found true ts m k r p e = done _ _ _ _ e p refl
integer_found false ts m k r p e = then_found (eat Word (codes "BOOLEAN") m) _ _ e (λ b m1 e1 h. boolean_found b ts m1 k r (p ∙ given_found _ _ _ _ _ e1) h)

kind_found : (ts : List Lexeme) (k : ParamKind) (r : List Lexeme) → parameter_kind ts ≡ Ok (k, r) → Takes kind_tokens IsKind ts k r
unfolding parameter_kind
kind_found ts k r e = then_found (eat Word (codes "INTEGER") ts) _ _ e (λ b m1 e1 h. integer_found b ts m1 k r (given_found _ _ _ _ _ e1) h)

kind_again : (k : ParamKind) (r : List Lexeme) → IsKind k → parameter_kind (parameter_kind_token k ∷ r) ≡ Ok (k, r)
unfolding parameter_kind parameter_kind_token
kind_again parameter.Integer r fits = then_again _ _ _ _ _ (eat_again _ _ _) refl
kind_again parameter.Boolean r fits =
    then_again _ _ _ _ _ (eat_nothing _ _ _ (sees_text _ _ _ _ refl))
    (then_again _ _ _ _ _ (eat_again _ _ _) refl)
kind_again (parameter.Ref name) r fits =
    then_again _ _ _ _ _ (eat_nothing _ _ _ (sees_text _ _ _ _ (no_word _ _ integer_reserved fits)))
    (then_again _ _ _ _ _ (eat_nothing _ _ _ (sees_text _ _ _ _ (no_word _ _ boolean_reserved fits)))
    (then_again _ _ _ _ _ (word_again _ _ _ fits) refl))

abbrev IsParameter : Param → Type 0
IsParameter p = is_parameter p ≡ true

parameter_found : (ts : List Lexeme) (p : Param) (r : List Lexeme) → one_parameter ts ≡ Ok (p, r) → Takes parameter_tokens_of IsParameter ts p r
unfolding one_parameter parameter_tokens_of
parameter_found ts p r e =
    then_found (parameter_kind ts) _ _ e (λ k m1 e1 h.
    then_found (expect Mark (codes ":") m1) _ _ h (λ _ m2 e2 h.
    then_found (word is_acn_identifier m2) _ _ h (λ name m3 e3 h.
    let a = kind_found _ _ _ e1 in
    let b = expect_found _ _ _ _ _ e2 in
    let c = word_found _ _ _ _ e3 in
    let parts : ts ≡ parameter_tokens_of (record { kind = k; name = name }) ++ m3 = cc (a.parts, b, c.0) in
    done _ _ _ _ h parts (rw (a.fits, c.1) refl))))

parameter_again : (p : Param) (r : List Lexeme) → IsParameter p → one_parameter (parameter_tokens_of p ++ r) ≡ Ok (p, r)
unfolding one_parameter parameter_tokens_of
parameter_again p r fits =
    let k = and_parts (is_parameter_kind p.kind) (is_acn_identifier p.name) fits in
    then_again _ _ _ _ _ (kind_again p.kind _ k.0)
    (then_again _ _ _ _ _ (expect_again _ _ _)
    (then_again _ _ _ _ _ (word_again _ _ _ k.1) refl))

abbrev next_tokens : Param → Tokens
next_tokens p = mark (codes ",") ∷ parameter_tokens_of p

next_found : (ts : List Lexeme) (p : Param) (r : List Lexeme) → next_parameter ts ≡ Ok (p, r) → Takes next_tokens IsParameter ts p r
unfolding next_parameter
next_found ts p r e =
    then_found (expect Mark (codes ",") ts) _ _ e (λ _ m1 e1 h.
    let a = expect_found _ _ _ _ _ e1 in
    let b = parameter_found m1 p r h in
    record { parts = a ∙ ap (λ z. mark (codes ",") ∷ z) b.parts; fits = b.fits })

next_again : (p : Param) (r : List Lexeme) → IsParameter p → next_parameter (next_tokens p ++ r) ≡ Ok (p, r)
unfolding next_parameter
next_again p r fits = then_again _ _ _ _ _ (expect_again _ _ _) (parameter_again p r fits)

abbrev AreParameters : List Param → Type 0
AreParameters ps = list_all is_parameter ps ≡ true

parameters_if_found : (b : Bool) (ts m : List Lexeme) (ps : List Param) (r : List Lexeme) → ts ≡ given b (mark (codes "<")) ++ m → parameters_if b m ≡ Ok (ps, r) → Takes parameter_tokens AreParameters ts ps r
unfolding parameter_tokens
parameters_if_found true ts m ps r p e =
    then_found (one_parameter m) _ _ e (λ first m1 e1 h.
    then_found (many has_comma next_parameter m1) _ _ h (λ more m2 e2 h.
    then_found (expect Mark (codes ">") m2) _ _ h (λ _ m3 e3 h.
    let a = parameter_found _ _ _ e1 in
    let b = repeat_found has_comma next_parameter next_tokens IsParameter next_found (length m1) m1 _ _ e2 in
    let c = expect_found _ _ _ _ _ e3 in
    let parts : ts ≡ parameter_tokens (first ∷ more) ++ m3 = simp append_assoc (cc (p, a.parts, b.parts, c)) in
    done _ _ _ _ h parts (rw (a.fits, pass_all is_parameter more b.fits) refl))))
parameters_if_found false ts m ps r p e = done _ _ _ _ e p refl

parameters_found : (ts : List Lexeme) (ps : List Param) (r : List Lexeme) → parameters ts ≡ Ok (ps, r) → Takes parameter_tokens AreParameters ts ps r
unfolding parameters
parameters_found ts ps r e = then_found (eat Mark (codes "<") ts) _ _ e (λ found m e1 h. parameters_if_found found ts m ps r (given_found _ _ _ _ _ e1) h)

more_again : (ps : List Param) (r : List Lexeme) → AllByRecursion IsParameter ps → many has_comma next_parameter (flat_map next_tokens ps ++ mark (codes ">") ∷ r) ≡ Ok (ps, mark (codes ">") ∷ r)
more_again ps r fits =
    many_again has_comma next_parameter next_tokens IsParameter (λ _. Unit {0}) (length (flat_map next_tokens ps ++ mark (codes ">") ∷ r)) (λ p r _ fits _. next_again p r fits) (λ p r _. sees_again _ _ _) (λ _ _ _. tt) (λ p _. omega arith) ps _ (omega arith) fits tt (sees_text _ _ _ _ refl)

parameters_again : (ps : List Param) (r : List Lexeme) → AreParameters ps → sees Mark (codes "<") r ≡ false → parameters (parameter_tokens ps ++ r) ≡ Ok (ps, r)
unfolding parameters parameter_tokens
parameters_again [] r fits ends = then_again _ _ _ _ _ (eat_nothing _ _ _ ends) refl
parameters_again (p ∷ ps) r fits ends =
    let k = and_parts (is_parameter p) (list_all is_parameter ps) fits in
    simp append_assoc
    (then_again _ _ _ _ _ (eat_again _ _ _)
    (then_again _ _ _ _ _ (parameter_again p _ k.0)
    (then_again _ _ _ _ _ (more_again ps r (all_pass is_parameter ps k.1))
    (then_again _ _ _ _ _ (expect_again _ _ _) refl))))

-- ---- entries

abbrev IsEntry : Entry → Type 0
IsEntry e = is_entry e ≡ true

entry_found : (n : ℕ) (ts : List Lexeme) (x : Entry) (r : List Lexeme) → entry_at n ts ≡ Ok (x, r) → Takes entry_tokens IsEntry ts x r
unfolding entry_at entry_tokens
entry_found n ts x r e =
    then_found (word is_reference ts) _ _ e (λ name m1 e1 h.
    then_found (parameters m1) _ _ h (λ ps m2 e2 h.
    then_found (bracket m2) _ _ h (λ xs m3 e3 h.
    then_found (braces_at (field_at n) m3) _ _ h (λ bs m4 e4 h.
    let a = word_found _ _ _ _ e1 in
    let b = parameters_found _ _ _ e2 in
    let c = bracket_found _ _ _ e3 in
    let d = braces_found (field_at n) (field_found n) _ _ _ e4 in
    let parts : ts ≡ entry_tokens (record { name = name; parameters = ps; attributes = xs; fields = bs }) ++ m4 = simp append_assoc (cc (a.0, b.parts, c.parts, d.parts)) in
    done _ _ _ _ h parts (rw (a.1, b.fits, c.fits, d.fits) refl)))))

bracket_mark : (xs : List Attr) (r : List Lexeme) → sees Mark (codes "<") (bracket_tokens xs ++ r) ≡ false
unfolding bracket_tokens
bracket_mark xs r = sees_text _ _ _ _ refl

entry_again : (n : ℕ) (x : Entry) (r : List Lexeme) → length (entry_tokens x ++ r) ≤ n → IsEntry x → EndsField r → entry_at n (entry_tokens x ++ r) ≡ Ok (x, r)
unfolding entry_at entry_tokens
entry_again n x r bound fits ends =
    let k = and_parts (is_reference x.name) (list_all is_parameter x.parameters && (list_all is_attr x.attributes && are_braces x.fields)) fits in
    let l = and_parts (list_all is_parameter x.parameters) (list_all is_attr x.attributes && are_braces x.fields) k.1 in
    let m = and_parts (list_all is_attr x.attributes) (are_braces x.fields) l.1 in
    let split : (parameter_tokens x.parameters ++ (bracket_tokens x.attributes ++ brace_tokens x.fields)) ++ r ≡ parameter_tokens x.parameters ++ (bracket_tokens x.attributes ++ (brace_tokens x.fields ++ r)) = simp append_assoc refl in
    let all : length ((parameter_tokens x.parameters ++ (bracket_tokens x.attributes ++ brace_tokens x.fields)) ++ r) ≤ n = omega arith in
    let whole : length (parameter_tokens x.parameters ++ (bracket_tokens x.attributes ++ (brace_tokens x.fields ++ r))) ≤ n = subst (λ z. length z ≤ n) split all in
    let less : length (brace_tokens x.fields ++ r) ≤ suc n = omega (arith, length-append (parameter_tokens x.parameters) (bracket_tokens x.attributes ++ (brace_tokens x.fields ++ r)), length-append (bracket_tokens x.attributes) (brace_tokens x.fields ++ r)) in
    then_again _ _ _ _ _ (word_again _ _ _ k.0)
    (rw split
    (then_again _ _ _ _ _ (parameters_again x.parameters _ l.0 (bracket_mark x.attributes _))
    (then_again _ _ _ _ _ (bracket_again x.attributes _ m.0)
    (then_again _ _ _ _ _ (braces_again (field_at n) n (field_again n) x.fields r less m.1 ends) refl))))

end_reserved : is_reserved (codes "END") ≡ true
unfolding reserved
end_reserved = refl

-- an entry begins with a reference, which no END is
entry_starts : (x : Entry) (r : List Lexeme) → IsEntry x → has_entry (entry_tokens x ++ r) ≡ true
unfolding entry_tokens
entry_starts x r fits =
    let k = and_parts (is_reference x.name) (list_all is_parameter x.parameters && (list_all is_attr x.attributes && are_braces x.fields)) fits in
    ap not (sees_text _ _ _ _ (no_word _ _ end_reserved k.0))

entry_next : (x : Entry) (r : List Lexeme) → IsEntry x → EndsField (entry_tokens x ++ r)
unfolding entry_tokens same_kind
entry_next x r fits = sees_kind _ _ _ _ _ refl

entry_some : (x : Entry) → IsEntry x → 0 < length (entry_tokens x)
unfolding entry_tokens
entry_some x fits = omega arith

-- ---- modules

abbrev IsModule : Module → Type 0
IsModule m = is_module m ≡ true

abbrev heading_tokens : Tokens
heading_tokens = token Word (codes "DEFINITIONS") ∷ mark (codes "::=") ∷ token Word (codes "BEGIN") ∷ []

heading_found : (ts : List Lexeme) (x : Unit {0}) (r : List Lexeme) → heading ts ≡ Ok (x, r) → ts ≡ heading_tokens ++ r
unfolding heading
heading_found ts x r e =
    then_found (expect Word (codes "DEFINITIONS") ts) _ _ e (λ _ m1 e1 h.
    then_found (expect Mark (codes "::=") m1) _ _ h (λ _ m2 e2 h.
    let a = expect_found _ _ _ _ _ e1 in
    let b = expect_found _ _ _ _ _ e2 in
    let c = expect_found _ _ _ _ _ h in
    cc (a, b, c)))

heading_again : (r : List Lexeme) → heading (heading_tokens ++ r) ≡ Ok (tt, r)
unfolding heading
heading_again r = then_again _ _ _ _ _ (expect_again _ _ _) (then_again _ _ _ _ _ (expect_again _ _ _) (expect_again _ _ _))

module_found : (n : ℕ) (ts : List Lexeme) (x : Module) (r : List Lexeme) → module_at n ts ≡ Ok (x, r) → Takes module_tokens IsModule ts x r
unfolding module_at module_tokens
module_found n ts x r e =
    then_found (word is_reference ts) _ _ e (λ name m1 e1 h.
    then_found (heading m1) _ _ h (λ _ m2 e2 h.
    then_found (many has_entry (entry_at n) m2) _ _ h (λ xs m3 e3 h.
    then_found (expect Word (codes "END") m3) _ _ h (λ _ m4 e4 h.
    let a = word_found _ _ _ _ e1 in
    let b = heading_found _ _ _ e2 in
    let c = repeat_found has_entry (entry_at n) entry_tokens IsEntry (entry_found n) (length m2) m2 _ _ e3 in
    let d = expect_found _ _ _ _ _ e4 in
    let parts : ts ≡ module_tokens (record { name = name; entries = xs }) ++ m4 = simp append_assoc (cc (a.0, b, c.parts, d)) in
    done _ _ _ _ h parts (rw (a.1, pass_all is_entry xs c.fits) refl)))))

no_entry : (r : List Lexeme) → has_entry (token Word (codes "END") ∷ r) ≡ false
no_entry r = ap not (sees_again _ _ _)

end_ends : (r : List Lexeme) → EndsField (token Word (codes "END") ∷ r)
unfolding same_kind
end_ends r = sees_kind _ _ _ _ _ refl

entries_again : (n : ℕ) (xs : List Entry) (r : List Lexeme) → length (flat_map entry_tokens xs ++ token Word (codes "END") ∷ r) ≤ n → AllByRecursion IsEntry xs
    → many has_entry (entry_at n) (flat_map entry_tokens xs ++ token Word (codes "END") ∷ r) ≡ Ok (xs, token Word (codes "END") ∷ r)
entries_again n xs r bound fits = many_again has_entry (entry_at n) entry_tokens IsEntry EndsField n (entry_again n) entry_starts entry_next entry_some xs _ bound fits (end_ends r) (no_entry r)

module_again : (n : ℕ) (x : Module) (r : List Lexeme) → length (module_tokens x ++ r) ≤ n → IsModule x → module_at n (module_tokens x ++ r) ≡ Ok (x, r)
unfolding module_at module_tokens
module_again n x r bound fits =
    let k = and_parts (is_reference x.name) (list_all is_entry x.entries) fits in
    let split : (flat_map entry_tokens x.entries ++ token Word (codes "END") ∷ []) ++ r ≡ flat_map entry_tokens x.entries ++ token Word (codes "END") ∷ r = append_assoc (flat_map entry_tokens x.entries) (token Word (codes "END") ∷ []) r in
    let all : length ((flat_map entry_tokens x.entries ++ token Word (codes "END") ∷ []) ++ r) ≤ n = omega arith in
    let less : length (flat_map entry_tokens x.entries ++ token Word (codes "END") ∷ r) ≤ n = subst (λ z. length z ≤ n) split all in
    then_again _ _ _ _ _ (word_again _ _ _ k.0)
    (then_again _ _ _ _ _ (heading_again _)
    (rw split
    (then_again _ _ _ _ _ (entries_again n x.entries r less (all_pass is_entry x.entries k.1))
    (then_again _ _ _ _ _ (expect_again _ _ _) refl))))

module_starts : (x : Module) (r : List Lexeme) → IsModule x → has_more (module_tokens x ++ r) ≡ true
unfolding module_tokens
module_starts x r fits = refl

module_some : (x : Module) → IsModule x → 0 < length (module_tokens x)
unfolding module_tokens
module_some x fits = omega arith

abbrev pub IsProper : List Module → Type 0
IsProper ms = is_proper ms ≡ true

pub modules_found : (n : ℕ) (ts : List Lexeme) (ms : List Module) (r : List Lexeme) → modules_at n ts ≡ Ok (ms, r) → Takes tokens_of IsProper ts ms r
unfolding modules_at
modules_found n ts ms r e =
    then_found (module_at n ts) _ _ e (λ first m1 e1 h.
    then_found (many has_more (module_at n) m1) _ _ h (λ more m2 e2 h.
    let a = module_found n _ _ _ e1 in
    let b = repeat_found has_more (module_at n) module_tokens IsModule (module_found n) (length m1) m1 _ _ e2 in
    let parts : ts ≡ tokens_of (first ∷ more) ++ m2 = simp append_assoc (cc (a.parts, b.parts)) in
    done _ _ _ _ h parts (rw (a.fits, pass_all is_module more b.fits) refl)))

-- each proper tree is read from its tokens
modules_from : (n : ℕ) (ms : List Module) → length (tokens_of ms) ≤ n → IsProper ms → modules_at n (tokens_of ms) ≡ Ok (ms, [])
unfolding modules_at
modules_from n [] bound fits = absurd cc
modules_from n (x ∷ xs) bound fits =
    let k = and_parts (is_module x) (list_all is_module xs) fits in
    let whole = length-append (module_tokens x) (flat_map module_tokens xs) in
    let less : length (flat_map module_tokens xs ++ []) ≤ n = omega (arith, length-append (flat_map module_tokens xs) []) in
    let more : many has_more (module_at n) (flat_map module_tokens xs ++ []) ≡ Ok (xs, []) =
    many_again has_more (module_at n) module_tokens IsModule (λ _. Unit {0}) n (λ m r bound fits _. module_again n m r bound fits) module_starts (λ _ _ _. tt) module_some xs [] less (all_pass is_module xs k.1) tt refl in
    then_again _ _ _ _ _ (module_again n x _ bound k.0)
    (then_again _ _ _ _ _ (subst (λ (z : List Lexeme). many has_more (module_at n) z ≡ outcome xs []) (append-nil (flat_map module_tokens xs)) more) refl)

pub modules_again : (ms : List Module) → IsProper ms → modules_at (length (tokens_of ms)) (tokens_of ms) ≡ Ok (ms, [])
modules_again ms fits = modules_from (length (tokens_of ms)) ms (omega arith) fits
