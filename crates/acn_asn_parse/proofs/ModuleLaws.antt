-- The parser of modules takes the tokens of a proper tree, and reads each proper tree from its tokens.
use Rattle.std.proofs.Common.{◌≡◌, ℕ, ◌+◌, ◌<◌, ◌≤◌, Bool, true, false, not, ◌&&◌, cond, List, [], ◌∷◌, ◌++◌, length, length-append, Option, Some, None, refl, sym, ap, subst, ◌∙◌, append_assoc, arith, rules}
use Rattle.std.specs.Prelude.{codes, map, nat_le, Ok, Err}
use Rattle.std.specs.List.{flat_map, list_all, AllByRecursion}
use Rattle.std.specs.Cmp.Derive.{both_true}
use Rattle.std.specs.Str.{bytes_eq}
use Rattle.std.proofs.lemmas.Bool.{leb-true, and_parts}
use Rattle.std.proofs.lemmas.List.{append-nil}
use Rattle.acn_lex.specs.declared.Kind.TheVariants.{Word, Mark}
use Rattle.acn_lex.specs.Lexeme.{Lexeme, same_kind}
use Rattle.acn_cursor.specs.Steps.{Parser, and_then, ◌>>=◌, ◌>>◌, pure, token, sees, text_of, expect, many, with_front, Outcome}
use Rattle.acn_cursor.specs.Steps as steps
use Rattle.acn_lex.specs.Words.{is_identifier, is_reference, is_reserved, is_upper, reserved}
use Rattle.acn_cursor.proofs.Laws.{Takes, done, then_found, then_again, expect_found, expect_again, word_found, word_again, text_of_again, sees_kind, sees_text, sees_again, repeat_found, many_again, outcome}
use Rattle.acn_asn_syntax.specs.declared.modules.Assign.{Assign}
use Rattle.acn_asn_syntax.specs.declared.modules.Import.{Import}
use Rattle.acn_asn_syntax.specs.declared.modules.Assign.TheVariants as assign
use Rattle.acn_asn_syntax.specs.declared.modules.AsnModule.{AsnModule}
use Rattle.acn_asn_syntax.specs.declared.modules.AsnModules.{AsnModules}
use Rattle.acn_asn_syntax.specs.declared.types.AsnType.{AsnType}
use Rattle.acn_asn_syntax.specs.declared.values.AsnValue.{AsnValue}
use Rattle.acn_asn_syntax.specs.Values.{word, mark, value_tokens, value_fits, option_tokens, option_fits}
use Rattle.acn_asn_syntax.specs.Spelling.{is_some}
use Rattle.acn_asn_syntax.specs.Trees.{type_tokens, type_fits}
use Rattle.acn_asn_syntax.specs.View.{assign_view, module_view}
use Rattle.acn_asn_syntax.specs.Modules.{oid_tokens, oid_fits, tagging_tokens, exports_tokens, exports_fit, import_fits, imports_tokens, assign_tokens, assign_fits, head_tokens, module_tokens, module_fits, tokens_of, IsProper}
use Rattle.acn_asn_parse.specs.declared.headers.ModuleHead.{ModuleHead}
use Rattle.acn_asn_types.specs.Values.{value_at}
use Rattle.acn_asn_parse.specs.Headers.{head_at, exports_at, imports_at}
use Rattle.acn_asn_types.specs.Types.{type_at}
use Rattle.acn_asn_parse.specs.Modules.{is_value_name, has_identifier, has_item, has_more, type_is, value_is, assigned, type_assign, value_assign, assign_at, items_at, module_of, with_items, module_in, module_at, more_modules, modules_in, modules_at}
use Rattle.acn_asn_types.proofs.ValueLaws.{Passes, Found, value_found, value_again, not_same}
use Rattle.acn_asn_types.proofs.ListLaws.{all_pass, pass_all}
use Rattle.acn_asn_types.proofs.SimpleLaws.{not_reserved}
use Rattle.acn_asn_types.proofs.TypesFound.{type_found}
use Rattle.acn_asn_types.proofs.TypesAgain.{type_again, EndsType, word_ends}
use Rattle.acn_asn_parse.proofs.HeaderLaws.{head_found, head_again, opening_tokens, opening_fits, exports_found, exports_again, imports_found, imports_again}

-- ---- tokens of the program's trees

abbrev pub assign_text : Assign → List Lexeme
assign_text a = assign_tokens (assign_view a)

abbrev pub assign_fine : Assign → Bool
assign_fine a = assign_fits (assign_view a)

abbrev pub module_text : AsnModule → List Lexeme
module_text m = module_tokens (module_view m)

abbrev pub module_fine : AsnModule → Bool
module_fine m = module_fits (module_view m)

abbrev modules_of : List AsnModule → AsnModules
modules_of xs = record { modules = xs }

items_text : (xs : List Assign) → flat_map assign_tokens (map assign_view xs) ≡ flat_map assign_text xs
items_text [] = refl
items_text (x ∷ xs) = ap (λ z. assign_text x ++ z) (items_text xs)

items_fine : (xs : List Assign) → list_all assign_fits (map assign_view xs) ≡ list_all assign_fine xs
items_fine [] = refl
items_fine (x ∷ xs) = ap (λ b. assign_fine x && b) (items_fine xs)

-- ---- names

upper_is_no_identifier : (name : List ℕ) → is_reference name ≡ true → is_identifier name ≡ false
unfolding is_reference is_identifier
upper_is_no_identifier [] f = refl
upper_is_no_identifier (b ∷ bs) f = by_test (nat_le 97 b) refl
  where
    by_test : (t : Bool) → nat_le 97 b ≡ t → t && nat_le b 122 ≡ false
    by_test false e = refl
    by_test true e =
        let g = and_parts (nat_le 65 b && nat_le b 90) (not (is_reserved (b ∷ bs))) f in
        let h = and_parts (nat_le 65 b) (nat_le b 90) g.0 in
        absurd (omega (arith, leb-true 97 b e, leb-true b 90 h.1))

-- ---- assignments and modules, over a parser of types

abbrev assigned_tokens : AsnValue → List Lexeme
assigned_tokens v = mark (codes "::=") ∷ value_tokens v

assigned_found : Found assigned assigned_tokens value_fits
unfolding assigned
assigned_found ts v r e =
    then_found (expect Mark (codes "::=") ts) _ _ e (λ _ m e1 h.
    let a = value_found _ _ _ h in
    record { parts = expect_found _ _ _ _ _ e1 ∙ ap (λ z. mark (codes "::=") ∷ z) a.parts; fits = a.fits })

assigned_again : (v : AsnValue) (r : List Lexeme) → value_fits v ≡ true → assigned (mark (codes "::=") ∷ (value_tokens v ++ r)) ≡ Ok (v, r)
unfolding assigned
assigned_again v r fits = then_again _ _ _ _ _ (expect_again _ _ _) (value_again v r fits)

module _ (inner : Parser AsnType) where
  module _ (found : Found inner type_tokens type_fits) where
    assign_found : Found (assign_at inner) assign_text assign_fine
    unfolding assign_at type_assign value_assign type_is value_is assign_tokens type_tokens type_fits
    assign_found ts x r e = by_name (has_identifier ts) e
      where
        by_name : (b : Bool) → cond b (value_assign inner ts) (type_assign inner ts) ≡ Ok (x, r) → Takes assign_text (Passes assign_fine) ts x r
        by_name true e =
            then_found (steps.word is_identifier ts) _ _ e (λ name m1 e1 h.
            then_found (inner m1) _ _ h (λ t m2 e2 h.
            then_found (assigned m2) _ _ h (λ v m3 e3 h.
            let a = word_found _ _ _ _ e1 in
            let b = found _ _ _ e2 in
            let c = assigned_found _ _ _ e3 in
            let parts : ts ≡ (word name ∷ (type_tokens t ++ mark (codes "::=") ∷ value_tokens v)) ++ m3 = simp append_assoc (cc (a.0, b.parts, c.parts)) in
            done (assign.ValueIs name t v) m3 _ _ h parts (both_true (both_true a.1 b.fits) c.fits))))
        by_name false e =
            then_found (steps.word is_reference ts) _ _ e (λ name m1 e1 h.
            then_found (expect Mark (codes "::=") m1) _ _ h (λ _ m2 e2 h.
            then_found (inner m2) _ _ h (λ t m3 e3 h.
            let a = word_found _ _ _ _ e1 in
            let b = expect_found _ _ _ _ _ e2 in
            let c = found _ _ _ e3 in
            let parts : ts ≡ (word name ∷ mark (codes "::=") ∷ type_tokens t) ++ m3 = cc (a.0, b, c.parts) in
            done (assign.TypeIs name t) m3 _ _ h parts (both_true a.1 c.fits))))

    abbrev items_tokens : List Assign → List Lexeme
    items_tokens xs = flat_map assign_text xs ++ word (codes "END") ∷ []

    items_found : Found (items_at inner) items_tokens (list_all assign_fine)
    unfolding items_at
    items_found ts xs r e =
        then_found (many has_item (assign_at inner) ts) _ _ e (λ items m1 e1 h.
        then_found (expect Word (codes "END") m1) _ _ h (λ _ m2 e2 h.
        let a = repeat_found has_item (assign_at inner) assign_text (Passes assign_fine) assign_found (length ts) ts _ _ e1 in
        let parts : ts ≡ items_tokens items ++ m2 = simp append_assoc (cc (a.parts, expect_found _ _ _ _ _ e2)) in
        done items m2 _ _ h parts (all_pass assign_fine items a.fits)))

    module_found : Found (module_at inner) module_text module_fine
    unfolding module_at module_in with_items module_of module_tokens head_tokens
    module_found ts x r e =
        then_found (head_at ts) _ _ e (λ head m1 e1 h.
        then_found (expect Mark (codes "::=") m1) _ _ h (λ _ m2 e2 h.
        then_found (expect Word (codes "BEGIN") m2) _ _ h (λ _ m3 e3 h.
        then_found (exports_at m3) _ _ h (λ exports m4 e4 h.
        then_found (imports_at m4) _ _ h (λ imports m5 e5 h.
        then_found (items_at inner m5) _ _ h (λ items m6 e6 h.
        let a = head_found _ _ _ e1 in
        let b = expect_found _ _ _ _ _ e2 in
        let c = expect_found _ _ _ _ _ e3 in
        let d = exports_found _ _ _ e4 in
        let f = imports_found _ _ _ e5 in
        let g = items_found _ _ _ e6 in
        let opening : ts ≡ word head.name ∷ (option_tokens oid_tokens head.oid ++ word (codes "DEFINITIONS") ∷ (option_tokens tagging_tokens head.tags ++ m1)) = a.parts ∙ ap (λ z. word head.name ∷ z) (append_assoc (option_tokens oid_tokens head.oid) (word (codes "DEFINITIONS") ∷ option_tokens tagging_tokens head.tags) m1) in
        let ending : m5 ≡ flat_map assign_text items ++ word (codes "END") ∷ m6 = g.parts ∙ append_assoc (flat_map assign_text items) (word (codes "END") ∷ []) m6 in
        let made : AsnModule = record { name = head.name; oid = head.oid; tags = head.tags; exports = exports; imports = imports; items = items } in
        let spelled : ts ≡ ((((word head.name ∷ (option_tokens oid_tokens head.oid ++ word (codes "DEFINITIONS") ∷ (option_tokens tagging_tokens head.tags ++ mark (codes "::=") ∷ word (codes "BEGIN") ∷ []))) ++ option_tokens exports_tokens exports) ++ option_tokens imports_tokens imports) ++ flat_map assign_text items ++ word (codes "END") ∷ []) ++ m6 = simp append_assoc (cc (opening, b, c, d.parts, f.parts, ending)) in
        let parts : ts ≡ module_text made ++ m6 = rw (items_text items) spelled in
        let fits : module_fine made ≡ true = rw (items_fine items) (both_true (both_true (both_true a.fits d.fits) f.fits) g.fits) in
        done made m6 _ _ h parts fits))))))

    pub modules_found : (ts : List Lexeme) (t : AsnModules) (r : List Lexeme) → modules_in inner ts ≡ Ok (t, r) → Takes tokens_of IsProper ts t r
    unfolding modules_in more_modules
    modules_found ts t r e =
        then_found (module_at inner ts) _ _ e (λ first m1 e1 h.
        then_found (more_modules inner first m1) _ _ h (λ all m2 e2 h. by_many first m1 (module_found _ _ _ e1) all m2 h (many has_more (module_at inner) m1) refl e2))
      where
        by_many : (first : AsnModule) (m1 : List Lexeme) → Takes module_text (Passes module_fine) ts first m1 → (all : List AsnModule) (m2 : List Lexeme) → outcome (modules_of all) m2 ≡ outcome t r
            → (o : Outcome (List AsnModule)) → many has_more (module_at inner) m1 ≡ o → with_front (first ∷ []) o ≡ Ok (all, m2) → Takes tokens_of IsProper ts t r
        by_many first m1 a all m2 h (Err left) q w = absurd cc
        by_many first m1 a all m2 h (Ok p) q w =
            let b = repeat_found has_more (module_at inner) module_text (Passes module_fine) module_found (length m1) m1 p.0 p.1 q in
            let spelled : ts ≡ (module_text first ++ flat_map module_text p.0) ++ p.1 = simp append_assoc (cc (a.parts, b.parts)) in
            let one = done {tokens = flat_map module_text} {Fits = λ xs. (is_some xs ≡ true) × (list_all module_fine xs ≡ true)} (first ∷ p.0) p.1 all m2 w spelled (refl, both_true a.fits (all_pass module_fine p.0 b.fits)) in
            done (modules_of all) m2 _ _ h one.parts one.fits

  module _ (limit : ℕ) (again : (t : AsnType) (r : List Lexeme) → length (type_tokens t ++ r) ≤ limit → Passes type_fits t → EndsType r → inner (type_tokens t ++ r) ≡ Ok (t, r)) where
    mark_ends : (r : List Lexeme) → EndsType (mark (codes "::=") ∷ r)
    mark_ends r = record { paren = sees_text _ _ _ _ refl; brace = sees_text _ _ _ _ refl; dot = sees_text _ _ _ _ refl }

    has_name : (name : List ℕ) (b : Bool) (r : List Lexeme) → is_identifier name ≡ b → has_identifier (word name ∷ r) ≡ b
    unfolding has_identifier
    has_name name b r e = rw (text_of_again Word name r) e

    assign_again : (x : Assign) (r : List Lexeme) → length (assign_text x ++ r) ≤ limit → Passes assign_fine x → EndsType r → assign_at inner (assign_text x ++ r) ≡ Ok (x, r)
    unfolding assign_at type_assign value_assign type_is value_is assign_tokens type_tokens type_fits
    assign_again (assign.TypeIs name t) r bound fits ends =
        let f = and_parts (is_reference name) (type_fits t) fits in
        rw (has_name name false ((mark (codes "::=") ∷ type_tokens t) ++ r) (upper_is_no_identifier name f.0))
        (then_again _ _ _ _ _ (word_again is_reference name _ f.0)
        (then_again _ _ _ _ _ (expect_again _ _ _)
        (then_again _ _ _ _ _ (again t r (omega arith) f.1 ends) refl)))
    assign_again (assign.ValueIs name t v) r bound fits ends =
        let f = and_parts (is_identifier name && type_fits t) (value_fits v) fits in
        let g = and_parts (is_identifier name) (type_fits t) f.0 in
        let regroup : (type_tokens t ++ mark (codes "::=") ∷ value_tokens v) ++ r ≡ type_tokens t ++ (mark (codes "::=") ∷ (value_tokens v ++ r)) = append_assoc (type_tokens t) (mark (codes "::=") ∷ value_tokens v) r in
        let within : length (type_tokens t ++ (mark (codes "::=") ∷ (value_tokens v ++ r))) ≤ limit = omega (arith, ap length regroup) in
        rw (has_name name true ((type_tokens t ++ mark (codes "::=") ∷ value_tokens v) ++ r) g.0)
        (rw regroup
        (then_again _ _ _ _ _ (word_again is_identifier name _ g.0)
        (then_again _ _ _ _ _ (again t _ within g.1 (mark_ends _))
        (then_again _ _ _ _ _ (assigned_again v r f.1) refl))))

    assign_word : (x : Assign) (text : List ℕ) (r : List Lexeme) → Passes assign_fine x → is_reserved text ≡ true → is_identifier text ≡ false → sees Word text (assign_text x ++ r) ≡ false
    unfolding assign_tokens type_fits
    assign_word (assign.TypeIs name t) text r fits p q = sees_text _ _ _ _ (not_reserved name text (and_parts (is_reference name) (type_fits t) fits).0 p)
    assign_word (assign.ValueIs name t v) text r fits p q = sees_text _ _ _ _ (not_same name text (and_parts (is_identifier name) (type_fits t) (and_parts (is_identifier name && type_fits t) (value_fits v) fits).0).0 q)

    assign_starts : (x : Assign) (r : List Lexeme) → Passes assign_fine x → has_item (assign_text x ++ r) ≡ true
    unfolding has_item reserved is_identifier
    assign_starts x r fits = ap not (assign_word x (codes "END") r fits refl refl)

    assign_ends : (x : Assign) (r : List Lexeme) → Passes assign_fine x → EndsType (assign_text x ++ r)
    unfolding assign_tokens
    assign_ends (assign.TypeIs name t) r fits = word_ends _ _
    assign_ends (assign.ValueIs name t v) r fits = word_ends _ _

    assign_some : (x : Assign) → Passes assign_fine x → 0 < length (assign_text x)
    unfolding assign_tokens
    assign_some (assign.TypeIs name t) fits = omega arith
    assign_some (assign.ValueIs name t v) fits = omega arith

    abbrev ended : List Lexeme → List Lexeme
    ended r = word (codes "END") ∷ r

    items_again : (xs : List Assign) (r : List Lexeme) → length (flat_map assign_text xs ++ ended r) ≤ limit → list_all assign_fine xs ≡ true → items_at inner (flat_map assign_text xs ++ ended r) ≡ Ok (xs, r)
    unfolding items_at has_item
    items_again xs r bound fits =
        then_again _ _ _ _ _ (many_again has_item (assign_at inner) assign_text (Passes assign_fine) EndsType limit assign_again assign_starts assign_ends assign_some xs (ended r) bound (pass_all assign_fine xs fits) (word_ends _ _) (ap not (sees_again _ _ _)))
        (then_again _ _ _ _ _ (expect_again _ _ _) refl)

    items_word : (xs : List Assign) (text : List ℕ) (r : List Lexeme) → list_all assign_fine xs ≡ true → is_reserved text ≡ true → is_identifier text ≡ false → bytes_eq (codes "END") text ≡ false → sees Word text (flat_map assign_text xs ++ ended r) ≡ false
    items_word [] text r fits p q n = sees_text _ _ _ _ n
    items_word (x ∷ xs) text r fits p q n = rw (append_assoc (assign_text x) (flat_map assign_text xs) (ended r)) (assign_word x text _ (and_parts (assign_fine x) (list_all assign_fine xs) fits).0 p q)

    abbrev imports_and : AsnModule → List Lexeme → List Lexeme
    imports_and x r = option_tokens imports_tokens x.imports ++ (flat_map assign_text x.items ++ ended r)

    abbrev head_of : AsnModule → ModuleHead
    head_of x = record { name = x.name; oid = x.oid; tags = x.tags }

    regroup : (n d c b end : Lexeme) (oid tags e i a r : List Lexeme) → (((((n ∷ (oid ++ d ∷ (tags ++ c ∷ b ∷ []))) ++ e) ++ i) ++ a) ++ end ∷ []) ++ r ≡ (n ∷ (oid ++ d ∷ tags)) ++ (c ∷ b ∷ (e ++ (i ++ (a ++ end ∷ r))))
    regroup n d c b end oid tags e i a r = simp append_assoc refl

    module_split : (x : AsnModule) (r : List Lexeme) → module_text x ++ r ≡ opening_tokens (head_of x) ++ (mark (codes "::=") ∷ word (codes "BEGIN") ∷ (option_tokens exports_tokens x.exports ++ imports_and x r))
    unfolding module_tokens head_tokens
    module_split x r = rw (items_text x.items) (regroup (word x.name) (word (codes "DEFINITIONS")) (mark (codes "::=")) (word (codes "BEGIN")) (word (codes "END")) (option_tokens oid_tokens x.oid) (option_tokens tagging_tokens x.tags) (option_tokens exports_tokens x.exports) (option_tokens imports_tokens x.imports) (flat_map assign_text x.items) r)

    no_exports : (o : Option (List Import)) (xs : List Assign) (r : List Lexeme) → list_all assign_fine xs ≡ true → sees Word (codes "EXPORTS") (option_tokens imports_tokens o ++ (flat_map assign_text xs ++ ended r)) ≡ false
    unfolding imports_tokens reserved is_identifier
    no_exports None xs r fits = items_word xs (codes "EXPORTS") r fits refl refl refl
    no_exports (Some is) xs r fits = sees_text _ _ _ _ refl

    no_imports : (xs : List Assign) (r : List Lexeme) → list_all assign_fine xs ≡ true → sees Word (codes "IMPORTS") (flat_map assign_text xs ++ ended r) ≡ false
    unfolding reserved is_identifier
    no_imports xs r fits = items_word xs (codes "IMPORTS") r fits refl refl refl

    module_again : (x : AsnModule) (r : List Lexeme) → length (module_text x ++ r) ≤ limit → Passes module_fine x → module_at inner (module_text x ++ r) ≡ Ok (x, r)
    unfolding module_at module_in with_items module_of
    module_again x r bound fits =
        let rest = flat_map assign_text x.items ++ ended r in
        let f = and_parts (((is_reference x.name && option_fits oid_fits x.oid) && option_fits exports_fit x.exports) && option_fits (list_all import_fits) x.imports) (list_all assign_fits (map assign_view x.items)) fits in
        let g = and_parts ((is_reference x.name && option_fits oid_fits x.oid) && option_fits exports_fit x.exports) (option_fits (list_all import_fits) x.imports) f.0 in
        let h = and_parts (is_reference x.name && option_fits oid_fits x.oid) (option_fits exports_fit x.exports) g.0 in
        let items : list_all assign_fine x.items ≡ true = sym (items_fine x.items) ∙ f.1 in
        let whole : length (opening_tokens (head_of x) ++ (mark (codes "::=") ∷ word (codes "BEGIN") ∷ (option_tokens exports_tokens x.exports ++ imports_and x r))) ≤ limit = subst (λ z. length z ≤ limit) (module_split x r) bound in
        let within : length rest ≤ limit = omega (arith, length-append (opening_tokens (head_of x)) (mark (codes "::=") ∷ word (codes "BEGIN") ∷ (option_tokens exports_tokens x.exports ++ imports_and x r)), length-append (option_tokens exports_tokens x.exports) (imports_and x r), length-append (option_tokens imports_tokens x.imports) rest) in
        rw (module_split x r)
        (then_again _ _ _ _ _ (head_again (head_of x) _ h.0)
        (then_again _ _ _ _ _ (expect_again _ _ _)
        (then_again _ _ _ _ _ (expect_again _ _ _)
        (then_again _ _ _ _ _ (exports_again x.exports (imports_and x r) h.1 (no_exports x.imports x.items r items))
        (then_again _ _ _ _ _ (imports_again x.imports rest g.1 (no_imports x.items r items))
        (then_again _ _ _ _ _ (items_again x.items r within items) refl))))))

    module_starts : (x : AsnModule) (r : List Lexeme) → Passes module_fine x → has_more (module_text x ++ r) ≡ true
    unfolding module_tokens head_tokens
    module_starts x r fits = refl

    module_some : (x : AsnModule) → Passes module_fine x → 0 < length (module_text x)
    unfolding module_tokens head_tokens
    module_some x fits = omega arith

    modules_from : (xs : List AsnModule) → length (flat_map module_text xs) ≤ limit → is_some xs ≡ true → list_all module_fine xs ≡ true → modules_in inner (flat_map module_text xs) ≡ Ok (record { modules = xs }, [])
    unfolding modules_in more_modules
    modules_from [] bound some fits = absurd cc
    modules_from (x ∷ xs) bound some fits =
        let f = and_parts (module_fine x) (list_all module_fine xs) fits in
        let e : flat_map module_text xs ++ [] ≡ flat_map module_text xs = append-nil (flat_map module_text xs) in
        let within : length (flat_map module_text xs ++ []) ≤ limit = omega (arith, ap length e, length-append (module_text x) (flat_map module_text xs)) in
        let more : many has_more (module_at inner) (flat_map module_text xs ++ []) ≡ Ok (xs, []) = many_again has_more (module_at inner) module_text (Passes module_fine) (λ _. Unit {0}) limit (λ x r b f _. module_again x r b f) module_starts (λ _ _ _. tt) module_some xs [] within (pass_all module_fine xs f.1) tt refl in
        then_again _ _ _ _ _ (module_again x (flat_map module_text xs) bound f.0)
        (then_again _ _ _ _ _ (ap (with_front (x ∷ [])) (subst (λ (z : List Lexeme). many has_more (module_at inner) z ≡ outcome xs []) e more)) refl)

-- ---- whole files

pub modules_at_found : (ts : List Lexeme) (t : AsnModules) (r : List Lexeme) → modules_at ts ≡ Ok (t, r) → Takes tokens_of IsProper ts t r
unfolding modules_at
modules_at_found ts t r e = modules_found (type_at (length ts)) (type_found (length ts)) ts t r e

-- each proper tree is read from its tokens
pub modules_at_again : (t : AsnModules) → IsProper t → modules_at (tokens_of t) ≡ Ok (t, [])
unfolding modules_at
modules_at_again t fits =
    let n = length (tokens_of t) in
    modules_from (type_at n) n (type_again n) t.modules (omega arith) fits.0 fits.1
