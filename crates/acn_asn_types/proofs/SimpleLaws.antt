-- Types without types in them: what their parser takes, and that it reads them again.
use Rattle.std.proofs.Common.{◌≡◌, ℕ, Bool, true, false, not, ◌&&◌, List, [], ◌∷◌, ◌++◌, length, Option, Some, None, refl, sym, ap, ◌∙◌, append_assoc, arith}
use Rattle.std.specs.Prelude.{codes, Ok}
use Rattle.std.specs.Cmp.Derive.{both_true}
use Rattle.std.specs.Str.{bytes_eq}
use Rattle.std.proofs.lemmas.Slice.Eq.{bytes_eq-Decides}
use Rattle.acn_lex.specs.declared.Kind.TheVariants.{Word, Mark}
use Rattle.acn_lex.specs.Lexeme.{Lexeme}
use Rattle.acn_cursor.specs.Steps.{Parser, given, and_then, ◌>>=◌, ◌>>◌, pure, token, sees, eat, expect}
use Rattle.acn_cursor.specs.Steps as steps
use Rattle.acn_lex.specs.Words.{is_reference, is_reserved, is_upper, reserved}
use Rattle.acn_cursor.proofs.Laws.{Takes, done, then_found, then_again, given_found, eat_again, eat_nothing, expect_found, expect_again, word_found, word_again, sees_text}
use Rattle.acn_asn_syntax.specs.declared.types.Named.{Named}
use Rattle.acn_asn_syntax.specs.declared.types.Item.{Item}
use Rattle.acn_asn_syntax.specs.declared.types.AsnBase.{AsnBase}
use Rattle.acn_asn_syntax.specs.declared.types.AsnBase.TheVariants as base
use Rattle.acn_asn_syntax.specs.Values.{word, mark, in_braces, with_commas, option_tokens, option_fits}
use Rattle.acn_asn_syntax.specs.Spelling.{named_tokens, named_fits, item_tokens, item_fits, ref_tokens}
use Rattle.acn_asn_syntax.specs.Trees.{base_tokens, base_fits, is_list}
use Rattle.acn_asn_syntax.proofs.TypeTokens as form
use Rattle.acn_asn_types.specs.Lists.{has_comma, listed}
use Rattle.acn_asn_types.specs.Bases.{named, item, named_if, integer_at, enumerated_at, dot_if, reference_at, enumerated_if, integer_if, number_base, bit_if, octet_if, string_base, characters_if, null_base_if, boolean_if, simple_base}
use Rattle.acn_asn_types.proofs.ValueLaws.{Passes, Found}
use Rattle.acn_asn_types.proofs.ListLaws.{some_fit, listed_found, listed_again}
use Rattle.acn_asn_types.proofs.BaseLaws.{named_found, named_again, item_found, item_again}
use Rattle.std.proofs.lemmas.Bool.{and_parts}

-- a proper base that is not SEQUENCE OF
unfoldable pub plain_fits : AsnBase → Bool
plain_fits b = base_fits b && not (is_list b)

abbrev pub TakesBase : List Lexeme → AsnBase → List Lexeme → Type 0
TakesBase = Takes base_tokens (Passes plain_fits)

pub plain_by : (b : AsnBase) → base_fits b ≡ true → is_list b ≡ false → plain_fits b ≡ true
unfolding plain_fits
plain_by b f l = both_true f (ap not l)

pub fits_by : (b : AsnBase) → plain_fits b ≡ true → base_fits b ≡ true
unfolding plain_fits
fits_by b f = (and_parts (base_fits b) (not (is_list b)) f).0

-- ---- found

named_if_found : (b : Bool) (ts ts' m : List Lexeme) (x : AsnBase) (r : List Lexeme) → ts ≡ word (codes "INTEGER") ∷ ts' → ts' ≡ given b (mark (codes "{")) ++ m → named_if b m ≡ Ok (x, r) → TakesBase ts x r
named_if_found true ts ts' m x r p q e =
    then_found (listed named m) _ _ e (λ ns m1 e1 h.
    then_found (expect Mark (codes "}") m1) _ _ h (λ _ m2 e2 h.
    let a = listed_found named named_tokens named_fits named_found _ _ _ e1 in
    let b = expect_found _ _ _ _ _ e2 in
    let spelled : ts ≡ (word (codes "INTEGER") ∷ in_braces (with_commas named_tokens ns)) ++ m2 = simp append_assoc (cc (p, q, a.parts, b)) in
    let parts : ts ≡ base_tokens (base.Integer (Some ns)) ++ m2 = rw (form.tokens_Integer (Some ns)) spelled in
    done (base.Integer (Some ns)) m2 _ _ h parts (plain_by (base.Integer (Some ns)) (form.fits_Integer (Some ns) ∙ a.fits) (form.list_Integer (Some ns)))))
named_if_found false ts ts' m x r p q e =
    let parts : ts ≡ base_tokens (base.Integer None) ++ m = rw (form.tokens_Integer None) (cc (p, q)) in
    done (base.Integer None) m _ _ e parts (plain_by (base.Integer None) (form.fits_Integer None) (form.list_Integer None))

integer_found : (ts m : List Lexeme) (x : AsnBase) (r : List Lexeme) → ts ≡ word (codes "INTEGER") ∷ m → integer_at m ≡ Ok (x, r) → TakesBase ts x r
unfolding integer_at
integer_found ts m x r p e = then_found (eat Mark (codes "{") m) _ _ e (λ b m' e1 h. named_if_found b ts m m' x r p (given_found _ _ _ _ _ e1) h)

enumerated_found : (ts m : List Lexeme) (x : AsnBase) (r : List Lexeme) → ts ≡ word (codes "ENUMERATED") ∷ m → enumerated_at m ≡ Ok (x, r) → TakesBase ts x r
unfolding enumerated_at
enumerated_found ts m x r p e =
    then_found (expect Mark (codes "{") m) _ _ e (λ _ m1 e1 h.
    then_found (listed item m1) _ _ h (λ items m2 e2 h.
    then_found (expect Mark (codes "}") m2) _ _ h (λ _ m3 e3 h.
    let a = expect_found _ _ _ _ _ e1 in
    let b = listed_found item item_tokens item_fits item_found _ _ _ e2 in
    let c = expect_found _ _ _ _ _ e3 in
    let spelled : ts ≡ (word (codes "ENUMERATED") ∷ in_braces (with_commas item_tokens items)) ++ m3 = simp append_assoc (cc (p, a, b.parts, c)) in
    let parts : ts ≡ base_tokens (base.Enumerated items) ++ m3 = rw (form.tokens_Enumerated items) spelled in
    done (base.Enumerated items) m3 _ _ h parts (plain_by (base.Enumerated items) (form.fits_Enumerated items ∙ b.fits) (form.list_Enumerated items)))))

dot_found : (first : List ℕ) (b : Bool) (ts ts' m : List Lexeme) (x : AsnBase) (r : List Lexeme) → is_reference first ≡ true → ts ≡ word first ∷ ts' → ts' ≡ given b (mark (codes ".")) ++ m → dot_if first b m ≡ Ok (x, r) → TakesBase ts x r
unfolding ref_tokens
dot_found first true ts ts' m x r f p q e =
    then_found (steps.word is_reference m) _ _ e (λ name m1 e1 h.
    let a = word_found _ _ _ _ e1 in
    let parts : ts ≡ base_tokens (base.Ref (Some first) name) ++ m1 = rw (form.tokens_Ref (Some first) name) (cc (p, q, a.0)) in
    done (base.Ref (Some first) name) m1 _ _ h parts (plain_by (base.Ref (Some first) name) (form.fits_Ref (Some first) name ∙ both_true f a.1) (form.list_Ref (Some first) name)))
dot_found first false ts ts' m x r f p q e =
    let parts : ts ≡ base_tokens (base.Ref None first) ++ m = rw (form.tokens_Ref None first) (cc (p, q)) in
    done (base.Ref None first) m _ _ e parts (plain_by (base.Ref None first) (form.fits_Ref None first ∙ f) (form.list_Ref None first))

reference_found : (ts : List Lexeme) (x : AsnBase) (r : List Lexeme) → reference_at ts ≡ Ok (x, r) → TakesBase ts x r
unfolding reference_at
reference_found ts x r e =
    then_found (steps.word is_reference ts) _ _ e (λ first m1 e1 h.
    then_found (eat Mark (codes ".") m1) _ _ h (λ b m2 e2 h.
    let a = word_found _ _ _ _ e1 in
    dot_found first b ts m1 m2 x r a.1 a.0 (given_found _ _ _ _ _ e2) h))

enumerated_if_found : (b : Bool) (ts m : List Lexeme) (x : AsnBase) (r : List Lexeme) → ts ≡ given b (word (codes "ENUMERATED")) ++ m → enumerated_if b m ≡ Ok (x, r) → TakesBase ts x r
enumerated_if_found true ts m x r p e = enumerated_found ts m x r p e
enumerated_if_found false ts m x r p e = rw p (reference_found m x r e)

integer_if_found : (b : Bool) (ts m : List Lexeme) (x : AsnBase) (r : List Lexeme) → ts ≡ given b (word (codes "INTEGER")) ++ m → integer_if b m ≡ Ok (x, r) → TakesBase ts x r
integer_if_found true ts m x r p e = integer_found ts m x r p e
integer_if_found false ts m x r p e = then_found (eat Word (codes "ENUMERATED") m) _ _ e (λ b m' e1 h. rw p (enumerated_if_found b m m' x r (given_found _ _ _ _ _ e1) h))

number_found : (ts : List Lexeme) (x : AsnBase) (r : List Lexeme) → number_base ts ≡ Ok (x, r) → TakesBase ts x r
unfolding number_base
number_found ts x r e = then_found (eat Word (codes "INTEGER") ts) _ _ e (λ b m e1 h. integer_if_found b ts m x r (given_found _ _ _ _ _ e1) h)

bit_found : (b : Bool) (ts m : List Lexeme) (x : AsnBase) (r : List Lexeme) → ts ≡ given b (word (codes "BIT")) ++ m → bit_if b m ≡ Ok (x, r) → TakesBase ts x r
bit_found true ts m x r p e =
    then_found (expect Word (codes "STRING") m) _ _ e (λ _ m1 e1 h.
    let a = expect_found _ _ _ _ _ e1 in
    let parts : ts ≡ base_tokens base.BitString ++ m1 = rw form.tokens_BitString (cc (p, a)) in
    done base.BitString m1 _ _ h parts (plain_by base.BitString form.fits_BitString form.list_BitString))
bit_found false ts m x r p e = rw p (number_found m x r e)

octet_found : (b : Bool) (ts m : List Lexeme) (x : AsnBase) (r : List Lexeme) → ts ≡ given b (word (codes "OCTET")) ++ m → octet_if b m ≡ Ok (x, r) → TakesBase ts x r
octet_found true ts m x r p e =
    then_found (expect Word (codes "STRING") m) _ _ e (λ _ m1 e1 h.
    let a = expect_found _ _ _ _ _ e1 in
    let parts : ts ≡ base_tokens base.OctetString ++ m1 = rw form.tokens_OctetString (cc (p, a)) in
    done base.OctetString m1 _ _ h parts (plain_by base.OctetString form.fits_OctetString form.list_OctetString))
octet_found false ts m x r p e = then_found (eat Word (codes "BIT") m) _ _ e (λ b m' e1 h. rw p (bit_found b m m' x r (given_found _ _ _ _ _ e1) h))

string_found : (ts : List Lexeme) (x : AsnBase) (r : List Lexeme) → string_base ts ≡ Ok (x, r) → TakesBase ts x r
unfolding string_base
string_found ts x r e = then_found (eat Word (codes "OCTET") ts) _ _ e (λ b m e1 h. octet_found b ts m x r (given_found _ _ _ _ _ e1) h)

characters_found : (b : Bool) (ts m : List Lexeme) (x : AsnBase) (r : List Lexeme) → ts ≡ given b (word (codes "IA5String")) ++ m → characters_if b m ≡ Ok (x, r) → TakesBase ts x r
characters_found true ts m x r p e =
    let parts : ts ≡ base_tokens base.Ia5String ++ m = rw form.tokens_Ia5String p in
    done base.Ia5String m _ _ e parts (plain_by base.Ia5String form.fits_Ia5String form.list_Ia5String)
characters_found false ts m x r p e = rw p (string_found m x r e)

null_found : (b : Bool) (ts m : List Lexeme) (x : AsnBase) (r : List Lexeme) → ts ≡ given b (word (codes "NULL")) ++ m → null_base_if b m ≡ Ok (x, r) → TakesBase ts x r
null_found true ts m x r p e =
    let parts : ts ≡ base_tokens base.Null ++ m = rw form.tokens_Null p in
    done base.Null m _ _ e parts (plain_by base.Null form.fits_Null form.list_Null)
null_found false ts m x r p e = then_found (eat Word (codes "IA5String") m) _ _ e (λ b m' e1 h. rw p (characters_found b m m' x r (given_found _ _ _ _ _ e1) h))

boolean_found : (b : Bool) (ts m : List Lexeme) (x : AsnBase) (r : List Lexeme) → ts ≡ given b (word (codes "BOOLEAN")) ++ m → boolean_if b m ≡ Ok (x, r) → TakesBase ts x r
boolean_found true ts m x r p e =
    let parts : ts ≡ base_tokens base.Boolean ++ m = rw form.tokens_Boolean p in
    done base.Boolean m _ _ e parts (plain_by base.Boolean form.fits_Boolean form.list_Boolean)
boolean_found false ts m x r p e = then_found (eat Word (codes "NULL") m) _ _ e (λ b m' e1 h. rw p (null_found b m m' x r (given_found _ _ _ _ _ e1) h))

pub simple_found : Found simple_base base_tokens plain_fits
unfolding simple_base
simple_found ts x r e = then_found (eat Word (codes "BOOLEAN") ts) _ _ e (λ b m e1 h. boolean_found b ts m x r (given_found _ _ _ _ _ e1) h)

-- ---- again

-- behind a base
pub record EndsBase (r : List Lexeme) : Type 0 where
  pub brace : sees Mark (codes "{") r ≡ false
  pub dot : sees Mark (codes ".") r ≡ false

-- a reference is no reserved word
pub not_reserved : (name text : List ℕ) → is_reference name ≡ true → is_reserved text ≡ true → bytes_eq name text ≡ false
unfolding is_reference
not_reserved name text p q = by_test (bytes_eq name text) refl
  where
    by_test : (b : Bool) → bytes_eq name text ≡ b → b ≡ false
    by_test true e =
        let k : name ≡ text = (bytes_eq-Decides name text).0 e in
        let f = and_parts (is_upper name) (not (is_reserved name)) p in
        let z : is_reserved name ≡ true = ap is_reserved k ∙ q in
        let w : not (is_reserved name) ≡ false = ap not z in
        absurd (cc (f.1, w))
    by_test false e = refl

abbrev closing_brace : List Lexeme → List Lexeme
closing_brace r = mark (codes "}") ∷ r

named_list : (ns : List Named) (r : List Lexeme) → some_fit named_fits ns ≡ true → listed named (with_commas named_tokens ns ++ closing_brace r) ≡ Ok (ns, closing_brace r)
unfolding has_comma
named_list [] r fits = absurd cc
named_list (n ∷ ns) r fits = listed_again named named_tokens named_fits (λ _. Unit {0}) (length (with_commas named_tokens (n ∷ ns) ++ closing_brace r)) (λ x r _ f _. named_again x r f) (λ _. tt) n ns (closing_brace r) (omega arith) fits tt (sees_text _ _ _ _ refl)

item_list : (ns : List Item) (r : List Lexeme) → some_fit item_fits ns ≡ true → listed item (with_commas item_tokens ns ++ closing_brace r) ≡ Ok (ns, closing_brace r)
unfolding has_comma
item_list [] r fits = absurd cc
item_list (n ∷ ns) r fits = listed_again item item_tokens item_fits (λ r. sees Mark (codes "(") r ≡ false) (length (with_commas item_tokens (n ∷ ns) ++ closing_brace r)) (λ x r _ f e. item_again x r f e) (λ _. sees_text _ _ _ _ refl) n ns (closing_brace r) (omega arith) fits (sees_text _ _ _ _ refl) (sees_text _ _ _ _ refl)

integer_again : (o : Option (List Named)) (r : List Lexeme) → option_fits (some_fit named_fits) o ≡ true → EndsBase r → integer_at (option_tokens (λ ns. in_braces (with_commas named_tokens ns)) o ++ r) ≡ Ok (base.Integer o, r)
unfolding integer_at
integer_again None r fits ends = then_again _ _ _ _ _ (eat_nothing _ _ _ ends.brace) refl
integer_again (Some ns) r fits ends =
    simp append_assoc
    (then_again _ _ _ _ _ (eat_again _ _ _)
    (then_again _ _ _ _ _ (named_list ns r fits)
    (then_again _ _ _ _ _ (expect_again _ _ _) refl)))

enumerated_again : (items : List Item) (r : List Lexeme) → some_fit item_fits items ≡ true → enumerated_at (in_braces (with_commas item_tokens items) ++ r) ≡ Ok (base.Enumerated items, r)
unfolding enumerated_at
enumerated_again items r fits =
    simp append_assoc
    (then_again _ _ _ _ _ (expect_again _ _ _)
    (then_again _ _ _ _ _ (item_list items r fits)
    (then_again _ _ _ _ _ (expect_again _ _ _) refl)))

reference_again : (from : Option (List ℕ)) (name : List ℕ) (r : List Lexeme) → option_fits is_reference from ≡ true → is_reference name ≡ true → EndsBase r → reference_at (ref_tokens from name ++ r) ≡ Ok (base.Ref from name, r)
unfolding reference_at ref_tokens
reference_again None name r f g ends =
    then_again _ _ _ _ _ (word_again _ name _ g)
    (then_again _ _ _ _ _ (eat_nothing _ _ _ ends.dot) refl)
reference_again (Some from) name r f g ends =
    then_again _ _ _ _ _ (word_again _ from _ f)
    (then_again _ _ _ _ _ (eat_again _ _ _)
    (then_again _ _ _ _ _ (word_again _ name _ g) refl))

pub again_Boolean : (r : List Lexeme) → simple_base (base_tokens base.Boolean ++ r) ≡ Ok (base.Boolean, r)
unfolding simple_base string_base number_base
again_Boolean r = rw form.tokens_Boolean (then_again _ _ _ _ _ (eat_again _ _ _) refl)

pub again_Null : (r : List Lexeme) → simple_base (base_tokens base.Null ++ r) ≡ Ok (base.Null, r)
unfolding simple_base string_base number_base
again_Null r = rw form.tokens_Null (then_again _ _ _ _ _ (eat_nothing _ _ _ (sees_text _ _ _ _ refl)) (then_again _ _ _ _ _ (eat_again _ _ _) refl))

pub again_Ia5String : (r : List Lexeme) → simple_base (base_tokens base.Ia5String ++ r) ≡ Ok (base.Ia5String, r)
unfolding simple_base string_base number_base
again_Ia5String r = rw form.tokens_Ia5String (then_again _ _ _ _ _ (eat_nothing _ _ _ (sees_text _ _ _ _ refl)) (then_again _ _ _ _ _ (eat_nothing _ _ _ (sees_text _ _ _ _ refl)) (then_again _ _ _ _ _ (eat_again _ _ _) refl)))

pub again_OctetString : (r : List Lexeme) → simple_base (base_tokens base.OctetString ++ r) ≡ Ok (base.OctetString, r)
unfolding simple_base string_base number_base
again_OctetString r = rw form.tokens_OctetString (then_again _ _ _ _ _ (eat_nothing _ _ _ (sees_text _ _ _ _ refl)) (then_again _ _ _ _ _ (eat_nothing _ _ _ (sees_text _ _ _ _ refl)) (then_again _ _ _ _ _ (eat_nothing _ _ _ (sees_text _ _ _ _ refl)) (then_again _ _ _ _ _ (eat_again _ _ _) (then_again _ _ _ _ _ (expect_again _ _ _) refl)))))

pub again_BitString : (r : List Lexeme) → simple_base (base_tokens base.BitString ++ r) ≡ Ok (base.BitString, r)
unfolding simple_base string_base number_base
again_BitString r = rw form.tokens_BitString (then_again _ _ _ _ _ (eat_nothing _ _ _ (sees_text _ _ _ _ refl)) (then_again _ _ _ _ _ (eat_nothing _ _ _ (sees_text _ _ _ _ refl)) (then_again _ _ _ _ _ (eat_nothing _ _ _ (sees_text _ _ _ _ refl)) (then_again _ _ _ _ _ (eat_nothing _ _ _ (sees_text _ _ _ _ refl)) (then_again _ _ _ _ _ (eat_again _ _ _) (then_again _ _ _ _ _ (expect_again _ _ _) refl))))))

pub again_Integer : (o : Option (List Named)) (r : List Lexeme) → plain_fits (base.Integer o) ≡ true → EndsBase r → simple_base (base_tokens (base.Integer o) ++ r) ≡ Ok (base.Integer o, r)
unfolding simple_base string_base number_base
again_Integer o r fits ends = rw form.tokens_Integer (then_again _ _ _ _ _ (eat_nothing _ _ _ (sees_text _ _ _ _ refl)) (then_again _ _ _ _ _ (eat_nothing _ _ _ (sees_text _ _ _ _ refl)) (then_again _ _ _ _ _ (eat_nothing _ _ _ (sees_text _ _ _ _ refl)) (then_again _ _ _ _ _ (eat_nothing _ _ _ (sees_text _ _ _ _ refl)) (then_again _ _ _ _ _ (eat_nothing _ _ _ (sees_text _ _ _ _ refl)) (then_again _ _ _ _ _ (eat_again _ _ _) (integer_again o r (sym (form.fits_Integer o) ∙ fits_by _ fits) ends)))))))

pub again_Enumerated : (items : List Item) (r : List Lexeme) → plain_fits (base.Enumerated items) ≡ true → simple_base (base_tokens (base.Enumerated items) ++ r) ≡ Ok (base.Enumerated items, r)
unfolding simple_base string_base number_base
again_Enumerated items r fits = rw form.tokens_Enumerated (then_again _ _ _ _ _ (eat_nothing _ _ _ (sees_text _ _ _ _ refl)) (then_again _ _ _ _ _ (eat_nothing _ _ _ (sees_text _ _ _ _ refl)) (then_again _ _ _ _ _ (eat_nothing _ _ _ (sees_text _ _ _ _ refl)) (then_again _ _ _ _ _ (eat_nothing _ _ _ (sees_text _ _ _ _ refl)) (then_again _ _ _ _ _ (eat_nothing _ _ _ (sees_text _ _ _ _ refl)) (then_again _ _ _ _ _ (eat_nothing _ _ _ (sees_text _ _ _ _ refl)) (then_again _ _ _ _ _ (eat_again _ _ _) (enumerated_again items r (sym (form.fits_Enumerated items) ∙ fits_by _ fits)))))))))

-- a reference does not begin with a reserved word
pub ref_word : (from : Option (List ℕ)) (name text : List ℕ) (r : List Lexeme) → option_fits is_reference from ≡ true → is_reference name ≡ true → is_reserved text ≡ true → sees Word text (ref_tokens from name ++ r) ≡ false
unfolding ref_tokens
ref_word None name text r f g k = sees_text _ _ _ _ (not_reserved name text g k)
ref_word (Some from) name text r f g k = sees_text _ _ _ _ (not_reserved from text f k)

pub again_Ref : (from : Option (List ℕ)) (name : List ℕ) (r : List Lexeme) → plain_fits (base.Ref from name) ≡ true → EndsBase r → simple_base (base_tokens (base.Ref from name) ++ r) ≡ Ok (base.Ref from name, r)
unfolding simple_base string_base number_base reserved
again_Ref from name r fits ends =
    let f = and_parts (option_fits is_reference from) (is_reference name) (sym (form.fits_Ref from name) ∙ fits_by _ fits) in
    rw form.tokens_Ref (then_again _ _ _ _ _ (eat_nothing _ _ _ (ref_word from name (codes "BOOLEAN") r f.0 f.1 refl)) (then_again _ _ _ _ _ (eat_nothing _ _ _ (ref_word from name (codes "NULL") r f.0 f.1 refl)) (then_again _ _ _ _ _ (eat_nothing _ _ _ (ref_word from name (codes "IA5String") r f.0 f.1 refl)) (then_again _ _ _ _ _ (eat_nothing _ _ _ (ref_word from name (codes "OCTET") r f.0 f.1 refl)) (then_again _ _ _ _ _ (eat_nothing _ _ _ (ref_word from name (codes "BIT") r f.0 f.1 refl)) (then_again _ _ _ _ _ (eat_nothing _ _ _ (ref_word from name (codes "INTEGER") r f.0 f.1 refl)) (then_again _ _ _ _ _ (eat_nothing _ _ _ (ref_word from name (codes "ENUMERATED") r f.0 f.1 refl)) (reference_again from name r f.0 f.1 ends))))))))
