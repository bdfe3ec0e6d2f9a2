-- The parser of values takes the tokens of a proper value, and reads each proper value from its tokens.
use Rattle.std.proofs.Common.{◌≡◌, ℕ, ◌^◌, Bool, true, false, cond, List, [], ◌∷◌, ◌++◌, Option, Some, None, refl, ap, ◌∙◌, append_assoc}
use Rattle.std.specs.Prelude.{codes, Ok}
use Rattle.std.specs.Fmt.{decimal}
use Rattle.std.specs.Str.{bytes_eq}
use Rattle.std.proofs.lemmas.Bool.{lt-ltb, ltb-true}
use Rattle.std.proofs.lemmas.Slice.Eq.{bytes_eq-Decides}
use Rattle.acn_lex.specs.declared.Kind.{Kind}
use Rattle.acn_lex.specs.declared.Kind.TheVariants.{Word, Number, Bits, Hex, Text, Mark}
use Rattle.acn_lex.specs.Lexeme.{Lexeme, same_kind}
use Rattle.acn_cursor.specs.Steps.{Parser, given, and_then, ◌>>=◌, ◌>>◌, pure, token, sees, behind, eat, expect, text_of, taken_if, number}
use Rattle.acn_cursor.specs.Steps as steps
use Rattle.acn_lex.specs.Words.{is_identifier}
use Rattle.acn_cursor.proofs.Laws.{Takes, done, then_found, then_again, given_found, given_again, eat_again, eat_nothing, word_found, word_again, number_found, number_again, text_of_found, text_of_again, sees_kind, sees_text, outcome_is, ap2}
use Rattle.acn_asn_syntax.specs.declared.values.AsnValue.{AsnValue}
use Rattle.acn_asn_syntax.specs.declared.values.AsnValue.TheVariants as value
use Rattle.acn_asn_syntax.specs.Values.{mark, signed_tokens, number_fits, value_tokens, value_fits}
use Rattle.acn_asn_types.specs.Values.{signed, signed_value, named_value, has, literal, bits_value, hex_value, text_value, other_value, null_if, false_if, true_if, value_at}

abbrev pub Passes : {A : Type 0} → (A → Bool) → A → Type 0
Passes test x = test x ≡ true

abbrev pub Found : {A : Type 0} → Parser A → (A → List Lexeme) → (A → Bool) → Type 0
Found {A} p tokens test = (ts : List Lexeme) (x : A) (r : List Lexeme) → p ts ≡ Ok (x, r) → Takes tokens (Passes test) ts x r

-- ---- found

pub signed_found : Found signed (λ n. signed_tokens n.0 n.1) (λ n. number_fits n.1)
unfolding signed signed_tokens
signed_found ts v r e =
    then_found (eat Mark (codes "-") ts) _ _ e (λ negative m e1 h.
    then_found (number m) _ _ h (λ n m' e2 h.
    let a = given_found _ _ _ _ _ e1 in
    let b = number_found _ _ _ e2 in
    let parts : ts ≡ signed_tokens negative n ++ m' = simp append_assoc (cc (a, b.0)) in
    done (negative, n) m' _ _ h parts (lt-ltb n (2 ^ 64) b.1)))

signed_value_found : Found signed_value value_tokens value_fits
unfolding signed_value value_tokens
signed_value_found ts v r e =
    then_found (signed ts) _ _ e (λ n m e1 h.
    let a = signed_found _ _ _ e1 in
    done (value.Number n.0 n.1) m _ _ h a.parts a.fits)

named_found : Found named_value value_tokens value_fits
unfolding named_value value_tokens
named_found ts v r e =
    then_found (steps.word is_identifier ts) _ _ e (λ name m e1 h.
    let a = word_found _ _ _ _ e1 in
    let parts : ts ≡ value_tokens (value.Ref name) ++ m = a.0 in
    done _ _ _ _ h parts a.1)

pub literal_found : (k : Kind) (ts : List Lexeme) (x : List ℕ) (r : List Lexeme) → literal k ts ≡ Ok (x, r) → ts ≡ token k x ∷ r
unfolding literal
literal_found k ts x r e = by_text (text_of k ts) refl e
  where
    by_text : (o : Option (List ℕ)) → text_of k ts ≡ o → taken_if o ts ≡ Ok (x, r) → ts ≡ token k x ∷ r
    by_text None h e = absurd cc
    by_text (Some a) h e = let k' = outcome_is (a, behind ts) (x, r) e in text_of_found k ts a h ∙ ap2 (λ (a : List ℕ) (b : List Lexeme). token k a ∷ b) k'.0 k'.1

bits_found : Found bits_value value_tokens value_fits
unfolding bits_value value_tokens
bits_found ts v r e =
    then_found (literal Bits ts) _ _ e (λ text m e1 h.
    let parts : ts ≡ value_tokens (value.Bits text) ++ m = literal_found _ _ _ _ e1 in
    done (value.Bits text) m _ _ h parts refl)

hex_found : Found hex_value value_tokens value_fits
unfolding hex_value value_tokens
hex_found ts v r e =
    then_found (literal Hex ts) _ _ e (λ text m e1 h.
    let parts : ts ≡ value_tokens (value.Hex text) ++ m = literal_found _ _ _ _ e1 in
    done (value.Hex text) m _ _ h parts refl)

text_found : Found text_value value_tokens value_fits
unfolding text_value value_tokens
text_found ts v r e =
    then_found (literal Text ts) _ _ e (λ text m e1 h.
    let parts : ts ≡ value_tokens (value.Text text) ++ m = literal_found _ _ _ _ e1 in
    done (value.Text text) m _ _ h parts refl)

other_found : Found other_value value_tokens value_fits
unfolding other_value
other_found ts v r e = by_bits (has Bits ts) e
  where
    by_text : (b : Bool) → cond b (text_value ts) (signed_value ts) ≡ Ok (v, r) → Takes value_tokens (Passes value_fits) ts v r
    by_text true e = text_found ts v r e
    by_text false e = signed_value_found ts v r e

    by_hex : (b : Bool) → cond b (hex_value ts) (cond (has Text ts) (text_value ts) (signed_value ts)) ≡ Ok (v, r) → Takes value_tokens (Passes value_fits) ts v r
    by_hex true e = hex_found ts v r e
    by_hex false e = by_text (has Text ts) e

    by_bits : (b : Bool) → cond b (bits_value ts) (cond (has Hex ts) (hex_value ts) (cond (has Text ts) (text_value ts) (signed_value ts))) ≡ Ok (v, r) → Takes value_tokens (Passes value_fits) ts v r
    by_bits true e = bits_found ts v r e
    by_bits false e = by_hex (has Hex ts) e

null_found : (b : Bool) (ts m : List Lexeme) (v : AsnValue) (r : List Lexeme) → ts ≡ given b (token Word (codes "NULL")) ++ m → null_if b m ≡ Ok (v, r) → Takes value_tokens (Passes value_fits) ts v r
unfolding value_tokens
null_found true ts m v r p e = done _ _ _ _ e p refl
null_found false ts m v r p e = by_kind (has Word m) e
  where
    by_kind : (b : Bool) → cond b (named_value m) (other_value m) ≡ Ok (v, r) → Takes value_tokens (Passes value_fits) ts v r
    by_kind true e = rw p (named_found m v r e)
    by_kind false e = rw p (other_found m v r e)

false_found : (b : Bool) (ts m : List Lexeme) (v : AsnValue) (r : List Lexeme) → ts ≡ given b (token Word (codes "FALSE")) ++ m → false_if b m ≡ Ok (v, r) → Takes value_tokens (Passes value_fits) ts v r
unfolding value_tokens
false_found true ts m v r p e = done _ _ _ _ e p refl
false_found false ts m v r p e = then_found (eat Word (codes "NULL") m) _ _ e (λ b m' e1 h. rw p (null_found b m m' v r (given_found _ _ _ _ _ e1) h))

true_found : (b : Bool) (ts m : List Lexeme) (v : AsnValue) (r : List Lexeme) → ts ≡ given b (token Word (codes "TRUE")) ++ m → true_if b m ≡ Ok (v, r) → Takes value_tokens (Passes value_fits) ts v r
unfolding value_tokens
true_found true ts m v r p e = done _ _ _ _ e p refl
true_found false ts m v r p e = then_found (eat Word (codes "FALSE") m) _ _ e (λ b m' e1 h. rw p (false_found b m m' v r (given_found _ _ _ _ _ e1) h))

pub value_found : Found value_at value_tokens value_fits
unfolding value_at
value_found ts v r e = then_found (eat Word (codes "TRUE") ts) _ _ e (λ b m e1 h. true_found b ts m v r (given_found _ _ _ _ _ e1) h)

-- ---- what a value does not begin with

pub not_same : (name text : List ℕ) → is_identifier name ≡ true → is_identifier text ≡ false → bytes_eq name text ≡ false
not_same name text p q = by_test (bytes_eq name text) refl
  where
    by_test : (b : Bool) → bytes_eq name text ≡ b → b ≡ false
    by_test true e = let k : name ≡ text = (bytes_eq-Decides name text).0 e in let z : is_identifier name ≡ is_identifier text = ap is_identifier k in cc
    by_test false e = refl

-- a word that a value does not begin with
pub record IsOther (text : List ℕ) : Type 0 where
  pub is_upper : is_identifier text ≡ false
  pub is_not_true : bytes_eq (codes "TRUE") text ≡ false
  pub is_not_false : bytes_eq (codes "FALSE") text ≡ false
  pub is_not_null : bytes_eq (codes "NULL") text ≡ false

signed_first : (b : Bool) (n : ℕ) (text : List ℕ) (r : List Lexeme) → sees Word text (given b (mark (codes "-")) ++ token Number (decimal n) ∷ r) ≡ false
unfolding same_kind
signed_first true n text r = sees_kind _ _ _ _ _ refl
signed_first false n text r = sees_kind _ _ _ _ _ refl

pub value_word : (v : AsnValue) (text : List ℕ) (r : List Lexeme) → Passes value_fits v → IsOther text → sees Word text (value_tokens v ++ r) ≡ false
unfolding value_tokens signed_tokens same_kind
value_word (value.Number b n) text r fits h = simp append_assoc (signed_first b n text r)
value_word value.True text r fits h = sees_text _ _ _ _ h.is_not_true
value_word value.False text r fits h = sees_text _ _ _ _ h.is_not_false
value_word value.Null text r fits h = sees_text _ _ _ _ h.is_not_null
value_word (value.Ref name) text r fits h = sees_text _ _ _ _ (not_same name text fits h.is_upper)
value_word (value.Bits t) text r fits h = sees_kind _ _ _ _ _ refl
value_word (value.Hex t) text r fits h = sees_kind _ _ _ _ _ refl
value_word (value.Text t) text r fits h = sees_kind _ _ _ _ _ refl

signed_mark : (b : Bool) (n : ℕ) (text : List ℕ) (r : List Lexeme) → bytes_eq (codes "-") text ≡ false → sees Mark text (given b (mark (codes "-")) ++ token Number (decimal n) ∷ r) ≡ false
unfolding same_kind
signed_mark true n text r h = sees_text _ _ _ _ h
signed_mark false n text r h = sees_kind _ _ _ _ _ refl

pub value_mark : (v : AsnValue) (text : List ℕ) (r : List Lexeme) → bytes_eq (codes "-") text ≡ false → sees Mark text (value_tokens v ++ r) ≡ false
unfolding value_tokens signed_tokens same_kind
value_mark (value.Number b n) text r h = simp append_assoc (signed_mark b n text r h)
value_mark value.True text r h = sees_kind _ _ _ _ _ refl
value_mark value.False text r h = sees_kind _ _ _ _ _ refl
value_mark value.Null text r h = sees_kind _ _ _ _ _ refl
value_mark (value.Ref name) text r h = sees_kind _ _ _ _ _ refl
value_mark (value.Bits t) text r h = sees_kind _ _ _ _ _ refl
value_mark (value.Hex t) text r h = sees_kind _ _ _ _ _ refl
value_mark (value.Text t) text r h = sees_kind _ _ _ _ _ refl

-- ---- again

pub signed_again : (b : Bool) (n : ℕ) (r : List Lexeme) → number_fits n ≡ true → signed (signed_tokens b n ++ r) ≡ Ok ((b, n), r)
unfolding signed signed_tokens same_kind
signed_again b n r fits =
    simp append_assoc
    (then_again _ _ _ _ _ (given_again _ _ b _ (sees_kind _ _ _ _ _ refl))
    (then_again _ _ _ _ _ (number_again n r (ltb-true n (2 ^ 64) fits)) refl))

signed_has : (k : Kind) (b : Bool) (n : ℕ) (r : List Lexeme) → same_kind Mark k ≡ false → same_kind Number k ≡ false → has k (signed_tokens b n ++ r) ≡ false
unfolding has text_of signed_tokens
signed_has k true n r p q = rw p refl
signed_has k false n r p q = rw q refl

pub literal_again : (k : Kind) (text : List ℕ) (r : List Lexeme) → literal k (token k text ∷ r) ≡ Ok (text, r)
unfolding literal
literal_again k text r = rw (text_of_again k text r) refl

other_again : (v : AsnValue) (r : List Lexeme) → Passes value_fits v → has Word (value_tokens v ++ r) ≡ false → other_value (value_tokens v ++ r) ≡ Ok (v, r)
unfolding other_value value_tokens signed_value bits_value hex_value text_value same_kind has text_of
other_again (value.Number b n) r fits w =
    rw (signed_has Bits b n r refl refl, signed_has Hex b n r refl refl, signed_has Text b n r refl refl)
    (then_again _ _ _ _ _ (signed_again b n r fits) refl)
other_again (value.Bits t) r fits w = then_again _ _ _ _ _ (literal_again Bits t r) refl
other_again (value.Hex t) r fits w = then_again _ _ _ _ _ (literal_again Hex t r) refl
other_again (value.Text t) r fits w = then_again _ _ _ _ _ (literal_again Text t r) refl
other_again value.True r fits w = absurd cc
other_again value.False r fits w = absurd cc
other_again value.Null r fits w = absurd cc
other_again (value.Ref t) r fits w = absurd cc

-- behind the three words
module _ (v : AsnValue) (r : List Lexeme) (fits : Passes value_fits v) (is_true : sees Word (codes "TRUE") (value_tokens v ++ r) ≡ false) (is_false : sees Word (codes "FALSE") (value_tokens v ++ r) ≡ false) (is_null : sees Word (codes "NULL") (value_tokens v ++ r) ≡ false) where
  not_word : has Word (value_tokens v ++ r) ≡ false → value_at (value_tokens v ++ r) ≡ Ok (v, r)
  unfolding value_at
  not_word w =
      then_again _ _ _ _ _ (eat_nothing _ _ _ is_true)
      (then_again _ _ _ _ _ (eat_nothing _ _ _ is_false)
      (then_again _ _ _ _ _ (eat_nothing _ _ _ is_null)
      (rw w (other_again v r fits w))))

pub value_again : (v : AsnValue) (r : List Lexeme) → Passes value_fits v → value_at (value_tokens v ++ r) ≡ Ok (v, r)
unfolding value_at value_tokens signed_tokens named_value same_kind has text_of is_identifier
value_again (value.Number b n) r fits =
    let first : (text : List ℕ) → sees Word text ((given b (mark (codes "-")) ++ token Number (decimal n) ∷ []) ++ r) ≡ false = λ text. simp append_assoc (signed_first b n text r) in
    not_word (value.Number b n) r fits (first _) (first _) (first _) (signed_has Word b n r refl refl)
value_again value.True r fits = then_again _ _ _ _ _ (eat_again _ _ _) refl
value_again value.False r fits =
    then_again _ _ _ _ _ (eat_nothing _ _ _ (sees_text _ _ _ _ refl))
    (then_again _ _ _ _ _ (eat_again _ _ _) refl)
value_again value.Null r fits =
    then_again _ _ _ _ _ (eat_nothing _ _ _ (sees_text _ _ _ _ refl))
    (then_again _ _ _ _ _ (eat_nothing _ _ _ (sees_text _ _ _ _ refl))
    (then_again _ _ _ _ _ (eat_again _ _ _) refl))
value_again (value.Ref name) r fits =
    then_again _ _ _ _ _ (eat_nothing _ _ _ (sees_text _ _ _ _ (not_same name (codes "TRUE") fits refl)))
    (then_again _ _ _ _ _ (eat_nothing _ _ _ (sees_text _ _ _ _ (not_same name (codes "FALSE") fits refl)))
    (then_again _ _ _ _ _ (eat_nothing _ _ _ (sees_text _ _ _ _ (not_same name (codes "NULL") fits refl)))
    (then_again _ _ _ _ _ (word_again is_identifier name r fits) refl)))
value_again (value.Bits t) r fits = not_word (value.Bits t) r fits (sees_kind _ _ _ _ _ refl) (sees_kind _ _ _ _ _ refl) (sees_kind _ _ _ _ _ refl) refl
value_again (value.Hex t) r fits = not_word (value.Hex t) r fits (sees_kind _ _ _ _ _ refl) (sees_kind _ _ _ _ _ refl) (sees_kind _ _ _ _ _ refl) refl
value_again (value.Text t) r fits = not_word (value.Text t) r fits (sees_kind _ _ _ _ _ refl) (sees_kind _ _ _ _ _ refl) (sees_kind _ _ _ _ _ refl) refl
