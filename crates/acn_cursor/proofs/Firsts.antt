-- A loop over tokens, beside `first_from`.
use Rattle.std.proofs.Common.{◌≡◌, ℕ, ◌+◌, ◌<◌, Bool, true, false, ◌||◌, List, [], ◌∷◌, ◌++◌, length, map, get_or, take, drop, Option, Some, refl, sym, ap, subst, ◌∙◌, add-one, drop-cons, arith}
use Rattle.std.proofs.lemmas.List.{map-append, length-map, length-take-le}
use Rattle.std.proofs.Math.Seq.{take-suc}
use Rattle.acn_lex.specs.declared.Kind.TheVariants.{Word, Mark}
use Rattle.acn_lex.specs.declared.Token.{Token}
use Rattle.acn_lex.specs.Lexeme.{Lexeme, lexeme, lexemes}
use Rattle.std.proofs.lemmas.List.Folds.{list_any-append}
use Rattle.acn_cursor.specs.Screens.{first_from, is_among, tokens_of, is_token}
use Rattle.acn_cursor.specs.Steps.{token}

-- what stands where no token is
abbrev pub blank : Token
blank = record { kind = Word; at = 0; text = record { ref_ptr = (0, 0); now = [] } }

pub take_one : (ts : List Token) (i : ℕ) (d : Token) → i < length ts → lexemes (take (i + 1) ts) ≡ lexemes (take i ts) ++ lexeme (get_or ts i d) ∷ []
take_one ts i d lt = rw (add-one i) (ap lexemes (take-suc ts i d lt) ∙ map-append lexeme (take i ts) (get_or ts i d ∷ []))

pub drop_one : (ts : List Token) (i : ℕ) (d : Token) → i < length ts → lexemes (drop i ts) ≡ lexeme (get_or ts i d) ∷ lexemes (drop (i + 1) ts)
drop_one ts i d lt = rw (add-one i) (ap lexemes (drop-cons ts i d lt))

pub goes_on : (test : List Lexeme → Lexeme → Bool) (front : List Lexeme) (t : Lexeme) (behind : List Lexeme) (whole : Option ℕ)
    → test front t ≡ false → first_from test front (t ∷ behind) ≡ whole → first_from test (front ++ t ∷ []) behind ≡ whole
goes_on test front t behind whole fails e = sym (rw fails refl) ∙ e

pub stops : (test : List Lexeme → Lexeme → Bool) (front : List Lexeme) (t : Lexeme) (behind : List Lexeme) (whole : Option ℕ)
    → test front t ≡ true → first_from test front (t ∷ behind) ≡ whole → Some (length front) ≡ whole
stops test front t behind whole passes e = sym (rw passes refl) ∙ e

pub among_both : (words marks : List (List ℕ)) (t : Lexeme) → is_among (tokens_of words marks) t ≡ (is_among (map (token Word) words) t || is_among (map (token Mark) marks) t)
among_both words marks t = list_any-append (λ w. is_token w.kind w.text t) (map (token Word) words) (map (token Mark) marks)

module _ (test : List Lexeme → Lexeme → Bool) (ts : List Token) where
  abbrev pub Rest : ℕ → Type 0
  Rest at = first_from test (lexemes (take at ts)) (lexemes (drop at ts)) ≡ first_from test [] (lexemes ts)

  split : (i : ℕ) → i < length ts → Rest i → first_from test (lexemes (take i ts)) (lexeme (get_or ts i blank) ∷ lexemes (drop (i + 1) ts)) ≡ first_from test [] (lexemes ts)
  split i lt e = subst (λ z. first_from test (lexemes (take i ts)) z ≡ first_from test [] (lexemes ts)) (drop_one ts i blank lt) e

  pub rest_one : (i : ℕ) → i < length ts → test (lexemes (take i ts)) (lexeme (get_or ts i blank)) ≡ false → Rest i → Rest (i + 1)
  rest_one i lt fails e = rw (take_one ts i blank lt) (goes_on test (lexemes (take i ts)) (lexeme (get_or ts i blank)) (lexemes (drop (i + 1) ts)) _ fails (split i lt e))

  pub rest_stops : (i : ℕ) → i < length ts → test (lexemes (take i ts)) (lexeme (get_or ts i blank)) ≡ true → Rest i → Some i ≡ first_from test [] (lexemes ts)
  rest_stops i lt passes e =
      let n : length (lexemes (take i ts)) ≡ i = length-map (take i ts) lexeme ∙ length-take-le i ts (omega arith) in
      ap Some (sym n) ∙ stops test (lexemes (take i ts)) (lexeme (get_or ts i blank)) (lexemes (drop (i + 1) ts)) _ passes (split i lt e)
