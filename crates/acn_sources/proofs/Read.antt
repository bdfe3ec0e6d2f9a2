-- From the answers about tokens to those about bytes.
use Rattle.std.proofs.Common.{◌≡◌, ◌≢◌, ℕ, suc, ◌≤◌, List, [], ◌∷◌, length, map, Option, Some, None, refl, sym, ap, subst, ◌∙◌, inl, inr, arith}
use Rattle.std.specs.Prelude.{Result, Ok, Err, IfOk, IfErr, ◌⊎◌, ◌↔◌}
use Rattle.acn_lex.specs.declared.Token.{Token}
use Rattle.acn_lex.specs.declared.fault.LexFault.{LexFault}
use Rattle.acn_lex.specs.declared.fault.LexFault.TheVariants as lex
use Rattle.acn_lex.specs.declared.lexing.TheConstants.{MOST_TOKENS}
use Rattle.acn_lex.specs.Lexeme.{Lexeme, Placed, placed, lexemes}
use Rattle.acn_lex.specs.Lexes.{Lexes, Faults}
use Rattle.acn_cursor.specs.declared.fault.ParseFault.{ParseFault}
use Rattle.acn_cursor.specs.declared.fault.ParseFault.TheVariants as parse
use Rattle.acn_cursor.specs.Exact.{IsFound, IsOnly, IsLeftOut, IsTooDeep, IsPlaced}
use Rattle.acn_cursor.specs.Screens.{first_left_out, first_too_deep}
use Rattle.acn_sources.specs.Reading.{Grammar, AreTokens, AreFit, unplaced, place_of, length_of, lexical, located, IsTree, IsFault, AnswersTree, AnswersFault}
use Rattle.acn_sources.specs.declared.fault.FileFault.{FileFault}
use Rattle.acn_sources.specs.declared.fault.FileFault.TheVariants.{BadByte, Unclosed, TooManyTokens, TooWide, LeftOut, TooDeep, Syntax, NoMemory}

pub unplaced_is : (ts : List Token) → unplaced (map placed ts) ≡ lexemes ts
unplaced_is [] = refl
unplaced_is (t ∷ ts) = ap (λ xs. record { kind = t.kind; text = t.text.now } ∷ xs) (unplaced_is ts)

placed_length : (ts : List Token) → length (map placed ts) ≡ length ts
placed_length [] = refl
placed_length (t ∷ ts) = ap suc (placed_length ts)

-- what is said of the answer for some bytes
pub record IsAnswer {T : Type 0} (g : Grammar T) (bytes : List ℕ) (r : Result T FileFault) : Type 0 where
  pub tree : IfOk r (λ t. IsTree g bytes t)
  pub each : (t : T) → IsTree g bytes t → AnswersTree t r
  pub fault : IfErr r (λ e. e ≢ NoMemory → IsFault g bytes e)
  pub first : (e : FileFault) → IsFault g bytes e → AnswersFault e r

-- ---- bytes that are no tokens

module _ {T : Type 0} (g : Grammar T) (bytes : List ℕ) (e : LexFault)
    (fault : e ≢ lex.NoMemory → Faults bytes e)
    (each : (ts : List Placed) → AreTokens bytes ts → e ≡ lex.NoMemory)
    (first : (f : LexFault) → Faults bytes f → (e ≡ f) ⊎ (e ≡ lex.NoMemory)) where
  no_memory : (f : FileFault) → e ≡ lex.NoMemory → AnswersFault {T = T} f (Err (lexical e))
  no_memory f k = inr (ap lexical k)

  same : (f : LexFault) → ((x : FileFault) → x ≡ lexical f → AnswersFault {T = T} (lexical f) (Err x)) → Faults bytes f → AnswersFault {T = T} (lexical f) (Err (lexical e))
  same f here h = by_answer (first f h)
    where
      by_answer : (e ≡ f) ⊎ (e ≡ lex.NoMemory) → AnswersFault {T = T} (lexical f) (Err (lexical e))
      by_answer (inl k) = here (lexical e) (ap lexical k)
      by_answer (inr k) = no_memory (lexical f) k

  lexical_first : (f : FileFault) → IsFault g bytes f → AnswersFault {T = T} f (Err (lexical e))
  lexical_first (BadByte at) h = same (lex.BadByte at) (λ x k. subst (λ x. AnswersFault {T = T} (BadByte at) (Err x)) (sym k) (inl refl)) h
  lexical_first (Unclosed at) h = same (lex.Unclosed at) (λ x k. subst (λ x. AnswersFault {T = T} (Unclosed at) (Err x)) (sym k) (inl refl)) h
  lexical_first (TooManyTokens at) h = same (lex.TooManyTokens at) (λ x k. subst (λ x. AnswersFault {T = T} (TooManyTokens at) (Err x)) (sym k) (inl refl)) h
  lexical_first (TooWide at) h = same (lex.TooWide at) (λ x k. subst (λ x. AnswersFault {T = T} (TooWide at) (Err x)) (sym k) (inl refl)) h
  lexical_first (LeftOut at n) h = no_memory (LeftOut at n) (each h.0 h.2)
  lexical_first (TooDeep at) h = no_memory (TooDeep at) (each h.0 h.2)
  lexical_first (Syntax at) h = no_memory (Syntax at) (each h.0 h.2)
  lexical_first NoMemory h = absurd h

  lexical_fault : (f : LexFault) → (f ≢ lex.NoMemory → Faults bytes f) → lexical f ≢ NoMemory → IsFault g bytes (lexical f)
  lexical_fault (lex.BadByte at) h n = h (λ k. absurd cc)
  lexical_fault (lex.Unclosed at) h n = h (λ k. absurd cc)
  lexical_fault (lex.TooManyTokens at) h n = h (λ k. absurd cc)
  lexical_fault (lex.TooWide at) h n = h (λ k. absurd cc)
  lexical_fault lex.NoMemory h n = absurd (n refl)

  pub lexical_answer : IsAnswer g bytes (Err (lexical e))
  lexical_answer = record {
    tree = tt;
    each = λ t h. ap lexical (each h.1 h.2);
    fault = lexical_fault e fault;
    first = lexical_first;
  }

-- what comes of the answer for some tokens
abbrev pub finished : {T : Type 0} → ℕ → List Placed → Result T ParseFault → Result T FileFault
finished end ts (Ok t) = Ok t
finished end ts (Err p) = Err (located end ts p)

-- ---- bytes that are these tokens

module _ {T : Type 0} (g : Grammar T) (bytes : List ℕ) (ts : List Placed) (are : AreTokens bytes ts)
    (one : (us : List Placed) → AreTokens bytes us → ts ≡ us) (sound : (f : LexFault) → Faults bytes f → ⊥) where
  -- what is said of the answer for these tokens
  pub record IsParsed (r : Result T ParseFault) : Type 0 where
    pub found : IsFound g.tokens_of g.IsProper (unplaced ts) r
    pub only : (t : T) → g.IsProper t → unplaced ts ≡ g.tokens_of t → IsOnly r t
    pub left_out : IsLeftOut g.left_out (unplaced ts) r
    pub too_deep : IsTooDeep g.left_out (unplaced ts) r
    pub place : IsPlaced (g.stops_at (unplaced ts)) r

  nothing_left_out : (r : Result T ParseFault) → IsParsed r → ((n : ℕ) → r ≢ Err (parse.LeftOut n)) → first_left_out g.left_out (unplaced ts) ≡ None
  nothing_left_out r p other = by_first (first_left_out g.left_out (unplaced ts)) refl
    where
      by_first : (o : Option ℕ) → first_left_out g.left_out (unplaced ts) ≡ o → o ≡ None
      by_first None e = refl
      by_first (Some n) e = absurd (other n ((p.left_out n).1 e))

  none_too_deep : (r : Result T ParseFault) → IsParsed r → first_left_out g.left_out (unplaced ts) ≡ None → ((n : ℕ) → r ≢ Err (parse.TooDeep n)) → first_too_deep (unplaced ts) ≡ None
  none_too_deep r p read other = by_first (first_too_deep (unplaced ts)) refl
    where
      by_first : (o : Option ℕ) → first_too_deep (unplaced ts) ≡ o → o ≡ None
      by_first None e = refl
      by_first (Some n) e = absurd (other n ((p.too_deep n).1 (read, e)))

  fit : (r : Result T ParseFault) → IsParsed r → ((n : ℕ) → r ≢ Err (parse.LeftOut n)) → ((n : ℕ) → r ≢ Err (parse.TooDeep n)) → AreFit g ts
  fit r p a b = let read = nothing_left_out r p a in record { read = read; flat = none_too_deep r p read b }

  -- the tokens of the bytes are these
  these : (P : List Placed → Type 0) (us : List Placed) → AreTokens bytes us → P us → P ts
  these P us h p = subst P (sym (one us h)) p

  only_of : (r : Result T ParseFault) → IsParsed r → (t : T) → IsTree g bytes t → IsOnly r t
  only_of r p t h = p.only t h.0 (these (λ us. unplaced us ≡ g.tokens_of t) h.1 h.2 h.4)

  fit_of : (t : T) → IsTree g bytes t → AreFit g ts
  fit_of t h = these (AreFit g) h.1 h.2 h.3

  -- the first word that is left out, and the first token that is too deep, as a fault tells them
  left_of : (at n : ℕ) → IsFault g bytes (LeftOut at n) → (k : ℕ) × (first_left_out g.left_out (unplaced ts) ≡ Some k) × (at ≡ place_of (length bytes) ts k) × (n ≡ length_of ts k)
  left_of at n h = (
    h.1,
    these (λ us. first_left_out g.left_out (unplaced us) ≡ Some h.1) h.0 h.2 h.3,
    these (λ us. at ≡ place_of (length bytes) us h.1) h.0 h.2 h.4,
    these (λ us. n ≡ length_of us h.1) h.0 h.2 h.5,
  )

  deep_of : (at : ℕ) → IsFault g bytes (TooDeep at) → (k : ℕ) × (first_left_out g.left_out (unplaced ts) ≡ None) × (first_too_deep (unplaced ts) ≡ Some k) × (at ≡ place_of (length bytes) ts k)
  deep_of at h = (
    h.1,
    these (λ us. first_left_out g.left_out (unplaced us) ≡ None) h.0 h.2 h.3,
    these (λ us. first_too_deep (unplaced us) ≡ Some h.1) h.0 h.2 h.4,
    these (λ us. at ≡ place_of (length bytes) us h.1) h.0 h.2 h.5,
  )

  stop_of : (at : ℕ) → IsFault g bytes (Syntax at) → (k : ℕ) × (g.stops_at (unplaced ts) ≡ Some k) × (at ≡ place_of (length bytes) ts k)
  stop_of at h = (
    h.1,
    these (λ us. g.stops_at (unplaced us) ≡ Some h.1) h.0 h.2 h.5,
    these (λ us. at ≡ place_of (length bytes) us h.1) h.0 h.2 h.6,
  )

  tree_answer : (t : T) → IsParsed (Ok t) → IsAnswer g bytes (Ok t)
  tree_answer t p = record {
    tree = (p.found.0, ts, are, fit (Ok t) p (λ n k. absurd cc) (λ n k. absurd cc), p.found.1);
    each = λ u h. only_of (Ok t) p u h;
    fault = tt;
    first = by_fault;
  }
    where
      by_fault : (e : FileFault) → IsFault g bytes e → AnswersFault e (Ok t)
      by_fault (BadByte at) h = sound (lex.BadByte at) h
      by_fault (Unclosed at) h = sound (lex.Unclosed at) h
      by_fault (TooManyTokens at) h = sound (lex.TooManyTokens at) h
      by_fault (TooWide at) h = sound (lex.TooWide at) h
      by_fault (LeftOut at n) h = let q = left_of at n h in let k : Ok t ≡ Err (parse.LeftOut q.0) = (p.left_out q.0).1 q.1 in absurd cc
      by_fault (TooDeep at) h = let q = deep_of at h in let k : Ok t ≡ Err (parse.TooDeep q.0) = (p.too_deep q.0).1 (q.1, q.2) in absurd cc
      by_fault (Syntax at) h = these (λ us. (t : T) → g.IsProper t → unplaced us ≡ g.tokens_of t → ⊥) h.0 h.2 h.4 t p.found.0 p.found.1
      by_fault NoMemory h = h

  syntax_answer : (n : ℕ) → IsParsed (Err (parse.Syntax n)) → IsAnswer g bytes (Err (Syntax (place_of (length bytes) ts n)))
  syntax_answer n p = record {
    tree = tt;
    each = λ u h. absurd (only_of (Err (parse.Syntax n)) p u h);
    fault = λ _. (ts, n, are, fit (Err (parse.Syntax n)) p (λ n k. absurd cc) (λ n k. absurd cc), (λ t proper e. p.only t proper e), p.place, refl);
    first = by_fault;
  }
    where
      by_fault : (e : FileFault) → IsFault g bytes e → AnswersFault {T = T} e (Err (Syntax (place_of (length bytes) ts n)))
      by_fault (BadByte at) h = absurd (sound (lex.BadByte at) h)
      by_fault (Unclosed at) h = absurd (sound (lex.Unclosed at) h)
      by_fault (TooManyTokens at) h = absurd (sound (lex.TooManyTokens at) h)
      by_fault (TooWide at) h = absurd (sound (lex.TooWide at) h)
      by_fault (LeftOut at m) h = let q = left_of at m h in let k : Err (parse.Syntax n) ≡ Err (parse.LeftOut q.0) = (p.left_out q.0).1 q.1 in absurd cc
      by_fault (TooDeep at) h = let q = deep_of at h in let k : Err (parse.Syntax n) ≡ Err (parse.TooDeep q.0) = (p.too_deep q.0).1 (q.1, q.2) in absurd cc
      by_fault (Syntax at) h =
          let q = stop_of at h in
          let k : q.0 ≡ n = (let s : Some q.0 ≡ Some n = sym q.1 ∙ p.place in cc) in
          inl (cc (q.2 ∙ ap (λ j. place_of (length bytes) ts j) k))
      by_fault NoMemory h = absurd h

  left_answer : (n : ℕ) → IsParsed (Err (parse.LeftOut n)) → IsAnswer g bytes (Err (LeftOut (place_of (length bytes) ts n) (length_of ts n)))
  left_answer n p = record {
    tree = tt;
    each = λ u h. let k : None ≡ Some n = sym (fit_of u h).read ∙ here in absurd cc;
    fault = λ _. (ts, n, are, here, refl, refl);
    first = by_fault;
  }
    where
      here : first_left_out g.left_out (unplaced ts) ≡ Some n
      here = (p.left_out n).0 refl

      by_fault : (e : FileFault) → IsFault g bytes e → AnswersFault {T = T} e (Err (LeftOut (place_of (length bytes) ts n) (length_of ts n)))
      by_fault (BadByte at) h = absurd (sound (lex.BadByte at) h)
      by_fault (Unclosed at) h = absurd (sound (lex.Unclosed at) h)
      by_fault (TooManyTokens at) h = absurd (sound (lex.TooManyTokens at) h)
      by_fault (TooWide at) h = absurd (sound (lex.TooWide at) h)
      by_fault (LeftOut at m) h =
          let q = left_of at m h in
          let k : q.0 ≡ n = (let s : Some q.0 ≡ Some n = sym q.1 ∙ here in cc) in
          inl (cc (q.2 ∙ ap (λ j. place_of (length bytes) ts j) k, q.3 ∙ ap (λ j. length_of ts j) k))
      by_fault (TooDeep at) h = let q = deep_of at h in let k : None ≡ Some n = sym q.1 ∙ here in absurd cc
      by_fault (Syntax at) h = let k : None ≡ Some n = sym (these (AreFit g) h.0 h.2 h.3).read ∙ here in absurd cc
      by_fault NoMemory h = absurd h

  deep_answer : (n : ℕ) → IsParsed (Err (parse.TooDeep n)) → IsAnswer g bytes (Err (TooDeep (place_of (length bytes) ts n)))
  deep_answer n p = record {
    tree = tt;
    each = λ u h. let k : None ≡ Some n = sym (fit_of u h).flat ∙ here.1 in absurd cc;
    fault = λ _. (ts, n, are, here.0, here.1, refl);
    first = by_fault;
  }
    where
      here : (first_left_out g.left_out (unplaced ts) ≡ None) × (first_too_deep (unplaced ts) ≡ Some n)
      here = (p.too_deep n).0 refl

      by_fault : (e : FileFault) → IsFault g bytes e → AnswersFault {T = T} e (Err (TooDeep (place_of (length bytes) ts n)))
      by_fault (BadByte at) h = absurd (sound (lex.BadByte at) h)
      by_fault (Unclosed at) h = absurd (sound (lex.Unclosed at) h)
      by_fault (TooManyTokens at) h = absurd (sound (lex.TooManyTokens at) h)
      by_fault (TooWide at) h = absurd (sound (lex.TooWide at) h)
      by_fault (LeftOut at m) h = let q = left_of at m h in let k : None ≡ Some q.0 = sym here.0 ∙ q.1 in absurd cc
      by_fault (TooDeep at) h =
          let q = deep_of at h in
          let k : q.0 ≡ n = (let s : Some q.0 ≡ Some n = sym q.2 ∙ here.1 in cc) in
          inl (cc (q.3 ∙ ap (λ j. place_of (length bytes) ts j) k))
      by_fault (Syntax at) h = let k : None ≡ Some n = sym (these (AreFit g) h.0 h.2 h.3).flat ∙ here.1 in absurd cc
      by_fault NoMemory h = absurd h

  pub parsed_answer : (r : Result T ParseFault) → IsParsed r → IsAnswer g bytes (finished (length bytes) ts r)
  parsed_answer (Ok t) p = tree_answer t p
  parsed_answer (Err (parse.Syntax n)) p = syntax_answer n p
  parsed_answer (Err (parse.LeftOut n)) p = left_answer n p
  parsed_answer (Err (parse.TooDeep n)) p = deep_answer n p
  parsed_answer (Err parse.NoMemory) p = record { tree = tt; each = λ u h. refl; fault = λ n. absurd (n refl); first = λ e h. inr refl }

-- the same of the tokens that the lexer answered
pub token_answer : {T : Type 0} (g : Grammar T) (bytes : List ℕ) (list : List Token) (r : Result T ParseFault)
    → Lexes 0 bytes (map placed list) → length list ≤ MOST_TOKENS
    → ((ts : List Placed) → Lexes 0 bytes ts → length ts ≤ MOST_TOKENS → map placed list ≡ ts) → ((f : LexFault) → Faults bytes f → ⊥)
    → IsFound g.tokens_of g.IsProper (lexemes list) r → ((t : T) → g.IsProper t → lexemes list ≡ g.tokens_of t → IsOnly r t)
    → IsLeftOut g.left_out (lexemes list) r → IsTooDeep g.left_out (lexemes list) r → IsPlaced (g.stops_at (lexemes list)) r → IsAnswer g bytes (finished (length bytes) (map placed list) r)
token_answer g bytes list r tokens few each first found only left_out too_deep place =
    parsed_answer g bytes (map placed list) (tokens, omega (arith, few, placed_length list)) (λ us h. each us h.0 h.1) first r ((record {
      found = rw (unplaced_is list) found;
      only = rw (unplaced_is list) only;
      left_out = rw (unplaced_is list) left_out;
      too_deep = rw (unplaced_is list) too_deep;
      place = rw (unplaced_is list) place;
    }))
