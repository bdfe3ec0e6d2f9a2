-- From the laws of a grammar's first rule to what a parser of whole files answers.
use Rattle.std.proofs.Common.{◌≡◌, ℕ, length, List, [], ◌∷◌, Option, Some, None, refl, sym, ap, subst, ◌∙◌}
use Rattle.std.proofs.lemmas.List.{append-nil}
use Rattle.std.specs.Prelude.{Result, Ok, Err}
use Rattle.acn_lex.specs.Lexeme.{Lexeme}
use Rattle.acn_cursor.specs.declared.fault.ParseFault.{ParseFault}
use Rattle.acn_cursor.specs.declared.fault.ParseFault.TheVariants.{TooDeep, LeftOut}
use Rattle.acn_cursor.specs.declared.stop.Stop.{Stop}
use Rattle.acn_cursor.specs.declared.stop.Stop.TheVariants.{Refused, NoMemory as no_memory}
use Rattle.acn_cursor.specs.Steps.{Parser, Outcome, is_whole, Whole, Fails}
use Rattle.acn_cursor.specs.Screens.{first_left_out, first_too_deep}
use Rattle.acn_cursor.specs.Exact.{screen, screen_by, IsLeftOut, IsTooDeep, IsOnly, IsFound, IsPlaced, fault_of, in_file, stopped, stops_at}
use Rattle.acn_cursor.proofs.Laws.{Takes}

is_whole_found : {T : Type 0} (o : Outcome T) (t : T) → is_whole o ≡ Ok t → o ≡ Ok (t, [])
is_whole_found (Err left) t e = absurd cc
is_whole_found (Ok (a, [])) t e = let k : a ≡ t = cc in ap (λ z. Ok (z, [])) k
is_whole_found (Ok (a, x ∷ xs)) t e = absurd cc

-- a fault of the grammar alone
fails_only : {T : Type 0} (n : ℕ) (e : Stop) (o : Result T ℕ) (t : T) → Fails o e → o ≡ Ok t → IsOnly (Err (fault_of n e)) t
fails_only n (Refused left) o t h p = absurd cc
fails_only n no_memory o t h p = tt

module _ {T : Type 0} (tokens_of : T → List Lexeme) (IsProper : T → Type 0) (words ts : List Lexeme) where
  -- what a parser answers, all together
  pub record IsExact (place : Option ℕ) (r : Result T ParseFault) : Type 0 where
    pub found : IsFound tokens_of IsProper ts r
    pub only : (t : T) → IsProper t → ts ≡ tokens_of t → IsOnly r t
    pub left_out : IsLeftOut words ts r
    pub too_deep : IsTooDeep words ts r
    pub at : IsPlaced place r

  a_left_out : (n : ℕ) → first_left_out words ts ≡ Some n → {place : Option ℕ} → IsExact place (Err (LeftOut n))
  a_left_out n l {place} = record {
    found = tt;
    only = λ t _ _. tt;
    left_out = λ k. (λ q. l ∙ cc q, λ q. let e : Some n ≡ Some k = sym l ∙ q in cc e);
    too_deep = λ k. (λ q. absurd cc, λ q. let e : Some n ≡ None = sym l ∙ q.0 in absurd cc);
    at = tt;
  }

  a_too_deep : (n : ℕ) → first_left_out words ts ≡ None → first_too_deep ts ≡ Some n → {place : Option ℕ} → IsExact place (Err (TooDeep n))
  a_too_deep n l d {place} = record {
    found = tt;
    only = λ t _ _. tt;
    left_out = λ k. (λ q. absurd cc, λ q. let e : Some k ≡ None = sym q ∙ l in absurd cc);
    too_deep = λ k. (λ q. (l, d ∙ cc q), λ q. let e : Some n ≡ Some k = sym d ∙ q.1 in cc e);
    at = tt;
  }

  by_fault : (left deep : Option ℕ) → first_left_out words ts ≡ left → first_too_deep ts ≡ deep → (e : ParseFault) → screen_by left deep ≡ Some e → {place : Option ℕ} → IsExact place (Err e)
  by_fault (Some n) deep l d e h {place} = let k : LeftOut n ≡ e = cc h in subst (λ e. IsExact place (Err e)) k (a_left_out n l)
  by_fault None (Some n) l d e h {place} = let k : TooDeep n ≡ e = cc h in subst (λ e. IsExact place (Err e)) k (a_too_deep n l d)
  by_fault None None l d e h {place} = absurd cc

  -- a fault that is found before the grammar is asked
  pub screened_exact : (e : ParseFault) → screen words ts ≡ Some e → {place : Option ℕ} → IsExact place (Err e)
  unfolding screen
  screened_exact e h = by_fault (first_left_out words ts) (first_too_deep ts) refl refl e h

  none_found : (left deep : Option ℕ) → first_left_out words ts ≡ left → first_too_deep ts ≡ deep → screen_by left deep ≡ None → (first_left_out words ts ≡ None) × (first_too_deep ts ≡ None)
  none_found (Some n) deep l d h = absurd cc
  none_found None (Some n) l d h = absurd cc
  none_found None None l d h = (l, d)

  -- none of the faults that are found before the grammar is asked
  not_left_out : (r : Result T Stop) (count n : ℕ) → in_file count r ≡ Err (LeftOut n) → ⊥
  not_left_out (Ok x) count n e = cc
  not_left_out (Err (Refused left)) count n e = cc
  not_left_out (Err no_memory) count n e = cc

  not_too_deep : (r : Result T Stop) (count n : ℕ) → in_file count r ≡ Err (TooDeep n) → ⊥
  not_too_deep (Ok x) count n e = cc
  not_too_deep (Err (Refused left)) count n e = cc
  not_too_deep (Err no_memory) count n e = cc

  -- the grammar's answer
  module _ (parser : Parser T)
      (found : (ts : List Lexeme) (t : T) (r : List Lexeme) → parser ts ≡ Ok (t, r) → Takes tokens_of IsProper ts t r)
      (again : (t : T) → IsProper t → parser (tokens_of t) ≡ Ok (t, [])) where
    whole_found : (r : Result T Stop) → Whole (parser ts) r → IsFound tokens_of IsProper ts (in_file (length ts) r)
    whole_found (Ok t) h =
        let k = found ts t [] (is_whole_found (parser ts) t h) in
        (k.fits, k.parts ∙ append-nil (tokens_of t))
    whole_found (Err e) h = tt

    placed : (r : Result T Stop) → Whole (parser ts) r → IsPlaced (stops_at parser ts) (in_file (length ts) r)
    placed (Ok x) h = tt
    placed (Err (Refused left)) h = ap (stopped (length ts)) h
    placed (Err no_memory) h = tt

    whole_only : (r : Result T Stop) → Whole (parser ts) r → (t : T) → IsProper t → ts ≡ tokens_of t → IsOnly (in_file (length ts) r) t
    whole_only r h t fits e = by_result r h
      where
        read : is_whole (parser ts) ≡ Ok t
        read = rw e (ap is_whole (again t fits))

        by_result : (r : Result T Stop) → Whole (parser ts) r → IsOnly (in_file (length ts) r) t
        by_result (Ok x) h = let k = sym h ∙ read in cc
        by_result (Err f) h = fails_only (length ts) f (is_whole (parser ts)) t h read

    pub whole_exact : (r : Result T Stop) → screen words ts ≡ None → Whole (parser ts) r → IsExact (stops_at parser ts) (in_file (length ts) r)
    unfolding screen
    whole_exact r h w =
        let none = none_found (first_left_out words ts) (first_too_deep ts) refl refl h in
        record {
          found = whole_found r w;
          only = whole_only r w;
          left_out = λ n. (λ q. absurd (not_left_out r (length ts) n q), λ q. let e : Some n ≡ None = sym q ∙ none.0 in absurd cc);
          too_deep = λ n. (λ q. absurd (not_too_deep r (length ts) n q), λ q. let e : Some n ≡ None = sym q.1 ∙ none.1 in absurd cc);
          at = placed r w;
        }
