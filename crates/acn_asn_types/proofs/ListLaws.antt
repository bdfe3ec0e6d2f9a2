-- Items with commas between them.
use Rattle.std.proofs.Common.{◌≡◌, ℕ, ◌<◌, ◌≤◌, Bool, true, false, ◌&&◌, List, [], ◌∷◌, ◌++◌, length, length-append, refl, ap, subst, ◌∙◌, append_assoc, arith}
use Rattle.std.specs.Prelude.{Err, codes, Ok}
use Rattle.std.specs.List.{flat_map, list_all, AllByRecursion}
use Rattle.std.specs.Cmp.Derive.{both_true}
use Rattle.acn_lex.specs.declared.Kind.TheVariants.{Mark}
use Rattle.acn_lex.specs.Lexeme.{Lexeme}
use Rattle.acn_cursor.specs.Steps.{Parser, with_front, expect, many, Outcome}
use Rattle.acn_cursor.proofs.Laws.{Takes, done, then_found, then_again, expect_found, expect_again, sees_again, repeat_found, many_again}
use Rattle.acn_asn_syntax.specs.Values.{mark, with_commas}
use Rattle.acn_asn_syntax.specs.Spelling.{is_some}
use Rattle.acn_asn_types.specs.Lists.{has_comma, next, more_of, listed}
use Rattle.acn_asn_types.proofs.ValueLaws.{Passes, Found}
use Rattle.std.proofs.lemmas.Bool.{and_parts}

pub all_pass : {A : Type 0} (test : A → Bool) (xs : List A) → AllByRecursion (Passes test) xs → list_all test xs ≡ true
all_pass test [] h = refl
all_pass test (x ∷ xs) h = both_true h.0 (all_pass test xs h.1)

pub pass_all : {A : Type 0} (test : A → Bool) (xs : List A) → list_all test xs ≡ true → AllByRecursion (Passes test) xs
pass_all test [] h = tt
pass_all test (x ∷ xs) h = let b = and_parts (test x) (list_all test xs) h in (b.0, pass_all test xs b.1)

abbrev pub some_fit : {A : Type 0} → (A → Bool) → List A → Bool
some_fit fits xs = is_some xs && list_all fits xs

module _ {A : Type 0} (item : Parser A) (tokens : A → List Lexeme) (fits : A → Bool) where
  abbrev next_tokens : A → List Lexeme
  next_tokens x = mark (codes ",") ∷ tokens x

  next_found : Found item tokens fits → Found (next item) next_tokens fits
  unfolding next
  next_found found ts x r e =
      then_found (expect Mark (codes ",") ts) _ _ e (λ _ m e1 h.
      let a = expect_found _ _ _ _ _ e1 in
      let b = found m x r h in
      let parts : ts ≡ next_tokens x ++ r = a ∙ ap (λ z. mark (codes ",") ∷ z) b.parts in
      record { parts = parts; fits = b.fits })

  pub listed_found : Found item tokens fits → Found (listed item) (with_commas tokens) (some_fit fits)
  unfolding listed more_of
  listed_found found ts xs r e =
      then_found (item ts) _ _ e (λ first m e1 h.
      let a = found _ _ _ e1 in
      by_many first m a (many has_comma (next item) m) refl h)
    where
      by_many : (first : A) (m : List Lexeme) → Takes tokens (Passes fits) ts first m → (o : Outcome (List A)) → many has_comma (next item) m ≡ o → with_front (first ∷ []) o ≡ Ok (xs, r) → Takes (with_commas tokens) (Passes (some_fit fits)) ts xs r
      by_many first m a (Err left) q h = absurd cc
      by_many first m a (Ok p) q h =
          let b = repeat_found has_comma (next item) next_tokens (Passes fits) (next_found found) (length m) m p.0 p.1 q in
          let parts : ts ≡ with_commas tokens (first ∷ p.0) ++ p.1 = simp append_assoc (cc (a.parts, b.parts)) in
          done (first ∷ p.0) p.1 xs r h parts (both_true a.fits (all_pass fits p.0 b.fits))

  module _ (After : List Lexeme → Type 0) (limit : ℕ)
      (again : (x : A) (r : List Lexeme) → length (tokens x ++ r) ≤ limit → Passes fits x → After r → item (tokens x ++ r) ≡ Ok (x, r))
      (comma : (r : List Lexeme) → After (mark (codes ",") ∷ r)) where
    next_again : (x : A) (r : List Lexeme) → length (next_tokens x ++ r) ≤ limit → Passes fits x → After r → next item (next_tokens x ++ r) ≡ Ok (x, r)
    unfolding next
    next_again x r bound fits after = then_again _ _ _ _ _ (expect_again _ _ _) (again x r (omega arith) fits after)

    next_starts : (x : A) (r : List Lexeme) → Passes fits x → has_comma (next_tokens x ++ r) ≡ true
    unfolding has_comma
    next_starts x r fits = sees_again _ _ _

    next_some : (x : A) → Passes fits x → 0 < length (next_tokens x)
    next_some x fits = omega arith

    more_after : (xs : List A) (r : List Lexeme) → After r → After (flat_map next_tokens xs ++ r)
    more_after [] r after = after
    more_after (x ∷ xs) r after = comma _

    pub listed_again : (x : A) (xs : List A) (r : List Lexeme) → length (with_commas tokens (x ∷ xs) ++ r) ≤ limit → list_all fits (x ∷ xs) ≡ true → After r → has_comma r ≡ false → listed item (with_commas tokens (x ∷ xs) ++ r) ≡ Ok (x ∷ xs, r)
    unfolding listed more_of
    listed_again x xs r bound fit after ends =
        let regroup : with_commas tokens (x ∷ xs) ++ r ≡ tokens x ++ (flat_map next_tokens xs ++ r) = append_assoc (tokens x) (flat_map next_tokens xs) r in
        let f = and_parts (fits x) (list_all fits xs) fit in
        let within : length (tokens x ++ (flat_map next_tokens xs ++ r)) ≤ limit = subst (λ z. length z ≤ limit) regroup bound in
        let rest_within : length (flat_map next_tokens xs ++ r) ≤ limit = omega (arith, length-append (tokens x) (flat_map next_tokens xs ++ r)) in
        let more : many has_comma (next item) (flat_map next_tokens xs ++ r) ≡ Ok (xs, r) = many_again has_comma (next item) next_tokens (Passes fits) After limit next_again next_starts (λ x r _. comma _) next_some xs r rest_within (pass_all fits xs f.1) after ends in
        rw regroup
        (then_again _ _ _ _ _ (again x _ within f.0 (more_after xs r after))
        (ap (with_front (x ∷ [])) more))
