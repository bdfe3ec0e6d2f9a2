-- What the parser of sets takes: the tokens of a proper tree.
use Rattle.std.proofs.Common.{◌≡◌, ℕ, zero, suc, Bool, true, false, cond, List, [], ◌∷◌, ◌++◌, length, Option, Some, None, refl, ◌∙◌, append_assoc}
use Rattle.std.specs.Prelude.{codes, option_map, Ok}
use Rattle.std.specs.List.{list_all, AllByRecursion}
use Rattle.std.specs.Cmp.Derive.{both_true}
use Rattle.acn_lex.specs.declared.Kind.TheVariants.{Word, Mark}
use Rattle.acn_lex.specs.Lexeme.{Lexeme}
use Rattle.acn_cursor.specs.Steps.{Parser, given, token, sees, eat, expect, many}
use Rattle.acn_cursor.proofs.Laws.{Takes, done, then_found, given_found, expect_found, repeat_found, outcome_is, ap2}
use Rattle.acn_asn_syntax.specs.declared.values.AsnValue.{AsnValue}
use Rattle.acn_asn_syntax.specs.declared.sets.AsnRange.{AsnRange}
use Rattle.acn_asn_syntax.specs.declared.sets.Element.{Element}
use Rattle.acn_asn_syntax.specs.declared.sets.Element.TheVariants as element
use Rattle.acn_asn_syntax.specs.declared.sets.Set.{Set}
use Rattle.acn_asn_syntax.specs.declared.sets.Set.TheVariants as set
use Rattle.acn_asn_syntax.specs.declared.sets.Meet.{Meet, roll-Meet}
use Rattle.acn_asn_syntax.specs.declared.sets.Part.{Part, roll-Part}
use Rattle.acn_asn_syntax.specs.Values.{word, mark, end_tokens, end_fits, range_tokens, in_parentheses}
use Rattle.acn_asn_syntax.specs.Trees.{element_tokens, set_tokens, meet_tokens, part_tokens, element_fits, set_fits, meet_fits, part_fits}
use Rattle.acn_asn_syntax.proofs.SetTokens.{joined_tokens, but_tokens, but_proper}
use Rattle.acn_asn_syntax.proofs.SetTokens as form
use Rattle.acn_asn_types.specs.Values.{value_at}
use Rattle.acn_asn_types.specs.Sets.{end_if, end, range_from, plain_if, plain, mark_if, mark_at, part_mark, has_part_mark, meet_mark, has_meet_mark, group, inner_at, from_if, size_if, element_at, but_if, but_at, part, next_part, meet, next_meet, union, all_except, all_if, set_in, set_at}
use Rattle.acn_asn_types.proofs.ValueLaws.{Passes, Found, value_found}

-- ---- ranges

abbrev pub TakesEnd : List ℕ → List Lexeme → Option AsnValue → List Lexeme → Type 0
TakesEnd text = Takes (end_tokens text) (Passes end_fits)

end_if_found : (text : List ℕ) (b : Bool) (ts m : List Lexeme) (o : Option AsnValue) (r : List Lexeme) → ts ≡ given b (token Word text) ++ m → end_if b m ≡ Ok (o, r) → TakesEnd text ts o r
unfolding end_tokens
end_if_found text true ts m o r p e = done _ _ _ _ e p refl
end_if_found text false ts m o r p e =
    then_found (value_at m) _ _ e (λ v m' e1 h.
    let a = value_found _ _ _ e1 in
    let parts : ts ≡ end_tokens text (Some v) ++ m' = cc (p, a.parts) in
    done _ _ _ _ h parts a.fits)

pub end_found : (text : List ℕ) (ts : List Lexeme) (o : Option AsnValue) (r : List Lexeme) → end text ts ≡ Ok (o, r) → TakesEnd text ts o r
unfolding end
end_found text ts o r e = then_found (eat Word text ts) _ _ e (λ b m e1 h. end_if_found text b ts m o r (given_found _ _ _ _ _ e1) h)

abbrev pub TakesElement : List Lexeme → Element → List Lexeme → Type 0
TakesElement = Takes element_tokens (Passes element_fits)

plain_if_found : (ts m1 : List Lexeme) (low : Option AsnValue) (low_out : Bool) (m2 : List Lexeme) (dots : Bool) (m3 : List Lexeme) (x : Element) (r : List Lexeme) → TakesEnd (codes "MIN") ts low m1
    → m1 ≡ given low_out (mark (codes "<")) ++ m2 → m2 ≡ given dots (mark (codes "..")) ++ m3 → plain_if low low_out dots m3 ≡ Ok (x, r) → TakesElement ts x r
unfolding range_from range_tokens end_tokens
plain_if_found ts m1 low low_out m2 true m3 x r a p q e =
    then_found (eat Mark (codes "<") m3) _ _ e (λ high_out m4 e1 h.
    then_found (end (codes "MAX") m4) _ _ h (λ high m5 e2 h.
    let b = given_found _ _ _ _ _ e1 in
    let c = end_found _ _ _ _ e2 in
    let range : AsnRange = record { low = low; low_out = low_out; high = high; high_out = high_out } in
    let spelled : ts ≡ range_tokens range ++ m5 = simp append_assoc (cc (a.parts, p, q, b, c.parts)) in
    let parts : ts ≡ element_tokens (element.Range range) ++ m5 = rw form.tokens_Range spelled in
    done _ _ _ _ h parts (form.fits_Range range ∙ both_true a.fits c.fits)))
plain_if_found ts m1 (Some v) false m2 false m3 x r a p q e =
    let parts : ts ≡ element_tokens (element.Value v) ++ m3 = rw form.tokens_Value (cc (a.parts, p, q)) in
    done _ _ _ _ e parts (form.fits_Value v ∙ a.fits)
plain_if_found ts m1 (Some v) true m2 false m3 x r a p q e = absurd cc
plain_if_found ts m1 None low_out m2 false m3 x r a p q e = absurd cc

pub plain_found : (ts : List Lexeme) (x : Element) (r : List Lexeme) → plain ts ≡ Ok (x, r) → TakesElement ts x r
unfolding plain
plain_found ts x r e =
    then_found (end (codes "MIN") ts) _ _ e (λ low m1 e1 h.
    then_found (eat Mark (codes "<") m1) _ _ h (λ low_out m2 e2 h.
    then_found (eat Mark (codes "..") m2) _ _ h (λ dots m3 e3 h.
    plain_if_found ts m1 low low_out m2 dots m3 x r (end_found _ _ _ _ e1) (given_found _ _ _ _ _ e2) (given_found _ _ _ _ _ e3) h)))

-- ---- marks

mark_if_found : (sign written : List ℕ) (b : Bool) (ts m : List Lexeme) (w : Bool) (r : List Lexeme) → ts ≡ given b (token Word written) ++ m → mark_if sign b m ≡ Ok (w, r) → ts ≡ (cond w (word written) (mark sign)) ∷ r
mark_if_found sign written true ts m w r p e = let k = outcome_is (true, m) (w, r) e in p ∙ ap2 (λ (w : Bool) (r : List Lexeme). (cond w (word written) (mark sign)) ∷ r) k.0 k.1
mark_if_found sign written false ts m w r p e =
    then_found (expect Mark sign m) _ _ e (λ _ m' e1 h.
    let k = outcome_is (false, m') (w, r) h in
    p ∙ expect_found _ _ _ _ _ e1 ∙ ap2 (λ (w : Bool) (r : List Lexeme). (cond w (word written) (mark sign)) ∷ r) k.0 k.1)

mark_found : (sign written : List ℕ) (ts : List Lexeme) (w : Bool) (r : List Lexeme) → mark_at sign written ts ≡ Ok (w, r) → ts ≡ (cond w (word written) (mark sign)) ∷ r
unfolding mark_at
mark_found sign written ts w r e = then_found (eat Word written ts) _ _ e (λ b m e1 h. mark_if_found sign written b ts m w r (given_found _ _ _ _ _ e1) h)

-- ---- sets, over a parser of those in parentheses

abbrev pub TakesSet : List Lexeme → Set → List Lexeme → Type 0
TakesSet = Takes set_tokens (Passes set_fits)

abbrev next_part_tokens : Bool × Part → List Lexeme
next_part_tokens p = joined_tokens (codes "^") (codes "INTERSECTION") (p.0, part_tokens p.1)

abbrev next_meet_tokens : Bool × Meet → List Lexeme
next_meet_tokens p = joined_tokens (codes "|") (codes "UNION") (p.0, meet_tokens p.1)

all_pass : {A : Type 0} (test : A → Bool) (xs : List A) → AllByRecursion (Passes test) xs → list_all test xs ≡ true
all_pass test [] h = refl
all_pass test (x ∷ xs) h = both_true h.0 (all_pass test xs h.1)

module _ (inner : Parser Set) (found : Found inner set_tokens set_fits) where
  group_found : (ts : List Lexeme) (s : Set) (r : List Lexeme) → group inner ts ≡ Ok (s, r) → Takes (λ s. in_parentheses (set_tokens s)) (Passes set_fits) ts s r
  unfolding group
  group_found ts s r e =
      then_found (expect Mark (codes "(") ts) _ _ e (λ _ m1 e1 h.
      then_found (inner m1) _ _ h (λ s' m2 e2 h.
      then_found (expect Mark (codes ")") m2) _ _ h (λ _ m3 e3 h.
      let a = expect_found _ _ _ _ _ e1 in
      let b = found _ _ _ e2 in
      let c = expect_found _ _ _ _ _ e3 in
      let parts : ts ≡ in_parentheses (set_tokens s') ++ m3 = simp append_assoc (cc (a, b.parts, c)) in
      done _ _ _ _ h parts b.fits)))

  inner_found : (ts : List Lexeme) (x : Element) (r : List Lexeme) → inner_at inner ts ≡ Ok (x, r) → TakesElement ts x r
  unfolding inner_at
  inner_found ts x r e =
      then_found (group inner ts) _ _ e (λ s m e1 h.
      let a = group_found _ _ _ e1 in
      let parts : ts ≡ element_tokens (element.Inner s) ++ m = rw form.tokens_Inner a.parts in
      done _ _ _ _ h parts (form.fits_Inner s ∙ a.fits))

  from_found : (b : Bool) (ts m : List Lexeme) (x : Element) (r : List Lexeme) → ts ≡ given b (token Word (codes "FROM")) ++ m → from_if inner b m ≡ Ok (x, r) → TakesElement ts x r
  from_found true ts m x r p e =
      then_found (group inner m) _ _ e (λ s m' e1 h.
      let a = group_found _ _ _ e1 in
      let parts : ts ≡ element_tokens (element.From s) ++ m' = rw form.tokens_From (cc (p, a.parts)) in
      done _ _ _ _ h parts (form.fits_From s ∙ a.fits))
  from_found false ts m x r p e = rw p (by_mark (sees Mark (codes "(") m) e)
    where
      by_mark : (b : Bool) → cond b (inner_at inner m) (plain m) ≡ Ok (x, r) → TakesElement m x r
      by_mark true e = inner_found m x r e
      by_mark false e = plain_found m x r e

  size_found : (b : Bool) (ts m : List Lexeme) (x : Element) (r : List Lexeme) → ts ≡ given b (token Word (codes "SIZE")) ++ m → size_if inner b m ≡ Ok (x, r) → TakesElement ts x r
  size_found true ts m x r p e =
      then_found (group inner m) _ _ e (λ s m' e1 h.
      let a = group_found _ _ _ e1 in
      let parts : ts ≡ element_tokens (element.SizeOf s) ++ m' = rw form.tokens_SizeOf (cc (p, a.parts)) in
      done _ _ _ _ h parts (form.fits_SizeOf s ∙ a.fits))
  size_found false ts m x r p e =
      then_found (eat Word (codes "FROM") m) _ _ e (λ b m' e1 h. rw p (from_found b m m' x r (given_found _ _ _ _ _ e1) h))

  element_found : Found (element_at inner) element_tokens element_fits
  unfolding element_at
  element_found ts x r e = then_found (eat Word (codes "SIZE") ts) _ _ e (λ b m e1 h. size_found b ts m x r (given_found _ _ _ _ _ e1) h)

  abbrev TakesBut : List Lexeme → Option Element → List Lexeme → Type 0
  TakesBut = Takes (λ o. but_tokens (option_map element_tokens o)) (λ o. but_proper (option_map element_fits o) ≡ true)

  but_if_found : (b : Bool) (ts m : List Lexeme) (o : Option Element) (r : List Lexeme) → ts ≡ given b (token Word (codes "EXCEPT")) ++ m → but_if inner b m ≡ Ok (o, r) → TakesBut ts o r
  but_if_found true ts m o r p e =
      then_found (element_at inner m) _ _ e (λ x m' e1 h.
      let a = element_found _ _ _ e1 in
      let parts : ts ≡ but_tokens (option_map element_tokens (Some x)) ++ m' = cc (p, a.parts) in
      done _ _ _ _ h parts a.fits)
  but_if_found false ts m o r p e = done _ _ _ _ e p refl

  but_found : (ts : List Lexeme) (o : Option Element) (r : List Lexeme) → but_at inner ts ≡ Ok (o, r) → TakesBut ts o r
  unfolding but_at
  but_found ts o r e = then_found (eat Word (codes "EXCEPT") ts) _ _ e (λ b m e1 h. but_if_found b ts m o r (given_found _ _ _ _ _ e1) h)

  part_found : Found (part inner) part_tokens part_fits
  unfolding part
  part_found ts x r e =
      then_found (element_at inner ts) _ _ e (λ y m1 e1 h.
      then_found (but_at inner m1) _ _ h (λ but m2 e2 h.
      let a = element_found _ _ _ e1 in
      let b = but_found _ _ _ e2 in
      let parts : ts ≡ part_tokens (roll-Part (record { element = y; but = but })) ++ m2 = rw (form.tokens_part, append_assoc) (cc (a.parts, b.parts)) in
      done _ _ _ _ h parts (form.fits_part y but ∙ both_true a.fits b.fits)))

  next_part_found : Found (next_part inner) next_part_tokens (λ p. part_fits p.1)
  unfolding next_part part_mark
  next_part_found ts x r e =
      then_found (part_mark ts) _ _ e (λ w m1 e1 h.
      then_found (part inner m1) _ _ h (λ p m2 e2 h.
      let a = mark_found _ _ _ _ _ e1 in
      let b = part_found _ _ _ e2 in
      let parts : ts ≡ next_part_tokens (w, p) ++ m2 = cc (a, b.parts) in
      done _ _ _ _ h parts b.fits))

  meet_found : Found (meet inner) meet_tokens meet_fits
  unfolding meet
  meet_found ts x r e =
      then_found (part inner ts) _ _ e (λ first m1 e1 h.
      then_found (many has_part_mark (next_part inner) m1) _ _ h (λ more m2 e2 h.
      let a = part_found _ _ _ e1 in
      let b = repeat_found has_part_mark (next_part inner) next_part_tokens (Passes (λ p. part_fits p.1)) next_part_found (length m1) m1 _ _ e2 in
      let parts : ts ≡ meet_tokens (roll-Meet (record { first = first; more = more })) ++ m2 = rw (form.tokens_meet, append_assoc) (cc (a.parts, b.parts)) in
      done _ _ _ _ h parts (form.fits_meet first more ∙ both_true a.fits (all_pass (λ (p : Bool × Part). part_fits p.1) more b.fits))))

  next_meet_found : Found (next_meet inner) next_meet_tokens (λ p. meet_fits p.1)
  unfolding next_meet meet_mark
  next_meet_found ts x r e =
      then_found (meet_mark ts) _ _ e (λ w m1 e1 h.
      then_found (meet inner m1) _ _ h (λ p m2 e2 h.
      let a = mark_found _ _ _ _ _ e1 in
      let b = meet_found _ _ _ e2 in
      let parts : ts ≡ next_meet_tokens (w, p) ++ m2 = cc (a, b.parts) in
      done _ _ _ _ h parts b.fits))

  union_found : Found (union inner) set_tokens set_fits
  unfolding union
  union_found ts x r e =
      then_found (meet inner ts) _ _ e (λ first m1 e1 h.
      then_found (many has_meet_mark (next_meet inner) m1) _ _ h (λ more m2 e2 h.
      let a = meet_found _ _ _ e1 in
      let b = repeat_found has_meet_mark (next_meet inner) next_meet_tokens (Passes (λ p. meet_fits p.1)) next_meet_found (length m1) m1 _ _ e2 in
      let parts : ts ≡ set_tokens (set.Union first more) ++ m2 = rw (form.tokens_Union, append_assoc) (cc (a.parts, b.parts)) in
      done _ _ _ _ h parts (form.fits_Union first more ∙ both_true a.fits (all_pass (λ (p : Bool × Meet). meet_fits p.1) more b.fits))))

  all_found : (b : Bool) (ts m : List Lexeme) (x : Set) (r : List Lexeme) → ts ≡ given b (token Word (codes "ALL")) ++ m → all_if inner b m ≡ Ok (x, r) → TakesSet ts x r
  unfolding all_except
  all_found true ts m x r p e =
      then_found (expect Word (codes "EXCEPT") m) _ _ e (λ _ m1 e1 h.
      then_found (element_at inner m1) _ _ h (λ y m2 e2 h.
      let a = expect_found _ _ _ _ _ e1 in
      let b = element_found _ _ _ e2 in
      let parts : ts ≡ set_tokens (set.AllExcept y) ++ m2 = rw form.tokens_AllExcept (cc (p, a, b.parts)) in
      done _ _ _ _ h parts (form.fits_AllExcept y ∙ b.fits)))
  all_found false ts m x r p e = rw p (union_found m x r e)

  set_in_found : Found (set_in inner) set_tokens set_fits
  unfolding set_in
  set_in_found ts x r e = then_found (eat Word (codes "ALL") ts) _ _ e (λ b m e1 h. all_found b ts m x r (given_found _ _ _ _ _ e1) h)

pub set_found : (n : ℕ) → Found (set_at n) set_tokens set_fits
set_found zero = λ ts x r e. absurd cc
set_found (suc n) = set_in_found (set_at n) (set_found n)
