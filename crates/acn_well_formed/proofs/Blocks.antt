-- Names in blocks.
use Rattle.std.proofs.Common.{◌≡◌, ℕ, Bool, true, List, [], ◌∷◌, ◌++◌, map, length, nat_eq, arith, refl, sym, ap, ◌∙◌}
use Rattle.std.proofs.lemmas.Bool.Decides.{nat_tests}
use Rattle.acn_grammar.specs.Tree.{field_names}
use Rattle.acn_grammar.specs.View.{OneField, a_component, an_inserted, with_field, field_of, fields_view, alternative_of, alternatives_view}
use Rattle.acn_grammar.specs.Grammar.{Fields}
use Rattle.acn_grammar.specs.Walk.{conditions_of}
use Rattle.acn_grammar.specs.declared.node.Alternative.{Alternative}
use Rattle.acn_grammar.specs.declared.node.Field.{Field}
use Rattle.acn_well_formed.specs.Kept.{name_in}

abbrev pub names : List Field → List (List ℕ)
names fs = field_names (fields_view fs)

first_name : (o : OneField) (fs : Fields) → field_names (with_field o fs) ≡ name_in o ∷ field_names fs
first_name (a_component name g presence default own) fs = refl
first_name (an_inserted name g slot) fs = refl

names_append : (xs ys : List Field) → names (xs ++ ys) ≡ names xs ++ names ys
names_append [] ys = refl
names_append (x ∷ xs) ys = first_name (field_of x) (fields_view (xs ++ ys)) ∙ (ap (λ l. name_in (field_of x) ∷ l) (names_append xs ys) ∙ ap (λ l. l ++ names ys) (sym (first_name (field_of x) (fields_view xs))))

pub names_split : (fs block more : List Field) → fs ≡ block ++ more → names fs ≡ names block ++ names more
names_split fs block more e = ap names e ∙ names_append block more

pub none_left : (b : Bool) (fs : List Field) → b ≡ nat_eq (length fs) 0 → b ≡ true → names fs ≡ []
none_left b [] e h = refl
none_left b (x ∷ xs) e h = (let g = eq_is (length (x ∷ xs)) 0 (sym e ∙ h) in absurd (omega (arith, g)))
  where
    eq_is : (m n : ℕ) → nat_eq m n ≡ true → m ≡ n
    eq_is m n t = grind (arith, nat_tests)

-- The names of alternatives in blocks.

abbrev pub case_names : List Alternative → List (List ℕ)
case_names as' = map (λ c. c.0) (conditions_of (alternatives_view as'))

cases_append : (xs ys : List Alternative) → case_names (xs ++ ys) ≡ case_names xs ++ case_names ys
cases_append [] ys = refl
cases_append (x ∷ xs) ys = ap (λ l. (alternative_of x).name ∷ l) (cases_append xs ys)

pub cases_split : (as' block more : List Alternative) → as' ≡ block ++ more → case_names as' ≡ case_names block ++ case_names more
cases_split as' block more e = ap case_names e ∙ cases_append block more

pub no_case_left : (b : Bool) (as' : List Alternative) → b ≡ nat_eq (length as') 0 → b ≡ true → case_names as' ≡ []
no_case_left b [] e h = refl
no_case_left b (x ∷ xs) e h = (let g = eq_is (length (x ∷ xs)) 0 (sym e ∙ h) in absurd (omega (arith, g)))
  where
    eq_is : (m n : ℕ) → nat_eq m n ≡ true → m ≡ n
    eq_is m n t = grind (arith, nat_tests)
