-- Steps of the loops over fields and alternatives.
use Rattle.std.proofs.Common.{◌≡◌, ℕ, ◌+◌, ◌<◌, List, [], ◌∷◌, ◌++◌, length, get_or, drop, sym, ap, subst, ◌∙◌, add-one}
use Rattle.std.proofs.lemmas.List.{drop_more}
use Rattle.acn_grammar.specs.Grammar.{Fields, Alternatives, alternative}
use Rattle.acn_grammar.specs.Paths.{grammar_in}
use Rattle.acn_grammar.specs.Slots.{first_of_two}
use Rattle.acn_grammar.specs.View.{OneField, OneAlternative, a_component, an_inserted, with_field, field_of, fields_view, alternative_of, alternatives_view}
use Rattle.acn_grammar.specs.declared.limits.TheConstants.{MOST_NODES}
use Rattle.acn_grammar.specs.declared.node.Alternative.{Alternative}
use Rattle.acn_grammar.specs.declared.node.Field.{Field}
use Rattle.acn_report.specs.Walks.{Walkable, FieldsWalkable, AlternativesWalkable, path_in, fields_path, alternatives_path, one_path}

-- what a walk takes from the first of some children, and from the others
pub record Walked (path : List ℕ) (k : ℕ) (here : Type 0) (others : Type 0) : Type 0 where
  pub few : k < MOST_NODES
  pub child : here
  pub rest : others

-- Fields.

pub split : (fs : List Field) (i : ℕ) (x : Field) → i < length fs → x ≡ get_or fs i x → drop i fs ≡ x ∷ drop (i + 1) fs
split fs i x h e = drop_more fs i x h ∙ ap (λ y. y ∷ drop (i + 1) fs) (sym e)

field_first : (path : List ℕ) (k s : ℕ) (f : OneField) (fs : Fields) → fields_path path k (with_field f fs) s ≡ first_of_two (one_path path k f s) (fields_path path (k + 1) fs s)
field_first path k s (a_component name g presence default own) fs = ap (λ m. first_of_two (one_path path k (a_component name g presence default own) s) (fields_path path m fs s)) (sym (add-one k))
field_first path k s (an_inserted name g slot) fs = ap (λ m. first_of_two (one_path path k (an_inserted name g slot) s) (fields_path path m fs s)) (sym (add-one k))

pub field-turn : (path : List ℕ) (k s : ℕ) (fs : List Field) (i : ℕ) (x : Field) → i < length fs → x ≡ get_or fs i x
    → fields_path path k (fields_view (drop i fs)) s ≡ first_of_two (one_path path k (field_of x) s) (fields_path path (k + 1) (fields_view (drop (i + 1) fs)) s)
field-turn path k s fs i x h e = ap (λ l. fields_path path k (fields_view l) s) (split fs i x h e) ∙ field_first path k s (field_of x) (fields_view (drop (i + 1) fs))

field_walk : (path : List ℕ) (k : ℕ) (f : OneField) (fs : Fields) → FieldsWalkable path k (with_field f fs) → Walked path k (Walkable (path ++ k ∷ []) (grammar_in f)) (FieldsWalkable path (k + 1) fs)
field_walk path k (a_component name g presence default own) fs h = record { few = h.0; child = h.1; rest = subst (λ m. FieldsWalkable path m fs) (sym (add-one k)) h.2 }
field_walk path k (an_inserted name g slot) fs h = record { few = h.0; child = h.1; rest = subst (λ m. FieldsWalkable path m fs) (sym (add-one k)) h.2 }

pub field-walk : (path : List ℕ) (k : ℕ) (fs : List Field) (i : ℕ) (x : Field) → i < length fs → x ≡ get_or fs i x → FieldsWalkable path k (fields_view (drop i fs))
    → Walked path k (Walkable (path ++ k ∷ []) (grammar_in (field_of x))) (FieldsWalkable path (k + 1) (fields_view (drop (i + 1) fs)))
field-walk path k fs i x h e w = field_walk path k (field_of x) (fields_view (drop (i + 1) fs)) (subst (λ (l : List Field). FieldsWalkable path k (fields_view l)) (split fs i x h e) w)

-- Alternatives.

pub split_cases : (as' : List Alternative) (i : ℕ) (x : Alternative) → i < length as' → x ≡ get_or as' i x → drop i as' ≡ x ∷ drop (i + 1) as'
split_cases as' i x h e = drop_more as' i x h ∙ ap (λ y. y ∷ drop (i + 1) as') (sym e)

pub case-turn : (path : List ℕ) (k s : ℕ) (as' : List Alternative) (i : ℕ) (x : Alternative) → i < length as' → x ≡ get_or as' i x
    → alternatives_path path k (alternatives_view (drop i as')) s ≡ first_of_two (path_in (path ++ k ∷ []) (alternative_of x).grammar s) (alternatives_path path (k + 1) (alternatives_view (drop (i + 1) as')) s)
case-turn path k s as' i x h e =
    ap (λ l. alternatives_path path k (alternatives_view l) s) (split_cases as' i x h e)
    ∙ ap (λ m. first_of_two (path_in (path ++ k ∷ []) (alternative_of x).grammar s) (alternatives_path path m (alternatives_view (drop (i + 1) as')) s)) (sym (add-one k))

case_walk : (path : List ℕ) (k : ℕ) (a : OneAlternative) (more : Alternatives) → AlternativesWalkable path k (alternative a.name a.grammar a.tests more) → Walked path k (Walkable (path ++ k ∷ []) a.grammar) (AlternativesWalkable path (k + 1) more)
case_walk path k a more h = record { few = h.0; child = h.1; rest = subst (λ m. AlternativesWalkable path m more) (sym (add-one k)) h.2 }

pub case-walk : (path : List ℕ) (k : ℕ) (as' : List Alternative) (i : ℕ) (x : Alternative) → i < length as' → x ≡ get_or as' i x → AlternativesWalkable path k (alternatives_view (drop i as'))
    → Walked path k (Walkable (path ++ k ∷ []) (alternative_of x).grammar) (AlternativesWalkable path (k + 1) (alternatives_view (drop (i + 1) as')))
case-walk path k as' i x h e w = case_walk path k (alternative_of x) (alternatives_view (drop (i + 1) as')) (subst (λ (l : List Alternative). AlternativesWalkable path k (alternatives_view l)) (split_cases as' i x h e) w)
