-- Fields and alternatives of lists, and how many there are.
use Rattle.std.proofs.Common.{◌≡◌, ℕ, suc, ◌+◌, ◌<◌, List, [], ◌∷◌, length, get_or, drop, refl, ap, ◌∙◌}
use Rattle.std.proofs.lemmas.List.{drop_more}
use Rattle.acn_grammar.specs.View.{OneField, a_component, an_inserted, with_field, field_of, fields_view, alternatives_view}
use Rattle.acn_grammar.specs.declared.node.Alternative.{Alternative}
use Rattle.acn_grammar.specs.declared.node.Field.{Field}
use Rattle.acn_tree.specs.Made.{alternative_count}
use Rattle.acn_tree.specs.Room.{field_count}

-- the fields from i on are that field and those behind it
pub fields_from : (fs : List Field) (i : ℕ) (f : Field) → i < length fs → f ≡ get_or fs i f → fields_view (drop i fs) ≡ with_field (field_of f) (fields_view (drop (i + 1) fs))
fields_from fs i f h e = rw (drop_more fs i f h, ← e) refl

pub field_count-length : (fs : List Field) → field_count (fields_view fs) ≡ length fs
field_count-length [] = refl
field_count-length (f ∷ fs) = one_more (field_of f) ∙ ap suc (field_count-length fs)
  where
    one_more : (x : OneField) → field_count (with_field x (fields_view fs)) ≡ suc (field_count (fields_view fs))
    one_more (a_component name g presence default own) = refl
    one_more (an_inserted name g slot) = refl

pub alternative_count-length : (as' : List Alternative) → alternative_count (alternatives_view as') ≡ length as'
alternative_count-length [] = refl
alternative_count-length (a ∷ as') = ap suc (alternative_count-length as')
