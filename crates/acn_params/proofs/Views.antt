-- One level of what a field stands for.
use Rattle.std.proofs.Common.{◌≡◌, ℕ, Bool, List, [], ◌∷◌, refl, ap, rules, map}
use Rattle.acn_params.specs.Paths.{Field, Fields, slot, inner, other, field_list}
use Rattle.acn_params.specs.View.{field_of, fields_of, fields_view}
use Rattle.acn_params.specs.declared.scope.ScopeField.{ScopeField, Slot, Inner, Other, the_lemmas}

pub view_slot : (name : List ℕ) (number : ℕ) (optional : Bool) → field_of (Slot name number optional) ≡ slot name number optional
unfolding field_of
view_slot name number optional = search (rules, the_lemmas)

pub view_inner : (name : List ℕ) (fields : List ScopeField) (optional : Bool) → field_of (Inner name fields optional) ≡ inner name (fields_of (fields_view fields)) optional
unfolding field_of
view_inner name fields optional = search (rules, the_lemmas)

pub view_other : (name : List ℕ) → field_of (Other name) ≡ other name
unfolding field_of
view_other name = search (rules, the_lemmas)

pub ruleset field_views = (view_slot, view_inner, view_other)

pub fields_back : (fs : List Field) → field_list (fields_of fs) ≡ fs
fields_back [] = refl
fields_back (f ∷ fs) = ap (λ xs. f ∷ xs) (fields_back fs)
