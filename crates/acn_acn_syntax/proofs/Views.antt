-- One level of what a field and braces stand for.
use Rattle.std.proofs.Common.{◌≡◌, ℕ, List, [], ◌∷◌, Option, Some, None, refl, ap, rules}
use Rattle.acn_acn_syntax.specs.Mirror.{Field, plain, inserted, number, field_list, braces_list}
use Rattle.acn_acn_syntax.specs.View.{field_of, fields_of, braces_of, braces_view}
use Rattle.acn_acn_syntax.specs.declared.maps.Signed.{Signed}
use Rattle.acn_acn_syntax.specs.declared.modules.AcnField.{AcnField, Plain, Inserted, Number, the_lemmas}
use Rattle.acn_acn_syntax.specs.declared.modules.AcnPath.{AcnPath}
use Rattle.acn_acn_syntax.specs.declared.modules.Attr.{Attr}
use Rattle.acn_acn_syntax.specs.declared.modules.FieldKind.{FieldKind}

pub view_plain : (name : List ℕ) (arguments : List AcnPath) (attributes : List Attr) (fields : Option (List AcnField)) → field_of (Plain name arguments attributes fields) ≡ plain name arguments attributes (braces_view fields)
unfolding field_of
view_plain name arguments attributes fields = search (rules, the_lemmas)

pub view_inserted : (name : List ℕ) (kind : FieldKind) (attributes : List Attr) → field_of (Inserted name kind attributes) ≡ inserted name kind attributes
unfolding field_of
view_inserted name kind attributes = search (rules, the_lemmas)

pub view_number : (name : List ℕ) (n : Signed) → field_of (Number name n) ≡ number name n
unfolding field_of
view_number name n = search (rules, the_lemmas)

pub ruleset field_views = (view_plain, view_inserted, view_number)

-- the list of some fields is those fields
pub fields_back : (fs : List Field) → field_list (fields_of fs) ≡ fs
fields_back [] = refl
fields_back (f ∷ fs) = ap (λ xs. f ∷ xs) (fields_back fs)

pub braces_back : (o : Option (List Field)) → braces_list (braces_of o) ≡ o
braces_back None = refl
braces_back (Some fs) = ap Some (fields_back fs)
