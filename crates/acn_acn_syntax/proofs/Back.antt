-- A tree is what its data say.
use Rattle.std.proofs.Common.{◌≡◌, ℕ, List, [], ◌∷◌, Option, Some, None, map, refl, sym, ap, ◌∙◌, subst, rules}
use Rattle.std.specs.Prelude.{option_map}
use Rattle.acn_acn_syntax.specs.Mirror.{Field, Braces, Fields, Entry, Module, plain, inserted, number, no_braces, braces, no_fields, and_field}
use Rattle.acn_acn_syntax.specs.View.{field_of, fields_view, braces_view, entry_of, module_of, modules_of}
use Rattle.acn_acn_syntax.specs.declared.maps.Signed.{Signed}
use Rattle.acn_acn_syntax.specs.declared.modules.AcnEntry.{AcnEntry}
use Rattle.acn_acn_syntax.specs.declared.modules.AcnField.{AcnField, Plain, Inserted, Number, the_lemmas, ind-AcnField, roll-AcnField, map-AcnField}
use Rattle.acn_acn_syntax.specs.declared.modules.AcnField.TheOpen.{AcnField-F}
use Rattle.acn_acn_syntax.specs.declared.modules.AcnField.TheVariants.{rolls-Plain}
use Rattle.acn_acn_syntax.specs.declared.modules.AcnModule.{AcnModule}
use Rattle.acn_acn_syntax.specs.declared.modules.AcnModules.{AcnModules}
use Rattle.acn_acn_syntax.specs.declared.modules.AcnPath.{AcnPath}
use Rattle.acn_acn_syntax.specs.declared.modules.Attr.{Attr}
use Rattle.acn_acn_syntax.proofs.Views.{view_plain, view_inserted, view_number}

abbrev mutual
  pub tree_of : Field → AcnField
  tree_of (plain name arguments attributes bs) = Plain name arguments attributes (braces_list bs)
  tree_of (inserted name kind attributes) = Inserted name kind attributes
  tree_of (number name n) = Number name n

  pub braces_list : Braces → Option (List AcnField)
  braces_list no_braces = None
  braces_list (braces fs) = Some (fields_list fs)

  pub fields_list : Fields → List AcnField
  fields_list no_fields = []
  fields_list (and_field f fs) = tree_of f ∷ fields_list fs

abbrev Back : AcnField → Type 0
Back f = tree_of (field_of f) ≡ f

abbrev Held : Type 0
Held = (f : AcnField) × Back f

abbrev bare : AcnField-F Held → AcnField-F AcnField
bare = map-AcnField Held AcnField (λ e. e.0)

fields_back : (ys : List Held) → fields_list (fields_view (map (λ e. e.0) ys)) ≡ map (λ e. e.0) ys
fields_back [] = refl
fields_back (e ∷ ys) = rw (e.1, fields_back ys) refl

plain_back : (name : List ℕ) (arguments : List AcnPath) (attributes : List Attr) (fs : Option (List AcnField)) → braces_list (braces_view fs) ≡ fs → Back (roll-AcnField (AcnField-F.Plain name arguments attributes fs))
plain_back name arguments attributes fs h = subst Back (sym (rolls-Plain name arguments attributes fs)) (ap tree_of (view_plain name arguments attributes fs) ∙ ap (Plain name arguments attributes) h)

layer : (y : AcnField-F Held) → Back (roll-AcnField (bare y))
unfolding field_of
layer (AcnField-F.Plain name arguments attributes None) = plain_back name arguments attributes None refl
layer (AcnField-F.Plain name arguments attributes (Some ys)) = plain_back name arguments attributes _ (ap Some (fields_back ys))
layer (AcnField-F.Inserted name kind attributes) = search (rules, the_lemmas)
layer (AcnField-F.Number name n) = search (rules, the_lemmas)

pub back : (f : AcnField) → Back f
back = ind-AcnField Back (λ x y is. subst (λ z. Back (roll-AcnField z)) is (layer y))

all_back : (fs : List AcnField) → fields_list (fields_view fs) ≡ fs
all_back [] = refl
all_back (f ∷ fs) = rw (back f, all_back fs) refl

braces_back : (fs : Option (List AcnField)) → braces_list (braces_view fs) ≡ fs
braces_back None = refl
braces_back (Some fs) = ap Some (all_back fs)

abbrev entry_back : Entry → AcnEntry
entry_back e = record { name = e.name; parameters = e.parameters; attributes = e.attributes; fields = braces_list e.fields }

abbrev module_back : Module → AcnModule
module_back m = record { name = m.name; entries = map entry_back m.entries }

entry_is : (e : AcnEntry) → entry_back (entry_of e) ≡ e
entry_is e = ap (λ z. record { name = e.name; parameters = e.parameters; attributes = e.attributes; fields = z }) (braces_back e.fields)

entries_are : (es : List AcnEntry) → map entry_back (map entry_of es) ≡ es
entries_are [] = refl
entries_are (e ∷ es) = rw (entry_is e, entries_are es) refl

module_is : (m : AcnModule) → module_back (module_of m) ≡ m
module_is m = ap (λ z. record { name = m.name; entries = z }) (entries_are m.entries)

modules_are : (ms : List AcnModule) → map module_back (map module_of ms) ≡ ms
modules_are [] = refl
modules_are (m ∷ ms) = rw (module_is m, modules_are ms) refl

-- modules with one data are one
pub same_modules : (a b : AcnModules) → modules_of a ≡ modules_of b → a ≡ b
same_modules a b e =
    let k : a.modules ≡ b.modules = sym (modules_are a.modules) ∙ (ap (map module_back) e ∙ modules_are b.modules) in
    ap (λ z. record { modules = z }) k
