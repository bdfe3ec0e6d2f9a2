-- Where the nearest attributes of a site stand on its type.
use Rattle.std.proofs.Common.{◌≡◌, ℕ, zero, suc, Bool, true, false, List, [], ◌∷◌, drop, Option, Some, None, refl, subst}
use Rattle.std.specs.Prelude.{◌&&◌, if◌then◌else◌, option_and_then, is_some}
use Rattle.acn_acn_syntax.specs.declared.maps.MapTable.{MapTable}
use Rattle.acn_acn_syntax.specs.declared.modules.Attr.{Attr}
use Rattle.acn_acn_syntax.specs.declared.modules.Attr.TheVariants as attr
use Rattle.acn_acn_syntax.specs.declared.modules.Encoding.{Encoding}
use Rattle.acn_acn_syntax.specs.declared.modules.SizeAttr.{SizeAttr}
use Rattle.acn_index.specs.World.{World}
use Rattle.acn_reasons.specs.Classes.{class_of, is_integer, size_in, encoding_in, size_attr, encoding_attr, is_decimal}
use Rattle.acn_reasons.specs.Standing.{size_stands, encoding_stands, stands_here, all_kinds, unless_here, stranger, attribute_not_here}
use Rattle.acn_sites.specs.Attributes.{Given, nearest, place_of}
use Rattle.acn_sites.specs.Places.{Place, is_before, sooner, earliest_from, found_there}
use Rattle.acn_sites.specs.Sites.{Site}
use Rattle.acn_sites.specs.declared.attributes.AttrKind.{AttrKind}
use Rattle.acn_sites.specs.declared.attributes.AttrKind.TheVariants as kind
use Rattle.acn_written.specs.Says.{table_in, table_attr}

-- ---- where nothing is the earliest, nothing is found

sooner_none : {A : Type 0} (best o : Option (Place × A)) → sooner best o ≡ None → (best ≡ None) × (o ≡ None)
sooner_none None None h = (refl, refl)
sooner_none None (Some x) h = cc
sooner_none (Some b) None h = cc
sooner_none {A} (Some b) (Some x) h = by (is_before x.0 b.0) h
  where
    by : (t : Bool) → ◌≡◌ {A = Option (Place × A)} (if t then Some x else Some b) None → (◌≡◌ {A = Option (Place × A)} (Some b) None) × (◌≡◌ {A = Option (Place × A)} (Some x) None)
    by true e = cc
    by false e = cc

first_none : {A B : Type 0} (f : B → Option (Place × A)) (best : Option (Place × A)) (xs : List B) → earliest_from f best xs ≡ None → best ≡ None
first_none f best [] h = h
first_none f best (x ∷ xs) h = (sooner_none best (f x) (first_none f (sooner best (f x)) xs h)).0

later_none : {A B : Type 0} (f : B → Option (Place × A)) (k : ℕ) (xs : List B) → earliest_from f None xs ≡ None → earliest_from f None (drop k xs) ≡ None
later_none f zero xs h = h
later_none f (suc k) [] h = refl
later_none f (suc k) (x ∷ xs) h = later_none f k xs (subst (λ best. earliest_from f best xs ≡ None) (first_none f (sooner None (f x)) xs h) h)

here_none : {A B : Type 0} (f : B → Option (Place × A)) (x : B) (xs : List B) → earliest_from f None (x ∷ xs) ≡ None → f x ≡ None
here_none f x xs h = (sooner_none None (f x) (first_none f (sooner None (f x)) xs h)).1

nothing_there : {A : Type 0} (o : Option (Place × A)) → found_there o ≡ None → o ≡ None
nothing_there None h = refl
nothing_there (Some x) h = cc

-- ---- what the nearest attribute of a kind is

size_is : (a : Attr) (x : SizeAttr) → size_in a ≡ Some x → a ≡ attr.Size x
size_is (attr.Size y) x h = cc
size_is (attr.Encoding e) x h = cc
size_is (attr.Endianness e) x h = cc
size_is (attr.AlignToNext b) x h = cc
size_is attr.EncodeValues x h = cc
size_is (attr.TrueValue l) x h = cc
size_is (attr.FalseValue l) x h = cc
size_is (attr.Pattern l) x h = cc
size_is (attr.TerminationPattern l) x h = cc
size_is (attr.PresentWhen cs) x h = cc
size_is (attr.Determinant p) x h = cc
size_is (attr.MappingFunction n) x h = cc

encoding_is : (a : Attr) (x : Encoding) → encoding_in a ≡ Some x → a ≡ attr.Encoding x
encoding_is (attr.Size y) x h = cc
encoding_is (attr.Encoding e) x h = cc
encoding_is (attr.Endianness e) x h = cc
encoding_is (attr.AlignToNext b) x h = cc
encoding_is attr.EncodeValues x h = cc
encoding_is (attr.TrueValue l) x h = cc
encoding_is (attr.FalseValue l) x h = cc
encoding_is (attr.Pattern l) x h = cc
encoding_is (attr.TerminationPattern l) x h = cc
encoding_is (attr.PresentWhen cs) x h = cc
encoding_is (attr.Determinant p) x h = cc
encoding_is (attr.MappingFunction n) x h = cc

module _ (w : World) (s : Site) where
  unless : (k : AttrKind) (g : Given) → unless_here s k (Some g) ≡ None → stands_here s g.attr ≡ true
  unless k g h = by (stands_here s g.attr) h
    where
      by : (t : Bool) → ◌≡◌ {A = Option (Place × AttrKind)} (if t then None else Some (place_of s g, k)) None → t ≡ true
      by true e = refl
      by false e = cc

  stands : (k : AttrKind) (g : Given) → stranger s k ≡ None → nearest k s ≡ Some g → stands_here s g.attr ≡ true
  stands k g h e = unless k g (subst (λ (o : Option Given). unless_here s k o ≡ None) e h)

  table_stands : (a : Attr) (t : MapTable) → table_in w a ≡ Some t → stands_here s a ≡ true → (is_integer (class_of s) && is_some (size_attr s)) ≡ true
  table_stands (attr.Size y) t h e = cc
  table_stands (attr.Encoding x) t h e = cc
  table_stands (attr.Endianness x) t h e = cc
  table_stands (attr.AlignToNext b) t h e = cc
  table_stands attr.EncodeValues t h e = cc
  table_stands (attr.TrueValue l) t h e = cc
  table_stands (attr.FalseValue l) t h e = cc
  table_stands (attr.Pattern l) t h e = cc
  table_stands (attr.TerminationPattern l) t h e = cc
  table_stands (attr.PresentWhen cs) t h e = cc
  table_stands (attr.Determinant p) t h e = cc
  table_stands (attr.MappingFunction n) t h e = e

  module _ (clear : attribute_not_here s ≡ None) where
    nothing : earliest_from (stranger s) None all_kinds ≡ None
    unfolding attribute_not_here
    nothing = nothing_there (earliest_from (stranger s) None all_kinds) clear

    no_size : stranger s kind.Size ≡ None
    no_size = here_none (stranger s) kind.Size (drop 1 all_kinds) nothing

    no_encoding : stranger s kind.Encoding ≡ None
    no_encoding = here_none (stranger s) kind.Encoding (drop 2 all_kinds) (later_none (stranger s) 1 all_kinds nothing)

    no_table : stranger s kind.MappingFunction ≡ None
    no_table = here_none (stranger s) kind.MappingFunction [] (later_none (stranger s) 11 all_kinds nothing)

    -- the nearest `size` stands on the type
    pub size_here : (x : SizeAttr) → size_attr s ≡ Some x → size_stands (class_of s) (is_decimal (encoding_attr s)) x ≡ true
    size_here x h = by (nearest kind.Size s) refl h
      where
        by : (o : Option Given) → nearest kind.Size s ≡ o → option_and_then (λ (g : Given). size_in g.attr) o ≡ Some x → size_stands (class_of s) (is_decimal (encoding_attr s)) x ≡ true
        by None e h = cc
        by (Some g) e h = subst (λ (a : Attr). stands_here s a ≡ true) (size_is g.attr x h) (stands kind.Size g no_size e)

    pub encoding_here : (x : Encoding) → encoding_attr s ≡ Some x → encoding_stands (class_of s) (attr.Encoding x) ≡ true
    encoding_here x h = by (nearest kind.Encoding s) refl h
      where
        by : (o : Option Given) → nearest kind.Encoding s ≡ o → option_and_then (λ (g : Given). encoding_in g.attr) o ≡ Some x → encoding_stands (class_of s) (attr.Encoding x) ≡ true
        by None e h = cc
        by (Some g) e h = subst (λ (a : Attr). stands_here s a ≡ true) (encoding_is g.attr x h) (stands kind.Encoding g no_encoding e)

    -- a table stands on an INTEGER with a size
    pub table_here : (t : MapTable) → table_attr w s ≡ Some t → (is_integer (class_of s) && is_some (size_attr s)) ≡ true
    table_here t h = by (nearest kind.MappingFunction s) refl h
      where
        by : (o : Option Given) → nearest kind.MappingFunction s ≡ o → option_and_then (λ (g : Given). table_in w g.attr) o ≡ Some t → (is_integer (class_of s) && is_some (size_attr s)) ≡ true
        by None e h = cc
        by (Some g) e h = table_stands g.attr t h (stands kind.MappingFunction g no_table e)
