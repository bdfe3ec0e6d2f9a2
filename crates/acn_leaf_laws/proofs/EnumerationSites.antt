-- The leaf that a site of an ENUMERATED without a reason gives is fine, where its items are items.
use Rattle.std.proofs.Common.{◌≡◌, Bool, true, false, List, [], Option, Some, None, refl, sym, ap, subst, ◌∙◌}
use Rattle.std.specs.Prelude.{option_map, if◌then◌else◌}
use Rattle.acn_acn_syntax.specs.declared.modules.Attr.TheVariants as attr
use Rattle.acn_acn_syntax.specs.declared.modules.Encoding.{Encoding}
use Rattle.acn_acn_syntax.specs.declared.modules.Encoding.TheVariants as encoding
use Rattle.acn_acn_syntax.specs.declared.modules.SizeAttr.{SizeAttr}
use Rattle.acn_acn_syntax.specs.declared.modules.SizeAttr.TheVariants as size
use Rattle.acn_acn_syntax.specs.Mirror.{Field}
use Rattle.acn_asn_syntax.specs.Mirror.{AsnBase, boolean, null, integer, enumerated, octet_string, bit_string, ia5_string, sequence, sequence_of, sequence_size, choice, reference}
use Rattle.acn_asn_syntax.specs.declared.types.Item.{Item}
use Rattle.acn_codings.specs.Codings.{coding_of, fits, numbers}
use Rattle.acn_codings.specs.Left.{left_of, least_lost}
use Rattle.acn_codings.specs.declared.coding.Coding.{Coding}
use Rattle.acn_enum_values.specs.EnumValues.{fault_of, enum_values}
use Rattle.acn_grammar.specs.Leaves.{num_fine}
use Rattle.acn_grammar.specs.declared.node.NumCoding.{NumCoding}
use Rattle.acn_grammar.specs.declared.node.NumKind.TheVariants.{Enumerated}
use Rattle.acn_grammar.specs.declared.node.NumLeaf.{NumLeaf}
use Rattle.acn_index.specs.World.{World}
use Rattle.acn_leaves.specs.Leaves.{range_from, low_end, high_end, as_said, values_range, enumerated_leaf, null_leaf, leaf_of_base, leaf_at}
use Rattle.acn_leaves.specs.Ordered.{items_in_order}
use Rattle.acn_made.specs.Made.{number_at}
use Rattle.acn_num.specs.Ranges.{Ranges}
use Rattle.acn_reasons.specs.Classes.{class_of_base, class_of, is_decimal, size_attr, encoding_attr}
use Rattle.acn_reasons.specs.Standing.{size_stands, encoding_stands}
use Rattle.acn_reasons.specs.declared.classes.Class.{Class}
use Rattle.acn_reasons.specs.declared.classes.Class.TheVariants as class
use Rattle.acn_sites.specs.Sites.{Site, base_of}
use Rattle.acn_slots.specs.Slots.{default_of, braces_origin, braces_at}
use Rattle.acn_written.specs.Ends.{end_of}
use Rattle.acn_written.specs.Items.{Numbered}
use Rattle.acn_written.specs.Numbers.{Numbers, through, closed_set, indices, values_of, valued, indexed, numbers_of_base, numbers_at}
use Rattle.acn_written.specs.Says.{is_little, has_values}
use Rattle.acn_written.specs.Widths.{is_whole_octets}
use Rattle.acn_leaf_laws.specs.Laws.{AreItems}
use Rattle.acn_leaf_laws.proofs.Enumerations.{is_plain, leaf_from, value_rules, index_rules}
use Rattle.acn_leaf_laws.proofs.IntegerSites.{width_fits, octets_whole, none_lost}
use Rattle.acn_leaf_laws.proofs.Items.{AreNumbered, values_numbered}
use Rattle.acn_leaf_laws.proofs.Reasons.{IsClear}
use Rattle.acn_leaf_laws.proofs.Rules.{fine_by}
use Rattle.acn_leaf_laws.proofs.Standing.{size_here, encoding_here}

pub enumerated_base : (b : AsnBase) → class_of_base b ≡ class.Enumerated → (items : List Item) × (b ≡ enumerated items)
enumerated_base boolean h = cc
enumerated_base null h = cc
enumerated_base (integer ns) h = cc
enumerated_base (enumerated items) h = (items, refl)
enumerated_base octet_string h = cc
enumerated_base bit_string h = cc
enumerated_base ia5_string h = cc
enumerated_base (sequence cs) h = cc
enumerated_base (sequence_of t) h = cc
enumerated_base (sequence_size c t) h = cc
enumerated_base (choice more) h = cc
enumerated_base (reference from name) h = cc

-- the numbers of the items, or their indices, in this coding
abbrev numbers_when : List Item → List Numbered → Coding → Bool → Numbers
numbers_when items values c v = if v then valued items values c else indexed items c

coding_kept : (items : List Item) (values : List Numbered) (c : Coding) (v : Bool) → (numbers_when items values c v).coding ≡ c
coding_kept items values c true = refl
coding_kept items values c false = refl

left_kept : (items : List Item) (values : List Numbered) (c : Coding) (v : Bool) → (numbers_when items values c v).left ≡ indices items
unfolding left_of
left_kept items values c true = refl
left_kept items values c false = refl

-- the coding that numbers have
abbrev coding_when : (default : NumCoding) (end : List Bool) → Coding → NumCoding
coding_when default end c = if fits c then as_said default end c else default

module _ (w : World) (s : Site) (items : List Item) (is : base_of s ≡ enumerated items) (clear : IsClear w s) (are : AreItems items) where
  class_is : class_of s ≡ class.Enumerated
  class_is = ap class_of_base is

  abbrev braces : Option (List Field)
  braces = braces_at s.used (braces_origin s.chain s.used)

  abbrev values : List Numbered
  values = values_of items braces

  abbrev coding_is : Coding
  coding_is = coding_of false (size_attr s) (encoding_attr s)

  numbered_items : AreNumbered items values
  unfolding enum_values
  numbered_items = values_numbered items braces (ap (λ (b : AsnBase). fault_of b braces) (sym is) ∙ clear.items) are.differ

  size_so : (x : SizeAttr) → size_attr s ≡ Some x → size_stands class.Enumerated (is_decimal (encoding_attr s)) x ≡ true
  size_so x e = subst (λ (c : Class). size_stands c (is_decimal (encoding_attr s)) x ≡ true) class_is (size_here w s clear.standing x e)

  encoding_so : (x : Encoding) → encoding_attr s ≡ Some x → encoding_stands class.Enumerated (attr.Encoding x) ≡ true
  encoding_so x e = subst (λ (c : Class). encoding_stands c (attr.Encoding x) ≡ true) class_is (encoding_here w s clear.standing x e)

  plain_coding : (o : Option SizeAttr) (p : Option Encoding) → size_attr s ≡ o → encoding_attr s ≡ p → is_plain (coding_of false o p) ≡ true
  plain_coding None p e f = refl
  plain_coding (Some (size.Number n)) None e f = refl
  plain_coding (Some (size.Number n)) (Some encoding.PosInt) e f = refl
  plain_coding (Some (size.Number n)) (Some encoding.TwosComplement) e f = refl
  plain_coding (Some (size.Number n)) (Some encoding.Bcd) e f = (let h = encoding_so encoding.Bcd f in cc)
  plain_coding (Some (size.Number n)) (Some encoding.Ascii) e f = (let h = encoding_so encoding.Ascii f in cc)
  plain_coding (Some size.NullTerminated) p e f = absurd (no_end (is_decimal (encoding_attr s)) (size_so size.NullTerminated e))
    where
      no_end : (decimal : Bool) → size_stands class.Enumerated decimal size.NullTerminated ≡ true → ⊥
      no_end true h = cc
      no_end false h = cc
  plain_coding (Some (size.Path q)) p e f = refl

  module _ (v : Bool) (written : has_values s ≡ v) where
    abbrev these : Numbers
    these = numbers_when items values coding_is v

    numbered : numbers_at w s ≡ Some these
    unfolding numbers_at
    numbered = ap (λ (b : AsnBase). numbers_of_base w s b) is ∙ ap (λ (t : Bool). Some (numbers_when items values coding_is t)) written

    fitting : fits coding_is ≡ true
    fitting = ap fits (sym (coding_kept items values coding_is v)) ∙ width_fits w s these numbered clear.size

    none_is_lost : these.lost ≡ None
    none_is_lost = none_lost w s these numbered clear.narrow

    order : is_little s ≡ true → is_whole_octets coding_is ≡ true
    order h = ap is_whole_octets (sym (coding_kept items values coding_is v)) ∙ octets_whole w s these numbered clear.endianness h

    leaf_is : leaf_at w s ≡ Some (enumerated_leaf s items braces these)
    unfolding leaf_at
    leaf_is = ap (λ (b : AsnBase). leaf_of_base w s b) is ∙ ap (λ (o : Option Numbers). option_map (enumerated_leaf s items braces) o) numbered

    -- with what is left, the coding, and whether the numbers are written
    abbrev leaf_when : (left : Ranges) (c : Coding) (t : Bool) → NumLeaf
    leaf_when left c t = record { kind = Enumerated; set = left; coding = coding_when (if t then values_range values else range_from (low_end left) (high_end left)) (end_of s) c; little = is_little s; table = None; items = record { items = items_in_order items braces; values = t } }

    leaf_fits : num_fine (leaf_from items values (items_in_order items braces) v coding_is (end_of s) (is_little s)) ≡ true → num_fine (number_at w s) ≡ true
    leaf_fits h =
        ap (λ (o : Option NumLeaf). num_fine (default_of o (null_leaf s))) leaf_is
        ∙ (ap (λ (t : Bool). num_fine (leaf_when these.left these.coding t)) written
        ∙ (ap (λ (l : Ranges). num_fine (leaf_when l these.coding v)) (left_kept items values coding_is v)
        ∙ (ap (λ (c : Coding). num_fine (leaf_when (indices items) c v)) (coding_kept items values coding_is v)
        ∙ (ap (λ (b : Bool). num_fine (record { kind = Enumerated; set = indices items; coding = (if b then as_said (if v then values_range values else range_from (low_end (indices items)) (high_end (indices items))) (end_of s) coding_is else (if v then values_range values else range_from (low_end (indices items)) (high_end (indices items)))); little = is_little s; table = None; items = record { items = items_in_order items braces; values = v } })) fitting
        ∙ h))))

  enumerated_by : (v : Bool) → has_values s ≡ v → num_fine (number_at w s) ≡ true
  enumerated_by true e =
      leaf_fits true e (fine_by (leaf_from items values (items_in_order items braces) true coding_is (end_of s) (is_little s))
      (value_rules items braces are numbered_items coding_is (end_of s) (is_little s)
      (record { width = fitting true e; plain = plain_coding (size_attr s) (encoding_attr s) refl refl; order = order true e; lost_values = λ t. none_is_lost true e; lost_indices = λ t. cc })))
  enumerated_by false e =
      leaf_fits false e (fine_by (leaf_from items values (items_in_order items braces) false coding_is (end_of s) (is_little s))
      (index_rules items braces are numbered_items coding_is (end_of s) (is_little s)
      (record {
        width = fitting false e;
        plain = plain_coding (size_attr s) (encoding_attr s) refl refl;
        order = order false e;
        lost_values = λ t. cc;
        lost_indices = λ t. ap (λ (b : Bool). least_lost (closed_set (indices items)) (if b then through None (numbers coding_is) else [])) (sym (fitting false e)) ∙ none_is_lost false e;
      })))

  pub enumerated_fine : num_fine (number_at w s) ≡ true
  enumerated_fine = enumerated_by (has_values s) refl
