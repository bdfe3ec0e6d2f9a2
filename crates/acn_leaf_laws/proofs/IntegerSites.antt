-- The leaf that a site of an INTEGER without a reason gives is fine.
use Rattle.std.proofs.Common.{◌≡◌, Bool, true, false, not, ◌&&◌, ◌||◌, List, [], Option, Some, None, refl, sym, ap, subst, ◌∙◌}
use Rattle.std.specs.Prelude.{Result, Ok, Err, is_some, option_map, option_and_then, if◌then◌else◌}
use Rattle.std.proofs.lemmas.Bool.{and_parts, not-false}
use Rattle.acn_acn_syntax.specs.declared.maps.MapTable.{MapTable}
use Rattle.acn_acn_syntax.specs.declared.modules.SizeAttr.{SizeAttr}
use Rattle.acn_acn_syntax.specs.declared.modules.SizeAttr.TheVariants as size
use Rattle.acn_asn_syntax.specs.Mirror.{AsnBase, boolean, null, integer, enumerated, octet_string, bit_string, ia5_string, sequence, sequence_of, sequence_size, choice, reference}
use Rattle.acn_asn_syntax.specs.declared.types.Named.{Named}
use Rattle.acn_codings.specs.Codings.{coding_of, fits, numbers}
use Rattle.acn_codings.specs.Left.{left_of, least_lost}
use Rattle.acn_codings.specs.Tables.{table_fault}
use Rattle.acn_codings.specs.declared.coding.Coding.{Coding}
use Rattle.acn_constraint.specs.Constraints.{Opened, Fault, range_of}
use Rattle.acn_grammar.specs.Leaves.{num_fine}
use Rattle.acn_grammar.specs.declared.node.NumKind.TheVariants.{Integer}
use Rattle.acn_grammar.specs.declared.node.NumLeaf.{NumLeaf}
use Rattle.acn_index.specs.World.{World}
use Rattle.acn_leaves.specs.Leaves.{default_coding, as_said, no_items, table_of, null_leaf, integer_leaf, leaf_of_base, leaf_at}
use Rattle.acn_num.specs.Ranges.{Ranges}
use Rattle.acn_made.specs.Made.{number_at}
use Rattle.acn_reasons.specs.Classes.{class_of_base, class_of, is_integer, size_attr, encoding_attr, is_decimal}
use Rattle.acn_reasons.specs.Constrained.{fault_in, fault_of_class, constraint_fault}
use Rattle.acn_reasons.specs.Standing.{size_stands}
use Rattle.acn_reasons.specs.declared.classes.Class.{Class}
use Rattle.acn_reasons.specs.declared.classes.Class.TheVariants as class
use Rattle.acn_sites.specs.Sites.{Site, base_of}
use Rattle.acn_sites.specs.declared.attributes.AttrKind.TheVariants as kind
use Rattle.acn_slots.specs.Slots.{default_of}
use Rattle.acn_written.specs.Ends.{end_of}
use Rattle.acn_written.specs.Mapped.{bad_mapping}
use Rattle.acn_written.specs.Numbers.{Numbers, through, has_sign, integer_numbers, if_left, numbers_of_base, numbers_at, too_narrow}
use Rattle.acn_written.specs.Patterns.{pattern_attr, clashes, ends_number, clash_of, pattern_clash}
use Rattle.acn_written.specs.Says.{table_attr, is_little}
use Rattle.acn_written.specs.Sizes.{written_sizes}
use Rattle.acn_written.specs.Widths.{number_size_fits, size_fits, bad_size, is_whole_octets, little_fits, bad_endianness}
use Rattle.acn_leaf_laws.proofs.Constrained.{numbers_bounded}
use Rattle.acn_leaf_laws.proofs.Integers.{is_sized, sized_number, sized_ended, signed_of, IsInteger, integer_rules}
use Rattle.acn_leaf_laws.proofs.Patterns.{number_end}
use Rattle.acn_leaf_laws.proofs.Reasons.{IsClear}
use Rattle.acn_leaf_laws.proofs.Rules.{fine_by}
use Rattle.acn_leaf_laws.proofs.Standing.{size_here, table_here}

pub integer_base : (b : AsnBase) → class_of_base b ≡ class.Integer → (ns : Option (List Named)) × (b ≡ integer ns)
integer_base boolean h = cc
integer_base null h = cc
integer_base (integer ns) h = (ns, refl)
integer_base (enumerated items) h = cc
integer_base octet_string h = cc
integer_base bit_string h = cc
integer_base ia5_string h = cc
integer_base (sequence cs) h = cc
integer_base (sequence_of t) h = cc
integer_base (sequence_size c t) h = cc
integer_base (choice more) h = cc
integer_base (reference from name) h = cc

-- ---- what the reasons say of the numbers

module _ (w : World) (s : Site) (n : Numbers) (numbered : numbers_at w s ≡ Some n) where
  pub width_fits : bad_size w s ≡ false → fits n.coding ≡ true
  unfolding bad_size
  width_fits h =
      let all : size_fits s (numbers_at w s) (written_sizes w s) ≡ true = not-false (size_fits s (numbers_at w s) (written_sizes w s)) h in
      let one : number_size_fits s n ≡ true = subst (λ (o : Option Numbers). size_fits s o (written_sizes w s) ≡ true) numbered all in
      (and_parts (fits n.coding) (is_some (size_attr s) || not (is_some (encoding_attr s))) one).0

  pub octets_whole : bad_endianness w s ≡ false → is_little s ≡ true → is_whole_octets n.coding ≡ true
  unfolding bad_endianness
  octets_whole h little =
      let all : (is_little s && not (little_fits (Some n))) ≡ false = subst (λ (o : Option Numbers). (is_little s && not (little_fits o)) ≡ false) numbered h in
      not-false (is_whole_octets n.coding) (ap (λ (b : Bool). b && not (is_whole_octets n.coding)) (sym little) ∙ all)

  pub none_lost : too_narrow w s ≡ None → n.lost ≡ None
  unfolding too_narrow
  none_lost h = subst (λ (o : Option Numbers). option_and_then (λ (m : Numbers). m.lost) o ≡ None) numbered h

-- ---- an INTEGER

module _ (w : World) (s : Site) (ns : Option (List Named)) (is : base_of s ≡ integer ns) (clear : IsClear w s) where
  class_is : class_of s ≡ class.Integer
  class_is = ap class_of_base is

  range_there : (r : Result Opened Fault) → range_of w s.chain ≡ r → fault_in r ≡ None → (set : Opened) × (range_of w s.chain ≡ Ok set)
  range_there (Ok set) e h = (set, e)
  range_there (Err f) e h = cc

  range_is : (set : Opened) × (range_of w s.chain ≡ Ok set)
  unfolding constraint_fault
  range_is = range_there (range_of w s.chain) refl (sym (ap (λ (c : Class). fault_of_class w s c) class_is) ∙ clear.constraints)

  no_clash : clashes ends_number (pattern_attr kind.TerminationPattern s) ≡ false
  unfolding pattern_clash
  no_clash = sym (ap (λ (c : Class). clash_of c s) class_is) ∙ clear.patterns

  no_fault : (t : MapTable) → table_attr w s ≡ Some t → table_fault t.lines ≡ None
  unfolding bad_mapping
  no_fault t e = subst (λ (o : Option MapTable). option_and_then (λ (t : MapTable). table_fault t.lines) o ≡ None) e clear.mapping

  size_there : (o : Option SizeAttr) → size_attr s ≡ o → is_some o ≡ true → (sign : Bool) → is_sized (coding_of sign o (encoding_attr s)) ≡ true
  size_there None e h sign = cc
  size_there (Some (size.Number n)) e h sign = sized_number sign n (encoding_attr s)
  size_there (Some size.NullTerminated) e h sign = sized_ended sign (encoding_attr s)
  size_there (Some (size.Path p)) e h sign =
      let f : size_stands class.Integer (is_decimal (encoding_attr s)) (size.Path p) ≡ true = subst (λ (c : Class). size_stands c (is_decimal (encoding_attr s)) (size.Path p) ≡ true) class_is (size_here w s clear.standing (size.Path p) e) in
      cc

  sized : (t : MapTable) → table_attr w s ≡ Some t → (sign : Bool) → is_sized (coding_of sign (size_attr s) (encoding_attr s)) ≡ true
  sized t e sign = size_there (size_attr s) refl (and_parts (is_integer (class_of s)) (is_some (size_attr s)) (table_here w s clear.standing t e)).1 sign

  module _ (set : Opened) (ranged : range_of w s.chain ≡ Ok set) where
    abbrev coding_is : Coding
    coding_is = coding_of (has_sign set) (size_attr s) (encoding_attr s)

    numbered : numbers_at w s ≡ Some (integer_numbers w s set)
    unfolding numbers_at
    numbered = ap (λ (b : AsnBase). numbers_of_base w s b) is ∙ ap (λ (r : Result Opened Fault). option_map (integer_numbers w s) (if_left r)) ranged

    -- where the coding has the width, what is left is by the numbers that it can write
    abbrev left_when : Bool → Ranges
    left_when b = left_of set (if b then through (table_attr w s) (numbers coding_is) else [])

    fitting : fits coding_is ≡ true
    fitting = width_fits w s (integer_numbers w s set) numbered clear.size

    known : IsInteger set (table_attr w s) coding_is (end_of s) (is_little s)
    known = record {
      bounded = numbers_bounded w s.chain set ranged;
      width = fitting;
      ended = number_end s no_clash;
      order = octets_whole w s (integer_numbers w s set) numbered clear.endianness;
      sign = signed_of (has_sign set) (size_attr s) (encoding_attr s);
      sized = λ t e. sized t e (has_sign set);
      fault = no_fault;
      lost = ap (λ (b : Bool). least_lost set (if b then through (table_attr w s) (numbers coding_is) else [])) (sym fitting) ∙ none_lost w s (integer_numbers w s set) numbered clear.narrow;
    }

    abbrev leaf_when : Bool → NumLeaf
    leaf_when b = record { kind = Integer; set = left_when b; coding = (if b then as_said (default_coding set.open_below set.open_above (left_when b)) (end_of s) coding_is else default_coding set.open_below set.open_above (left_when b)); little = is_little s; table = option_map table_of (table_attr w s); items = no_items }

    leaf_fine : num_fine (integer_leaf w s (integer_numbers w s set)) ≡ true
    leaf_fine = ap (λ (b : Bool). num_fine (leaf_when b)) fitting ∙ fine_by (leaf_when true) (integer_rules set coding_is (end_of s) (is_little s) (table_attr w s) known)

    leaf_is : leaf_at w s ≡ Some (integer_leaf w s (integer_numbers w s set))
    unfolding leaf_at
    leaf_is = ap (λ (b : AsnBase). leaf_of_base w s b) is ∙ ap (λ (o : Option Numbers). option_map (integer_leaf w s) o) numbered

    number_fine : num_fine (number_at w s) ≡ true
    number_fine = ap (λ (o : Option NumLeaf). num_fine (default_of o (null_leaf s))) leaf_is ∙ leaf_fine

  pub integer_fine : num_fine (number_at w s) ≡ true
  integer_fine = number_fine range_is.0 range_is.1
