-- Every input begins with a code of a number leaf that keeps its rules, or the leaf fails.
use Rattle.std.proofs.Common.{◌≡◌, ℕ, ◌-◌, ◌*◌, ◌/◌, ◌%◌, ◌≤◌, pos, ◌+ℤ◌, Bool, true, false, ◌&&◌, List, length, refl, ◌∙◌, arith, ◌⊎◌, nat_eq, IsTrue}
use Rattle.std.specs.Prelude.{nat_abs}
use Rattle.std.proofs.lemmas.Bool.Decides.{nat_tests}
use Rattle.acn_num.specs.Bits.{number, signed_number}
use Rattle.acn_grammar.specs.Code.{in_order}
use Rattle.acn_grammar.specs.LeafFails.{Reason, CodingFails, says}
use Rattle.acn_grammar.specs.Leaves.{num_fine, coding_fine, from_to}
use Rattle.acn_grammar.specs.Length.{least_octets, least_signed_octets, flag_width}
use Rattle.acn_grammar.specs.declared.node.NumCoding.{NumCoding}
use Rattle.acn_grammar.specs.declared.node.NumCoding.TheVariants.{Range, CountedFrom, CountedSigned, PosInt, Twos, Bcd, BcdEnded, Ascii, AsciiEnded, Flag, Fixed}
use Rattle.acn_grammar.specs.declared.node.NumLeaf.{NumLeaf}
use Rattle.acn_grammar.proofs.FineLeaves.{rules_of}
use Rattle.acn_packet_laws.specs.Laws.{EachInputIsANumberOrFails, CodeAtFront}
use Rattle.acn_packet_laws.proofs.CountedTotal.{from_low, from_signed, counted_total}
use Rattle.acn_packet_laws.proofs.EndedTotal.{bcd_total, ascii_total}
use Rattle.acn_packet_laws.proofs.LeafLaws.{coded_nibbles, coded_octets}
use Rattle.acn_packet_laws.proofs.LeafTotal.{bcd_wire, ascii_wire, signed_wire, flag_wire, fixed_wire, fixed_total}
use Rattle.std.proofs.lemmas.Bool.{and_parts, eqb-true}

four_of : (n : ℕ) (t : Bool) → (t && nat_eq (n % 4) 0) ≡ true → n ≡ 4 * (n / 4)
four_of n t h = let e = eqb-true (n % 4) 0 (and_parts t (nat_eq (n % 4) 0) h).1 in omega arith

eight_of : (n : ℕ) (t : Bool) → (t && nat_eq (n % 8) 0) ≡ true → n ≡ 8 * (n / 8)
eight_of n t h = let e = eqb-true (n % 8) 0 (and_parts t (nat_eq (n % 8) 0) h).1 in omega arith

at_least : (a b n : ℕ) → from_to a b n ≡ true → a ≤ n
at_least a b n h = grind (arith, nat_tests)

total : (coding : NumCoding) (leaf : NumLeaf) → IsTrue (num_fine leaf) → leaf.coding ≡ coding → coding_fine coding ≡ true → (input : List Bool) → CodeAtFront leaf input ⊎ ((r : Reason) × (reach : ℕ) × CodingFails coding leaf input r reach)
total (Range low width) leaf fine is f input =
    fixed_total (Range low width) leaf fine is width (λ bs l. record { wire = says (pos (number bs)) (low +ℤ pos (number bs)); stands = refl; codes = (number bs, refl, record { width = l; value = refl }) }) input
total (PosInt n) leaf fine is f input =
    fixed_total (PosInt n) leaf fine is n (λ bs l. record { wire = says (pos (number (in_order leaf.little bs))) (pos (number (in_order leaf.little bs))); stands = refl; codes = (l, refl) }) input
total (Twos n) leaf fine is f input =
    fixed_total (Twos n) leaf fine is n (λ bs l. record { wire = says (signed_number (in_order leaf.little bs)) (signed_number (in_order leaf.little bs)); stands = refl; codes = (l, refl) }) input
total (Bcd n) leaf fine is f input = fixed_total (Bcd n) leaf fine is n (λ bs l. bcd_wire n leaf.little bs (four_of n (from_to 4 76 n) f) l) input
total (Ascii n false) leaf fine is f input = fixed_total (Ascii n false) leaf fine is n (λ bs l. ascii_wire n leaf.little bs (eight_of n (from_to 8 152 n) f) l) input
total (Ascii n true) leaf fine is f input =
    let whole = eight_of n (from_to 16 152 n) f in
    let some = at_least 16 152 n (and_parts (from_to 16 152 n) (nat_eq (n % 8) 0) f).0 in
    fixed_total (Ascii n true) leaf fine is n (λ bs l. signed_wire n (n / 8 - 1) leaf.little bs (l ∙ (omega arith)) l) input
total (Flag a b) leaf fine is f input = fixed_total (Flag a b) leaf fine is (flag_width a b) (λ bs l. flag_wire a b leaf.little bs l) input
total (Fixed p) leaf fine is f input = fixed_total (Fixed p) leaf fine is (length p) (λ bs l. fixed_wire p leaf.little bs) input
total (CountedFrom low) leaf fine is f input = counted_total leaf fine (CountedFrom low) is (λ b. pos (number b)) (λ x. least_octets (nat_abs x)) (λ x. low +ℤ x) (from_low low leaf.little) input
total CountedSigned leaf fine is f input = counted_total leaf fine CountedSigned is signed_number least_signed_octets (λ x. x) (from_signed leaf.little) input
total BcdEnded leaf fine is f input = bcd_total leaf fine is coded_nibbles input
total (AsciiEnded end signed) leaf fine is f input = ascii_total signed leaf fine end is (coded_octets end f) input

pub each_input_is_a_number_or_fails : EachInputIsANumberOrFails
each_input_is_a_number_or_fails leaf input fine = total leaf.coding leaf fine refl (rules_of leaf fine).coding input
