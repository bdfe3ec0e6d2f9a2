-- Nodes that are sound, and some that are not.
use Rattle.std.proofs.Common.{◌≡◌, ℕ, zero, ℤ, pos, true, false, ◌||◌, [], ◌∷◌, Some, None, refl, arith, nat_eq, subst}
use Rattle.std.proofs.lemmas.Bool.{eqb-true}
use Rattle.acn_num.specs.Ranges.{In}
use Rattle.acn_grammar.specs.Grammar.{Fields, no_fields, component, inserted}
use Rattle.acn_grammar.specs.Scoped.{with_slot}
use Rattle.acn_grammar.specs.Slots.{domain_of}
use Rattle.acn_grammar.specs.Sound.{SequenceSound, FieldsSound}
use Rattle.acn_grammar.specs.declared.node.NumCoding.TheVariants.{PosInt}
use Rattle.acn_grammar.specs.declared.node.NumKind.TheVariants.{Integer}
use Rattle.acn_grammar.specs.declared.node.Presence.TheVariants.{When}
use Rattle.acn_grammar.specs.declared.node.Test.TheVariants.{Equals}
use Rattle.acn_packet_laws.specs.RequestRows.{IsSound, behind_len, octets_by_len, UnsoundNodesAreTold}
use Rattle.acn_packet_laws.specs.WorkedRows.{u8}
use Rattle.acn_packet_laws.proofs.Sounding.{got_name}
use Rattle.acn_grammar.proofs.WidthLaw.{width_holds}
use Rattle.acn_packet_laws.proofs.Tuples.{first_five, first_four, first_three, first_two, fourth_five, last_four, last_three, last_two, third_five, third_four}
use Rattle.acn_grammar.proofs.WholeTests.{either}

abbrev shared : Fields
shared = octets_by_len 120 (octets_by_len 121 no_fields)

len_is : (s : ℕ) → (nat_eq 0 s || false) ≡ true → 0 ≡ s
len_is s h = either {F = 0 ≡ s} (nat_eq 0 s) false h (λ q. eqb-true 0 s q) (λ q. cc)

shared_home : SequenceSound (behind_len shared) [] (λ s. false) (inserted (108 ∷ []) u8 (Some 0) shared) (0 ∷ [])
shared_home = record {
  few_fields = omega arith;
  names_differ = refl;
  few_open = omega arith;
  named_once = refl;
  unknown = λ s h. cc;
  not_around = λ s h. cc;
  read_inside = λ s h. h;
  permits = λ s h. subst (λ n. (x : ℤ) × In (domain_of (behind_len shared) n) x) (len_is s h) (pos 0, refl);
}

shared_is : IsSound (behind_len (octets_by_len 120 (octets_by_len 121 no_fields)))
shared_is = (
  refl,
  (omega arith),
  (
    shared_home,
    (
      (refl, refl, refl),
      record { width = 8; all_codes = width_holds (record { kind = Integer; set = (pos 0, pos 255) ∷ []; coding = PosInt 8; little = false; table = None; items = record { items = []; values = false } }) 8 refl refl; narrow = omega arith },
      (refl, (omega arith), refl),
      (tt, tt, tt, (refl, (omega arith), (refl, refl)), (tt, tt, tt, (refl, (omega arith), (refl, refl)), tt)),
    ),
  ),
)

rest_of : (fs : Fields) → IsSound (behind_len fs) → FieldsSound (behind_len fs) 1 (0 ∷ []) (with_slot 0 (λ s. false)) fs
rest_of fs h = last_four (last_two (last_three h))

abbrev twice : Fields
twice = component (120 ∷ []) u8 (When (Equals 0 (pos 1) ∷ Equals 0 (pos 2) ∷ [])) None None no_fields

pub unsound_nodes_are_told_law : UnsoundNodesAreTold
unsound_nodes_are_told_law = record {
  sound = shared_is;
  wide_prefix = λ h. (let f = last_three h in cc);
  two_conditions = λ h. (let f = first_five (rest_of twice h) in let one' = f.0 in absurd (omega (arith, one')));
  size_before = λ h. (let x = fourth_five (last_two (last_three h)) in let f = last_two (last_three x) in cc);
  two_fields = λ h. (let says = first_four (last_four (last_two (last_three h))) in let f = says.1 in cc);
  no_field = λ h. (let f = (first_two (last_three h)).read_inside 0 refl in cc);
  two_homes = λ h. (let inner = fourth_five (last_two (last_three h)) in let f = (first_two (last_three inner)).not_around 0 refl in cc);
  not_null = λ h. (let f = first_three (last_two (last_three h)) in cc);
  names_alike = λ h. (let f = (first_two (last_three h)).names_differ in cc);
  field_leaves = λ h. (let f = third_five (last_two (last_three h)) 0 in cc);
  no_item = λ h. (
      let x = fourth_five (last_four (last_two (last_three h))) in
      let rule = third_four (last_three x) in
      let got = last_two rule (98 ∷ []) (zero, (omega arith), refl) in
      let no' = got_name ((97 ∷ []) ∷ []) (98 ∷ []) got.0 got.1 got.2 in
      cc);
  untold = λ h. (let f = third_five (last_three h) in f.told tt);
}
