-- Rows of codings of numbers.
use Rattle.std.proofs.Common.{◌≡◌, ℕ, zero, suc, ◌*◌, ◌^◌, ◌<◌, ◌≤◌, ℤ, pos, negsuc, Bool, true, false, List, [], ◌∷◌, ◌++◌, length, take, Some, None, refl, ap, subst, arith, inl, inr}
use Rattle.std.specs.Prelude.{neg_ℤ, ◌-◌, ◌⊎◌, IsFalse}
use Rattle.std.proofs.lemmas.Int.{ints}
use Rattle.std.proofs.lemmas.Bool.Decides.{nat_tests}
use Rattle.acn_num.specs.Bits.{number, low_bits, bits as bits_of, IsNumber}
use Rattle.acn_num.specs.Ranges.{In, has}
use Rattle.acn_grammar.specs.Code.{Written, image_in, item_number, nibbles}
use Rattle.acn_grammar.specs.Front.{IsWritten}
use Rattle.acn_grammar.specs.Grammar.{int, item}
use Rattle.acn_grammar.specs.LeafFails.{DigitAt, Negative, short, out_of_range, not_minimal, bad_digit, too_long, says, cut, digit_too_many, end_alone, no_digit_no_end, not_shortest, none_counted, many_counted, octets_cut, octets_to_spare, code_not_permitted, fails_behind_plus, fails_behind_minus, no_sign_octet}
use Rattle.acn_grammar.specs.declared.node.NumCoding.{NumCoding}
use Rattle.acn_grammar.specs.declared.node.NumCoding.TheVariants.{Range, CountedFrom, PosInt, Twos, BcdEnded, AsciiEnded}
use Rattle.acn_grammar.specs.declared.node.NumKind.TheVariants.{Integer, Enumerated}
use Rattle.acn_grammar.specs.declared.node.NumLeaf.{NumLeaf}
use Rattle.acn_grammar.proofs.Codings.{nibble_one}
use Rattle.acn_packet_laws.specs.NumberRows as rows
use Rattle.acn_packet_laws.proofs.LeafRows.{integer, leaf_spelled, leaf_fails}
use Rattle.acn_packet_laws.proofs.OneFault.{some_same}
use Rattle.acn_packet_laws.proofs.OneWriting.{writing_of_a_tree}
use Rattle.acn_num.proofs.BitLists.{number_below}

truly : (b : Bool) → b ≡ true → IsFalse b → ⊥
truly b t f = cc

-- a number outside a range is the image of none of its numbers, where each is written as itself
pub none_is : (low high k : ℤ) → IsFalse (has ((low, high) ∷ []) k) → (x : ℤ) → In ((low, high) ∷ []) x → Some x ≡ Some k → ⊥
none_is low high k f x p e = truly (has ((low, high) ∷ []) k) (subst (λ y. In ((low, high) ∷ []) y) (some_same x k e) p) f

-- Octets in the other order.

abbrev little_leaf : NumLeaf
little_leaf = record { kind = Integer; set = (pos 0, pos 1000) ∷ []; coding = PosInt 16; little = true; table = None; items = record { items = []; values = false } }

turned : IsWritten (rows.little 16) (int (pos 258)) (bits_of (2 ∷ 1 ∷ []))
turned = leaf_spelled Written little_leaf (int (pos 258)) (pos 258) _ refl (record { permitted = refl; image = pos 258; maps = refl; spelled = (refl, refl) })

not_turned : bits_of (2 ∷ 1 ∷ []) ≡ bits_of (1 ∷ 2 ∷ []) → ⊥
not_turned e = absurd (let q : 513 ≡ 258 = ap number e in omega (arith, q))

pub little_turns_the_octets_law : rows.LittleTurnsTheOctets
little_turns_the_octets_law = record {
  tree = refl;
  written = turned;
  refused = leaf_fails little_leaf _ (out_of_range (pos 1001)) 16 (code_not_permitted (omega arith, (says (pos 1001) (pos 1001), refl, (none_is (pos 0) (pos 1000) (pos 1001) refl, refl)), refl));
  never = λ w. not_turned (writing_of_a_tree (rows.little 16) refl (int (pos 258)) _ _ turned w);
  whole = refl;
}

-- Two's complement.

minus_one : IsWritten (rows.signed (neg_ℤ (pos 2048))) (int (neg_ℤ (pos 1))) (low_bits 12 4095)
minus_one = leaf_spelled Written (integer (neg_ℤ (pos 2048)) (pos 2047) (Twos 12)) (int (neg_ℤ (pos 1))) (neg_ℤ (pos 1)) _ refl (record { permitted = refl; image = neg_ℤ (pos 1); maps = refl; spelled = (refl, refl) })

not_one : low_bits 12 4095 ≡ low_bits 12 1 → ⊥
not_one e = absurd (let q : 4095 ≡ 1 = ap number e in omega (arith, q))

pub twos_complement_has_a_sign_law : rows.TwosComplementHasASign
twos_complement_has_a_sign_law = record {
  tree = refl;
  written = minus_one;
  refused = leaf_fails (integer (neg_ℤ (pos 2000)) (pos 2047) (Twos 12)) _ (out_of_range (neg_ℤ (pos 2048))) 12
      (code_not_permitted (omega arith, (says (neg_ℤ (pos 2048)) (neg_ℤ (pos 2048)), refl, (none_is (neg_ℤ (pos 2000)) (pos 2047) (neg_ℤ (pos 2048)) refl, refl)), refl));
  never = λ w. not_one (writing_of_a_tree (rows.signed (neg_ℤ (pos 2048))) refl (int (neg_ℤ (pos 1))) _ _ minus_one w);
  no_room = refl;
}

-- A count of octets from a lowest number on.

abbrev five_leaf : NumLeaf
five_leaf = integer (pos 5) (pos (2 ^ 64 - 1)) (CountedFrom (pos 5))

two_at_least : (c : ℕ) (other : List Bool) → 0 < c → IsNumber (8 * c) 256 other → 2 ≤ c
two_at_least zero other p s = absurd (omega (arith, p))
two_at_least (suc zero) other p s =
    let is = s.value in
    let below : number other < 2 ^ 8 = subst (λ n. number other < 2 ^ n) s.width (number_below other) in
    absurd (omega (arith, is, below))
two_at_least (suc (suc c)) other p s = omega arith

five : IsWritten rows.from_five (int (pos 5)) (bits_of (1 ∷ 0 ∷ []))
five = leaf_spelled Written five_leaf (int (pos 5)) (pos 5) _ refl (record {
  permitted = refl;
  image = pos 5;
  maps = refl;
  spelled = (
    0,
    refl,
    record { count = 1; front = low_bits 8 1; body = low_bits 8 0; whole = refl; counts = record { width = refl; value = refl }; spells = record { width = refl; value = refl }; positive = omega arith; least = λ c other p s. p },
  );
})

far : IsWritten rows.from_five (int (pos 261)) (bits_of (2 ∷ 1 ∷ 0 ∷ []))
far = leaf_spelled Written five_leaf (int (pos 261)) (pos 261) _ refl (record {
  permitted = refl;
  image = pos 261;
  maps = refl;
  spelled = (
    256,
    refl,
    record { count = 2; front = low_bits 8 2; body = bits_of (1 ∷ 0 ∷ []); whole = refl; counts = record { width = refl; value = refl }; spells = record { width = refl; value = refl }; positive = omega arith; least = two_at_least },
  );
})

not_itself : bits_of (1 ∷ 0 ∷ []) ≡ bits_of (1 ∷ 5 ∷ []) → ⊥
not_itself e = absurd (let q : 256 ≡ 261 = ap number e in omega (arith, q))

pub a_count_begins_at_the_lowest_law : rows.ACountBeginsAtTheLowest
a_count_begins_at_the_lowest_law = record {
  tree = refl;
  least = five;
  written = far;
  refused = leaf_fails five_leaf _ not_minimal 24 (octets_to_spare (omega arith, omega arith, omega arith, omega arith, refl, refl));
  none = leaf_fails five_leaf _ not_minimal 8 (none_counted (omega arith, refl, refl, refl));
  nine = leaf_fails five_leaf _ too_long 8 (many_counted (omega arith, omega arith, refl, refl));
  cut = leaf_fails five_leaf _ short 16 (octets_cut (omega arith, omega arith, omega arith, omega arith, refl, refl));
  never = λ w. not_itself (writing_of_a_tree rows.from_five refl (int (pos 5)) _ _ five w);
}

-- Characters with an end.

abbrev ended_leaf : NumLeaf
ended_leaf = integer (neg_ℤ (pos 99)) (pos 99) (AsciiEnded (low_bits 8 0) true)

minus_seven : IsWritten rows.ended_digits (int (neg_ℤ (pos 7))) (bits_of (45 ∷ 55 ∷ 0 ∷ []))
minus_seven = leaf_spelled Written ended_leaf (int (neg_ℤ (pos 7))) (neg_ℤ (pos 7)) _ refl (record {
  permitted = refl;
  image = neg_ℤ (pos 7);
  maps = refl;
  spelled = (7, low_bits 8 45, (refl, refl), record { digits = 7 ∷ []; spell = record { digits = (omega arith, tt); value = refl }; minimal = tt; whole = refl });
})

forty_two : IsWritten rows.ended_digits (int (pos 42)) (bits_of (43 ∷ 52 ∷ 50 ∷ 0 ∷ []))
forty_two = leaf_spelled Written ended_leaf (int (pos 42)) (pos 42) _ refl (record {
  permitted = refl;
  image = pos 42;
  maps = refl;
  spelled = (42, low_bits 8 43, (refl, refl), record { digits = 4 ∷ 2 ∷ []; spell = record { digits = (omega arith, (omega arith, tt)); value = refl }; minimal = omega arith; whole = refl });
})

no_minus_zero : (x : ℤ) → Negative 0 x → ⊥
no_minus_zero x n = absurd (omega (arith, n.0))

neither_sign : (s : ℕ) → 45 < s → (s ≡ 43) ⊎ (s ≡ 45) → ⊥
neither_sign s h (inl e) = absurd (omega arith)
neither_sign s h (inr e) = absurd (omega arith)

seven_apart : bits_of (45 ∷ 55 ∷ 0 ∷ []) ≡ bits_of (45 ∷ 48 ∷ 55 ∷ 0 ∷ []) → ⊥
seven_apart e = absurd (let q : 24 ≡ 32 = ap length e in omega (arith, q))

pub characters_with_an_end_are_least_law : rows.CharactersWithAnEndAreLeast
characters_with_an_end_are_least_law = record {
  tree = refl;
  bounds = refl;
  written = minus_seven;
  positive = forty_two;
  minus_zero = leaf_fails ended_leaf _ not_minimal 24 (fails_behind_minus (
    omega arith,
    refl,
    record {
      more = 16;
      fails = record {
        digits = 0 ∷ [];
        behind = low_bits 8 0;
        whole = refl;
        are = (omega arith, tt);
        few = omega arith;
        more = 8;
        fails = not_shortest (omega arith, refl, omega arith, (λ h. no_minus_zero h.1.0 h.1.1), refl, refl);
        reaches = refl;
      };
      reaches = refl;
    },
  ));
  leading_zero = leaf_fails ended_leaf _ not_minimal 32 (fails_behind_plus (
    omega arith,
    refl,
    record {
      more = 24;
      fails = record {
        digits = 0 ∷ 7 ∷ [];
        behind = low_bits 8 0;
        whole = refl;
        are = (omega arith, (omega arith, tt));
        few = omega arith;
        more = 8;
        fails = not_shortest (omega arith, refl, omega arith, (λ h. absurd (omega (arith, h.0))), refl, refl);
        reaches = refl;
      };
      reaches = refl;
    },
  ));
  no_sign = leaf_fails ended_leaf _ bad_digit 8 (no_sign_octet (omega arith, neither_sign 55 (omega arith), refl, refl));
  three_digits = leaf_fails ended_leaf _ too_long 32 (fails_behind_plus (
    omega arith,
    refl,
    record {
      more = 24;
      fails = record {
        digits = 1 ∷ 2 ∷ [];
        behind = bits_of (51 ∷ 0 ∷ []);
        whole = refl;
        are = (omega arith, (omega arith, tt));
        few = omega arith;
        more = 8;
        fails = digit_too_many (omega arith, record { digit = 3; below = omega arith; stands = refl }, refl, refl, refl);
        reaches = refl;
      };
      reaches = refl;
    },
  ));
  no_end = leaf_fails ended_leaf _ short 16 (fails_behind_plus (
    omega arith,
    refl,
    record {
      more = 8;
      fails = record { digits = 4 ∷ []; behind = []; whole = refl; are = (omega arith, tt); few = omega arith; more = 0; fails = cut (omega arith, refl, refl); reaches = refl };
      reaches = refl;
    },
  ));
  never = λ w. seven_apart (writing_of_a_tree rows.ended_digits refl (int (neg_ℤ (pos 7))) _ _ minus_seven w);
}

-- Places and numbers of items.

abbrev letters_leaf : NumCoding → (values : Bool) → NumLeaf
letters_leaf coding values = record { kind = Enumerated; set = (pos 0, pos 2) ∷ []; coding = coding; little = false; table = None; items = record { items = (98 ∷ [], pos 0) ∷ (99 ∷ [], pos 1) ∷ (97 ∷ [], pos 5) ∷ []; values = values } }

no_item : (x : ℤ) → In ((pos 0, pos 2) ∷ []) x → item_number ((98 ∷ [], pos 0) ∷ (99 ∷ [], pos 1) ∷ (97 ∷ [], pos 5) ∷ []) x ≡ Some (pos 2) → ⊥
no_item (pos zero) p e = cc
no_item (pos (suc zero)) p e = cc
no_item (pos (suc (suc zero))) p e = cc
no_item (pos (suc (suc (suc n)))) p e = cc
no_item (negsuc n) p e = cc

a_numbered : IsWritten (rows.letters (PosInt 8) true) (item 2) (bits_of (5 ∷ []))
a_numbered = leaf_spelled Written (letters_leaf (PosInt 8) true) (item 2) (pos 2) _ refl (record { permitted = refl; image = pos 5; maps = refl; spelled = (refl, refl) })

five_apart : bits_of (5 ∷ []) ≡ bits_of (2 ∷ []) → ⊥
five_apart e = absurd (let q : 5 ≡ 2 = ap number e in omega (arith, q))

pub items_have_places_and_numbers_law : rows.ItemsHavePlacesAndNumbers
items_have_places_and_numbers_law = record {
  tree = refl;
  written = leaf_spelled Written (letters_leaf (Range (pos 0) 2) false) (item 2) (pos 2) _ refl (record { permitted = refl; image = pos 2; maps = refl; spelled = (2, refl, record { width = refl; value = refl }) });
  no_place = leaf_fails (letters_leaf (Range (pos 0) 2) false) _ (out_of_range (pos 3)) 2 (code_not_permitted (omega arith, (says (pos 3) (pos 3), refl, (none_is (pos 0) (pos 2) (pos 3) refl, refl)), refl));
  numbered = refl;
  value = a_numbered;
  no_number = leaf_fails (letters_leaf (PosInt 8) true) _ (out_of_range (pos 2)) 8 (code_not_permitted (omega arith, (says (pos 2) (pos 2), refl, (no_item, refl)), refl));
  never = λ w. five_apart (writing_of_a_tree (rows.letters (PosInt 8) true) refl (item 2) _ _ a_numbered w);
}

-- Decimal digits with an end.

abbrev nibbles_leaf : NumLeaf
nibbles_leaf = integer (pos 0) (pos 9999) BcdEnded

zero_alone : IsWritten rows.ended_nibbles (int (pos 0)) (bits_of (15 ∷ []))
zero_alone = leaf_spelled Written nibbles_leaf (int (pos 0)) (pos 0) _ refl (record {
  permitted = refl;
  image = pos 0;
  maps = refl;
  spelled = (0, refl, record { digits = 0 ∷ []; spell = record { digits = (omega arith, tt); value = refl }; minimal = tt; whole = refl });
})

hundred_twenty : IsWritten rows.ended_nibbles (int (pos 120)) (bits_of (18 ∷ 15 ∷ []))
hundred_twenty = leaf_spelled Written nibbles_leaf (int (pos 120)) (pos 120) _ refl (record {
  permitted = refl;
  image = pos 120;
  maps = refl;
  spelled = (120, refl, record { digits = 1 ∷ 2 ∷ 0 ∷ []; spell = record { digits = (omega arith, (omega arith, (omega arith, tt))); value = refl }; minimal = omega arith; whole = refl });
})

-- ten in 4 bits is no digit's code
ten_apart : DigitAt nibbles (low_bits 4 10) → ⊥
ten_apart d = absurd (let e = nibble_one 10 d.digit (omega arith) (let b = d.below in omega arith) d.stands in let b = d.below in omega arith)

zero_in_front : bits_of (18 ∷ 15 ∷ []) ≡ take 20 (bits_of (1 ∷ 32 ∷ 240 ∷ [])) → ⊥
zero_in_front e = absurd (let q : 16 ≡ 20 = ap length e in omega (arith, q))

pub digits_have_an_end_law : rows.DigitsHaveAnEnd
digits_have_an_end_law = record {
  written = zero_alone;
  no_end = leaf_fails nibbles_leaf _ short 8 (record { digits = 1 ∷ 2 ∷ []; behind = []; whole = refl; are = (omega arith, (omega arith, tt)); few = omega arith; more = 0; fails = cut (omega arith, refl, refl); reaches = refl });
  no_digit = leaf_fails nibbles_leaf _ bad_digit 4
      (record { digits = []; behind = bits_of (240 ∷ []); whole = refl; are = tt; few = omega arith; more = 4; fails = end_alone (omega arith, refl, refl, refl, refl); reaches = refl });
  refused = leaf_fails nibbles_leaf _ bad_digit 8
      (record { digits = 1 ∷ []; behind = low_bits 4 10; whole = refl; are = (omega arith, tt); few = omega arith; more = 4; fails = no_digit_no_end (omega arith, ten_apart, omega arith, (λ e. cc), refl, refl); reaches = refl });
  five_digits = leaf_fails nibbles_leaf _ too_long 20 (record {
    digits = 1 ∷ 2 ∷ 3 ∷ 4 ∷ [];
    behind = low_bits 4 5 ++ low_bits 4 15;
    whole = refl;
    are = (omega arith, (omega arith, (omega arith, (omega arith, tt))));
    few = omega arith;
    more = 4;
    fails = digit_too_many (omega arith, record { digit = 5; below = omega arith; stands = refl }, refl, refl, refl);
    reaches = refl;
  });
  never = λ w. zero_in_front (writing_of_a_tree rows.ended_nibbles refl (int (pos 120)) _ _ hundred_twenty w);
}

-- Numbers under a table.

abbrev mapped_leaf : NumLeaf
mapped_leaf = record { kind = Integer; set = (pos 1, pos 4) ∷ []; coding = PosInt 8; little = false; table = Some (record { name = 109 ∷ []; lines = (pos 1, pos 3, pos 0) ∷ (pos 4, pos 4, pos 7) ∷ [] }); items = record { items = []; values = false } }

unmapped : (x : ℤ) → In ((pos 1, pos 4) ∷ []) x → image_in ((pos 1, pos 3, pos 0) ∷ (pos 4, pos 4, pos 7) ∷ []) x ≡ Some (pos 3) → ⊥
unmapped (pos zero) p e = cc
unmapped (pos (suc zero)) p e = cc
unmapped (pos (suc (suc zero))) p e = cc
unmapped (pos (suc (suc (suc zero)))) p e = cc
unmapped (pos (suc (suc (suc (suc zero))))) p e = cc
unmapped (pos (suc (suc (suc (suc (suc n)))))) p e = grind (arith, ints, nat_tests)
unmapped (negsuc n) p e = cc

four_mapped : IsWritten rows.mapped (int (pos 4)) (bits_of (7 ∷ []))
four_mapped = leaf_spelled Written mapped_leaf (int (pos 4)) (pos 4) _ refl (record { permitted = refl; image = pos 7; maps = refl; spelled = (refl, refl) })

seven_alone : bits_of (7 ∷ []) ≡ bits_of (3 ∷ []) → ⊥
seven_alone e = absurd (let q : 7 ≡ 3 = ap number e in omega (arith, q))

pub a_table_maps_the_numbers_law : rows.ATableMapsTheNumbers
a_table_maps_the_numbers_law = record {
  tree = refl;
  written = leaf_spelled Written mapped_leaf (int (pos 3)) (pos 3) _ refl (record { permitted = refl; image = pos 2; maps = refl; spelled = (refl, refl) });
  apart = four_mapped;
  refused = leaf_fails mapped_leaf _ (out_of_range (pos 3)) 8 (code_not_permitted (omega arith, (says (pos 3) (pos 3), refl, (unmapped, refl)), refl));
  never = λ w. seven_alone (writing_of_a_tree rows.mapped refl (int (pos 4)) _ _ four_mapped w);
}
