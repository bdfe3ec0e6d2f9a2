-- Rows of sizes: in front of strings, in an inner SEQUENCE, and one that no number can say.
use Rattle.std.proofs.Common.{◌≡◌, ℤ, pos, Bool, true, false, List, [], ◌∷◌, ◌++◌, length, replicate, Option, Some, None, refl, sym, ◌∙◌, ap, subst, arith}
use Rattle.std.proofs.lemmas.Int.{ints}
use Rattle.acn_num.specs.Bits.{low_bits, bits as bits_of}
use Rattle.acn_num.specs.Ranges.{In}
use Rattle.acn_grammar.specs.Asks.{Moment, Ask, Equal, asks}
use Rattle.acn_grammar.specs.Code.{Written, Any}
use Rattle.acn_grammar.specs.Fails.{Refusal, fails_at_component, fails_behind_component, fails_behind_padding, fails_behind_presence, fails_behind_size, fails_at_size, prefix_not_permitted}
use Rattle.acn_grammar.specs.Front.{IsWritten}
use Rattle.acn_grammar.specs.Grammar.{int, bit_string, octet_string, record_of, no_places, filled}
use Rattle.acn_grammar.specs.LeafFails.{short, size_out_of_range}
use Rattle.acn_grammar.specs.Refused.{CanBeMet, IsAsked}
use Rattle.acn_packet_laws.specs.SizeRows.{up_to_five_bits, counted_octets, by_head, headed, narrow_size, SizesStandInFrontOfStrings, ASizeStandsInAnInnerSequence, ASizeNeedsItsNumber}
use Rattle.acn_packet_laws.proofs.OneFault.{some_same}
use Rattle.acn_packet_laws.proofs.OneWriting.{writing_of_a_tree}
use Rattle.acn_packet_laws.proofs.WorkedRows.{none}

-- Strings.

three_bits : IsWritten up_to_five_bits (bit_string (true ∷ false ∷ true ∷ [])) (low_bits 3 3 ++ true ∷ false ∷ true ∷ [])
three_bits = record {
  front = [];
  back = _;
  whole = refl;
  first = none Written 0;
  second = record {
    front = low_bits 3 3;
    back = true ∷ false ∷ true ∷ [];
    whole = refl;
    first = record { given = refl; spelled = record { given = omega arith; spelled = record { width = refl; value = refl } } };
    second = refl;
  };
}

six_bits : Refusal up_to_five_bits (bits_of (192 ∷ [])) (record { path = []; reason = size_out_of_range 6; at = 0 }) 3
six_bits = fails_behind_padding (record {
  front = [];
  back = bits_of (192 ∷ []);
  whole = refl;
  spelled = none Any 0;
  more = 3;
  reaches = refl;
  fails = fails_at_size (prefix_not_permitted (omega arith, (λ h. cc), refl, refl));
})

six_never : (bs : List Bool) → IsWritten up_to_five_bits (bit_string (replicate 6 true)) bs → ⊥
six_never bs w = let g = w.second.first.given in cc

one_octet : IsWritten counted_octets (octet_string (170 ∷ [])) (low_bits 2 1 ++ low_bits 8 170)
one_octet = record {
  front = [];
  back = _;
  whole = refl;
  first = none Written 0;
  second = record {
    front = low_bits 2 1;
    back = low_bits 8 170;
    whole = refl;
    first = record { given = refl; spelled = record { given = omega arith; spelled = record { width = refl; value = refl } } };
    second = record { given = refl; spelled = refl };
  };
}

two_cut : Refusal counted_octets (bits_of (128 ∷ 170 ∷ [])) (record { path = []; reason = short; at = 0 }) 16
two_cut = fails_behind_padding (record {
  front = [];
  back = _;
  whole = refl;
  spelled = none Any 0;
  more = 16;
  reaches = refl;
  fails = fails_behind_size (record {
    n = 2;
    behind = record {
      front = low_bits 2 2;
      back = low_bits 6 0 ++ low_bits 8 170;
      whole = refl;
      spelled = record { given = refl; spelled = record { given = omega arith; spelled = record { width = refl; value = refl } } };
      more = 14;
      reaches = refl;
      fails = (omega arith, refl, refl);
    };
  });
})

pub sizes_stand_in_front_of_strings_law : SizesStandInFrontOfStrings
sizes_stand_in_front_of_strings_law = record { tree = refl; written = three_bits; refused = six_bits; never = six_never; in_octets = one_octet; cut = two_cut }

-- An inner SEQUENCE.

head_and_octet : IsWritten by_head headed ((low_bits 8 1 ++ low_bits 1 1) ++ low_bits 8 170)
head_and_octet = record {
  front = [];
  back = _;
  whole = refl;
  first = none Written 0;
  second = record {
    numbers = pos 1 ∷ [];
    fine = record {
      count = refl;
      permitted = (refl, tt);
      least = λ _. (record { answers = record { permitted = refl; meets = (refl, tt) }; first = λ y a. omega (arith, ints, a.meets.0) }, tt);
    };
    spelled = record {
      front = [];
      back = _;
      whole = refl;
      first = refl;
      second = record {
        front = low_bits 8 1 ++ low_bits 1 1;
        back = low_bits 8 170;
        whole = refl;
        first = record {
          given = (tt, tt);
          spelled = record {
            front = [];
            back = _;
            whole = refl;
            first = none Written 0;
            second = record {
              numbers = [];
              fine = record { count = refl; permitted = tt; least = λ _. tt };
              spelled = record {
                front = [];
                back = _;
                whole = refl;
                first = refl;
                second = record {
                  front = low_bits 8 1;
                  back = low_bits 1 1;
                  whole = refl;
                  first = (pos 1, refl, record { front = []; back = _; whole = refl; first = none Written 0; second = record { permitted = refl; image = pos 1; maps = refl; spelled = (refl, refl) } });
                  second = record {
                    front = low_bits 1 1;
                    back = [];
                    whole = refl;
                    first = record {
                      given = (tt, tt);
                      spelled = record { front = []; back = _; whole = refl; first = none Written 8; second = (pos 1, refl, record { permitted = refl; image = pos 1; maps = refl; spelled = (1, refl, record { width = refl; value = refl }) }) };
                    };
                    second = refl;
                  };
                };
              };
            };
          };
        };
        second = record {
          front = low_bits 8 170;
          back = [];
          whole = refl;
          first = record {
            given = (tt, tt);
            spelled = record {
              front = [];
              back = _;
              whole = refl;
              first = none Written 9;
              second = record { front = []; back = _; whole = refl; first = record { given = refl; spelled = (refl, refl) }; second = record { given = refl; spelled = refl } };
            };
          };
          second = refl;
        };
      };
    };
  };
}

four_octets : Refusal by_head (bits_of (4 ∷ 128 ∷ [])) (record { path = 1 ∷ []; reason = size_out_of_range 4; at = 9 }) 9
four_octets = fails_behind_padding (record {
  front = [];
  back = _;
  whole = refl;
  spelled = none Any 0;
  more = 9;
  reaches = refl;
  fails = fails_behind_presence (record {
    numbers = pos 4 ∷ [];
    count = refl;
    permitted = (refl, tt);
    behind = record {
      there = omega arith;
      more = 9;
      fails = fails_behind_component (
        tt,
        (
          record_of (filled (int (pos 1)) no_places),
          record {
            front = low_bits 8 4 ++ low_bits 1 1;
            back = low_bits 7 0;
            whole = refl;
            spelled = record {
              given = tt;
              spelled = record {
                front = [];
                back = _;
                whole = refl;
                first = none Any 0;
                second = record {
                  numbers = [];
                  fine = record { count = refl; permitted = tt; least = λ _. tt };
                  spelled = record {
                    front = [];
                    back = _;
                    whole = refl;
                    first = refl;
                    second = record {
                      front = low_bits 8 4;
                      back = low_bits 1 1;
                      whole = refl;
                      first = (pos 4, refl, record { front = []; back = _; whole = refl; first = none Any 0; second = record { permitted = refl; image = pos 4; maps = refl; spelled = (refl, refl) } });
                      second = record {
                        front = low_bits 1 1;
                        back = [];
                        whole = refl;
                        first = record {
                          given = (tt, tt);
                          spelled = record {
                            front = [];
                            back = _;
                            whole = refl;
                            first = none Any 8;
                            second = (pos 1, refl, record { permitted = refl; image = pos 1; maps = refl; spelled = (1, refl, record { width = refl; value = refl }) });
                          };
                        };
                        second = refl;
                      };
                    };
                  };
                };
              };
            };
            more = 0;
            reaches = refl;
            fails = fails_at_component (
              tt,
              fails_behind_padding (record {
                front = [];
                back = _;
                whole = refl;
                spelled = none Any 9;
                more = 0;
                reaches = refl;
                fails = fails_at_size (record { number = pos 4; stands = refl; refused = λ h. cc; says = refl; reaches = refl });
              }),
            );
          },
        ),
      );
      reaches = refl;
    };
  });
})

no_octet : (low_bits 8 1 ++ low_bits 1 1) ++ low_bits 8 170 ≡ low_bits 8 0 ++ low_bits 1 1 → ⊥
no_octet e = absurd (let q : 17 ≡ 9 = ap length e in omega (arith, q))

pub a_size_stands_in_an_inner_sequence_law : ASizeStandsInAnInnerSequence
a_size_stands_in_an_inner_sequence_law = record { tree = refl; bounds = refl; written = head_and_octet; refused = four_octets; never = λ w. no_octet (writing_of_a_tree by_head refl headed _ _ head_and_octet w) }

-- A size that no number can say.

four_permitted : In ((pos 0, pos 3) ∷ []) (pos 4) → ⊥
four_permitted h = cc

four_of : (x : ℤ) (o : Option ℤ) → In ((pos 0, pos 3) ∷ []) x → o ≡ Some x → o ≡ Some (pos 4) → ⊥
four_of x o h e f = four_permitted (subst (λ y. In ((pos 0, pos 3) ∷ []) y) (some_same x (pos 4) (sym e ∙ f)) h)

not_asked : (a : Ask) → IsAsked [] a → ⊥
not_asked a b = empty_apart b.early b.late b.is
  where
    empty_apart : (early late : List Ask) → [] ≡ early ++ a ∷ late → ⊥
    empty_apart [] late e = cc
    empty_apart (x ∷ early) late e = cc

nothing_before : (early late : List Moment) (m : Moment) → [] ≡ early ++ m ∷ late → CanBeMet narrow_size early m
nothing_before [] late m e = cc
nothing_before (x ∷ early) late m e = cc

pub a_size_needs_its_number_law : ASizeNeedsItsNumber
a_size_needs_its_number_law = record {
  tree = refl;
  refused = record {
    before = [];
    here = asks (1 ∷ []) (0 ∷ []) 0 (Equal (pos 4));
    after = [];
    whole = refl;
    met = nothing_before;
    unmet = λ c. four_permitted (subst (λ y. In ((pos 0, pos 3) ∷ []) y) c.1.meets.0 c.1.permitted);
    says = (None, (λ a b c. not_asked a b), refl);
  };
  never = λ bs w.
      let s = w.second.spelled.second.first in
      four_of s.0 _ s.2.second.permitted s.1 w.second.spelled.second.second.first.spelled.second.first.spelled.0;
}
