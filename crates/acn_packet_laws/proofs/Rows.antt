-- Two packets, spelled by hand.
use Rattle.std.proofs.Common.{◌≡◌, ℕ, ℤ, pos, false, [], ◌∷◌, ◌++◌, Some, None, refl, arith}
use Rattle.std.proofs.lemmas.Int.{ints}
use Rattle.acn_num.specs.Bits.{low_bits, bits as bits_of}
use Rattle.acn_grammar.specs.Grammar.{Grammar, Data, node, num, octets, seq, no_fields, component, inserted, int, octet_string, record_of, no_places, filled}
use Rattle.acn_grammar.specs.Code.{Written, Any}
use Rattle.acn_grammar.specs.Fails.{Refusal, fails_at_component, fails_behind_component, fails_behind_padding, fails_behind_presence}
use Rattle.acn_grammar.specs.LeafFails.{short, code_cut}
use Rattle.acn_grammar.specs.Front.{IsWritten}
use Rattle.acn_grammar.specs.Interval.{span}
use Rattle.acn_grammar.specs.Length.{bit_length}
use Rattle.acn_grammar.specs.Meets.{breach, out_of_range}
use Rattle.acn_grammar.specs.Spell.{Padding}
use Rattle.acn_grammar.specs.declared.node.NumKind.TheVariants.{Integer, Boolean}
use Rattle.acn_grammar.specs.declared.node.NumLeaf.{NumLeaf}
use Rattle.acn_grammar.specs.declared.node.NumCoding.{NumCoding}
use Rattle.acn_grammar.specs.declared.node.NumCoding.TheVariants.{Range, PosInt, Flag}
use Rattle.acn_grammar.specs.declared.node.Presence.TheVariants.{Always, Bit}
use Rattle.acn_grammar.specs.declared.node.SizeRule.TheVariants.{Slot}

abbrev integer : ℤ → NumCoding → NumLeaf
integer high coding = record { kind = Integer; set = (pos 0, high) ∷ []; coding = coding; little = false; table = None; items = record { items = []; values = false } }

aligned : (at : ℕ) → Padding Written 1 at []
aligned at = record { aligned = omega arith; fewest = omega arith; zeros = λ _. refl }

-- SEQUENCE { a INTEGER (0..255), b INTEGER (0..7) }
abbrev first_row : Grammar
first_row = node 1 (seq (component (97 ∷ []) (node 1 (num (integer (pos 255) (Range (pos 0) 8)))) Always None None (component (98 ∷ []) (node 1 (num (integer (pos 7) (Range (pos 0) 3)))) Always None None no_fields)) [])

-- {"a":5,"b":3} is 05 60, eleven bits of it
pub five_three : IsWritten first_row (record_of (filled (int (pos 5)) (filled (int (pos 3)) no_places))) (low_bits 8 5 ++ low_bits 3 3)
five_three = record {
  front = [];
  back = _;
  whole = refl;
  first = aligned 0;
  second = record {
    numbers = [];
    fine = record { count = refl; permitted = tt; least = λ _. tt };
    spelled = record {
      front = [];
      back = _;
      whole = refl;
      first = refl;
      second = record {
        front = low_bits 8 5;
        back = low_bits 3 3;
        whole = refl;
        first = record {
          given = (tt, tt);
          spelled = record {
            front = [];
            back = _;
            whole = refl;
            first = aligned 0;
            second = (pos 5, refl, record { permitted = refl; image = pos 5; maps = refl; spelled = (5, refl, record { width = refl; value = refl }) });
          };
        };
        second = record {
          front = low_bits 3 3;
          back = [];
          whole = refl;
          first = record {
            given = (tt, tt);
            spelled = record {
              front = [];
              back = _;
              whole = refl;
              first = aligned 8;
              second = (pos 3, refl, record { permitted = refl; image = pos 3; maps = refl; spelled = (3, refl, record { width = refl; value = refl }) });
            };
          };
          second = refl;
        };
      };
    };
  };
}

-- SEQUENCE { data OCTET STRING (SIZE (0..16)) } with { len INTEGER u8, data [size len] }
abbrev fifth_row : Grammar
fifth_row = node 1 (seq (inserted (108 ∷ []) (node 1 (num (integer (pos 255) (PosInt 8)))) (Some 0) (component (100 ∷ []) (node 1 (octets (record { sizes = (pos 0, pos 16) ∷ []; rule = Slot 0 }))) Always None None no_fields)) (0 ∷ []))

abbrev two_octets : Data
two_octets = record_of (filled (octet_string (161 ∷ 178 ∷ [])) no_places)

-- {"data":"a1b2"} is 02 a1 b2
pub length_first : IsWritten fifth_row two_octets (bits_of (2 ∷ 161 ∷ 178 ∷ []))
length_first = record {
  front = [];
  back = _;
  whole = refl;
  first = aligned 0;
  second = record {
    numbers = pos 2 ∷ [];
    fine = record {
      count = refl;
      permitted = (refl, tt);
      least = λ _. (record { answers = record { permitted = refl; meets = (refl, tt) }; first = λ y a. omega (arith, ints, a.meets.0) }, tt);
    };
    spelled = record {
      front = [];
      back = _;
      whole = refl;
      first = refl;
      second = record {
        front = low_bits 8 2;
        back = bits_of (161 ∷ 178 ∷ []);
        whole = refl;
        first = (
          pos 2,
          refl,
          record {
            front = [];
            back = _;
            whole = refl;
            first = aligned 0;
            second = record { permitted = refl; image = pos 2; maps = refl; spelled = (refl, refl) };
          },
        );
        second = record {
          front = bits_of (161 ∷ 178 ∷ []);
          back = [];
          whole = refl;
          first = record {
            given = (tt, tt);
            spelled = record {
              front = [];
              back = _;
              whole = refl;
              first = aligned 8;
              second = record { front = []; back = _; whole = refl; first = record { given = refl; spelled = (refl, refl) }; second = record { given = refl; spelled = refl } };
            };
          };
          second = refl;
        };
      };
    };
  };
}

-- bounds

abbrev bool_leaf : NumLeaf
bool_leaf = record { kind = Boolean; set = (pos 0, pos 1) ∷ []; coding = Flag None None; little = false; table = None; items = record { items = []; values = false } }

-- SEQUENCE { a INTEGER (0..7) OPTIONAL, b BOOLEAN } has 2 and 5
optional_row : Grammar
optional_row = node 1 (seq (component (97 ∷ []) (node 1 (num (integer (pos 7) (Range (pos 0) 3)))) Bit None None (component (98 ∷ []) (node 1 (num bool_leaf)) Always None None no_fields)) [])

first_bounds : span first_row ≡ record { least = 11; greatest = 11 }
first_bounds = refl

optional_bounds : span optional_row ≡ record { least = 2; greatest = 5 }
unfolding optional_row
optional_bounds = refl

-- a in 3 bits, b in 8 behind a multiple of 16: 11 and 26
word_row : Grammar
word_row = node 1 (seq (component (97 ∷ []) (node 1 (num (integer (pos 7) (Range (pos 0) 3)))) Always None None (component (98 ∷ []) (node 16 (num (integer (pos 255) (Range (pos 0) 8)))) Always None None no_fields)) [])

word_bounds : span word_row ≡ record { least = 11; greatest = 26 }
unfolding word_row
word_bounds = refl

word_length : bit_length word_row 0 (record_of (filled (int (pos 5)) (filled (int (pos 1)) no_places))) ≡ 24
unfolding word_row
word_length = refl

-- what doesn't fit is the first breach: b is 9
nine_unfit : breach first_row (record_of (filled (int (pos 5)) (filled (int (pos 9)) no_places))) ≡ Some (record { path = 1 ∷ []; why = out_of_range (pos 9) })
nine_unfit = refl

any_aligned : (at : ℕ) → Padding Any 1 at []
any_aligned at = record { aligned = omega arith; fewest = omega arith; zeros = λ _. refl }

-- 05 alone is Short at b, which begins at bit 8
pub one_octet : Refusal first_row (bits_of (5 ∷ [])) (record { path = 1 ∷ []; reason = short; at = 8 }) 8
one_octet = fails_behind_padding (record {
  front = [];
  back = _;
  whole = refl;
  spelled = any_aligned 0;
  more = 8;
  reaches = refl;
  fails = fails_behind_presence (record {
    numbers = [];
    count = refl;
    permitted = tt;
    behind = record {
      there = omega arith;
      more = 8;
      fails = fails_behind_component (
        tt,
        (
          int (pos 5),
          record {
            front = low_bits 8 5;
            back = [];
            whole = refl;
            spelled = record {
              given = tt;
              spelled = record {
                front = [];
                back = _;
                whole = refl;
                first = any_aligned 0;
                second = (pos 5, refl, record { permitted = refl; image = pos 5; maps = refl; spelled = (5, refl, record { width = refl; value = refl }) });
              };
            };
            more = 0;
            reaches = refl;
            fails = fails_at_component (
              tt,
              fails_behind_padding (record {
                front = [];
                back = [];
                whole = refl;
                spelled = any_aligned 8;
                more = 0;
                reaches = refl;
                fails = record { reason = short; fails = code_cut (omega arith, refl, refl); says = refl };
              }),
            );
          },
        ),
      );
      reaches = refl;
    };
  });
})
