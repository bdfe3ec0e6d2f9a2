-- Rows on where a failure is named.
use Rattle.std.proofs.Common.{ℕ, ◌+◌, pos, Bool, false, List, [], ◌∷◌, ◌++◌, refl, subst, arith}
use Rattle.acn_num.specs.Bits.{low_bits, bits as bits_of}
use Rattle.acn_num.specs.Ranges.{In}
use Rattle.acn_grammar.specs.Code.{Mode, Written, Any}
use Rattle.acn_grammar.specs.Fails.{Fault, Fails, Refusal, fails_at_component, fails_at_element, fails_behind_component, fails_behind_element, fails_behind_padding, fails_behind_presence, fails_behind_size, padding_cut, presence_cut}
use Rattle.acn_grammar.specs.Front.{IsWritten}
use Rattle.acn_grammar.specs.Grammar.{Grammar, int, list_of, element, no_elements}
use Rattle.acn_grammar.specs.LeafFails.{short, out_of_range, says, code_cut, code_not_permitted}
use Rattle.acn_grammar.specs.Spell.{Spell}
use Rattle.acn_grammar.specs.declared.node.NumCoding.TheVariants.{Range}
use Rattle.acn_packet_laws.specs.PlaceRows.{late_bits, digits, PresenceBitsMayBeShort, PaddingMayBeShort, AnElementIsNamedByItsPlace}
use Rattle.acn_packet_laws.specs.WorkedRows.{integer, aligned}
use Rattle.acn_packet_laws.proofs.NumberRows.{none_is}
use Rattle.acn_packet_laws.proofs.WorkedRows.{none, few_bits}

presence_short : Refusal late_bits (bits_of (11 ∷ [])) (record { path = 1 ∷ []; reason = short; at = 7 }) 8
presence_short = fails_behind_padding (record {
  front = [];
  back = _;
  whole = refl;
  spelled = none Any 0;
  more = 8;
  reaches = refl;
  fails = fails_behind_presence (record {
    numbers = [];
    count = refl;
    permitted = tt;
    behind = record {
      there = omega arith;
      more = 8;
      fails = fails_behind_component (
        tt,
        (
          int (pos 5),
          record {
            front = low_bits 7 5;
            back = low_bits 1 1;
            whole = refl;
            spelled = record {
              given = tt;
              spelled = record {
                front = [];
                back = _;
                whole = refl;
                first = none Any 0;
                second = (pos 5, refl, record { permitted = refl; image = pos 5; maps = refl; spelled = (5, refl, record { width = refl; value = refl }) });
              };
            };
            more = 1;
            reaches = refl;
            fails = fails_at_component (
              tt,
              fails_behind_padding (record { front = []; back = _; whole = refl; spelled = none Any 7; more = 1; reaches = refl; fails = presence_cut (omega arith, refl, refl) }),
            );
          },
        ),
      );
      reaches = refl;
    };
  });
})

pub presence_bits_may_be_short_law : PresenceBitsMayBeShort
presence_bits_may_be_short_law = record { refused = presence_short; never = λ d n. few_bits late_bits refl (omega arith) (bits_of (11 ∷ [])) (omega arith) d n }

padding_short : Refusal aligned (bits_of (160 ∷ [])) (record { path = 1 ∷ []; reason = short; at = 3 }) 8
padding_short = fails_behind_padding (record {
  front = [];
  back = _;
  whole = refl;
  spelled = none Any 0;
  more = 8;
  reaches = refl;
  fails = fails_behind_presence (record {
    numbers = [];
    count = refl;
    permitted = tt;
    behind = record {
      there = omega arith;
      more = 8;
      fails = fails_behind_component (
        tt,
        (
          int (pos 5),
          record {
            front = low_bits 3 5;
            back = low_bits 5 0;
            whole = refl;
            spelled = record {
              given = tt;
              spelled = record {
                front = [];
                back = _;
                whole = refl;
                first = none Any 0;
                second = (pos 5, refl, record { permitted = refl; image = pos 5; maps = refl; spelled = (5, refl, record { width = refl; value = refl }) });
              };
            };
            more = 5;
            reaches = refl;
            fails = fails_at_component (tt, padding_cut (omega arith, refl, refl));
          },
        ),
      );
      reaches = refl;
    };
  });
})

pub padding_may_be_short_law : PaddingMayBeShort
padding_may_be_short_law = record { refused = padding_short; never = λ d n. few_bits aligned refl (omega arith) (bits_of (160 ∷ [])) (omega arith) d n }

-- Elements.

abbrev digit : Grammar
digit = integer (pos 0) (pos 9) (Range (pos 0) 4)

one : (mode : Mode) → Spell digits mode digit [] (int (pos 1)) 3 (low_bits 4 1)
one mode = record { front = []; back = _; whole = refl; first = none mode 3; second = (pos 1, refl, record { permitted = refl; image = pos 1; maps = refl; spelled = (1, refl, record { width = refl; value = refl }) }) }

one_and_seven : IsWritten digits (list_of (element (int (pos 1)) (element (int (pos 7)) no_elements))) (low_bits 3 2 ++ (low_bits 4 1 ++ low_bits 4 7))
one_and_seven = record {
  front = [];
  back = _;
  whole = refl;
  first = none Written 0;
  second = record {
    front = low_bits 3 2;
    back = low_bits 4 1 ++ low_bits 4 7;
    whole = refl;
    first = record { given = refl; spelled = record { given = omega arith; spelled = record { width = refl; value = refl } } };
    second = record {
      front = low_bits 4 1;
      back = low_bits 4 7;
      whole = refl;
      first = one Written;
      second = record {
        front = low_bits 4 7;
        back = [];
        whole = refl;
        first = record { front = []; back = _; whole = refl; first = none Written 7; second = (pos 7, refl, record { permitted = refl; image = pos 7; maps = refl; spelled = (7, refl, record { width = refl; value = refl }) }) };
        second = refl;
      };
    };
  };
}

-- behind a size of 2 and an element of 1
second_fails : (behind : List Bool) (fault : Fault) (more : ℕ) → Fails digits digit [] false 0 (1 ∷ []) 7 behind fault more → Refusal digits (low_bits 3 2 ++ (low_bits 4 1 ++ behind)) fault (7 + more)
second_fails behind fault more f = fails_behind_padding (record {
  front = [];
  back = _;
  whole = refl;
  spelled = none Any 0;
  more = 7 + more;
  reaches = omega arith;
  fails = fails_behind_size (record {
    n = 2;
    behind = record {
      front = low_bits 3 2;
      back = low_bits 4 1 ++ behind;
      whole = refl;
      spelled = record { given = refl; spelled = record { given = omega arith; spelled = record { width = refl; value = refl } } };
      more = 4 + more;
      reaches = omega arith;
      fails = fails_behind_element (int (pos 1), record { front = low_bits 4 1; back = behind; whole = refl; spelled = one Any; more = more; reaches = omega arith; fails = fails_at_element (f) });
    };
  });
})

twelve : Fails digits digit [] false 0 (1 ∷ []) 7 (low_bits 4 12 ++ low_bits 5 0) (record { path = 1 ∷ []; reason = out_of_range (pos 12); at = 7 }) 4
twelve = fails_behind_padding (record {
  front = [];
  back = _;
  whole = refl;
  spelled = none Any 7;
  more = 4;
  reaches = refl;
  fails = record { reason = out_of_range (pos 12); fails = code_not_permitted (omega arith, (says (pos 12) (pos 12), refl, (none_is (pos 0) (pos 9) (pos 12) refl, refl)), refl); says = refl };
})

one_bit : Fails digits digit [] false 0 (1 ∷ []) 7 (low_bits 1 0) (record { path = 1 ∷ []; reason = short; at = 7 }) 1
one_bit = fails_behind_padding (record { front = []; back = _; whole = refl; spelled = none Any 7; more = 1; reaches = refl; fails = record { reason = short; fails = code_cut (omega arith, refl, refl); says = refl } })

twelve_never : (bs : List Bool) → IsWritten digits (list_of (element (int (pos 1)) (element (int (pos 12)) no_elements))) bs → ⊥
twelve_never bs w =
    let e = w.second.second.second.first.second in
    let q : In ((pos 0, pos 9) ∷ []) (pos 12) = subst (λ y. In ((pos 0, pos 9) ∷ []) y) e.1 e.2.permitted in
    cc

pub an_element_is_named_by_its_place_law : AnElementIsNamedByItsPlace
an_element_is_named_by_its_place_law = record {
  written = one_and_seven;
  refused = second_fails (low_bits 4 12 ++ low_bits 5 0) (record { path = 1 ∷ []; reason = out_of_range (pos 12); at = 7 }) 4 twelve;
  cut = second_fails (low_bits 1 0) (record { path = 1 ∷ []; reason = short; at = 7 }) 1 one_bit;
  never = twelve_never;
}
