-- Rows of elements: where a pattern ends the list, and where each has a size of its own.
use Rattle.std.proofs.Common.{◌≡◌, ℕ, pos, Bool, false, List, [], ◌∷◌, ◌++◌, length, replicate, None, refl, sym, ap, arith}
use Rattle.std.specs.Prelude.{IsTrue}
use Rattle.std.proofs.lemmas.Int.{ints}
use Rattle.std.proofs.lemmas.List.{append-nil}
use Rattle.acn_num.specs.Bits.{low_bits, bits as bits_of}
use Rattle.acn_num.specs.Ranges.{In}
use Rattle.acn_grammar.specs.Code.{Mode, Written, Any, Code}
use Rattle.acn_grammar.specs.Fails.{Fails, Refusal, fails_at_component, fails_at_element, fails_behind_element, fails_behind_inserted, fails_behind_padding, fails_behind_presence, fails_behind_size, fails_at_size, fails_behind_next, next_element_fails}
use Rattle.acn_grammar.specs.Front.{IsWritten}
use Rattle.acn_grammar.specs.Grammar.{int, list_of, element, no_elements}
use Rattle.acn_grammar.specs.LeafFails.{short, out_of_range, size_out_of_range, says, code_cut, code_not_permitted}
use Rattle.acn_grammar.specs.Shaped.{are_octets}
use Rattle.acn_grammar.specs.Spell.{Spell}
use Rattle.acn_grammar.specs.declared.node.NumCoding.TheVariants.{PosInt}
use Rattle.acn_grammar.specs.declared.node.NumKind.TheVariants.{Integer}
use Rattle.acn_packet_laws.specs.ListRows.{sized_element, sized_elements, holding, AnEndedListNamesItsElements, EachElementHasItsSize}
use Rattle.acn_packet_laws.specs.RequestRows.{small, ended_list}
use Rattle.acn_packet_laws.proofs.NumberRows.{none_is}
use Rattle.acn_packet_laws.proofs.OneWriting.{writing_of_a_tree}
use Rattle.acn_packet_laws.proofs.WorkedRows.{none}

-- A list that a pattern ends.

one : (mode : Mode) (at : ℕ) → Spell (ended_list 0) mode small [] (int (pos 1)) at (low_bits 8 1)
one mode at = record { front = []; back = _; whole = refl; first = none mode at; second = (pos 1, refl, record { permitted = refl; image = pos 1; maps = refl; spelled = (1, refl, record { width = refl; value = refl }) }) }

two : (mode : Mode) (at : ℕ) → Spell (ended_list 0) mode small [] (int (pos 2)) at (low_bits 8 2)
two mode at = record { front = []; back = _; whole = refl; first = none mode at; second = (pos 2, refl, record { permitted = refl; image = pos 2; maps = refl; spelled = (2, refl, record { width = refl; value = refl }) }) }

one_written : IsWritten (ended_list 0) (list_of (element (int (pos 1)) no_elements)) (bits_of (1 ∷ 255 ∷ []))
one_written = record {
  front = [];
  back = bits_of (1 ∷ 255 ∷ []);
  whole = refl;
  first = none Written 0;
  second = record {
    given = refl;
    spelled = record {
      front = low_bits 8 1;
      back = low_bits 8 255;
      whole = refl;
      first = record { front = low_bits 8 1; back = []; whole = refl; first = one Written 0; second = refl };
      second = refl;
    };
  };
}

third_wanting : Refusal (ended_list 0) (bits_of (1 ∷ 2 ∷ [])) (record { path = 2 ∷ []; reason = short; at = 16 }) 24
third_wanting = fails_behind_padding (record {
  front = [];
  back = bits_of (1 ∷ 2 ∷ []);
  whole = refl;
  spelled = none Any 0;
  more = 24;
  reaches = refl;
  fails = fails_behind_next (
    int (pos 1),
    record {
      front = low_bits 8 1;
      back = low_bits 8 2;
      whole = refl;
      spelled = one Any 0;
      more = 16;
      reaches = refl;
      fails = fails_behind_next (
        int (pos 2),
        record {
          front = low_bits 8 2;
          back = [];
          whole = refl;
          spelled = two Any 8;
          more = 8;
          reaches = refl;
          fails = next_element_fails (record {
            differs = λ e. cc;
            inner = 0;
            fails = fails_behind_padding (record {
              front = [];
              back = [];
              whole = refl;
              spelled = none Any 16;
              more = 0;
              reaches = refl;
              fails = record { reason = short; fails = code_cut (omega arith, refl, refl); says = refl };
            });
            reaches = refl;
          });
        },
      );
    },
  );
})

too_great : Refusal (ended_list 0) (bits_of (201 ∷ 255 ∷ [])) (record { path = 0 ∷ []; reason = out_of_range (pos 201); at = 0 }) 8
too_great = fails_behind_padding (record {
  front = [];
  back = bits_of (201 ∷ 255 ∷ []);
  whole = refl;
  spelled = none Any 0;
  more = 8;
  reaches = refl;
  fails = next_element_fails (record {
    differs = λ e. cc;
    inner = 8;
    fails = fails_behind_padding (record {
      front = [];
      back = bits_of (201 ∷ 255 ∷ []);
      whole = refl;
      spelled = none Any 0;
      more = 8;
      reaches = refl;
      fails = record {
        reason = out_of_range (pos 201);
        fails = code_not_permitted (omega arith, (says (pos 201) (pos 201), refl, (none_is (pos 0) (pos 200) (pos 201) refl, refl)), refl);
        says = refl;
      };
    });
    reaches = refl;
  });
})

no_end : bits_of (1 ∷ 255 ∷ []) ≡ bits_of (1 ∷ []) → ⊥
no_end e = absurd (let q : 16 ≡ 8 = ap length e in omega (arith, q))

pub an_ended_list_names_its_elements_law : AnEndedListNamesItsElements
an_ended_list_names_its_elements_law = record {
  written = one_written;
  wanting = third_wanting;
  refused = too_great;
  never = λ w. no_end (writing_of_a_tree (ended_list 0) refl (list_of (element (int (pos 1)) no_elements)) _ _ one_written w);
}

-- Elements with their sizes.

abbrev SizeCode : Mode → ℕ → Type 0
SizeCode mode n = Code mode (record { kind = Integer; set = (pos 0, pos 255) ∷ []; coding = PosInt 8; little = false; table = None; items = record { items = []; values = false } }) (pos n) (low_bits 8 n)

module _ (mode : Mode) (os : List ℕ) (code : SizeCode mode (length os)) (few : In ((pos 0, pos 3) ∷ []) (pos (length os))) (are : IsTrue (are_octets os)) where
  its_size : (at : ℕ) → Spell sized_elements mode sized_element [] (holding os) at (low_bits 8 (length os) ++ bits_of os)
  its_size at = record {
    front = [];
    back = _;
    whole = refl;
    first = none mode at;
    second = record {
      numbers = pos (length os) ∷ [];
      fine = record {
        count = refl;
        permitted = (code.permitted, tt);
        least = λ _. (record { answers = record { permitted = code.permitted; meets = (refl, tt) }; first = λ y a. omega (arith, ints, a.meets.0) }, tt);
      };
      spelled = record {
        front = [];
        back = _;
        whole = refl;
        first = refl;
        second = record {
          front = low_bits 8 (length os);
          back = bits_of os;
          whole = refl;
          first = (pos (length os), refl, record { front = []; back = _; whole = refl; first = none mode _; second = code });
          second = record {
            front = bits_of os;
            back = [];
            whole = sym (append-nil (bits_of os));
            first = record {
              given = (tt, tt);
              spelled = record {
                front = [];
                back = _;
                whole = refl;
                first = none mode _;
                second = record { front = []; back = _; whole = refl; first = record { given = few; spelled = (refl, refl) }; second = record { given = are; spelled = refl } };
              };
            };
            second = refl;
          };
        };
      };
    };
  }

no_octets : (mode : Mode) (at : ℕ) → Spell sized_elements mode sized_element [] (holding []) at (low_bits 8 0)
no_octets mode = its_size mode [] (record { permitted = refl; image = pos 0; maps = refl; spelled = (refl, refl) }) refl refl

one_and_none : IsWritten sized_elements (list_of (element (holding (170 ∷ [])) (element (holding []) no_elements))) (low_bits 2 2 ++ ((low_bits 8 1 ++ low_bits 8 170) ++ low_bits 8 0))
one_and_none = record {
  front = [];
  back = _;
  whole = refl;
  first = none Written 0;
  second = record {
    front = low_bits 2 2;
    back = (low_bits 8 1 ++ low_bits 8 170) ++ low_bits 8 0;
    whole = refl;
    first = record { given = refl; spelled = record { given = omega arith; spelled = record { width = refl; value = refl } } };
    second = record {
      front = low_bits 8 1 ++ low_bits 8 170;
      back = low_bits 8 0;
      whole = refl;
      first = its_size Written (170 ∷ []) (record { permitted = refl; image = pos 1; maps = refl; spelled = (refl, refl) }) refl refl 2;
      second = record { front = low_bits 8 0; back = []; whole = refl; first = no_octets Written 18; second = refl };
    };
  };
}

four_octets : Fails sized_elements sized_element [] false 0 (1 ∷ []) 10 (low_bits 8 4 ++ low_bits 6 0) (record { path = 1 ∷ 1 ∷ []; reason = size_out_of_range 4; at = 18 }) 8
four_octets = fails_behind_padding (record {
  front = [];
  back = _;
  whole = refl;
  spelled = none Any 10;
  more = 8;
  reaches = refl;
  fails = fails_behind_presence (record {
    numbers = pos 4 ∷ [];
    count = refl;
    permitted = (refl, tt);
    behind = record {
      there = omega arith;
      more = 8;
      fails = fails_behind_inserted (record {
        front = low_bits 8 4;
        back = low_bits 6 0;
        whole = refl;
        spelled = (pos 4, refl, record { front = []; back = _; whole = refl; first = none Any 10; second = record { permitted = refl; image = pos 4; maps = refl; spelled = (refl, refl) } });
        more = 0;
        reaches = refl;
        fails = fails_at_component (
          tt,
          fails_behind_padding (record {
            front = [];
            back = _;
            whole = refl;
            spelled = none Any 18;
            more = 0;
            reaches = refl;
            fails = fails_at_size (record { number = pos 4; stands = refl; refused = λ h. cc; says = refl; reaches = refl });
          }),
        );
      });
      reaches = refl;
    };
  });
})

second_refused : Refusal sized_elements (bits_of (128 ∷ 1 ∷ 0 ∷ [])) (record { path = 1 ∷ 1 ∷ []; reason = size_out_of_range 4; at = 18 }) 18
second_refused = fails_behind_padding (record {
  front = [];
  back = _;
  whole = refl;
  spelled = none Any 0;
  more = 18;
  reaches = refl;
  fails = fails_behind_size (record {
    n = 2;
    behind = record {
      front = low_bits 2 2;
      back = low_bits 8 0 ++ (low_bits 8 4 ++ low_bits 6 0);
      whole = refl;
      spelled = record { given = refl; spelled = record { given = omega arith; spelled = record { width = refl; value = refl } } };
      more = 16;
      reaches = refl;
      fails = fails_behind_element (
        holding [],
        record { front = low_bits 8 0; back = low_bits 8 4 ++ low_bits 6 0; whole = refl; spelled = no_octets Any 2; more = 8; reaches = refl; fails = fails_at_element (four_octets) },
      );
    };
  });
})

four_never : (bs : List Bool) → IsWritten sized_elements (list_of (element (holding (replicate 4 0)) no_elements)) bs → ⊥
four_never bs w = let g = w.second.second.first.second.spelled.second.second.first.spelled.second.first.given in cc

pub each_element_has_its_size_law : EachElementHasItsSize
each_element_has_its_size_law = record { tree = refl; bounds = refl; written = one_and_none; refused = second_refused; never = four_never }
