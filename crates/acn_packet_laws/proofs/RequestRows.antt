-- Rows of lists that a pattern ends and of components that are determinants.
use Rattle.std.proofs.Common.{◌≡◌, ℕ, ◌+◌, pos, Bool, false, List, [], ◌∷◌, ◌++◌, Some, None, length, refl, ap, arith, subst, length-append}
use Rattle.std.proofs.lemmas.Int.{ints}
use Rattle.acn_num.specs.Bits.{low_bits, bits as bits_of}
use Rattle.acn_grammar.specs.Asks.{Moment, asks, Equal}
use Rattle.acn_grammar.specs.Code.{Mode, Written, Any, Code}
use Rattle.acn_grammar.specs.Fails.{Refusal, Failing, Behind, fails_behind_padding, end_not_permitted, fails_behind_next, full_not_ended, pattern_differs}
use Rattle.acn_grammar.specs.Front.{IsWritten}
use Rattle.acn_grammar.specs.Grammar.{int, octet_string, list_of, element, no_elements}
use Rattle.acn_grammar.specs.LeafFails.{too_long, size_out_of_range}
use Rattle.acn_grammar.specs.Meets.{conflict}
use Rattle.acn_grammar.specs.Refused.{Refused, CanBeMet}
use Rattle.acn_grammar.specs.Spell.{Spell, Padding}
use Rattle.acn_grammar.specs.declared.node.NumCoding.TheVariants.{Range}
use Rattle.acn_grammar.specs.declared.node.NumKind.TheVariants.{Integer}
use Rattle.acn_packet_laws.specs.RequestRows.{small, ended_list, counted_octets, APatternEndsTheList, AComponentDetermines}
use Rattle.acn_packet_laws.specs.WorkedRows.{two}

-- What is written.

nothing : (mode : Mode) (at : ℕ) → Padding mode 1 at []
nothing mode at = record { aligned = omega arith; fewest = omega arith; zeros = λ e. refl }

abbrev ByteCode : ℕ → ℕ → Type 0
ByteCode high k = Code Written (record { kind = Integer; set = (pos 0, pos high) ∷ []; coding = Range (pos 0) 8; little = false; table = None; items = record { items = []; values = false } }) (pos k) (low_bits 8 k)

one_code : ByteCode 200 1
one_code = record { permitted = refl; image = pos 1; maps = refl; spelled = (1, refl, record { width = refl; value = refl }) }

two_code : ByteCode 200 2
two_code = record { permitted = refl; image = pos 2; maps = refl; spelled = (2, refl, record { width = refl; value = refl }) }

size_code : ByteCode 255 2
size_code = record { permitted = refl; image = pos 2; maps = refl; spelled = (2, refl, record { width = refl; value = refl }) }

-- enc [1,2] is 01 02 ff, without padding in front of the pattern
ended_written : IsWritten (ended_list 0) (list_of (element (int (pos 1)) (element (int (pos 2)) no_elements))) (bits_of (1 ∷ 2 ∷ 255 ∷ []))
ended_written = record {
  front = [];
  back = bits_of (1 ∷ 2 ∷ 255 ∷ []);
  whole = refl;
  first = nothing Written 0;
  second = record {
    given = refl;
    spelled = record {
      front = bits_of (1 ∷ 2 ∷ []);
      back = low_bits 8 255;
      whole = refl;
      first = record {
        front = low_bits 8 1;
        back = bits_of (2 ∷ []);
        whole = refl;
        first = record { front = []; back = low_bits 8 1; whole = refl; first = nothing Written 0; second = (pos 1, refl, one_code) };
        second = record {
          front = low_bits 8 2;
          back = [];
          whole = refl;
          first = record { front = []; back = low_bits 8 2; whole = refl; first = nothing Written 8; second = (pos 2, refl, two_code) };
          second = refl;
        };
      };
      second = refl;
    };
  };
}

-- enc [] is ff
empty_written : IsWritten (ended_list 0) (list_of no_elements) (low_bits 8 255)
empty_written = record {
  front = [];
  back = low_bits 8 255;
  whole = refl;
  first = nothing Written 0;
  second = record { given = refl; spelled = record { front = []; back = low_bits 8 255; whole = refl; first = refl; second = refl } };
}

-- dec ff, with one element at least
none_permitted : Refusal (ended_list 1) (low_bits 8 255) (record { path = []; reason = size_out_of_range 0; at = 0 }) 8
none_permitted = fails_behind_padding (record {
  front = [];
  back = low_bits 8 255;
  whole = refl;
  spelled = nothing Any 0;
  more = 8;
  fails = end_not_permitted (record { stands = refl; refused = λ h. cc; says = refl; reaches = refl });
  reaches = refl;
})

-- dec 01 02 03 04: no fourth may come
too_many : Refusal (ended_list 0) (bits_of (1 ∷ 2 ∷ 3 ∷ 4 ∷ [])) (record { path = []; reason = too_long; at = 0 }) 32
too_many = fails_behind_padding (record {
  front = [];
  back = bits_of (1 ∷ 2 ∷ 3 ∷ 4 ∷ []);
  whole = refl;
  spelled = nothing Any 0;
  more = 32;
  fails = fails_behind_next (
    int (pos 1),
    behind 0 1 (bits_of (2 ∷ 3 ∷ 4 ∷ [])) 24 (byte 0 1 (record { permitted = refl; image = pos 1; maps = refl; spelled = (1, refl, record { width = refl; value = refl }) }))
        (fails_behind_next (
          int (pos 2),
          behind 8 2 (bits_of (3 ∷ 4 ∷ [])) 16 (byte 8 2 (record { permitted = refl; image = pos 2; maps = refl; spelled = (2, refl, record { width = refl; value = refl }) }))
              (fails_behind_next (
                int (pos 3),
                behind 16 3 (bits_of (4 ∷ [])) 8 (byte 16 3 (record { permitted = refl; image = pos 3; maps = refl; spelled = (3, refl, record { width = refl; value = refl }) }))
                    (full_not_ended (pattern_differs (omega arith, (λ e. cc), refl, refl))),
              )),
        )),
  );
  reaches = refl;
})
  where
    byte : (at k : ℕ) → Code Any (record { kind = Integer; set = (pos 0, pos 200) ∷ []; coding = Range (pos 0) 8; little = false; table = None; items = record { items = []; values = false } }) (pos k) (low_bits 8 k) → Spell (ended_list 0) Any small [] (int (pos k)) at (low_bits 8 k)
    byte at k c = record { front = []; back = low_bits 8 k; whole = refl; first = nothing Any at; second = (pos k, refl, subst (λ (bs : List Bool). Code Any (record { kind = Integer; set = (pos 0, pos 200) ∷ []; coding = Range (pos 0) 8; little = false; table = None; items = record { items = []; values = false } }) (pos k) bs) refl c) }

    behind : {F : Failing} (at k : ℕ) (back : List Bool) (more : ℕ) → Spell (ended_list 0) Any small [] (int (pos k)) at (low_bits 8 k) → F (at + 8) back (record { path = []; reason = too_long; at = 0 }) more
        → Behind (Spell (ended_list 0) Any small [] (int (pos k))) F at (low_bits 8 k ++ back) (record { path = []; reason = too_long; at = 0 }) (8 + more)
    behind at k back more s f = record { front = low_bits 8 k; back = back; whole = refl; spelled = s; more = more; fails = f; reaches = refl }

-- enc n 2 and d a1b2 is 02 a1 b2
own_written : IsWritten (counted_octets) (two (int (pos 2)) (octet_string (161 ∷ 178 ∷ []))) (bits_of (2 ∷ 161 ∷ 178 ∷ []))
own_written = record {
  front = [];
  back = bits_of (2 ∷ 161 ∷ 178 ∷ []);
  whole = refl;
  first = nothing Written 0;
  second = record {
    numbers = pos 2 ∷ [];
    fine = record { count = refl; permitted = (refl, tt); least = λ e. (record { answers = record { permitted = refl; meets = (refl, (refl, tt)) }; first = λ y a. (let q = a.meets.0 in omega (arith, ints, q)) }, tt) };
    spelled = record {
      front = [];
      back = bits_of (2 ∷ 161 ∷ 178 ∷ []);
      whole = refl;
      first = refl;
      second = record {
        front = low_bits 8 2;
        back = bits_of (161 ∷ 178 ∷ []);
        whole = refl;
        first = record { given = (tt, refl); spelled = record { front = []; back = low_bits 8 2; whole = refl; first = nothing Written 0; second = (pos 2, refl, size_code) } };
        second = record {
          front = bits_of (161 ∷ 178 ∷ []);
          back = [];
          whole = refl;
          first = record {
            given = (tt, tt);
            spelled = record {
              front = [];
              back = bits_of (161 ∷ 178 ∷ []);
              whole = refl;
              first = nothing Written 8;
              second = record { front = []; back = bits_of (161 ∷ 178 ∷ []); whole = refl; first = record { given = refl; spelled = (refl, refl) }; second = record { given = refl; spelled = refl } };
            };
          };
          second = refl;
        };
      };
    };
  };
}

-- enc n 3 and d a1: Conflict n =3 =1 at d
own_conflicts : Refused (counted_octets) (two (int (pos 3)) (octet_string (161 ∷ []))) (record { path = 1 ∷ []; why = conflict (0 ∷ []) (Some (Equal (pos 3))) (Equal (pos 1)) })
own_conflicts = record {
  before = asks (0 ∷ []) (0 ∷ []) 0 (Equal (pos 3)) ∷ [];
  here = asks (1 ∷ []) (0 ∷ []) 0 (Equal (pos 1));
  after = [];
  whole = refl;
  met = first_met;
  unmet = λ c. (let a = c.1.meets.0 in let b = c.1.meets.1.0 in absurd (omega (arith, ints, a, b)));
  says = (Some (Equal (pos 3)), (record { early = []; late = []; is = refl }, λ e. absurd (omega (arith, ints, e))), refl);
}
  where
    three : CanBeMet (counted_octets) [] (asks (0 ∷ []) (0 ∷ []) 0 (Equal (pos 3)))
    three = (pos 3, record { permitted = refl; meets = (refl, tt) })

    first_met : (early late : List Moment) (m : Moment) → asks (0 ∷ []) (0 ∷ []) 0 (Equal (pos 3)) ∷ [] ≡ early ++ m ∷ late → CanBeMet (counted_octets) early m
    first_met [] late m e = (let same : asks (0 ∷ []) (0 ∷ []) 0 (Equal (pos 3)) ≡ m = cc in subst (CanBeMet (counted_octets) []) same three)
    first_met (x ∷ early) late m e = absurd (let l = ap length e in omega (arith, l, length-append early (m ∷ late)))

pub a_pattern_ends_the_list_law : APatternEndsTheList
a_pattern_ends_the_list_law = record { tree = refl; bounds = refl; values = refl; written = ended_written; empty = empty_written; too_few = none_permitted; too_many = too_many; only_lists = refl; some_bits = refl }

pub a_component_determines_law : AComponentDetermines
a_component_determines_law = record { tree = refl; bounds = refl; written = own_written; refused = own_conflicts; not_optional = refl; no_home = refl; no_slot = refl; no_use = refl }
