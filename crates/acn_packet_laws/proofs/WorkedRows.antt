-- The worked packets: each as it is stated, and why its last case can't hold.
use Rattle.std.proofs.Common.{◌≡◌, ℕ, suc, ◌+◌, ◌<◌, ◌≤◌, pos, Bool, true, false, List, [], ◌∷◌, ◌++◌, length, take, replicate, Some, None, refl, sym, ap, subst, ◌∙◌, arith}
use Rattle.std.proofs.lemmas.Int.{ints}
use Rattle.std.proofs.lemmas.List.{append-nil, length-take-le}
use Rattle.acn_num.specs.Bits.{low_bits, bits as bits_of}
use Rattle.acn_num.specs.Ranges.{In}
use Rattle.acn_grammar.specs.Code.{Mode, Written, Any, Code}
use Rattle.acn_grammar.specs.Env.{Env}
use Rattle.acn_grammar.specs.Fails.{Fault, Fails, Refusal, fails_at_component, fails_behind_component, fails_behind_inserted, fails_behind_padding, fails_behind_presence, fails_at_size}
use Rattle.acn_grammar.specs.LeafFails.{short, size_out_of_range, content_size}
use Rattle.acn_grammar.specs.declared.node.NumKind.TheVariants.{Integer, Null}
use Rattle.acn_grammar.specs.declared.node.NumCoding.TheVariants.{PosInt, Fixed}
use Rattle.acn_grammar.specs.Front.{IsWritten, Front}
use Rattle.acn_grammar.specs.Grammar.{Grammar, Data, node, num, int, boolean, item, null, characters, octet_string, record_of, list_of, no_places, empty, filled}
use Rattle.acn_grammar.specs.Interval.{span}
use Rattle.acn_grammar.specs.Spell.{Spell, Padding}
use Rattle.acn_grammar.specs.Tree.{IsTree}
use Rattle.acn_grammar.specs.declared.limits.TheConstants.{MOST_PACKET_BITS}
use Rattle.acn_packet_laws.specs.WorkedRows as rows
use Rattle.acn_packet_laws.specs.WorkedRows.{two, two_integers, sized_octets, one_size, uneven, flagged, ended_text, one_of_two, aligned, optional, up_to_five, zeros, body, telemetry}
use Rattle.acn_packet_laws.proofs.AskRows as ask_rows
use Rattle.acn_packet_laws.proofs.FlagRows as flag_rows
use Rattle.acn_packet_laws.proofs.LeafRows as leaf_rows
use Rattle.acn_packet_laws.proofs.LengthLaw.{length_law}
use Rattle.acn_packet_laws.proofs.Rows as packet_rows
use Rattle.acn_packet_laws.proofs.TelemetryRows as telemetry_rows
use Rattle.acn_packet_laws.proofs.TextRows as text_rows
use Rattle.acn_packet_laws.proofs.BoundsLaw.{bounds_hold}

pub none : (mode : Mode) (at : ℕ) → Padding mode 1 at []
none mode at = record { aligned = omega arith; fewest = omega arith; zeros = λ _. refl }

-- SEQUENCEs.

nine_never : (bs : List Bool) → IsWritten two_integers (two (int (pos 5)) (int (pos 9))) bs → ⊥
nine_never bs w =
    let b = w.second.spelled.second.second.first.spelled.second in
    let q : In ((pos 0, pos 7) ∷ []) (pos 9) = subst (λ y. In ((pos 0, pos 7) ∷ []) y) b.1 b.2.permitted in
    cc

pub fields_follow_each_other_law : rows.FieldsFollowEachOther
fields_follow_each_other_law = record { written = packet_rows.five_three; bounds = refl; never = nine_never }

-- no value stands at the front of fewer bits than the least of its tree
pub few_bits : (root : Grammar) → IsTree root → (span root).greatest ≤ MOST_PACKET_BITS → (input : List Bool) → length input < (span root).least → (d : Data) (n : ℕ) → Front root input d n → ⊥
few_bits root tree most input fewer d n f =
    let within = f.within in
    let b = bounds_hold root Any d (take n input) tree most f.spelled in
    let l = length-take-le n input f.within in
    absurd (omega (arith, l, b.0))

pub an_end_of_bits_is_short_law : rows.AnEndOfBitsIsShort
an_end_of_bits_is_short_law = record { refused = packet_rows.one_octet; never = few_bits two_integers refl (omega arith) (bits_of (5 ∷ [])) (omega arith) }

-- Determinants.

seventeen_never : (bs : List Bool) → IsWritten sized_octets (record_of (filled (octet_string (replicate 17 0)) no_places)) bs → ⊥
seventeen_never bs w = let g = w.second.spelled.second.second.first.spelled.second.first.given in cc

seventeen_refused : Refusal sized_octets (bits_of (17 ∷ replicate 17 0)) (record { path = 1 ∷ []; reason = size_out_of_range 17; at = 8 }) 8
seventeen_refused = fails_behind_padding (record {
  front = [];
  back = _;
  whole = refl;
  spelled = none Any 0;
  more = 8;
  reaches = refl;
  fails = fails_behind_presence (record {
    numbers = pos 17 ∷ [];
    count = refl;
    permitted = (refl, tt);
    behind = record {
      there = omega arith;
      more = 8;
      fails = fails_behind_inserted (record {
        front = low_bits 8 17;
        back = bits_of (replicate 17 0);
        whole = refl;
        spelled = (pos 17, refl, record { front = []; back = _; whole = refl; first = none Any 0; second = record { permitted = refl; image = pos 17; maps = refl; spelled = (refl, refl) } });
        more = 0;
        reaches = refl;
        fails = fails_at_component (
          tt,
          fails_behind_padding (record {
            front = [];
            back = _;
            whole = refl;
            spelled = none Any 8;
            more = 0;
            reaches = refl;
            fails = fails_at_size (record { number = pos 17; stands = refl; refused = λ h. cc; says = refl; reaches = refl });
          }),
        );
      });
      reaches = refl;
    };
  });
})

pub a_size_stands_in_its_field_law : rows.ASizeStandsInItsField
a_size_stands_in_its_field_law = record { written = packet_rows.length_first; refused = seventeen_refused; never = seventeen_never }

uneven_never : (bs : List Bool) → IsWritten one_size uneven bs → ⊥
uneven_never bs w =
    let f = w.second.spelled.second.second in
    let one = f.first.spelled.second.first.spelled.0 in
    let other = f.second.first.spelled.second.first.spelled.0 in
    let e = sym one ∙ other in
    cc

pub sizes_in_one_field_agree_law : rows.SizesInOneFieldAgree
sizes_in_one_field_agree_law = record { refused = ask_rows.uneven_refused; never = uneven_never }

nine_bits : (bs : List Bool) → IsWritten flagged (record_of (empty no_places)) bs → (length bs ≡ 9 → ⊥) → ⊥
nine_bits bs w h = h (length_law flagged Written flagged ((refl, λ x k. refl), ((refl, λ x k. refl), (tt, tt))) [] (record_of (empty no_places)) 0 bs w)

one_octet_there : IsWritten flagged (record_of (filled (octet_string (161 ∷ [])) no_places)) (true ∷ low_bits 8 1 ++ bits_of (161 ∷ []))
one_octet_there = record {
  front = [];
  back = _;
  whole = refl;
  first = none Written 0;
  second = record {
    numbers = pos 1 ∷ pos 1 ∷ [];
    fine = record {
      count = refl;
      permitted = (refl, (refl, tt));
      least = λ _. (
        record { answers = record { permitted = refl; meets = (refl, tt) }; first = λ y a. omega (arith, ints, a.meets.0) },
        (record { answers = record { permitted = refl; meets = (refl, tt) }; first = λ y a. omega (arith, ints, a.meets.0) }, tt),
      );
    };
    spelled = record {
      front = [];
      back = _;
      whole = refl;
      first = refl;
      second = record {
        front = true ∷ [];
        back = _;
        whole = refl;
        first = (pos 1, refl, record { front = []; back = _; whole = refl; first = none Written 0; second = record { permitted = refl; image = pos 1; maps = refl; spelled = (1, refl, record { width = refl; value = refl }) } });
        second = record {
          front = low_bits 8 1;
          back = _;
          whole = refl;
          first = (pos 1, refl, record { front = []; back = _; whole = refl; first = none Written 1; second = record { permitted = refl; image = pos 1; maps = refl; spelled = (refl, refl) } });
          second = record {
            front = bits_of (161 ∷ []);
            back = [];
            whole = refl;
            first = record {
              given = ((refl, tt), tt);
              spelled = record { front = []; back = _; whole = refl; first = none Written 9; second = record { front = []; back = _; whole = refl; first = record { given = refl; spelled = (refl, refl) }; second = record { given = refl; spelled = refl } } };
            };
            second = refl;
          };
        };
      };
    };
  };
}

pub what_nothing_asks_about_is_least_law : rows.WhatNothingAsksAboutIsLeast
what_nothing_asks_about_is_least_law = record { absent = flag_rows.absent_written; present = one_octet_there; read = flag_rows.absent_read; never = nine_bits }

neither_never : (bs : List Bool) → IsWritten one_of_two (record_of (empty (empty no_places))) bs → ⊥
neither_never bs w =
    let s = w.second.spelled.second in
    ask_rows.none_left s.first.0 s.first.2.second.permitted (λ e. s.second.given (s.first.1 ∙ ap Some e, tt)) (λ e. s.second.spelled.given (s.first.1 ∙ ap Some e, tt))

pub conditions_that_are_missed_are_avoided_law : rows.ConditionsThatAreMissedAreAvoided
conditions_that_are_missed_are_avoided_law = record { refused = ask_rows.neither; never = neither_never }

-- Numbers.

pub each_digit_is_below_ten_law : rows.EachDigitIsBelowTen
each_digit_is_below_ten_law = record { written = leaf_rows.bcd_written; refused = leaf_rows.bcd_bad; never = refl }

pub a_count_is_the_least_law : rows.ACountIsTheLeast
a_count_is_the_least_law = record { written = leaf_rows.counted_written; refused = leaf_rows.counted_long; never = λ octet s. let h = leaf_rows.two_octets_at_least 1 octet (omega arith) s in absurd (omega arith) }

pub a_pattern_has_a_complement_law : rows.APatternHasAComplement
a_pattern_has_a_complement_law = record { written = leaf_rows.half_written; read = record { within = omega arith; spelled = leaf_rows.half_read }; refused = leaf_rows.neither; never = refl }

pub zero_has_no_minus_law : rows.ZeroHasNoMinus
zero_has_no_minus_law = record { written = leaf_rows.minus_seven; refused = leaf_rows.minus_zero; never = refl }

pub digits_with_an_end_are_least_law : rows.DigitsWithAnEndAreLeast
digits_with_an_end_are_least_law = record { written = leaf_rows.ended_written; refused = leaf_rows.leading_zero; bounds = refl; never = λ h. absurd (omega (arith, h)) }

-- Texts and lists.

zero_never : (bs : List Bool) → IsWritten ended_text (characters (97 ∷ 0 ∷ [])) bs → ⊥
zero_never bs w = let h = w.second.given.1 1 refl in absurd (omega arith)

pub a_terminator_ends_the_text_law : rows.ATerminatorEndsTheText
a_terminator_ends_the_text_law = record { written = text_rows.ab_written; refused = text_rows.no_end; unfit = refl; never = zero_never }

pub characters_stand_by_their_places_law : rows.CharactersStandByTheirPlaces
characters_stand_by_their_places_law = record { written = text_rows.ca_written; refused = text_rows.bad_pair; unfit = refl; never = refl }

six_never : (bs : List Bool) → IsWritten up_to_five (list_of (zeros 6)) bs → ⊥
six_never bs w = let g = w.second.first.given in cc

pub a_size_stands_in_front_law : rows.ASizeStandsInFront
a_size_stands_in_front_law = record { written = text_rows.two_written; refused = text_rows.six; bounds = refl; never = six_never }

-- Padding and presence bits.

padded : (mode : Mode) (fill : List Bool) → (mode ≡ Written → fill ≡ replicate 13 false) → length fill ≡ 13 → Padding mode 16 3 fill
padded mode fill z l = record { aligned = rw l refl; fewest = omega arith; zeros = λ e. z e ∙ ap (λ n. replicate n false) (sym l) }

five_and_one : (mode : Mode) (fill : List Bool) → Padding mode 16 3 fill → Spell aligned mode aligned [] (two (int (pos 5)) (int (pos 1))) 0 (low_bits 3 5 ++ (fill ++ low_bits 8 1))
five_and_one mode fill pad = record {
  front = [];
  back = _;
  whole = refl;
  first = none mode 0;
  second = record {
    numbers = [];
    fine = record { count = refl; permitted = tt; least = λ _. tt };
    spelled = record {
      front = [];
      back = _;
      whole = refl;
      first = refl;
      second = record {
        front = low_bits 3 5;
        back = fill ++ low_bits 8 1;
        whole = refl;
        first = record {
          given = (tt, tt);
          spelled = record {
            front = [];
            back = _;
            whole = refl;
            first = none mode 0;
            second = (pos 5, refl, record { permitted = refl; image = pos 5; maps = refl; spelled = (5, refl, record { width = refl; value = refl }) });
          };
        };
        second = record {
          front = fill ++ low_bits 8 1;
          back = [];
          whole = sym (append-nil (fill ++ low_bits 8 1));
          first = record {
            given = (tt, tt);
            spelled = record {
              front = fill;
              back = low_bits 8 1;
              whole = refl;
              first = pad;
              second = (pos 1, refl, record { permitted = refl; image = pos 1; maps = refl; spelled = (1, refl, record { width = refl; value = refl }) });
            };
          };
          second = refl;
        };
      };
    };
  };
}

unpadded_never : (bs : List Bool) → Spell aligned Any aligned [] (two (int (pos 5)) (int (pos 1))) 0 bs → (length bs ≡ 24 → ⊥) → ⊥
unpadded_never bs w h = h (length_law aligned Any aligned (refl, (refl, tt)) [] (two (int (pos 5)) (int (pos 1))) 0 bs w)

pub padding_is_read_in_any_way_law : rows.PaddingIsReadInAnyWay
padding_is_read_in_any_way_law = record {
  written = five_and_one Written (replicate 13 false) (padded Written (replicate 13 false) (λ _. refl) refl);
  read = record { within = omega arith; spelled = five_and_one Any (replicate 13 true) (padded Any (replicate 13 true) (λ e. cc) refl) };
  bounds = refl;
  never = unpadded_never;
}

truth_alone : IsWritten optional (record_of (empty (filled (boolean true) no_places))) (false ∷ true ∷ [])
truth_alone = record {
  front = [];
  back = _;
  whole = refl;
  first = none Written 0;
  second = record {
    numbers = [];
    fine = record { count = refl; permitted = tt; least = λ _. tt };
    spelled = record {
      front = false ∷ [];
      back = true ∷ [];
      whole = refl;
      first = refl;
      second = record {
        given = tt;
        spelled = record {
          front = true ∷ [];
          back = [];
          whole = refl;
          first = record {
            given = (tt, tt);
            spelled = record {
              front = [];
              back = _;
              whole = refl;
              first = none Written 1;
              second = (pos 1, refl, record { permitted = refl; image = pos 1; maps = refl; spelled = (1, refl, record { width = refl; value = refl }) });
            };
          };
          second = refl;
        };
      };
    };
  };
}

both_there : IsWritten optional (two (int (pos 5)) (boolean false)) (true ∷ low_bits 3 5 ++ false ∷ [])
both_there = record {
  front = [];
  back = _;
  whole = refl;
  first = none Written 0;
  second = record {
    numbers = [];
    fine = record { count = refl; permitted = tt; least = λ _. tt };
    spelled = record {
      front = true ∷ [];
      back = low_bits 3 5 ++ false ∷ [];
      whole = refl;
      first = refl;
      second = record {
        front = low_bits 3 5;
        back = false ∷ [];
        whole = refl;
        first = record {
          given = (tt, tt);
          spelled = record {
            front = [];
            back = _;
            whole = refl;
            first = none Written 1;
            second = (pos 5, refl, record { permitted = refl; image = pos 5; maps = refl; spelled = (5, refl, record { width = refl; value = refl }) });
          };
        };
        second = record {
          front = false ∷ [];
          back = [];
          whole = refl;
          first = record {
            given = (tt, tt);
            spelled = record {
              front = [];
              back = _;
              whole = refl;
              first = none Written 4;
              second = (pos 0, refl, record { permitted = refl; image = pos 0; maps = refl; spelled = (0, refl, record { width = refl; value = refl }) });
            };
          };
          second = refl;
        };
      };
    };
  };
}

pub presence_bits_stand_in_front_law : rows.PresenceBitsStandInFront
presence_bits_stand_in_front_law = record { absent = truth_alone; present = both_there; bounds = refl; never = refl }

-- Telemetry.

module _ (root : Grammar) (mode : Mode) (env : Env) where
  pub fixed_part : (pattern : List Bool) (at : ℕ) → Spell root mode (node 1 (num (record { kind = Null; set = (pos 0, pos 0) ∷ []; coding = Fixed pattern; little = false; table = None; items = record { items = []; values = false } }))) env null at pattern
  fixed_part pattern at = record { front = []; back = _; whole = refl; first = none mode at; second = (pos 0, refl, record { permitted = refl; image = pos 0; maps = refl; spelled = (refl, refl) }) }

abbrev pub LengthCode : ℕ → Type 0
LengthCode k = Code Any (record { kind = Integer; set = (pos 1, pos 65536) ∷ []; coding = PosInt 16; little = false; table = Some (record { name = 109 ∷ []; lines = (pos 1, pos 65536, pos 0) ∷ [] }); items = record { items = []; values = false } }) (pos (suc k)) (low_bits 16 k)

-- what fails in the body fails in the packet, behind a header that says k and one more octets
pub in_packet : (k : ℕ) → LengthCode k → (behind : List Bool) (fault : Fault) (more : ℕ) → Fails telemetry body ((0, pos (suc k)) ∷ []) false 0 (7 ∷ []) 48 behind fault more
    → Refusal telemetry (bits_of (0 ∷ 100 ∷ 192 ∷ 7 ∷ []) ++ (low_bits 16 k ++ behind)) fault (48 + more)
in_packet k code behind fault more f = fails_behind_padding (record {
  front = [];
  back = _;
  whole = refl;
  spelled = none Any 0;
  more = 48 + more;
  reaches = omega arith;
  fails = fails_behind_presence (record {
    numbers = pos (suc k) ∷ [];
    count = refl;
    permitted = (code.permitted, tt);
    behind = record {
      there = omega arith;
      more = 48 + more;
      fails = fails_behind_inserted (record {
        front = false ∷ false ∷ false ∷ [];
        back = _;
        whole = refl;
        spelled = fixed_part telemetry Any ((0, pos (suc k)) ∷ []) (false ∷ false ∷ false ∷ []) 0;
        more = 45 + more;
        reaches = omega arith;
        fails = fails_behind_inserted (record {
          front = false ∷ [];
          back = _;
          whole = refl;
          spelled = fixed_part telemetry Any ((0, pos (suc k)) ∷ []) (false ∷ []) 3;
          more = 44 + more;
          reaches = omega arith;
          fails = fails_behind_inserted (record {
            front = false ∷ [];
            back = _;
            whole = refl;
            spelled = fixed_part telemetry Any ((0, pos (suc k)) ∷ []) (false ∷ []) 4;
            more = 43 + more;
            reaches = omega arith;
            fails = fails_behind_component (
              tt,
              (
                int (pos 100),
                record {
                  front = low_bits 11 100;
                  back = _;
                  whole = refl;
                  spelled = record {
                    given = tt;
                    spelled = record {
                      front = [];
                      back = _;
                      whole = refl;
                      first = none Any 5;
                      second = (pos 100, refl, record { permitted = refl; image = pos 100; maps = refl; spelled = (refl, refl) });
                    };
                  };
                  more = 32 + more;
                  reaches = omega arith;
                  fails = fails_behind_inserted (record {
                    front = true ∷ true ∷ [];
                    back = _;
                    whole = refl;
                    spelled = fixed_part telemetry Any ((0, pos (suc k)) ∷ []) (true ∷ true ∷ []) 16;
                    more = 30 + more;
                    reaches = omega arith;
                    fails = fails_behind_component (
                      tt,
                      (
                        int (pos 7),
                        record {
                          front = low_bits 14 7;
                          back = _;
                          whole = refl;
                          spelled = record {
                            given = tt;
                            spelled = record {
                              front = [];
                              back = _;
                              whole = refl;
                              first = none Any 18;
                              second = (pos 7, refl, record { permitted = refl; image = pos 7; maps = refl; spelled = (refl, refl) });
                            };
                          };
                          more = 16 + more;
                          reaches = omega arith;
                          fails = fails_behind_inserted (record {
                            front = low_bits 16 k;
                            back = behind;
                            whole = refl;
                            spelled = (pos (suc k), refl, record { front = []; back = _; whole = refl; first = none Any 32; second = code });
                            more = more;
                            reaches = omega arith;
                            fails = fails_at_component (tt, f);
                          });
                        },
                      ),
                    );
                  });
                },
              ),
            );
          });
        });
      });
      reaches = omega arith;
    };
  });
})

-- the contents never stand in another number of bits than three octets
pub three_octets : (env : Env) (bs : List Bool) (n : ℕ) → (n ≡ 24 → ⊥) → Spell telemetry Any body env (record_of (filled (int (pos 1000)) (filled (item 2) (filled (int (pos 1)) no_places)))) 48 bs → length bs ≡ n → ⊥
three_octets env bs n other w h = other (sym h ∙ length_law telemetry Any body (refl, (refl, (refl, tt))) env (record_of (filled (int (pos 1000)) (filled (item 2) (filled (int (pos 1)) no_places)))) 48 bs w)

four_octets : LengthCode 3
four_octets = record { permitted = refl; image = pos 3; maps = refl; spelled = (refl, refl) }

pub contents_fill_their_octets_law : rows.ContentsFillTheirOctets
contents_fill_their_octets_law = record {
  refused = in_packet 3 four_octets (bits_of (62 ∷ 137 ∷ 72 ∷ 0 ∷ [])) (record { path = 7 ∷ []; reason = content_size 4 21; at = 48 }) 32 telemetry_rows.overlong;
  cut = in_packet 3 four_octets (bits_of (62 ∷ 137 ∷ 72 ∷ [])) (record { path = 7 ∷ []; reason = short; at = 48 }) 24 telemetry_rows.cut_short;
  never = λ env bs. three_octets env bs 32 (λ e. absurd (omega (arith, e)));
}
