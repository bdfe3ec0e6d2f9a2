-- A packet of telemetry as it is written and read, and contents that end inside a field.
use Rattle.std.proofs.Common.{◌≡◌, pos, Bool, true, false, List, [], ◌∷◌, ◌++◌, take, drop, replicate, Some, None, refl, ap, arith}
use Rattle.std.proofs.lemmas.Int.{ints}
use Rattle.acn_num.specs.Bits.{number, low_bits, bits as bits_of}
use Rattle.acn_grammar.specs.Code.{Mode, Written, Any}
use Rattle.acn_grammar.specs.Env.{Env, at_slot}
use Rattle.acn_grammar.specs.Fails.{Fails, Refusal, content_fails, fails_at_component, fails_behind_component, fails_behind_padding, fails_behind_presence, fails_behind_size}
use Rattle.acn_grammar.specs.Grammar.{int, boolean}
use Rattle.acn_grammar.specs.LeafFails.{short, past_content, code_cut}
use Rattle.acn_grammar.specs.Spell.{Spell, Padding, Fill}
use Rattle.acn_grammar.specs.declared.node.NumCoding.TheVariants.{Range}
use Rattle.acn_packet_laws.specs.ContentRows.{warm, seventh, inner, windowed, aligned_inside, AHeaderAndItsContents, ContentsEndInsideAField, ContentsBeginAtZero}
use Rattle.acn_packet_laws.specs.WorkedRows.{integer, truth, two, body, housekeeping, telemetry}
use Rattle.acn_packet_laws.proofs.OneWriting.{writing_of_a_tree}
use Rattle.acn_packet_laws.proofs.TelemetryRows.{past, bad_version}
use Rattle.acn_packet_laws.proofs.WorkedRows.{none, fixed_part, LengthCode, in_packet, three_octets}

module _ (mode : Mode) (env : Env) where
  contents : Spell telemetry mode housekeeping env warm 0 (low_bits 12 1000 ++ (low_bits 2 2 ++ low_bits 7 41))
  contents = record {
    front = [];
    back = _;
    whole = refl;
    first = none mode 0;
    second = record {
      numbers = [];
      fine = record { count = refl; permitted = tt; least = λ _. tt };
      spelled = record {
        front = [];
        back = _;
        whole = refl;
        first = refl;
        second = record {
          front = low_bits 12 1000;
          back = low_bits 2 2 ++ low_bits 7 41;
          whole = refl;
          first = record {
            given = (tt, tt);
            spelled = record { front = []; back = _; whole = refl; first = none mode 0; second = (pos 1000, refl, record { permitted = refl; image = pos 1000; maps = refl; spelled = (1000, refl, record { width = refl; value = refl }) }) };
          };
          second = record {
            front = low_bits 2 2;
            back = low_bits 7 41;
            whole = refl;
            first = record {
              given = (tt, tt);
              spelled = record { front = []; back = _; whole = refl; first = none mode 12; second = (pos 2, refl, record { permitted = refl; image = pos 2; maps = refl; spelled = (2, refl, record { width = refl; value = refl }) }) };
            };
            second = record {
              front = low_bits 7 41;
              back = [];
              whole = refl;
              first = record {
                given = (tt, tt);
                spelled = record { front = []; back = _; whole = refl; first = none mode 14; second = (pos 1, refl, record { permitted = refl; image = pos 1; maps = refl; spelled = (41, refl, record { width = refl; value = refl }) }) };
              };
              second = refl;
            };
          };
        };
      };
    };
  }

  in_body : (a b c : Bool) → at_slot env 0 ≡ Some (pos 3) → Fill mode 21 (a ∷ b ∷ c ∷ []) → Spell telemetry mode body env warm 48 ((low_bits 12 1000 ++ (low_bits 2 2 ++ low_bits 7 41)) ++ a ∷ b ∷ c ∷ [])
  in_body a b c three fill = record {
    front = [];
    back = _;
    whole = refl;
    first = none mode 48;
    second = record {
      some = 3;
      spelled = record {
        front = [];
        back = _;
        whole = refl;
        first = record { given = refl; spelled = (three, refl) };
        second = record { size = refl; inside = record { front = low_bits 12 1000 ++ (low_bits 2 2 ++ low_bits 7 41); back = a ∷ b ∷ c ∷ []; whole = refl; first = contents; second = fill } };
      };
    };
  }

in_three_octets : (mode : Mode) (a b c : Bool) → Fill mode 21 (a ∷ b ∷ c ∷ [])
    → Spell telemetry mode telemetry [] seventh 0 (bits_of (0 ∷ 100 ∷ 192 ∷ 7 ∷ 0 ∷ 2 ∷ []) ++ ((low_bits 12 1000 ++ (low_bits 2 2 ++ low_bits 7 41)) ++ a ∷ b ∷ c ∷ []))
in_three_octets mode a b c fill = record {
  front = [];
  back = _;
  whole = refl;
  first = none mode 0;
  second = record {
    numbers = pos 3 ∷ [];
    fine = record {
      count = refl;
      permitted = (refl, tt);
      least = λ _. (record { answers = record { permitted = refl; meets = (refl, tt) }; first = λ y e. omega (arith, ints, e.meets.0) }, tt);
    };
    spelled = record {
      front = [];
      back = _;
      whole = refl;
      first = refl;
      second = record {
        front = false ∷ false ∷ false ∷ [];
        back = _;
        whole = refl;
        first = fixed_part telemetry mode ((0, pos 3) ∷ []) (false ∷ false ∷ false ∷ []) 0;
        second = record {
          front = false ∷ [];
          back = _;
          whole = refl;
          first = fixed_part telemetry mode ((0, pos 3) ∷ []) (false ∷ []) 3;
          second = record {
            front = false ∷ [];
            back = _;
            whole = refl;
            first = fixed_part telemetry mode ((0, pos 3) ∷ []) (false ∷ []) 4;
            second = record {
              front = low_bits 11 100;
              back = _;
              whole = refl;
              first = record {
                given = (tt, tt);
                spelled = record { front = []; back = _; whole = refl; first = none mode 5; second = (pos 100, refl, record { permitted = refl; image = pos 100; maps = refl; spelled = (refl, refl) }) };
              };
              second = record {
                front = true ∷ true ∷ [];
                back = _;
                whole = refl;
                first = fixed_part telemetry mode ((0, pos 3) ∷ []) (true ∷ true ∷ []) 16;
                second = record {
                  front = low_bits 14 7;
                  back = _;
                  whole = refl;
                  first = record {
                    given = (tt, tt);
                    spelled = record { front = []; back = _; whole = refl; first = none mode 18; second = (pos 7, refl, record { permitted = refl; image = pos 7; maps = refl; spelled = (refl, refl) }) };
                  };
                  second = record {
                    front = low_bits 16 2;
                    back = _;
                    whole = refl;
                    first = (pos 3, refl, record { front = []; back = _; whole = refl; first = none mode 32; second = record { permitted = refl; image = pos 2; maps = refl; spelled = (refl, refl) } });
                    second = record {
                      front = (low_bits 12 1000 ++ (low_bits 2 2 ++ low_bits 7 41)) ++ a ∷ b ∷ c ∷ [];
                      back = [];
                      whole = refl;
                      first = record { given = (tt, tt); spelled = in_body mode ((0, pos 3) ∷ []) a b c refl fill };
                      second = refl;
                    };
                  };
                };
              };
            };
          };
        };
      };
    };
  };
}

zeros : Fill Written 21 (false ∷ false ∷ false ∷ [])
zeros = record { aligned = refl; few = omega arith; zeros = λ _. refl }

any : Fill Any 21 (true ∷ true ∷ true ∷ [])
any = record { aligned = refl; few = omega arith; zeros = λ e. cc }

last_octet : bits_of (0 ∷ 100 ∷ 192 ∷ 7 ∷ 0 ∷ 2 ∷ 62 ∷ 137 ∷ 72 ∷ []) ≡ bits_of (0 ∷ 100 ∷ 192 ∷ 7 ∷ 0 ∷ 2 ∷ 62 ∷ 137 ∷ 79 ∷ []) → ⊥
last_octet e = absurd (let q : 72 ≡ 79 = ap (λ (z : List Bool). number (drop 64 z)) e in omega (arith, q))

pub a_header_and_its_contents_law : AHeaderAndItsContents
a_header_and_its_contents_law = record {
  tree = refl;
  bounds = refl;
  written = in_three_octets Written false false false zeros;
  read = record { within = omega arith; spelled = in_three_octets Any true true true any };
  never = λ w. last_octet (writing_of_a_tree telemetry refl seventh _ _ (in_three_octets Written false false false zeros) w);
}

two_octets : LengthCode 1
two_octets = record { permitted = refl; image = pos 1; maps = refl; spelled = (refl, refl) }

pub contents_end_inside_a_field_law : ContentsEndInsideAField
contents_end_inside_a_field_law = record {
  refused = in_packet 1 two_octets (bits_of (62 ∷ 137 ∷ [])) (record { path = 7 ∷ 0 ∷ 2 ∷ []; reason = past_content; at = 62 }) 16 past;
  version = bad_version;
  never = λ env bs. three_octets env bs 16 (λ e. absurd (omega (arith, e)));
}

-- Alignment inside contents.

x_part : (mode : Mode) → Spell windowed mode (integer (pos 0) (pos 7) (Range (pos 0) 3)) [] (int (pos 5)) 0 (low_bits 3 5)
x_part mode = record { front = []; back = _; whole = refl; first = none mode 0; second = (pos 5, refl, record { permitted = refl; image = pos 5; maps = refl; spelled = (5, refl, record { width = refl; value = refl }) }) }

inner_part : (mode : Mode) (b : Bool) → Padding mode 8 3 (replicate 5 b) → Spell windowed mode inner [] (two (int (pos 5)) (int (pos 1))) 0 (low_bits 3 5 ++ (replicate 5 b ++ low_bits 8 1))
inner_part mode b pad = record {
  front = [];
  back = _;
  whole = refl;
  first = none mode 0;
  second = record {
    numbers = [];
    fine = record { count = refl; permitted = tt; least = λ _. tt };
    spelled = record {
      front = [];
      back = _;
      whole = refl;
      first = refl;
      second = record {
        front = low_bits 3 5;
        back = replicate 5 b ++ low_bits 8 1;
        whole = refl;
        first = record { given = (tt, tt); spelled = x_part mode };
        second = record {
          front = replicate 5 b ++ low_bits 8 1;
          back = [];
          whole = refl;
          first = record {
            given = (tt, tt);
            spelled = record {
              front = replicate 5 b;
              back = low_bits 8 1;
              whole = refl;
              first = pad;
              second = (pos 1, refl, record { permitted = refl; image = pos 1; maps = refl; spelled = (1, refl, record { width = refl; value = refl }) });
            };
          };
          second = refl;
        };
      };
    };
  };
}

a_part : (mode : Mode) → Spell windowed mode (truth None None) [] (boolean true) 0 (true ∷ [])
a_part mode = record { front = []; back = _; whole = refl; first = none mode 0; second = (pos 1, refl, record { permitted = refl; image = pos 1; maps = refl; spelled = (1, refl, record { width = refl; value = refl }) }) }

in_window : (mode : Mode) (b : Bool) → Padding mode 8 3 (replicate 5 b) → Spell windowed mode windowed [] aligned_inside 0 (true ∷ [] ++ (low_bits 2 2 ++ (low_bits 3 5 ++ (replicate 5 b ++ low_bits 8 1))))
in_window mode b pad = record {
  front = [];
  back = _;
  whole = refl;
  first = none mode 0;
  second = record {
    numbers = [];
    fine = record { count = refl; permitted = tt; least = λ _. tt };
    spelled = record {
      front = [];
      back = _;
      whole = refl;
      first = refl;
      second = record {
        front = true ∷ [];
        back = low_bits 2 2 ++ (low_bits 3 5 ++ (replicate 5 b ++ low_bits 8 1));
        whole = refl;
        first = record { given = (tt, tt); spelled = a_part mode };
        second = record {
          front = low_bits 2 2 ++ (low_bits 3 5 ++ (replicate 5 b ++ low_bits 8 1));
          back = [];
          whole = refl;
          first = record {
            given = (tt, tt);
            spelled = record {
              front = [];
              back = _;
              whole = refl;
              first = none mode 1;
              second = record {
                some = 2;
                spelled = record {
                  front = low_bits 2 2;
                  back = low_bits 3 5 ++ (replicate 5 b ++ low_bits 8 1);
                  whole = refl;
                  first = record { given = refl; spelled = record { given = omega arith; spelled = record { width = refl; value = refl } } };
                  second = record {
                    size = refl;
                    inside = record {
                      front = low_bits 3 5 ++ (replicate 5 b ++ low_bits 8 1);
                      back = [];
                      whole = refl;
                      first = inner_part mode b pad;
                      second = record { aligned = refl; few = omega arith; zeros = λ _. refl };
                    };
                  };
                };
              };
            };
          };
          second = refl;
        };
      };
    };
  };
}

five_zeros : Padding Written 8 3 (replicate 5 false)
five_zeros = record { aligned = refl; fewest = omega arith; zeros = λ _. refl }

five_ones : Padding Any 8 3 (replicate 5 true)
five_ones = record { aligned = refl; fewest = omega arith; zeros = λ e. cc }

behind_x : Fails windowed inner [] true 3 (1 ∷ 0 ∷ []) 0 (low_bits 3 5 ++ low_bits 5 0) (record { path = 1 ∷ 0 ∷ 1 ∷ []; reason = past_content; at = 6 }) 8
behind_x = fails_behind_padding (record {
  front = [];
  back = _;
  whole = refl;
  spelled = none Any 0;
  more = 8;
  reaches = refl;
  fails = fails_behind_presence (record {
    numbers = [];
    count = refl;
    permitted = tt;
    behind = record {
      there = omega arith;
      more = 8;
      fails = fails_behind_component (
        tt,
        (
          int (pos 5),
          record {
            front = low_bits 3 5;
            back = low_bits 5 0;
            whole = refl;
            spelled = record { given = tt; spelled = x_part Any };
            more = 5;
            reaches = refl;
            fails = fails_at_component (
              tt,
              fails_behind_padding (record {
                front = low_bits 5 0;
                back = [];
                whole = refl;
                spelled = record { aligned = refl; fewest = omega arith; zeros = λ e. cc };
                more = 0;
                reaches = refl;
                fails = record { reason = short; fails = code_cut (omega arith, refl, refl); says = refl };
              }),
            );
          },
        ),
      );
      reaches = refl;
    };
  });
})

one_octet_alone : Refusal windowed (bits_of (180 ∷ 0 ∷ [])) (record { path = 1 ∷ 0 ∷ 1 ∷ []; reason = past_content; at = 6 }) 11
one_octet_alone = fails_behind_padding (record {
  front = [];
  back = _;
  whole = refl;
  spelled = none Any 0;
  more = 11;
  reaches = refl;
  fails = fails_behind_presence (record {
    numbers = [];
    count = refl;
    permitted = tt;
    behind = record {
      there = omega arith;
      more = 11;
      fails = fails_behind_component (
        tt,
        (
          boolean true,
          record {
            front = true ∷ [];
            back = low_bits 2 1 ++ ((low_bits 3 5 ++ low_bits 5 0) ++ low_bits 5 0);
            whole = refl;
            spelled = record { given = tt; spelled = a_part Any };
            more = 10;
            reaches = refl;
            fails = fails_at_component (
              tt,
              fails_behind_padding (record {
                front = [];
                back = _;
                whole = refl;
                spelled = none Any 1;
                more = 10;
                reaches = refl;
                fails = fails_behind_size (record {
                  n = 1;
                  behind = record {
                    front = low_bits 2 1;
                    back = (low_bits 3 5 ++ low_bits 5 0) ++ low_bits 5 0;
                    whole = refl;
                    spelled = record { given = refl; spelled = record { given = omega arith; spelled = record { width = refl; value = refl } } };
                    more = 8;
                    reaches = refl;
                    fails = content_fails (omega arith, (8, behind_x), refl);
                  };
                });
              }),
            );
          },
        ),
      );
      reaches = refl;
    };
  });
})

from_the_packet : take 19 (bits_of (212 ∷ 0 ∷ 32 ∷ [])) ≡ take 19 (bits_of (212 ∷ 1 ∷ 0 ∷ [])) → ⊥
from_the_packet e = absurd (let q : 1 ≡ 8 = ap (λ (z : List Bool). number (drop 11 z)) e in omega (arith, q))

pub contents_begin_at_zero_law : ContentsBeginAtZero
contents_begin_at_zero_law = record {
  tree = refl;
  written = in_window Written false five_zeros;
  read = record { within = omega arith; spelled = in_window Any true five_ones };
  refused = one_octet_alone;
  never = λ w. from_the_packet (writing_of_a_tree windowed refl aligned_inside _ _ (in_window Written false five_zeros) w);
}
