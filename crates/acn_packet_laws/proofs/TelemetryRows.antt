-- A packet of telemetry: its tree, its bounds, and contents that don't fit their window.
use Rattle.std.proofs.Common.{◌≡◌, ℕ, pos, Bool, true, false, List, [], ◌∷◌, ◌++◌, take, drop, Some, None, refl, arith, inr}
use Rattle.std.specs.Prelude.{neg_ℤ}
use Rattle.acn_num.specs.Bits.{low_bits, bits as bits_of}
use Rattle.acn_grammar.specs.Grammar.{Grammar, Data, node, num, seq, contained, inserted, no_fields, int, item, record_of, no_places, filled}
use Rattle.acn_grammar.specs.Code.{Any}
use Rattle.acn_grammar.specs.Env.{Env, MayBeThere}
use Rattle.acn_grammar.specs.Spell.{Part, Where, Carries, Spell, Padding}
use Rattle.acn_grammar.specs.Fails.{Fails, Refusal, content_fails, content_overlong, fails_at_component, fails_at_inserted, fails_behind_component, fails_behind_padding, fails_behind_presence, fails_behind_size, window_cut}
use Rattle.acn_grammar.specs.Interval.{span}
use Rattle.acn_grammar.specs.LeafFails.{bad_pattern, content_size, past_content, short, wrong, code_cut, code_not_permitted}
use Rattle.acn_grammar.specs.Tree.{is_tree}
use Rattle.acn_grammar.specs.declared.node.NumKind.TheVariants.{Integer, Enumerated}
use Rattle.acn_grammar.specs.declared.node.NumCoding.TheVariants.{Range, PosInt, Fixed}
use Rattle.acn_grammar.specs.declared.node.Presence.TheVariants.{Always}
use Rattle.acn_grammar.specs.declared.node.SizeRule.TheVariants.{Slot}
use Rattle.acn_packet_laws.proofs.Trees.{integer, null_as, one}

-- length is written as one less
abbrev pub length_node : Grammar
length_node = node 1 (num (record { kind = Integer; set = (pos 1, pos 65536) ∷ []; coding = PosInt 16; little = false; table = Some (record { name = 109 ∷ []; lines = (pos 1, pos 65536, pos 0) ∷ [] }); items = record { items = []; values = false } }))

abbrev pub mode_node : Grammar
mode_node = node 1 (num (record { kind = Enumerated; set = (pos 0, pos 2) ∷ []; coding = Range (pos 0) 2; little = false; table = None; items = record { items = (111 ∷ [], pos 0) ∷ (115 ∷ [], pos 1) ∷ (110 ∷ [], pos 2) ∷ []; values = false } }))

abbrev pub housekeeping : Grammar
housekeeping = node 1 (seq (one 116 (integer (pos 0) (pos 4095) (Range (pos 0) 12)) Always (one 109 mode_node Always (one 117 (integer (neg_ℤ (pos 40)) (pos 87) (Range (neg_ℤ (pos 40)) 7)) Always no_fields))) [])

abbrev pub body : Grammar
body = node 1 (contained (record { sizes = (pos 0, pos 65536) ∷ []; rule = Slot 0 }) housekeeping)

abbrev pub packet : Grammar
packet =
    node 1 (seq
    (inserted (118 ∷ []) (null_as (Fixed (false ∷ false ∷ false ∷ []))) None
    (inserted (121 ∷ []) (null_as (Fixed (false ∷ []))) None
    (inserted (115 ∷ []) (null_as (Fixed (false ∷ []))) None
    (one 97 (integer (pos 0) (pos 2047) (PosInt 11)) Always
    (inserted (102 ∷ []) (null_as (Fixed (true ∷ true ∷ []))) None
    (one 99 (integer (pos 0) (pos 16383) (PosInt 14)) Always
    (inserted (108 ∷ []) length_node (Some 0)
    (one 98 body Always no_fields))))))))
    (0 ∷ []))

packet_is : is_tree packet ≡ true
packet_is = refl

packet_bounds : span packet ≡ record { least = 72; greatest = 72 }
packet_bounds = refl

-- a component that is always there
abbrev where_component : Grammar → Grammar → Env → Data → Part
where_component root g env d = Where (MayBeThere env Always × Carries env None d) (Spell root Any g env d)

-- the octets from bit 48 on, where length says 4: the contents are 21 bits of them
abbrev late : List Bool
late = bits_of (62 ∷ 137 ∷ 72 ∷ 0 ∷ [])

no_padding : (at : ℕ) → Padding Any 1 at []
no_padding at = record { aligned = omega arith; fewest = omega arith; zeros = λ _. refl }

abbrev telemetry : Data
telemetry = record_of (filled (int (pos 1000)) (filled (item 2) (filled (int (pos 1)) no_places)))

-- the first two fields at their places
time_part : (env : Env) → (where_component packet (integer (pos 0) (pos 4095) (Range (pos 0) 12)) env (int (pos 1000))) 0 (low_bits 12 1000)
time_part env = record { given = (tt, tt); spelled = record { front = []; back = _; whole = refl; first = no_padding 0; second = (pos 1000, refl, record { permitted = refl; image = pos 1000; maps = refl; spelled = (1000, refl, record { width = refl; value = refl }) }) } }

mode_part : (env : Env) → (where_component packet mode_node env (item 2)) 12 (low_bits 2 2)
mode_part env = record { given = (tt, tt); spelled = record { front = []; back = _; whole = refl; first = no_padding 12; second = (pos 2, refl, record { permitted = refl; image = pos 2; maps = refl; spelled = (2, refl, record { width = refl; value = refl }) }) } }

pub overlong : Fails packet body ((0, pos 4) ∷ []) false 0 (7 ∷ []) 48 late (record { path = 7 ∷ []; reason = content_size 4 21; at = 48 }) 32
overlong = fails_behind_padding (record {
  front = [];
  back = late;
  whole = refl;
  spelled = no_padding 48;
  more = 32;
  reaches = refl;
  fails = fails_behind_size (record {
    n = 4;
    behind = record {
      front = [];
      back = late;
      whole = refl;
      spelled = record { given = refl; spelled = (refl, refl) };
      more = 32;
      reaches = refl;
      fails = content_overlong (
        omega arith,
        (
          telemetry,
          record {
            used = take 21 late;
            left = drop 21 late;
            whole = refl;
            spelled = record {
              front = [];
              back = _;
              whole = refl;
              first = no_padding 0;
              second = record {
                numbers = [];
                fine = record { count = refl; permitted = tt; least = λ _. tt };
                spelled = record {
                  front = [];
                  back = _;
                  whole = refl;
                  first = refl;
                  second = record {
                    front = low_bits 12 1000;
                    back = low_bits 2 2 ++ low_bits 7 41;
                    whole = refl;
                    first = time_part ((0, pos 4) ∷ []);
                    second = record {
                      front = low_bits 2 2;
                      back = low_bits 7 41;
                      whole = refl;
                      first = mode_part ((0, pos 4) ∷ []);
                      second = record {
                        front = low_bits 7 41;
                        back = [];
                        whole = refl;
                        first = record {
                          given = (tt, tt);
                          spelled = record {
                            front = [];
                            back = _;
                            whole = refl;
                            first = no_padding 14;
                            second = (pos 1, refl, record { permitted = refl; image = pos 1; maps = refl; spelled = (41, refl, record { width = refl; value = refl }) });
                          };
                        };
                        second = refl;
                      };
                    };
                  };
                };
              };
            };
            byte = omega arith;
            says = refl;
          },
        ),
        refl,
      );
    };
  });
})

-- with an octet less behind bit 48 the window isn't whole
abbrev cut : List Bool
cut = bits_of (62 ∷ 137 ∷ 72 ∷ [])

pub cut_short : Fails packet body ((0, pos 4) ∷ []) false 0 (7 ∷ []) 48 cut (record { path = 7 ∷ []; reason = short; at = 48 }) 24
cut_short = fails_behind_padding (record {
  front = [];
  back = cut;
  whole = refl;
  spelled = no_padding 48;
  more = 24;
  reaches = refl;
  fails = fails_behind_size (record {
    n = 4;
    behind = record { front = []; back = cut; whole = refl; spelled = record { given = refl; spelled = (refl, refl) }; more = 24; reaches = refl; fails = window_cut (omega arith, refl, refl) };
  });
})

-- inside a window of two octets temp begins at its bit 14
past_inside : Fails packet housekeeping ((0, pos 2) ∷ []) true 48 (7 ∷ 0 ∷ []) 0 (bits_of (62 ∷ 137 ∷ [])) (record { path = 7 ∷ 0 ∷ 2 ∷ []; reason = past_content; at = 62 }) 16
past_inside = fails_behind_padding (record {
  front = [];
  back = _;
  whole = refl;
  spelled = no_padding 0;
  more = 16;
  reaches = refl;
  fails = fails_behind_presence (record {
    numbers = [];
    count = refl;
    permitted = tt;
    behind = record {
      there = omega arith;
      more = 16;
      fails = fails_behind_component (
        tt,
        (
          int (pos 1000),
          record {
            front = low_bits 12 1000;
            back = low_bits 2 2 ++ low_bits 2 1;
            whole = refl;
            spelled = record { given = tt; spelled = (time_part []).spelled };
            more = 4;
            reaches = refl;
            fails = fails_behind_component (
              tt,
              (
                item 2,
                record {
                  front = low_bits 2 2;
                  back = low_bits 2 1;
                  whole = refl;
                  spelled = record { given = tt; spelled = (mode_part []).spelled };
                  more = 2;
                  reaches = refl;
                  fails = fails_at_component (
                    tt,
                    fails_behind_padding (record {
                      front = [];
                      back = _;
                      whole = refl;
                      spelled = no_padding 14;
                      more = 2;
                      reaches = refl;
                      fails = record { reason = short; fails = code_cut (omega arith, refl, refl); says = refl };
                    }),
                  );
                },
              ),
            );
          },
        ),
      );
      reaches = refl;
    };
  });
})

-- length says 2: the window ends inside temp, which begins at bit 62
abbrev narrow : List Bool
narrow = bits_of (62 ∷ 137 ∷ [])

pub past : Fails packet body ((0, pos 2) ∷ []) false 0 (7 ∷ []) 48 narrow (record { path = 7 ∷ 0 ∷ 2 ∷ []; reason = past_content; at = 62 }) 16
past = fails_behind_padding (record {
  front = [];
  back = narrow;
  whole = refl;
  spelled = no_padding 48;
  more = 16;
  reaches = refl;
  fails = fails_behind_size (record {
    n = 2;
    behind = record {
      front = [];
      back = narrow;
      whole = refl;
      spelled = record { given = refl; spelled = (refl, refl) };
      more = 16;
      reaches = refl;
      fails = content_fails (omega arith, (16, past_inside), refl);
    };
  });
})

-- the first octet is 20: version isn't 000
pub bad_version : (rest : List Bool) → Refusal packet (bits_of (32 ∷ []) ++ rest) (record { path = 0 ∷ []; reason = bad_pattern; at = 0 }) 3
bad_version rest = fails_behind_padding (record {
  front = [];
  back = _;
  whole = refl;
  spelled = no_padding 0;
  more = 3;
  reaches = refl;
  fails = fails_behind_presence (record {
    numbers = pos 1 ∷ [];
    count = refl;
    permitted = (refl, tt);
    behind = record {
      there = omega arith;
      more = 3;
      fails = fails_at_inserted (fails_behind_padding (record {
        front = [];
        back = _;
        whole = refl;
        spelled = no_padding 0;
        more = 3;
        reaches = refl;
        fails = record { reason = bad_pattern; fails = code_not_permitted (omega arith, (wrong bad_pattern, inr ((λ e. cc), refl), refl), refl); says = refl };
      }));
      reaches = refl;
    };
  });
})
