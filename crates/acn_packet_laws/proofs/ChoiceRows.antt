-- Rows of a CHOICE: by its index, by conditions and by an item.
use Rattle.std.proofs.Common.{◌≡◌, ℕ, ◌<◌, ℤ, pos, List, [], ◌∷◌, ◌++◌, Some, refl, sym, ap, subst, arith}
use Rattle.std.specs.Prelude.{slice_get}
use Rattle.std.proofs.lemmas.Int.{ints}
use Rattle.acn_num.specs.Bits.{low_bits, bits as bits_of}
use Rattle.acn_grammar.specs.Code.{Written, Any}
use Rattle.acn_grammar.specs.Env.{Env}
use Rattle.acn_grammar.specs.Fails.{Refusal, fails_at_alternative, fails_at_component, fails_behind_inserted, fails_behind_padding, fails_behind_presence, fails_at_index, index_too_great}
use Rattle.acn_grammar.specs.Front.{IsWritten}
use Rattle.acn_grammar.specs.Grammar.{Grammar, int, alt}
use Rattle.acn_grammar.specs.LeafFails.{short, no_alternative, code_cut}
use Rattle.acn_grammar.specs.Slots.{items_of}
use Rattle.acn_grammar.specs.Spell.{Spell, Chosen}
use Rattle.acn_grammar.specs.declared.node.ChoiceRule.TheVariants.{Item}
use Rattle.acn_packet_laws.specs.ChoiceRows.{two_bits, by_index, by_conditions, chosen, by_item, two_kinds, three_kinds, AnIndexChooses, ConditionsChoose, AnItemChooses}
use Rattle.acn_packet_laws.proofs.OneFault.{some_same}
use Rattle.acn_packet_laws.proofs.OneWriting.{writing_of_a_tree}
use Rattle.acn_packet_laws.proofs.WorkedRows.{none}

three : (root : Grammar) (env : Env) (at : ℕ) → Spell root Written two_bits env (int (pos 3)) at (low_bits 2 3)
three root env at = record { front = []; back = _; whole = refl; first = none Written at; second = (pos 3, refl, record { permitted = refl; image = pos 3; maps = refl; spelled = (3, refl, record { width = refl; value = refl }) }) }

two : (root : Grammar) (env : Env) (at : ℕ) → Spell root Written two_bits env (int (pos 2)) at (low_bits 2 2)
two root env at = record { front = []; back = _; whole = refl; first = none Written at; second = (pos 2, refl, record { permitted = refl; image = pos 2; maps = refl; spelled = (2, refl, record { width = refl; value = refl }) }) }

-- By index.

q_by_index : IsWritten by_index (alt 1 (int (pos 3))) (low_bits 2 1 ++ low_bits 2 3)
q_by_index = record {
  front = [];
  back = _;
  whole = refl;
  first = none Written 0;
  second = record { front = low_bits 2 1; back = low_bits 2 3; whole = refl; first = record { width = refl; value = refl }; second = record { given = tt; spelled = three by_index [] 2 } };
}

fourth_index : Refusal by_index (bits_of (192 ∷ [])) (record { path = []; reason = no_alternative; at = 0 }) 2
fourth_index = fails_behind_padding (record {
  front = [];
  back = bits_of (192 ∷ []);
  whole = refl;
  spelled = none Any 0;
  more = 2;
  reaches = refl;
  fails = fails_at_index (index_too_great (omega arith, omega arith, refl, refl));
})

pub an_index_chooses_law : AnIndexChooses
an_index_chooses_law = record {
  tree = refl;
  bounds = refl;
  written = q_by_index;
  refused = fourth_index;
  never = λ w. let e = writing_of_a_tree by_index refl (alt 1 (int (pos 3))) _ _ q_by_index w in cc;
  no_fourth = λ d bs w. w.second.second.0;
}

-- By conditions.

q_by_conditions : IsWritten by_conditions (chosen 1 3) (low_bits 8 2 ++ low_bits 2 3)
q_by_conditions = record {
  front = [];
  back = _;
  whole = refl;
  first = none Written 0;
  second = record {
    numbers = pos 2 ∷ [];
    fine = record {
      count = refl;
      permitted = (refl, tt);
      least = λ _. (record { answers = record { permitted = refl; meets = (refl, tt) }; first = λ y a. omega (arith, ints, a.meets.0) }, tt);
    };
    spelled = record {
      front = [];
      back = _;
      whole = refl;
      first = refl;
      second = record {
        front = low_bits 8 2;
        back = low_bits 2 3;
        whole = refl;
        first = (pos 2, refl, record { front = []; back = _; whole = refl; first = none Written 0; second = record { permitted = refl; image = pos 2; maps = refl; spelled = (refl, refl) } });
        second = record {
          front = low_bits 2 3;
          back = [];
          whole = refl;
          first = record {
            given = (tt, tt);
            spelled = record {
              front = [];
              back = _;
              whole = refl;
              first = none Written 8;
              second = record { front = []; back = _; whole = refl; first = refl; second = record { given = (refl, tt); spelled = three by_conditions ((0, pos 2) ∷ []) 8 } };
            };
          };
          second = refl;
        };
      };
    };
  };
}

neither_condition : Refusal by_conditions (bits_of (3 ∷ 0 ∷ [])) (record { path = 1 ∷ []; reason = no_alternative; at = 8 }) 8
neither_condition = fails_behind_padding (record {
  front = [];
  back = _;
  whole = refl;
  spelled = none Any 0;
  more = 8;
  reaches = refl;
  fails = fails_behind_presence (record {
    numbers = pos 3 ∷ [];
    count = refl;
    permitted = (refl, tt);
    behind = record {
      there = omega arith;
      more = 8;
      fails = fails_behind_inserted (record {
        front = low_bits 8 3;
        back = low_bits 8 0;
        whole = refl;
        spelled = (pos 3, refl, record { front = []; back = _; whole = refl; first = none Any 0; second = record { permitted = refl; image = pos 3; maps = refl; spelled = (refl, refl) } });
        more = 0;
        reaches = refl;
        fails = fails_at_component (
          tt,
          fails_behind_padding (record {
            front = [];
            back = _;
            whole = refl;
            spelled = none Any 8;
            more = 0;
            reaches = refl;
            fails = fails_at_index (record { none = ((λ h. let e = h.0 in cc), ((λ h. let e = h.0 in cc), tt)); says = refl; reaches = refl });
          }),
        );
      });
      reaches = refl;
    };
  });
})

before_q : Refusal by_conditions (bits_of (2 ∷ [])) (record { path = 1 ∷ 1 ∷ []; reason = short; at = 8 }) 8
before_q = fails_behind_padding (record {
  front = [];
  back = _;
  whole = refl;
  spelled = none Any 0;
  more = 8;
  reaches = refl;
  fails = fails_behind_presence (record {
    numbers = pos 2 ∷ [];
    count = refl;
    permitted = (refl, tt);
    behind = record {
      there = omega arith;
      more = 8;
      fails = fails_behind_inserted (record {
        front = low_bits 8 2;
        back = [];
        whole = refl;
        spelled = (pos 2, refl, record { front = []; back = _; whole = refl; first = none Any 0; second = record { permitted = refl; image = pos 2; maps = refl; spelled = (refl, refl) } });
        more = 0;
        reaches = refl;
        fails = fails_at_component (
          tt,
          fails_behind_padding (record {
            front = [];
            back = [];
            whole = refl;
            spelled = none Any 8;
            more = 0;
            reaches = refl;
            fails = fails_at_alternative (record {
              index = 1;
              stands = tt;
              behind = record {
                there = omega arith;
                more = 0;
                fails = (
                  (refl, tt),
                  fails_behind_padding (record {
                    front = [];
                    back = [];
                    whole = refl;
                    spelled = none Any 8;
                    more = 0;
                    reaches = refl;
                    fails = record { reason = short; fails = code_cut (omega arith, refl, refl); says = refl };
                  }),
                );
                reaches = refl;
              };
            });
          }),
        );
      });
      reaches = refl;
    };
  });
})

pub conditions_choose_law : ConditionsChoose
conditions_choose_law = record {
  tree = refl;
  bounds = refl;
  written = q_by_conditions;
  refused = neither_condition;
  cut = before_q;
  never = λ w. let e = writing_of_a_tree by_conditions refl (chosen 1 3) _ _ q_by_conditions w in cc;
}

-- By an item.

p_by_item : IsWritten (by_item two_kinds) (chosen 0 2) (low_bits 1 0 ++ low_bits 2 2)
p_by_item = record {
  front = [];
  back = _;
  whole = refl;
  first = none Written 0;
  second = record {
    numbers = pos 0 ∷ [];
    fine = record {
      count = refl;
      permitted = (refl, tt);
      least = λ _. (record { answers = record { permitted = refl; meets = (refl, tt) }; first = λ y a. omega (arith, ints, a.meets.0) }, tt);
    };
    spelled = record {
      front = [];
      back = _;
      whole = refl;
      first = refl;
      second = record {
        front = low_bits 1 0;
        back = low_bits 2 2;
        whole = refl;
        first = (pos 0, refl, record { front = []; back = _; whole = refl; first = none Written 0; second = record { permitted = refl; image = pos 0; maps = refl; spelled = (0, refl, record { width = refl; value = refl }) } });
        second = record {
          front = low_bits 2 2;
          back = [];
          whole = refl;
          first = record {
            given = (tt, tt);
            spelled = record {
              front = [];
              back = _;
              whole = refl;
              first = none Written 1;
              second = record { front = []; back = _; whole = refl; first = refl; second = record { given = (0, pos 0, refl, refl); spelled = two (by_item two_kinds) ((0, pos 0) ∷ []) 1 } };
            };
          };
          second = refl;
        };
      };
    };
  };
}

same_name : (a b : List ℕ × ℤ) → Some a ≡ Some b → b.0 ≡ a.0
same_name a b e = ap (λ (c : List ℕ × ℤ). c.0) (some_same b a (sym e))

same_place : (i j : ℕ) → Some (pos i) ≡ Some (pos j) → j ≡ i
same_place i j e = cc

-- the item 2 has no other name than r
only_r : (name : List ℕ) (i : ℕ) (x : ℤ) → Some (pos 2) ≡ Some (pos i) → slice_get (items_of (by_item three_kinds) 0) i ≡ Some (name, x) → name ≡ 114 ∷ []
only_r name i x e f = same_name (114 ∷ [], pos 2) (name, x) (subst (λ j. slice_get (items_of (by_item three_kinds) 0) j ≡ Some (name, x)) (same_place 2 i e) f)

one_letter : (a b : ℕ) → a ∷ [] ≡ b ∷ [] → a ≡ b
one_letter a b e = cc

r_chooses : (letter : ℕ) → letter < 114 → Chosen (by_item three_kinds) (Item 0) ((0, pos 2) ∷ []) (letter ∷ []) [] → ⊥
r_chooses letter below h = absurd (let e = one_letter letter 114 (only_r (letter ∷ []) h.0 h.1 h.2 h.3) in omega arith)

no_such_item : Refusal (by_item three_kinds) (bits_of (128 ∷ [])) (record { path = 1 ∷ []; reason = no_alternative; at = 2 }) 2
no_such_item = fails_behind_padding (record {
  front = [];
  back = _;
  whole = refl;
  spelled = none Any 0;
  more = 2;
  reaches = refl;
  fails = fails_behind_presence (record {
    numbers = pos 2 ∷ [];
    count = refl;
    permitted = (refl, tt);
    behind = record {
      there = omega arith;
      more = 2;
      fails = fails_behind_inserted (record {
        front = low_bits 2 2;
        back = low_bits 6 0;
        whole = refl;
        spelled = (
          pos 2,
          refl,
          record {
            front = [];
            back = _;
            whole = refl;
            first = none Any 0;
            second = record { permitted = refl; image = pos 2; maps = refl; spelled = (2, refl, record { width = refl; value = refl }) };
          },
        );
        more = 0;
        reaches = refl;
        fails = fails_at_component (
          tt,
          fails_behind_padding (record {
            front = [];
            back = _;
            whole = refl;
            spelled = none Any 2;
            more = 0;
            reaches = refl;
            fails = fails_at_index (record { none = (r_chooses 112 (omega arith), (r_chooses 113 (omega arith), tt)); says = refl; reaches = refl });
          }),
        );
      });
      reaches = refl;
    };
  });
})

pub an_item_chooses_law : AnItemChooses
an_item_chooses_law = record {
  tree = refl;
  bounds = refl;
  written = p_by_item;
  third = refl;
  refused = no_such_item;
  never = λ w. let e = writing_of_a_tree (by_item two_kinds) refl (chosen 0 2) _ _ p_by_item w in cc;
}
