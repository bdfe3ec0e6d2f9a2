-- Texts and lists: what is written, and what can't be read.
use Rattle.std.proofs.Common.{◌≡◌, ℕ, pos, true, false, [], ◌∷◌, ◌++◌, Some, None, refl, arith}
use Rattle.std.proofs.Common.{zero, suc, ◌∙◌, sym, ap, ◌&&◌, ◌||◌, Bool}
use Rattle.std.specs.Prelude.{◌-ℤ◌, int_le, nat_abs}
use Rattle.std.proofs.lemmas.Int.{ints}
use Rattle.acn_num.specs.Bits.{low_bits, number, bits as bits_of}
use Rattle.acn_num.specs.Ranges.{In}
use Rattle.acn_grammar.proofs.Prefix.{same_front}
use Rattle.acn_grammar.proofs.Within.{between}
use Rattle.acn_grammar.specs.Grammar.{Grammar, node, num, text, list, int, characters, list_of, no_elements, element}
use Rattle.acn_grammar.specs.Code.{Mode, Written, Any}
use Rattle.acn_grammar.specs.Spell.{EndsFirst, Padding, place_in}
use Rattle.acn_grammar.specs.Fails.{NoText, end_too_late, Refusal, characters_not_permitted, fails_behind_padding, fails_behind_size, fails_at_size, prefix_not_permitted}
use Rattle.acn_grammar.specs.LeafFails.{bad_character, size_out_of_range, too_long}
use Rattle.acn_grammar.specs.Front.{IsWritten}
use Rattle.acn_grammar.specs.Meets.{breach, bad_character as wrong_character, terminator_inside}
use Rattle.acn_grammar.specs.Interval.{span}
use Rattle.acn_grammar.specs.Length.{bit_length}
use Rattle.acn_grammar.specs.Tree.{is_tree}
use Rattle.acn_grammar.specs.declared.node.TextLeaf.{TextLeaf}
use Rattle.acn_grammar.specs.declared.node.NumLeaf.{NumLeaf}
use Rattle.acn_grammar.specs.declared.node.NumKind.TheVariants.{Integer}
use Rattle.acn_grammar.specs.declared.node.NumCoding.TheVariants.{Range}
use Rattle.acn_grammar.specs.declared.node.SizeRule.TheVariants.{Prefix}
use Rattle.acn_grammar.proofs.WholeTests.{le_test}

no_padding : (mode : Mode) (at : ℕ) → Padding mode 1 at []
no_padding mode at = record { aligned = omega arith; fewest = omega arith; zeros = λ _. refl }

-- IA5String (SIZE (2)) (FROM ("a".."c")): the places of the characters, in 2 bits each
abbrev pair_leaf : TextLeaf
pair_leaf = record { sized = record { sizes = (pos 2, pos 2) ∷ []; rule = Prefix 2 0 }; ended = None; alphabet = (pos 97, pos 99) ∷ []; width = 2; indexed = true }

abbrev pair : Grammar
pair = node 1 (text pair_leaf)

pair_is : is_tree pair ≡ true
pair_is = refl

-- without places the greatest character is beyond 2 bits
not_indexed : is_tree (node 1 (text (record pair_leaf { indexed = false }))) ≡ false
not_indexed = refl

pub ca_written : IsWritten pair (characters (99 ∷ 97 ∷ [])) (true ∷ false ∷ false ∷ false ∷ [])
ca_written = record {
  front = [];
  back = _;
  whole = refl;
  first = no_padding Written 0;
  second = record {
    front = [];
    back = _;
    whole = refl;
    first = record { given = refl; spelled = record { given = omega arith; spelled = record { width = refl; value = refl } } };
    second = record {
      front = low_bits 2 2;
      back = low_bits 2 0;
      whole = refl;
      first = record { given = refl; spelled = record { width = refl; value = refl } };
      second = record { front = low_bits 2 0; back = []; whole = refl; first = record { given = refl; spelled = record { width = refl; value = refl } }; second = refl };
    };
  };
}

cd_unfit : breach pair (characters (99 ∷ 100 ∷ [])) ≡ Some (record { path = []; why = wrong_character 1 })
cd_unfit = refl

pair_bounds : span pair ≡ record { least = 4; greatest = 4 }
pair_bounds = refl

-- IA5String (SIZE (0..3)) with 00 at its end
abbrev ended_leaf : TextLeaf
ended_leaf = record { sized = record { sizes = (pos 0, pos 3) ∷ []; rule = Prefix 0 0 }; ended = Some (low_bits 8 0); alphabet = (pos 0, pos 127) ∷ []; width = 8; indexed = false }

abbrev ended : Grammar
ended = node 1 (text ended_leaf)

ended_is : is_tree ended ≡ true
ended_is = refl

-- one that ends has no size in front
with_size : is_tree (node 1 (text (record ended_leaf { sized = record { sizes = (pos 0, pos 3) ∷ []; rule = Prefix 0 2 } }))) ≡ false
with_size = refl

ended_bounds : span ended ≡ record { least = 8; greatest = 32 }
ended_bounds = refl

zero_inside : breach ended (characters (97 ∷ 0 ∷ [])) ≡ Some (record { path = []; why = terminator_inside 1 })
zero_inside = refl

-- 61 62 63 64 00: no end among the first four octets
pub no_end : Refusal ended (bits_of (97 ∷ 98 ∷ 99 ∷ 100 ∷ 0 ∷ [])) (record { path = []; reason = too_long; at = 0 }) 32
no_end = fails_behind_padding (record { front = []; back = _; whole = refl; spelled = no_padding Any 0; more = 32; reaches = refl; fails = end_too_late (omega arith, refl, refl) })

-- SEQUENCE (SIZE (0..5)) OF INTEGER (0..15)
abbrev small_leaf : NumLeaf
small_leaf = record { kind = Integer; set = (pos 0, pos 15) ∷ []; coding = Range (pos 0) 4; little = false; table = None; items = record { items = []; values = false } }

abbrev few : Grammar
few = node 1 (list (record { sizes = (pos 0, pos 5) ∷ []; rule = Prefix 0 3 }) (node 1 (num small_leaf)))

few_is : is_tree few ≡ true
few_is = refl

few_bounds : span few ≡ record { least = 3; greatest = 23 }
few_bounds = refl

-- [1,2] has 11 bits
few_length : bit_length few 0 (list_of (element (int (pos 1)) (element (int (pos 2)) no_elements))) ≡ 11
few_length = refl

pub two_written : IsWritten few (list_of (element (int (pos 1)) (element (int (pos 2)) no_elements))) (low_bits 3 2 ++ low_bits 4 1 ++ low_bits 4 2)
two_written = record {
  front = [];
  back = _;
  whole = refl;
  first = no_padding Written 0;
  second = record {
    front = low_bits 3 2;
    back = _;
    whole = refl;
    first = record { given = refl; spelled = record { given = omega arith; spelled = record { width = refl; value = refl } } };
    second = record {
      front = low_bits 4 1;
      back = low_bits 4 2;
      whole = refl;
      first = record { front = []; back = _; whole = refl; first = no_padding Written 3; second = (pos 1, refl, record { permitted = refl; image = pos 1; maps = refl; spelled = (1, refl, record { width = refl; value = refl }) }) };
      second = record {
        front = low_bits 4 2;
        back = [];
        whole = refl;
        first = record { front = []; back = _; whole = refl; first = no_padding Written 7; second = (pos 2, refl, record { permitted = refl; image = pos 2; maps = refl; spelled = (2, refl, record { width = refl; value = refl }) }) };
        second = refl;
      };
    };
  };
}

-- c0: the size is 6
pub six : Refusal few (bits_of (192 ∷ [])) (record { path = []; reason = size_out_of_range 6; at = 0 }) 3
six = fails_behind_padding (record { front = []; back = _; whole = refl; spelled = no_padding Any 0; more = 3; reaches = refl; fails = fails_at_size (prefix_not_permitted (omega arith, (λ h. cc), refl, refl)) })

-- "ab" is 61 62 00
zero_first : EndsFirst (0 ∷ []) (97 ∷ 98 ∷ [])
zero_first zero e = cc
zero_first (suc zero) e = cc
zero_first (suc (suc i)) e = omega arith

pub ab_written : IsWritten ended (characters (97 ∷ 98 ∷ [])) (bits_of (97 ∷ 98 ∷ 0 ∷ []))
ab_written = record {
  front = [];
  back = _;
  whole = refl;
  first = no_padding Written 0;
  second = record {
    given = (refl, zero_first);
    spelled = record {
      front = bits_of (97 ∷ 98 ∷ []);
      back = low_bits 8 0;
      whole = refl;
      first = record {
        front = low_bits 8 97;
        back = low_bits 8 98;
        whole = refl;
        first = record { given = refl; spelled = record { width = refl; value = refl } };
        second = record { front = low_bits 8 98; back = []; whole = refl; first = record { given = refl; spelled = record { width = refl; value = refl } }; second = refl };
      };
      second = refl;
    };
  };
}

-- c0: no character has place 3
no_fourth : (c : ℕ) → In ((pos 97, pos 99) ∷ []) (pos c) → place_in ((pos 97, pos 99) ∷ []) (pos c) ≡ 3 → ⊥
no_fourth c h e =
    let w = between (pos 97) (pos 99) (pos c) (or_false (int_le (pos 97) (pos c) && int_le (pos c) (pos 99)) h) in
    let low = w.0 in
    let high = w.1 in
    let t : int_le (pos c) (pos 99) ≡ true = le_test (pos c) (pos 99) high in
    let p : nat_abs (pos c -ℤ pos 97) ≡ 3 = sym (rw t) ∙ e in
    omega (arith, ints)
  where
    or_false : (a : Bool) → (a || false) ≡ true → a ≡ true
    or_false true h = refl
    or_false false h = h

three_ones : NoText pair_leaf (true ∷ true ∷ false ∷ false ∷ [])
three_ones [] at t = cc
three_ones (c ∷ cs) at t =
    let s = t.first.spelled in
    let f = same_front (true ∷ true ∷ []) t.front (false ∷ false ∷ []) t.back (sym s.width) t.whole in
    no_fourth c t.first.given (sym s.value ∙ ap number (sym f.0))

pub bad_pair : Refusal pair (bits_of (192 ∷ [])) (record { path = []; reason = bad_character; at = 0 }) 4
bad_pair = fails_behind_padding (record {
  front = [];
  back = _;
  whole = refl;
  spelled = no_padding Any 0;
  more = 4;
  reaches = refl;
  fails = fails_behind_size (record {
    n = 2;
    behind = record {
      front = [];
      back = _;
      whole = refl;
      spelled = record { given = refl; spelled = record { given = omega arith; spelled = record { width = refl; value = refl } } };
      more = 4;
      reaches = refl;
      fails = characters_not_permitted (omega arith, three_ones, refl, refl);
    };
  });
})
