-- A row of a text that ends in two octets.
use Rattle.std.proofs.Common.{◌≡◌, ◌∙◌, ℕ, zero, suc, pos, false, [], ◌∷◌, Some, refl, sym, ap, subst, arith}
use Rattle.acn_num.specs.Bits.{number, low_bits, bits as bits_of}
use Rattle.acn_num.specs.Ranges.{In}
use Rattle.acn_grammar.proofs.Prefix.{same_front}
use Rattle.acn_grammar.specs.Code.{Written, Any}
use Rattle.acn_grammar.specs.Fails.{NoText, input_ended, length_not_permitted, character_not_permitted, fails_behind_padding}
use Rattle.acn_grammar.specs.Front.{IsWritten}
use Rattle.acn_grammar.specs.Grammar.{characters}
use Rattle.acn_grammar.specs.Spell.{EndsFirst}
use Rattle.acn_grammar.specs.declared.node.SizeRule.TheVariants.{Prefix}
use Rattle.acn_grammar.specs.declared.node.TextLeaf.{TextLeaf}
use Rattle.acn_packet_laws.specs.EndRows.{line, AnEndOfTwoOctets}
use Rattle.acn_packet_laws.proofs.WorkedRows.{none}

first_ones : (a b c d : ℕ) → a ∷ b ∷ [] ≡ c ∷ d ∷ [] → (a ≡ c) × (b ≡ d)
first_ones a b c d e = (cc, cc)

first_whole : EndsFirst (13 ∷ 10 ∷ []) (97 ∷ 13 ∷ [])
first_whole zero e = absurd (let f = (first_ones 97 13 13 10 e).0 in omega (arith, f))
first_whole (suc zero) e = absurd (let f = (first_ones 13 13 13 10 e).1 in omega (arith, f))
first_whole (suc (suc i)) e = omega arith

with_return : IsWritten line (characters (97 ∷ 13 ∷ [])) (bits_of (97 ∷ 13 ∷ 13 ∷ 10 ∷ []))
with_return = record {
  front = [];
  back = bits_of (97 ∷ 13 ∷ 13 ∷ 10 ∷ []);
  whole = refl;
  first = none Written 0;
  second = record {
    given = (refl, first_whole);
    spelled = record {
      front = bits_of (97 ∷ 13 ∷ []);
      back = bits_of (13 ∷ 10 ∷ []);
      whole = refl;
      first = record {
        front = low_bits 8 97;
        back = low_bits 8 13;
        whole = refl;
        first = record { given = refl; spelled = record { width = refl; value = refl } };
        second = record { front = low_bits 8 13; back = []; whole = refl; first = record { given = refl; spelled = record { width = refl; value = refl } }; second = refl };
      };
      second = refl;
    };
  };
}

abbrev leaf : TextLeaf
leaf = record { sized = record { sizes = (pos 1, pos 3) ∷ []; rule = Prefix 0 0 }; ended = Some (bits_of (13 ∷ 10 ∷ [])); alphabet = (pos 0, pos 127) ∷ []; width = 8; indexed = false }

too_great : (c : ℕ) → In ((pos 0, pos 127) ∷ []) (pos c) → c ≡ 128 → ⊥
too_great c h e = never (subst (λ x. In ((pos 0, pos 127) ∷ []) (pos x)) e h)
  where
    never : In ((pos 0, pos 127) ∷ []) (pos 128) → ⊥
    never h = cc

no_character : NoText leaf (low_bits 8 128)
no_character [] at t = cc
no_character (c ∷ cs) at t =
    let s = t.first.spelled in
    let f = same_front (low_bits 8 128) t.front [] t.back (sym s.width) t.whole in
    too_great c t.first.given (sym s.value ∙ ap number (sym f.0))

pub an_end_of_two_octets_law : AnEndOfTwoOctets
an_end_of_two_octets_law = record {
  tree = refl;
  bounds = refl;
  written = with_return;
  refused = fails_behind_padding (record { front = []; back = bits_of (13 ∷ 10 ∷ []); whole = refl; spelled = none Any 0; more = 16; reaches = refl; fails = length_not_permitted ((λ h. cc), refl, refl) });
  beyond = fails_behind_padding (record { front = []; back = bits_of (128 ∷ 13 ∷ 10 ∷ []); whole = refl; spelled = none Any 0; more = 24; reaches = refl; fails = character_not_permitted (refl, no_character, refl, refl) });
  no_end = fails_behind_padding (record { front = []; back = bits_of (97 ∷ 98 ∷ []); whole = refl; spelled = none Any 0; more = 16; reaches = refl; fails = input_ended (omega arith, refl, refl) });
  unfit = refl;
  never = λ bs w. let h = w.second.given.1 0 refl in absurd (omega (arith, h));
}
