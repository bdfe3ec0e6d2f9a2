-- A flag and a length before data that may be absent.
use Rattle.std.proofs.Common.{ℕ, ℤ, pos, false, [], ◌∷◌, refl, arith}
use Rattle.std.specs.Prelude.{◌≤ℤ◌}
use Rattle.std.proofs.lemmas.Int.{ints}
use Rattle.std.proofs.lemmas.Bool.Decides.{nat_tests}
use Rattle.acn_num.specs.Bits.{low_bits, bits as bits_of}
use Rattle.acn_num.specs.Ranges.{In}
use Rattle.acn_grammar.specs.Grammar.{Grammar, record_of, no_places, empty}
use Rattle.acn_grammar.specs.Code.{Mode, Written, Any}
use Rattle.acn_grammar.specs.Spell.{Padding}
use Rattle.acn_grammar.specs.Front.{IsWritten, Front}
use Rattle.acn_grammar.specs.declared.node.Presence.TheVariants.{When}
use Rattle.acn_grammar.specs.declared.node.Test.TheVariants.{Flag as IsOn}
use Rattle.acn_packet_laws.proofs.Trees.{flagged}

abbrev root : Grammar
root = flagged (When (IsOn 0 ∷ []))

no_padding : (mode : Mode) (at : ℕ) → Padding mode 1 at []
no_padding mode at = record { aligned = omega arith; fewest = omega arith; zeros = λ _. refl }

-- any length may stand before data that is absent: 04 80 gives {}
pub absent_read : Front root (bits_of (4 ∷ 128 ∷ [])) (record_of (empty no_places)) 9
absent_read = record {
  within = omega arith;
  spelled = record {
    front = [];
    back = _;
    whole = refl;
    first = no_padding Any 0;
    second = record {
      numbers = pos 0 ∷ pos 9 ∷ [];
      fine = record { count = refl; permitted = (refl, (refl, tt)); least = λ e. cc };
      spelled = record {
        front = [];
        back = _;
        whole = refl;
        first = refl;
        second = record {
          front = false ∷ [];
          back = low_bits 8 9;
          whole = refl;
          first = (pos 0, refl, record { front = []; back = _; whole = refl; first = no_padding Any 0; second = record { permitted = refl; image = pos 0; maps = refl; spelled = (0, refl, record { width = refl; value = refl }) } });
          second = record {
            front = low_bits 8 9;
            back = [];
            whole = refl;
            first = (pos 9, refl, record { front = []; back = _; whole = refl; first = no_padding Any 1; second = record { permitted = refl; image = pos 9; maps = refl; spelled = (refl, refl) } });
            second = record { given = λ h. let e = h.0 in cc; spelled = refl };
          };
        };
      };
    };
  };
}

least_zero : (x high : ℤ) → In ((pos 0, high) ∷ []) x → pos 0 ≤ℤ x
least_zero x high h = grind (arith, ints, nat_tests)

-- what nothing asks about is written as its least number: {} is 00 00
pub absent_written : IsWritten root (record_of (empty no_places)) (false ∷ low_bits 8 0)
absent_written = record {
  front = [];
  back = _;
  whole = refl;
  first = no_padding Written 0;
  second = record {
    numbers = pos 0 ∷ pos 0 ∷ [];
    fine = record {
      count = refl;
      permitted = (refl, (refl, tt));
      least = λ _. (
        record { answers = record { permitted = refl; meets = (refl, tt) }; first = λ y a. least_zero y (pos 1) a.permitted },
        (record { answers = record { permitted = refl; meets = tt }; first = λ y a. least_zero y (pos 255) a.permitted }, tt),
      );
    };
    spelled = record {
      front = [];
      back = _;
      whole = refl;
      first = refl;
      second = record {
        front = false ∷ [];
        back = low_bits 8 0;
        whole = refl;
        first = (pos 0, refl, record { front = []; back = _; whole = refl; first = no_padding Written 0; second = record { permitted = refl; image = pos 0; maps = refl; spelled = (0, refl, record { width = refl; value = refl }) } });
        second = record {
          front = low_bits 8 0;
          back = [];
          whole = refl;
          first = (pos 0, refl, record { front = []; back = _; whole = refl; first = no_padding Written 1; second = record { permitted = refl; image = pos 0; maps = refl; spelled = (refl, refl) } });
          second = record { given = λ h. let e = h.0 in cc; spelled = refl };
        };
      };
    };
  };
}
