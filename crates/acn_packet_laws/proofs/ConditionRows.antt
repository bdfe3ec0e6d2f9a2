-- Rows of conditions that are missed.
use Rattle.std.proofs.Common.{◌≡◌, zero, suc, ℤ, pos, negsuc, [], ◌∷◌, Some, refl, ap, arith}
use Rattle.std.specs.Prelude.{◌≤ℤ◌}
use Rattle.std.proofs.lemmas.Int.{ints}
use Rattle.std.proofs.lemmas.Bool.Decides.{nat_tests}
use Rattle.acn_num.specs.Bits.{number, low_bits, bits as bits_of}
use Rattle.acn_num.specs.Ranges.{In}
use Rattle.acn_grammar.specs.Asks.{Equal, Avoid, asks}
use Rattle.acn_grammar.specs.Code.{Written, Any}
use Rattle.acn_grammar.specs.Front.{IsWritten}
use Rattle.acn_grammar.specs.Grammar.{null, record_of, no_places, empty, filled}
use Rattle.acn_grammar.specs.Refused.{CanBeMet, IsAsked}
use Rattle.acn_grammar.specs.Spell.{Spell}
use Rattle.acn_packet_laws.specs.ConditionRows.{zero_or_one, neither, size_and_condition, TheLeastThatIsMissed, ASizeMeetsACondition}
use Rattle.acn_packet_laws.proofs.AskRows.{only}
use Rattle.acn_packet_laws.proofs.OneWriting.{writing_of_a_tree}
use Rattle.acn_packet_laws.proofs.WorkedRows.{none}

two_or_more : (y : ℤ) → In ((pos 0, pos 255) ∷ []) y → (y ≡ pos 0 → ⊥) → (y ≡ pos 1 → ⊥) → pos 2 ≤ℤ y
two_or_more (pos zero) h p q = absurd (p refl)
two_or_more (pos (suc zero)) h p q = absurd (q refl)
two_or_more (pos (suc (suc n))) h p q = omega (arith, ints)
two_or_more (negsuc n) h p q = grind (arith, ints, nat_tests)

two_alone : IsWritten zero_or_one neither (low_bits 8 2)
two_alone = record {
  front = [];
  back = _;
  whole = refl;
  first = none Written 0;
  second = record {
    numbers = pos 2 ∷ [];
    fine = record {
      count = refl;
      permitted = (refl, tt);
      least = λ _. (record { answers = record { permitted = refl; meets = ((λ e. cc), ((λ e. cc), tt)) }; first = λ y a. two_or_more y a.permitted (a.meets.0) (a.meets.1.0) }, tt);
    };
    spelled = record {
      front = [];
      back = _;
      whole = refl;
      first = refl;
      second = record {
        front = low_bits 8 2;
        back = [];
        whole = refl;
        first = (pos 2, refl, record { front = []; back = _; whole = refl; first = none Written 0; second = record { permitted = refl; image = pos 2; maps = refl; spelled = (refl, refl) } });
        second = record { given = λ h. let e = h.0 in cc; spelled = record { given = λ h. let e = h.0 in cc; spelled = refl } };
      };
    };
  };
}

seven_read : Spell zero_or_one Any zero_or_one [] neither 0 (low_bits 8 7)
seven_read = record {
  front = [];
  back = _;
  whole = refl;
  first = none Any 0;
  second = record {
    numbers = pos 7 ∷ [];
    fine = record { count = refl; permitted = (refl, tt); least = λ e. cc };
    spelled = record {
      front = [];
      back = _;
      whole = refl;
      first = refl;
      second = record {
        front = low_bits 8 7;
        back = [];
        whole = refl;
        first = (pos 7, refl, record { front = []; back = _; whole = refl; first = none Any 0; second = record { permitted = refl; image = pos 7; maps = refl; spelled = (refl, refl) } });
        second = record { given = λ h. let e = h.0 in cc; spelled = record { given = λ h. let e = h.0 in cc; spelled = refl } };
      };
    };
  };
}

q_there : IsWritten zero_or_one (record_of (empty (filled null no_places))) (low_bits 8 1)
q_there = record {
  front = [];
  back = _;
  whole = refl;
  first = none Written 0;
  second = record {
    numbers = pos 1 ∷ [];
    fine = record {
      count = refl;
      permitted = (refl, tt);
      least = λ _. (record { answers = record { permitted = refl; meets = ((λ e. cc), (refl, tt)) }; first = λ y a. let e = a.meets.1.0 in omega (arith, ints, e) }, tt);
    };
    spelled = record {
      front = [];
      back = _;
      whole = refl;
      first = refl;
      second = record {
        front = low_bits 8 1;
        back = [];
        whole = refl;
        first = (pos 1, refl, record { front = []; back = _; whole = refl; first = none Written 0; second = record { permitted = refl; image = pos 1; maps = refl; spelled = (refl, refl) } });
        second = record {
          given = λ h. let e = h.0 in cc;
          spelled = record {
            front = [];
            back = [];
            whole = refl;
            first = record { given = ((refl, tt), tt); spelled = record { front = []; back = []; whole = refl; first = none Written 8; second = (pos 0, refl, record { permitted = refl; image = pos 0; maps = refl; spelled = (0, refl, record { width = refl; value = refl }) }) } };
            second = refl;
          };
        };
      };
    };
  };
}

not_seven : bits_of (2 ∷ []) ≡ bits_of (7 ∷ []) → ⊥
not_seven e = absurd (let q : 2 ≡ 7 = ap number e in omega (arith, q))

pub the_least_that_is_missed_law : TheLeastThatIsMissed
the_least_that_is_missed_law = record {
  tree = refl;
  bounds = refl;
  written = two_alone;
  read = record { within = omega arith; spelled = seven_read };
  present = q_there;
  never = λ w. not_seven (writing_of_a_tree zero_or_one refl neither _ _ two_alone w);
}

zero_left : CanBeMet size_and_condition [] (asks (1 ∷ []) (0 ∷ []) 0 (Avoid (pos 1)))
zero_left = (pos 0, record { permitted = refl; meets = ((λ e. cc), tt) })

no_size_before : (n : ℤ) → IsAsked (Avoid (pos 1) ∷ []) (Equal n) → ⊥
no_size_before n b = let o = (only b.early b.late (Equal n) (Avoid (pos 1)) b.is).1 in cc

pub a_size_meets_a_condition_law : ASizeMeetsACondition
a_size_meets_a_condition_law = record {
  tree = refl;
  refused = record {
    before = asks (1 ∷ []) (0 ∷ []) 0 (Avoid (pos 1)) ∷ [];
    here = asks (2 ∷ []) (0 ∷ []) 0 (Equal (pos 1));
    after = [];
    whole = refl;
    met = λ early late m e.
        let o = only early late m (asks (1 ∷ []) (0 ∷ []) 0 (Avoid (pos 1))) e in
        rw (o.0, o.1) zero_left;
    unmet = λ h. h.1.meets.0 h.1.meets.1.0;
    says = (Some (Avoid (pos 1)), (record { early = []; late = []; is = refl }, refl, (λ n b c. no_size_before n b)), refl);
  };
  never = λ bs w.
      let s = w.second.spelled.second.second in
      s.given (s.spelled.first.spelled.second.first.spelled.0, tt);
}
