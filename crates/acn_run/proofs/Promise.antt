-- What holds of an accepted grammar, from the laws of packets.
use Rattle.std.proofs.Common.{◌≡◌, ℕ, ◌<◌, ◌≤◌, Bool, true, false, nat_lt, List, [], ◌∷◌, ◌++◌, length, take, refl, sym, ap, subst, arith, inl, inr}
use Rattle.std.specs.Prelude.{◌⊎◌}
use Rattle.std.proofs.lemmas.Bool.Decides.{nat_tests}
use Rattle.acn_grammar.specs.Check.{too_long}
use Rattle.acn_grammar.specs.Code.{Any, Written}
use Rattle.acn_grammar.specs.Fails.{Fault, Refusal}
use Rattle.acn_grammar.specs.Front.{Front, IsWritten}
use Rattle.acn_grammar.specs.Grammar.{Grammar, Data}
use Rattle.acn_grammar.specs.Interval.{span}
use Rattle.acn_grammar.specs.Refused.{Refused}
use Rattle.acn_grammar.specs.Spell.{Spell}
use Rattle.acn_packet_laws.specs.Laws as laws
use Rattle.acn_packet_laws.specs.Laws.{IsAccepted}
use Rattle.acn_run.specs.Headline.{HasSpelling, HasWriting, IsOnlyFront, IsOnlyFailure, KeepsItsPromise}

take-front : (bs more : List Bool) → take (length bs) (bs ++ more) ≡ bs
take-front [] more = refl
take-front (b ∷ bs) more = ap (λ t. b ∷ t) (take-front bs more)

front_fits : (bs more : List Bool) → length bs ≤ length (bs ++ more)
front_fits [] more = omega arith
front_fits (b ∷ bs) more = let less = front_fits bs more in omega arith

module _ (g : Grammar) (ok : IsAccepted g) where
  -- the greatest bound is within a packet's limit
  pub is_short : laws.NoFaultWithoutAFirst → (span g).greatest ≤ 524336
  is_short no_fault = by (nat_lt 524336 (span g).greatest) refl
    where
      lt_is : (n : ℕ) → nat_lt 524336 n ≡ true → 524336 < n
      lt_is n h = grind (arith, nat_tests)

      lt_not : (n : ℕ) → nat_lt 524336 n ≡ false → n ≤ 524336
      lt_not n h = grind (arith, nat_tests)

      by : (b : Bool) → nat_lt 524336 (span g).greatest ≡ b → (span g).greatest ≤ 524336
      by true e = absurd (no_fault g ok.sound (too_long (span g).greatest) (record { node = 0; use_here = 0; holds = record { at_root = refl; bits_are = refl; many = lt_is (span g).greatest e } }))
      by false e = lt_not (span g).greatest e

  pub only_front : laws.OneFront → laws.FrontsExcludeFailures → (input : List Bool) (d : Data) (n : ℕ) → Front g input d n → IsOnlyFront g input d n
  only_front one excludes input d n f = record {
    front = f;
    alone = λ other m h. one g input other d m n ok h f;
    sound = λ fault reach r. excludes g input d n fault reach ok f r;
  }

  pub only_failure : laws.OneFailure → laws.FrontsExcludeFailures → (input : List Bool) (fault : Fault) (reach : ℕ) → Refusal g input fault reach → IsOnlyFailure g input fault
  only_failure one excludes input fault reach r = record {
    reach = reach;
    fails = r;
    alone = λ other more h. (one g input other fault more reach ok h r).0;
    no_front = λ d n f. excludes g input d n fault reach ok f r;
  }

  -- what is spelled is written
  writing : laws.SpelledValuesMeet → laws.EachValueIsWrittenOrRefused → laws.RefusedIsNotSpelled → (d : Data) → HasSpelling g d → HasWriting g d
  writing meet each refused d (bs, s) = by (each g d ok (meet g Any d bs ok.formed s).shaped)
    where
      by : ((bs : List Bool) × IsWritten g d bs) ⊎ ((u : _) × Refused g d u) → HasWriting g d
      by (inl w) = w
      by (inr r) = absurd (refused g Any d r.0 bs ok r.1 s)

  read : laws.EachInputIsReadOrFails → laws.OneFront → laws.OneFailure → laws.FrontsExcludeFailures → (input : List Bool)
      → ((d : Data) × (n : ℕ) × IsOnlyFront g input d n) ⊎ ((fault : Fault) × IsOnlyFailure g input fault)
  read each front failure excludes input = by (each g input ok)
    where
      by : ((d : Data) × (n : ℕ) × Front g input d n) ⊎ ((fault : Fault) × (reach : ℕ) × Refusal g input fault reach) → ((d : Data) × (n : ℕ) × IsOnlyFront g input d n) ⊎ ((fault : Fault) × IsOnlyFailure g input fault)
      by (inl f) = inl (f.0, f.1, only_front front excludes input f.0 f.1 f.2)
      by (inr r) = inr (r.0, only_failure failure excludes input r.0 r.1 r.2)

  module _ (bounds : laws.BoundsHold) (each_input : laws.EachInputIsReadOrFails) (each_value : laws.EachValueIsWrittenOrRefused) (excludes : laws.FrontsExcludeFailures) (no_fault : laws.NoFaultWithoutAFirst)
      (one_failure : laws.OneFailure) (one_front : laws.OneFront) (one_writing : laws.OneWriting) (refused : laws.RefusedIsNotSpelled) (meet : laws.SpelledValuesMeet) (is_read : laws.WrittenIsRead) where
    again : (d : Data) (bs more : List Bool) → IsWritten g d bs → Front g (bs ++ more) d (length bs)
    again d bs more w = record {
      within = front_fits bs more;
      spelled = subst (λ t. Spell g Any g [] d 0 t) (sym (take-front bs more)) (is_read g d bs ok.formed w);
    }

    pub promise : KeepsItsPromise g
    promise = record {
      written = λ d. ((λ w. (w.0, is_read g d w.0 ok.formed w.1)), writing meet each_value refused d);
      meets = λ d s. meet g Any d s.0 ok.formed s.1;
      one_way = λ d bs other w v. one_writing g d other bs ok v w;
      read_again = λ d bs more w. only_front one_front excludes (bs ++ more) d (length bs) (again d bs more w);
      within = λ d bs w. bounds g Written d bs ok.formed (is_short no_fault) w;
      read = read each_input one_front one_failure excludes;
    }
