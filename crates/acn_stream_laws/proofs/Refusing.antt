-- Packets of an accepted grammar, each of which has a bit: none begins another, and where one stands nothing is refused.
use Rattle.std.proofs.Common.{◌≡◌, ◌≢◌, ◌⊎◌, ℕ, ◌+◌, ◌*◌, ◌<◌, Bool, List, [], ◌∷◌, ◌++◌, length, take, inl, inr, subst, sym, ap, refl, ◌∙◌, arith, length-append, append_assoc, append-nil, take_all}
use Rattle.std.proofs.lemmas.List.{take-append-le}
use Rattle.acn_num.specs.Bits.{bits}
use Rattle.acn_num.proofs.BitLists.{length-bits, bits-append}
use Rattle.acn_bounds.specs.Between.{SpellingsLieBetween}
use Rattle.acn_grammar.specs.Code.{Any}
use Rattle.acn_grammar.specs.Fails.{Fault}
use Rattle.acn_grammar.specs.Front.{Front}
use Rattle.acn_grammar.specs.Grammar.{Grammar, Data}
use Rattle.acn_grammar.specs.Interval.{span}
use Rattle.acn_grammar.specs.LeafFails.{Reason, short, out_of_range, not_minimal, bad_digit, bad_character, bad_pattern, too_long, size_out_of_range, no_alternative, content_size, past_content}
use Rattle.acn_grammar.specs.Spell.{Spell}
use Rattle.acn_packet_laws.specs.Laws.{IsAccepted, PacketsArePrefixFree, FailuresRestOnBits, FrontsExcludeFailures, ReachesLieInside}
use Rattle.acn_stream.specs.Recording.{IsPacket, IsStuck, Recording}
use Rattle.acn_stream_laws.proofs.Pieces.{same_front, GoesOn, goes_on, one_list}

take_front : (a b : List Bool) → take (length a) (a ++ b) ≡ a
take_front a b = take-append-le (length a) a b (omega arith) ∙ take_all (length a) a (omega arith)

pub short_or_not : (r : Reason) → (r ≡ short) ⊎ (r ≢ short)
short_or_not short = inl refl
short_or_not (out_of_range x) = inr (λ e. cc)
short_or_not not_minimal = inr (λ e. cc)
short_or_not bad_digit = inr (λ e. cc)
short_or_not bad_character = inr (λ e. cc)
short_or_not bad_pattern = inr (λ e. cc)
short_or_not too_long = inr (λ e. cc)
short_or_not (size_out_of_range n) = inr (λ e. cc)
short_or_not no_alternative = inr (λ e. cc)
short_or_not (content_size n used) = inr (λ e. cc)
short_or_not past_content = inr (λ e. cc)

module _ (g : Grammar) where
  -- the bits of a packet, and of what stands behind it
  in_front : (d : Data) (p r : List ℕ) (h : IsPacket g d p) → bits (p ++ r) ≡ h.spelling ++ (h.fill ++ bits r)
  in_front d p r h = bits-append p r ∙ ap (λ (t : List Bool). t ++ bits r) h.whole ∙ append_assoc h.spelling h.fill (bits r)

  size_of : (d : Data) (p : List ℕ) (h : IsPacket g d p) → 8 * length p ≡ length h.spelling + length h.fill
  size_of d p h = sym (length-bits p) ∙ ap length h.whole ∙ length-append h.spelling h.fill

  pub front_of : (d : Data) (p r : List ℕ) (h : IsPacket g d p) → Front g (bits (p ++ r)) d (length h.spelling)
  front_of d p r h =
      let cut = in_front d p r h in
      record {
        within = omega (arith, ap length cut, length-append h.spelling (h.fill ++ bits r));
        spelled = subst (Spell g Any g [] d 0) (sym (ap (λ (t : List Bool). take (length h.spelling) t) cut ∙ take_front h.spelling (h.fill ++ bits r))) h.spelled;
      }

  module _ (accepted : IsAccepted g) (some : 0 < (span g).least) (free : PacketsArePrefixFree) (lie : SpellingsLieBetween g (span g)) where
    pub packet_parts : (d e : Data) (p q r s : List ℕ) → IsPacket g d p → IsPacket g e q → p ++ r ≡ q ++ s → (d ≡ e) × (p ≡ q)
    packet_parts d e p q r s h k same =
        let cut : h.spelling ++ (h.fill ++ bits r) ≡ k.spelling ++ (k.fill ++ bits s) = sym (in_front d p r h) ∙ ap bits same ∙ in_front e q s k in
        let one = free g d e h.spelling k.spelling (h.fill ++ bits r) (k.fill ++ bits s) accepted h.spelled k.spelled cut in
        let long : length p ≡ length q = omega (arith, size_of d p h, size_of e q k, ap length one.0, h.few, k.few) in
        (one.1, same_front p q r s long same)

    pub packet_some : (d : Data) (p : List ℕ) → IsPacket g d p → 0 < length p
    packet_some d p h = omega (arith, some, (lie Any d h.spelling h.spelled).0, size_of d p h)

    pub one_recording : (values others : List Data) (bytes : List ℕ) → Recording g values bytes → Recording g others bytes → others ≡ values
    one_recording values others bytes h k = one_list (IsPacket g) packet_parts packet_some values others bytes h k

    pub values_on : (some_values values : List Data) (front rest : List ℕ) → Recording g some_values front → Recording g values (front ++ rest) → GoesOn (IsPacket g) some_values values rest
    values_on some_values values front rest h k = goes_on (IsPacket g) packet_parts packet_some some_values values front rest h k

    module _ (resting : FailuresRestOnBits) (excluding : FrontsExcludeFailures) (inside : ReachesLieInside) where
      -- where a value is at the front, what stands there up to some place fails with nothing but the want of bits
      wants_bits : (rest left : List ℕ) (fault : Fault) (reach : ℕ) (d : Data) (n : ℕ) → Front g (bits (rest ++ left)) d n → (s : IsStuck g rest fault) → fault.reason ≢ short → ⊥
      wants_bits rest left fault reach d n f s other =
          let there = inside g (bits rest) fault s.reach accepted s.fails other in
          let same : take s.reach (bits (rest ++ left)) ≡ take s.reach (bits rest) = ap (λ (t : List Bool). take s.reach t) (bits-append rest left) ∙ take-append-le s.reach (bits rest) (bits left) there in
          excluding g (bits (rest ++ left)) d n fault s.reach accepted f (resting g (bits rest) (bits (rest ++ left)) fault s.reach accepted.formed s.fails other same)

      pub at_front : (rest left : List ℕ) (fault : Fault) (d : Data) (n : ℕ) → Front g (bits (rest ++ left)) d n → IsStuck g rest fault → (fault.reason ≡ short → left ≡ []) → ⊥
      at_front rest left fault d n f s ends = by_reason (short_or_not fault.reason)
        where
          by_reason : (fault.reason ≡ short) ⊎ (fault.reason ≢ short) → ⊥
          by_reason (inl e) = s.no_front d n (subst (λ (t : List ℕ). Front g (bits t) d n) (ap (λ (t : List ℕ). rest ++ t) (ends e) ∙ append-nil rest) f)
          by_reason (inr e) = wants_bits rest left fault s.reach d n f s e

      -- what a recording goes on with isn't stuck
      pub not_stuck : (values : List Data) (rest left : List ℕ) (fault : Fault) → Recording g values (rest ++ left) → IsStuck g rest fault → (fault.reason ≡ short → left ≡ []) → ⊥
      not_stuck [] rest left fault h s ends = omega (arith, s.some, ap length h, length-append rest left)
      not_stuck (d ∷ values) rest left fault h s ends =
          at_front rest left fault d (length h.first.spelling) (subst (λ (t : List ℕ). Front g (bits t) d (length h.first.spelling)) (sym h.parts) (front_of d h.piece h.rest h.first)) s ends
