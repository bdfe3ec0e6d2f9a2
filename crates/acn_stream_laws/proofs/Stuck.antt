-- What stands behind packets and is no packet is refused.
use Rattle.std.proofs.Common.{◌≡◌, ◌≢◌, ◌⊎◌, ℕ, zero, suc, ◌+◌, ◌<◌, ◌≤◌, Bool, List, [], ◌∷◌, ◌++◌, length, take, Option, Some, Result, Ok, Err, IsErrOf, inl, inr, subst, sym, ap, refl, ◌∙◌, arith, append_assoc, append-nil}
use Rattle.std.proofs.lemmas.List.{take-append-le}
use Rattle.acn_num.specs.Bits.{bits}
use Rattle.acn_num.proofs.BitLists.{bits-append}
use Rattle.acn_bounds.specs.Between.{SpellingsLieBetween}
use Rattle.acn_grammar.specs.Code.{Any}
use Rattle.acn_grammar.specs.Fails.{Fault as FailsWith, Refusal}
use Rattle.acn_grammar.specs.Faults.{fault_of}
use Rattle.acn_grammar.specs.Front.{Front}
use Rattle.acn_grammar.specs.Grammar.{Grammar, Data}
use Rattle.acn_grammar.specs.Interval.{span}
use Rattle.acn_grammar.specs.LeafFails.{short}
use Rattle.acn_grammar.specs.declared.fault.Fault.{Fault}
use Rattle.acn_packet_laws.specs.Laws.{IsAccepted, PacketsArePrefixFree, FailuresRestOnBits, FrontsExcludeFailures, ReachesLieInside}
use Rattle.acn_stream.specs.Decoding.{IsDone, IsRefused, ShowEnds}
use Rattle.acn_stream.specs.Recording.{IsPacket, Recording, Text}
use Rattle.acn_stream.specs.declared.stream_fault.StreamFault.{StreamFault}
use Rattle.acn_stream.specs.declared.stream_fault.StreamFault.TheVariants.{LineTooLong, InputTooLong, EmptyPacket, Packet, BadLine, Unfit, InputFault, OutputFault, NoMemory}
use Rattle.acn_stream_laws.proofs.Gaining.{Left, left_of, none_left, all_given, not_past}
use Rattle.acn_stream_laws.proofs.Refusing.{front_of, packet_parts, at_front, short_or_not}
use Rattle.acn_stream_laws.specs.Laws.{IsStuckBehind, RefusesPacket}

cancel : (x a b : List ℕ) → x ++ a ≡ x ++ b → a ≡ b
cancel [] a b e = e
cancel (n ∷ x) a b e = let h : x ++ a ≡ x ++ b = cc in cancel x a b h

module _ (g : Grammar) (accepted : IsAccepted g) (some : 0 < (span g).least) (free : PacketsArePrefixFree) (lie : SpellingsLieBetween g (span g)) where
  -- no value is at the front
  abbrev HasNoFront : List ℕ → Type 0
  HasNoFront bytes = (d : Data) (n : ℕ) → Front g (bits bytes) d n → ⊥

  none_taken : (n : ℕ) → length (take n (bits [])) ≡ 0
  none_taken zero = refl
  none_taken (suc n) = refl

  nothing_at_front : HasNoFront []
  nothing_at_front d n f = omega (arith, some, (lie Any d (take n (bits [])) f.spelled).0, none_taken n)

  one_more : (d : Data) (p q r : List ℕ) → IsPacket g d p → HasNoFront ((p ++ q) ++ r) → ⊥
  one_more d p q r h bare = bare d (length h.spelling) (subst (λ (t : List ℕ). Front g (bits t) d (length h.spelling)) (sym (append_assoc p q r)) (front_of g d p (q ++ r) h))

  -- packets of one list stand in front of what has no front
  same_place : (vs ws : List Data) (p q r s : List ℕ) → Recording g vs p → Recording g ws q → p ++ r ≡ q ++ s → HasNoFront r → HasNoFront s → (vs ≡ ws) × (r ≡ s)
  same_place [] [] p q r s h k e bare clear = (refl, sym (ap (λ (t : List ℕ). t ++ r) h) ∙ (e ∙ ap (λ (t : List ℕ). t ++ s) k))
  same_place [] (w ∷ ws) p q r s h k e bare clear =
      let cut : r ≡ (k.piece ++ k.rest) ++ s = sym (ap (λ (t : List ℕ). t ++ r) h) ∙ (e ∙ ap (λ (t : List ℕ). t ++ s) k.parts) in
      absurd (one_more w k.piece k.rest s k.first (subst HasNoFront cut bare))
  same_place (v ∷ vs) [] p q r s h k e bare clear =
      let cut : s ≡ (h.piece ++ h.rest) ++ r = sym (ap (λ (t : List ℕ). t ++ s) k) ∙ (sym e ∙ ap (λ (t : List ℕ). t ++ r) h.parts) in
      absurd (one_more v h.piece h.rest r h.first (subst HasNoFront cut clear))
  same_place (v ∷ vs) (w ∷ ws) p q r s h k e bare clear =
      let cut : h.piece ++ (h.rest ++ r) ≡ k.piece ++ (k.rest ++ s) =
      sym (append_assoc h.piece h.rest r) ∙ (sym (ap (λ (t : List ℕ). t ++ r) h.parts) ∙ (e ∙ (ap (λ (t : List ℕ). t ++ s) k.parts ∙ append_assoc k.piece k.rest s))) in
      let one = packet_parts g accepted some free lie v w h.piece k.piece (h.rest ++ r) (k.rest ++ s) h.first k.first cut in
      let more = same_place vs ws h.rest k.rest r s h.second k.second (cancel k.piece (h.rest ++ r) (k.rest ++ s) (ap (λ (t : List ℕ). t ++ (h.rest ++ r)) (sym one.1) ∙ cut)) bare clear in
      (cc (one.0, more.0), more.1)

  module _ (resting : FailuresRestOnBits) (excluding : FrontsExcludeFailures) (inside : ReachesLieInside) where
    module _ (text : Text g) (limit : ℕ) (values : List Data) (bytes : List ℕ) (fault : FailsWith) (i' o o' : Option (List ℕ)) (h : IsStuckBehind g values bytes fault) where
      not_done : (count : ℕ) → IsDone g text limit (Some bytes) i' o o' count → ⊥
      not_done count e =
          let l = left_of bytes e.given i' e.taken in
          let cut : h.packets ++ h.rest ≡ e.given ++ [] = sym h.whole ∙ (all_given bytes e.given i' l e.used_up ∙ sym (append-nil e.given)) in
          let same = same_place values e.values h.packets e.given h.rest [] h.recording e.recording cut h.stuck.no_front nothing_at_front in
          omega (arith, h.stuck.some, ap length same.1)

      refused : (number : ℕ) (f : Fault) → IsRefused g text limit (Some bytes) i' o o' number f → (number ≡ length values + 1) × (fault_of f ≡ fault)
      refused number f e = (sym e.counted ∙ ap (λ (vs : List Data). length vs + 1) (sym same.0), by_reason (short_or_not (fault_of f).reason))
        where
          l : Left bytes e.given i'
          l = left_of bytes e.given i' e.taken

          cut : h.packets ++ h.rest ≡ e.begins.packets ++ (e.rest ++ l.left)
          cut = sym h.whole ∙ (l.whole ∙ (ap (λ (t : List ℕ). t ++ l.left) e.begins.whole ∙ append_assoc e.begins.packets e.rest l.left))

          no_front : HasNoFront (e.rest ++ l.left)
          no_front d n front = at_front g accepted some free lie resting excluding inside e.rest l.left (fault_of f) d n front e.stuck (λ short. none_left bytes e.given i' l (e.ends short))

          same : (values ≡ e.values) × (h.rest ≡ e.rest ++ l.left)
          same = same_place values e.values h.packets e.begins.packets h.rest (e.rest ++ l.left) h.recording e.begins.recording cut h.stuck.no_front no_front

          by_reason : ((fault_of f).reason ≡ short) ⊎ ((fault_of f).reason ≢ short) → fault_of f ≡ fault
          by_reason (inl is) =
              let ends : e.rest ≡ h.rest = sym (same.1 ∙ (ap (λ (t : List ℕ). e.rest ++ t) (none_left bytes e.given i' l (e.ends is)) ∙ append-nil e.rest)) in
              h.stuck.only (fault_of f) e.stuck.reach (subst (λ (t : List ℕ). Refusal g (bits t) (fault_of f) e.stuck.reach) ends e.stuck.fails)
          by_reason (inr other) =
              let there = inside g (bits e.rest) (fault_of f) e.stuck.reach accepted e.stuck.fails other in
              let front : take e.stuck.reach (bits (e.rest ++ l.left)) ≡ take e.stuck.reach (bits e.rest) =
              ap (λ (t : List Bool). take e.stuck.reach t) (bits-append e.rest l.left) ∙ take-append-le e.stuck.reach (bits e.rest) (bits l.left) there in
              let fails = resting g (bits e.rest) (bits (e.rest ++ l.left)) (fault_of f) e.stuck.reach accepted.formed e.stuck.fails other front in
              h.stuck.only (fault_of f) e.stuck.reach (subst (λ (t : List ℕ). Refusal g (bits t) (fault_of f) e.stuck.reach) (sym same.1) fails)

      pub refuses : length bytes ≤ limit → (result : Result ℕ StreamFault) → ShowEnds g text limit (Some bytes) i' o o' result → (IsErrOf result EmptyPacket → (span g).least ≡ 0) → RefusesPacket (length values + 1) fault result
      refuses few (Ok count) e empty = not_done count e
      refuses few (Err (LineTooLong n)) e empty = absurd e
      refuses few (Err InputTooLong) e empty = not_past bytes e.given e.byte limit i' e.taken e.full few
      refuses few (Err EmptyPacket) e empty = omega (arith, some, empty refl)
      refuses few (Err (Packet number f)) e empty = refused number f e
      refuses few (Err (BadLine n f)) e empty = absurd e
      refuses few (Err (Unfit n f)) e empty = absurd e
      refuses few (Err InputFault) e empty = tt
      refuses few (Err OutputFault) e empty = tt
      refuses few (Err NoMemory) e empty = tt
