-- Recordings are decoded whole, and shown whole.
use Rattle.std.proofs.Common.{◌≡◌, ℕ, ◌<◌, ◌≤◌, List, [], ◌∷◌, ◌++◌, length, Option, Some, Result, Ok, Err, IsErrOf, subst, sym, ap, refl, ◌∙◌, arith, length-append, append_assoc}
use Rattle.std.proofs.lemmas.Grind.{flat_map-append}
use Rattle.acn_bounds.specs.Between.{SpellingsLieBetween}
use Rattle.acn_grammar.specs.Faults.{fault_of}
use Rattle.acn_grammar.specs.Grammar.{Grammar, Data}
use Rattle.acn_grammar.specs.Interval.{span}
use Rattle.acn_grammar.specs.declared.fault.Fault.{Fault}
use Rattle.acn_json.specs.Lines.{line_of}
use Rattle.acn_outside.specs.Moves.{Takes, Gains}
use Rattle.acn_outside.specs.Whole.{GainsFront}
use Rattle.acn_packet_laws.specs.Laws.{IsAccepted, PacketsArePrefixFree, FailuresRestOnBits, FrontsExcludeFailures, ReachesLieInside}
use Rattle.acn_stream.specs.Decoding.{Begins, IsDone, IsRefused, DecodeEnds, ShowEnds}
use Rattle.acn_stream.specs.Recording.{IsPacket, Recording, Text, lines, lines_text}
use Rattle.acn_stream.specs.declared.stream_fault.StreamFault.{StreamFault}
use Rattle.acn_stream.specs.declared.stream_fault.StreamFault.TheVariants.{LineTooLong, InputTooLong, EmptyPacket, Packet, BadLine, Unfit, InputFault, OutputFault, NoMemory}
use Rattle.acn_stream_laws.proofs.Gaining.{Left, left_of, none_left, all_given, not_past, gains_front, front_more}
use Rattle.acn_stream_laws.proofs.Pieces.{GoesOn}
use Rattle.acn_stream_laws.proofs.Refusing.{one_recording, values_on, not_stuck}
use Rattle.acn_stream_laws.specs.Laws.{NoRefusal, NoShowRefusal}

module _ (g : Grammar) (accepted : IsAccepted g) (some : 0 < (span g).least) (free : PacketsArePrefixFree) (lie : SpellingsLieBetween g (span g)) where
  module _ (limit : ℕ) (values : List Data) (bytes : List ℕ) (i' o o' : Option (List ℕ)) (recording : Recording g values bytes) where
    -- the values behind those of the packets that came
    others_of : (given : List ℕ) (before : List Data) (rest : List ℕ) (l : Left bytes given i') → Begins g limit given before rest → GoesOn (IsPacket g) before values (rest ++ l.left)
    others_of given before rest l b =
        let cut : bytes ≡ b.packets ++ (rest ++ l.left) = l.whole ∙ ap (λ (t : List ℕ). t ++ l.left) b.whole ∙ append_assoc b.packets rest l.left in
        values_on g accepted some free lie before values b.packets (rest ++ l.left) b.recording (subst (Recording g values) cut recording)

    lines_are : (before : List Data) (rest : List ℕ) (on : GoesOn (IsPacket g) before values rest) → lines g values ≡ lines g before ++ lines g on.others
    lines_are before rest on = ap (lines g) on.whole ∙ flat_map-append (λ d. line_of g d ++ 10 ∷ []) before on.others

    done : (count : ℕ) → IsDone g (lines_text g) limit (Some bytes) i' o o' count → NoRefusal o o' (lines g values) (length values) (Ok count)
    done count e =
        let l = left_of bytes e.given i' e.taken in
        let same : e.values ≡ values = one_recording g accepted some free lie values e.values bytes recording (subst (Recording g e.values) (sym (all_given bytes e.given i' l e.used_up)) e.recording) in
        (sym e.counted ∙ ap length same, subst (λ (ds : List Data). Gains o o' (lines g ds)) same e.written)

    -- packets came, and their lines were written
    came : (given : List ℕ) (before : List Data) (rest : List ℕ) → Takes (Some bytes) i' given → Begins g limit given before rest → Gains o o' (lines g before) → GainsFront o o' (lines g values)
    came given before rest t b h =
        let on = others_of given before rest (left_of bytes given i' t) b in
        subst (GainsFront o o') (sym (lines_are before _ on)) (gains_front o o' (lines g before) (lines g on.others) h)

    -- or a front of them
    came_in_front : (given : List ℕ) (before : List Data) (rest : List ℕ) → Takes (Some bytes) i' given → Begins g limit given before rest → GainsFront o o' (lines g before) → GainsFront o o' (lines g values)
    came_in_front given before rest t b h =
        let on = others_of given before rest (left_of bytes given i' t) b in
        subst (GainsFront o o') (sym (lines_are before _ on)) (front_more o o' (lines g before) (lines g on.others) h)

    module _ (resting : FailuresRestOnBits) (excluding : FrontsExcludeFailures) (inside : ReachesLieInside) where
      not_refused : (text : Text g) (number : ℕ) (fault : Fault) → IsRefused g text limit (Some bytes) i' o o' number fault → ⊥
      not_refused text number fault e =
          let l = left_of bytes e.given i' e.taken in
          let on = others_of e.given e.values e.rest l e.begins in
          not_stuck g accepted some free lie resting excluding inside on.others e.rest l.left (fault_of fault) on.behind e.stuck (λ short. none_left bytes e.given i' l (e.ends short))

      pub decoded : length bytes ≤ limit → (result : Result ℕ StreamFault) → DecodeEnds g limit (Some bytes) i' o o' result → (IsErrOf result EmptyPacket → (span g).least ≡ 0) → NoRefusal o o' (lines g values) (length values) result
      decoded few (Ok count) e none = done count e
      decoded few (Err (LineTooLong n)) e none = absurd e
      decoded few (Err InputTooLong) e none = not_past bytes e.given e.byte limit i' e.taken e.full few
      decoded few (Err EmptyPacket) e none = omega (arith, some, none refl)
      decoded few (Err (Packet number fault)) e none = not_refused (lines_text g) number fault e
      decoded few (Err (BadLine n fault)) e none = absurd e
      decoded few (Err (Unfit n fault)) e none = absurd e
      decoded few (Err InputFault) e none = came e.given e.values e.rest e.taken e.begins e.written
      decoded few (Err OutputFault) e none = came_in_front e.given e.values e.rest e.taken e.begins e.written
      decoded few (Err NoMemory) e none = came e.given e.values e.rest e.taken e.begins e.written

      module _ (text : Text g) where
        abbrev WithText : List Data → List ℕ → Type 0
        WithText ds given = (r : Recording g ds given) × Gains o o' (text ds given r)

        all_shown : (count : ℕ) → IsDone g text limit (Some bytes) i' o o' count → NoShowRefusal g text values bytes o o' (Ok count)
        all_shown count e =
            let l = left_of bytes e.given i' e.taken in
            let whole : bytes ≡ e.given = all_given bytes e.given i' l e.used_up in
            let same : e.values ≡ values = one_recording g accepted some free lie values e.values bytes recording (subst (Recording g e.values) (sym whole) e.recording) in
            let here : WithText e.values e.given = (e.recording, e.written) in
            let all = subst (λ (ds : List Data). WithText ds bytes) same (subst (λ (given : List ℕ). WithText e.values given) (sym whole) here) in
            (sym e.counted ∙ ap length same, all.0, all.1)

        pub shown : length bytes ≤ limit → (result : Result ℕ StreamFault) → ShowEnds g text limit (Some bytes) i' o o' result → (IsErrOf result EmptyPacket → (span g).least ≡ 0) → NoShowRefusal g text values bytes o o' result
        shown few (Ok count) e none = all_shown count e
        shown few (Err (LineTooLong n)) e none = absurd e
        shown few (Err InputTooLong) e none = not_past bytes e.given e.byte limit i' e.taken e.full few
        shown few (Err EmptyPacket) e none = omega (arith, some, none refl)
        shown few (Err (Packet number fault)) e none = not_refused text number fault e
        shown few (Err (BadLine n fault)) e none = absurd e
        shown few (Err (Unfit n fault)) e none = absurd e
        shown few (Err InputFault) e none = tt
        shown few (Err OutputFault) e none = tt
        shown few (Err NoMemory) e none = tt
