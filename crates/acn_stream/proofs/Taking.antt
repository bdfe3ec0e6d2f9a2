-- Packets at the front of what is in hand.
use Rattle.std.proofs.Common.{◌≡◌, ℕ, ◌+◌, ◌*◌, ◌<◌, ◌≤◌, ◌==◌, Bool, true, false, cond, List, [], ◌∷◌, ◌++◌, length, take, drop, Some, sym, ap, refl, ◌∙◌, arith, take-append-drop, length-take, length-drop, length-append, append_assoc, append-nil}
use Rattle.std.proofs.lemmas.List.{take-append-le}
use Rattle.acn_num.specs.Bits.{bits, octets}
use Rattle.acn_num.proofs.BitLists.{length-bits, bits-append}
use Rattle.acn_grammar.specs.Code.{Any}
use Rattle.acn_grammar.specs.Faults.{reason_of, fault_of}
use Rattle.acn_grammar.specs.Front.{Front}
use Rattle.acn_grammar.specs.Grammar.{Grammar, Data}
use Rattle.acn_grammar.specs.LeafFails.{short}
use Rattle.acn_grammar.specs.declared.fault.Fault.{Fault}
use Rattle.acn_grammar.specs.declared.fault.Reason.{Reason}
use Rattle.acn_grammar.specs.declared.fault.Reason.TheVariants.{Short, OutOfRange, NotMinimal, BadDigit, BadCharacter, BadPattern, TooLong, SizeOutOfRange, NoAlternative, ContentSize, PastContent}
use Rattle.acn_grammar.specs.declared.fault.Refuse.{Refuse}
use Rattle.acn_grammar.specs.declared.fault.Refuse.TheVariants.{Bad, NoMemory}
use Rattle.acn_packet_laws.specs.Laws.{IsAccepted, ShortIsNear}
use Rattle.acn_reads.specs.Answers.{Refuses, OnlyFault}
use Rattle.acn_stream.specs.Recording.{IsPacket, IsStuck, Shown, texts}
use Rattle.acn_stream.specs.Steps.{IsBounded, is_short, pause_of, NotFull, TakesOne, TakesMany, Pauses}
use Rattle.acn_stream.specs.declared.packets.Pause.TheVariants.{Wants, Refused}
use Rattle.acn_supply.specs.Reading.{Supplied}
use Rattle.acn_supply.specs.declared.window.TheConstants.{MOST_IN_HAND}
use Rattle.acn_stream.proofs.Joining.{joined_on, joined_one, texts_on, texts_one}

pub short_is : (r : Reason) → is_short r ≡ true → reason_of r ≡ short
short_is Short h = refl
short_is (OutOfRange x) h = absurd cc
short_is NotMinimal h = absurd cc
short_is BadDigit h = absurd cc
short_is BadCharacter h = absurd cc
short_is BadPattern h = absurd cc
short_is TooLong h = absurd cc
short_is (SizeOutOfRange n) h = absurd cc
short_is NoAlternative h = absurd cc
short_is (ContentSize n used) h = absurd cc
short_is PastContent h = absurd cc

pub not_short : (r : Reason) → is_short r ≡ false → reason_of r ≡ short → ⊥
not_short Short h e = absurd cc
not_short (OutOfRange x) h e = cc
not_short NotMinimal h e = cc
not_short BadDigit h e = cc
not_short BadCharacter h e = cc
not_short BadPattern h e = cc
not_short TooLong h e = cc
not_short (SizeOutOfRange n) h e = cc
not_short NoAlternative h e = cc
not_short (ContentSize n used) h e = cc
not_short PastContent h e = cc

-- ---- one packet

-- the octets that hold n of the bits
pub held : (hand : List ℕ) (n : ℕ) → n ≤ length (bits hand) → length (take (octets n) hand) ≡ octets n
held hand n h = simp length-take (omega (arith, h, length-bits hand))

pub packet_there : (g : Grammar) (hand : List ℕ) (d : Data) (n : ℕ) → Front g (bits hand) d n → IsPacket g d (take (octets n) hand)
packet_there g hand d n f =
    let piece = take (octets n) hand in
    let long : length piece ≡ octets n = held hand n f.within in
    let split : piece ++ drop (octets n) hand ≡ hand = take-append-drop (octets n) hand in
    let parts : bits hand ≡ bits piece ++ bits (drop (octets n) hand) = ap bits (sym split) ∙ bits-append piece (drop (octets n) hand) in
    let size : length (bits piece) ≡ 8 * octets n = length-bits piece ∙ ap (λ (k : ℕ). 8 * k) long in
    let same : take n (bits hand) ≡ take n (bits piece) = ap (λ (t : List Bool). take n t) parts ∙ take-append-le n (bits piece) (bits (drop (octets n) hand)) (omega (arith, size)) in
    record {
      spelling = take n (bits hand);
      fill = drop n (bits piece);
      whole = sym (ap (λ (t : List Bool). t ++ drop n (bits piece)) same ∙ take-append-drop n (bits piece));
      spelled = f.spelled;
      few = omega (arith, size, length-drop n (bits piece));
    }

-- each packet has a bit
some_bits : (g : Grammar) (hand : List ℕ) (d : Data) (n : ℕ) → IsBounded g → Front g (bits hand) d n → 0 < n
some_bits g hand d n b f =
    let long : length (take n (bits hand)) ≡ n = simp length-take (omega (arith, f.within)) in
    let least = (b.between Any d (take n (bits hand)) f.spelled).0 in
    omega (arith, long, least, b.some)

pub takes_one : (g : Grammar) (shown : Shown) (count : ℕ) (before after : Supplied) (old new : List ℕ) (d : Data) (n : ℕ) → IsBounded g → Front g (bits before.hand) d n
    → after ≡ record { hand = drop (octets n) before.hand; left = before.left } → new ≡ old ++ shown (count + 1) d (take (octets n) before.hand) → TakesOne g shown count before after old new
takes_one g shown count before after old new d n b f same added =
    let some = some_bits g before.hand d n b f in
    let long = held before.hand n f.within in
    record {
      value = d;
      piece = take (octets n) before.hand;
      packet = packet_there g before.hand d n f;
      some = omega (arith, some, long);
      cut = sym (take-append-drop (octets n) before.hand) ∙ ap (λ (s : Supplied). take (octets n) before.hand ++ s.hand) (sym same);
      left = ap (λ (s : Supplied). s.left) same;
      added = added;
    }

-- the same, where the octets in hand were counted and are skipped
pub takes_skipped : (g : Grammar) (shown : Shown) (count : ℕ) (before after : Supplied) (hand : List ℕ) (size : ℕ) (old new : List ℕ) (d : Data) (n : ℕ) → IsBounded g → hand ≡ before.hand → size ≡ octets n → Front g (bits hand) d n
    → after ≡ record { hand = drop size before.hand; left = before.left } → new ≡ old ++ shown (count + 1) d (take (octets n) hand) → TakesOne g shown count before after old new
takes_skipped g shown count before after hand size old new d n b same counted f skipped added =
    takes_one g shown count before after old new d n b (rw same at f) (skipped ∙ ap (λ (k : ℕ). record { hand = drop k before.hand; left = before.left }) counted) (rw same at added)

pub some_bytes : (bytes : List ℕ) → (length bytes == 0) ≡ false → 0 < length bytes
some_bytes [] h = absurd cc
some_bytes (b ∷ bytes) h = omega arith

-- where bits are wanting there is room for more
near : (g : Grammar) (hand : List ℕ) (fault : Fault) → ShortIsNear → IsAccepted g → IsBounded g → Refuses g (bits hand) (Bad fault) → is_short fault.reason ≡ true → length hand < MOST_IN_HAND
near g hand fault law accepted b r h =
    let less = law g (bits hand) (fault_of fault) r.0 accepted r.1 (short_is fault.reason h) in
    omega (arith, less, b.few, length-bits hand)

-- bytes that no packet begins
pub paused : (g : Grammar) (hand : List ℕ) (why : Refuse) → ShortIsNear → IsAccepted g → IsBounded g → 0 < length hand → Refuses g (bits hand) why → OnlyFault g (bits hand) why → Pauses g hand (pause_of why) × NotFull (pause_of why)
paused g hand NoMemory law accepted b some r o = (tt, tt)
paused g hand (Bad fault) law accepted b some r o = by_test (is_short fault.reason) refl
  where
    stuck : IsStuck g hand (fault_of fault)
    stuck = record { some = some; reach = r.0; fails = r.1; only = o.0; no_front = o.1 }

    by_test : (t : Bool) → is_short fault.reason ≡ t → Pauses g hand (cond t (Wants (Some fault)) (Refused fault)) × NotFull (cond t (Wants (Some fault)) (Refused fault))
    by_test true e = ((stuck, e, near g hand fault law accepted b r e), tt)
    by_test false e = ((stuck, e), tt)

-- ---- more packets

pub takes_none : (g : Grammar) (shown : Shown) (s : Supplied) (old : List ℕ) (count : ℕ) → TakesMany g shown s s old old count count
takes_none g shown s old count = record { values = []; packets = []; recording = refl; few = omega arith; cut = refl; left = refl; added = sym (append-nil old); all = omega arith }

pub takes_more : (g : Grammar) (shown : Shown) (before mid after : Supplied) (old text new : List ℕ) (count n : ℕ) → TakesMany g shown before mid old text count n → TakesOne g shown n mid after text new → TakesMany g shown before after old new count (n + 1)
takes_more g shown before mid after old text new count n m one =
    let there = texts g shown (count + 1) m.values m.packets m.recording in
    let last = joined_one (IsPacket g) one.value one.piece one.packet in
    let both : texts g shown (count + 1) (m.values ++ one.value ∷ []) (m.packets ++ one.piece) (joined_on (IsPacket g) m.values (one.value ∷ []) m.packets one.piece m.recording last) ≡ there ++ shown (n + 1) one.value one.piece =
    texts_on g shown (count + 1) (n + 1) m.values (one.value ∷ []) m.packets one.piece m.recording last (omega (arith, m.all))
    ∙ ap (λ (t : List ℕ). there ++ t) (texts_one g shown (n + 1) one.value one.piece one.packet) in
    record {
      values = m.values ++ one.value ∷ [];
      packets = m.packets ++ one.piece;
      recording = joined_on (IsPacket g) m.values (one.value ∷ []) m.packets one.piece m.recording last;
      few = omega (arith, m.few, one.some, length-append m.values (one.value ∷ []), length-append m.packets one.piece);
      cut = m.cut ∙ ap (λ (t : List ℕ). m.packets ++ t) one.cut ∙ sym (append_assoc m.packets one.piece after.hand);
      left = one.left ∙ m.left;
      added = one.added ∙ ap (λ (t : List ℕ). t ++ shown (n + 1) one.value one.piece) m.added ∙ append_assoc old there (shown (n + 1) one.value one.piece) ∙ ap (λ (t : List ℕ). old ++ t) (sym both);
      all = omega (arith, m.all, length-append m.values (one.value ∷ []));
    }

-- where nothing changed
pub takes_kept : (g : Grammar) (shown : Shown) (before mid after : Supplied) (old text new : List ℕ) (count n : ℕ) → TakesMany g shown before mid old text count n → after ≡ mid → new ≡ text → TakesMany g shown before after old new count n
takes_kept g shown before mid after old text new count n m same kept = record {
  values = m.values;
  packets = m.packets;
  recording = m.recording;
  few = m.few;
  cut = m.cut ∙ ap (λ (s : Supplied). m.packets ++ s.hand) (sym same);
  left = ap (λ (s : Supplied). s.left) same ∙ m.left;
  added = kept ∙ m.added;
  all = m.all;
}

-- what is in hand gets shorter
pub shorter : (g : Grammar) (shown : Shown) (count : ℕ) (before after : Supplied) (old new : List ℕ) → TakesOne g shown count before after old new → length after.hand < length before.hand
shorter g shown count before after old new one = omega (arith, one.some, ap length one.cut, length-append one.piece after.hand)

pub no_longer : (g : Grammar) (shown : Shown) (before after : Supplied) (old new : List ℕ) (count n : ℕ) → TakesMany g shown before after old new count n → n + length after.hand ≤ count + length before.hand
no_longer g shown before after old new count n m = omega (arith, m.few, m.all, ap length m.cut, length-append m.packets after.hand)

pub not_longer : (g : Grammar) (shown : Shown) (before after : Supplied) (old new : List ℕ) (count n : ℕ) → TakesMany g shown before after old new count n → length after.hand ≤ length before.hand
not_longer g shown before after old new count n m = omega (arith, ap length m.cut, length-append m.packets after.hand)
