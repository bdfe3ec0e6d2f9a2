-- How far decoding came, and how it ends.
use Rattle.std.proofs.Common.{◌≡◌, ◌⊎◌, ℕ, ◌+◌, ◌^◌, ◌<◌, ◌≤◌, List, [], ◌∷◌, ◌++◌, length, Option, None, Some, Result, Ok, Err, IfSome, inl, inr, subst, sym, ap, refl, ◌∙◌, arith, length-append, append_assoc, append-nil}
use Rattle.acn_grammar.specs.Faults.{fault_of}
use Rattle.acn_grammar.specs.Grammar.{Grammar, Data}
use Rattle.acn_bounds.specs.Between.{SpellingsLieBetween}
use Rattle.acn_grammar.specs.Interval.{span}
use Rattle.acn_grammar.specs.LeafFails.{short}
use Rattle.acn_grammar.specs.declared.bounds.Bounds.{Bounds}
use Rattle.acn_grammar.specs.declared.limits.TheConstants.{MOST_PACKET_BITS}
use Rattle.acn_grammar.specs.declared.fault.Fault.{Fault}
use Rattle.acn_json.specs.Lines.{line_of}
use Rattle.acn_outside.specs.Counts.{Rose}
use Rattle.acn_outside.specs.Moves.{Takes, Gains, IsUsedUp}
use Rattle.acn_outside.specs.Whole.{GainsFront}
use Rattle.acn_outside.proofs.Joined.{gains_more}
use Rattle.acn_stream.specs.Recording.{IsPacket, IsStuck, IsUnfinished, Recording, Shown, Text, texts, lines_text}
use Rattle.acn_stream.specs.Decoding.{Begins, IsRefused, IsTooLong, IsCutOff, IsFront, IsStopped, ShowEnds, DecodeEnds}
use Rattle.acn_stream.specs.Steps.{IsBounded, TakesMany, Pauses, SoFar, end_of}
use Rattle.acn_stream.specs.declared.packets.Pause.TheVariants.{Wants, Refused}
use Rattle.acn_stream.specs.declared.stream_fault.StreamFault.{StreamFault}
use Rattle.acn_stream.specs.declared.stream_fault.StreamFault.TheVariants as stream
use Rattle.acn_supply.specs.Reading.{Supplied, Ends, Passes}
use Rattle.acn_supply.specs.declared.window.TheConstants.{MOST_IN_HAND}
use Rattle.acn_supply.proofs.Moving.{takes_nothing, takes_more}
use Rattle.acn_stream.proofs.Joining.{joined_on, texts_on, gains_nothing, lines_shown}
use Rattle.acn_stream.proofs.Taking.{short_is, not_short}

-- ---- what is known of the grammar

pub bounded : (g : Grammar) (b : Bounds) → b ≡ span g → 0 < b.least → b.greatest ≤ MOST_PACKET_BITS → SpellingsLieBetween g b → IsBounded g
bounded g b exact some few between = record {
  some = subst (λ (c : Bounds). 0 < c.least) exact some;
  few = subst (λ (c : Bounds). c.greatest ≤ MOST_PACKET_BITS) exact few;
  between = subst (SpellingsLieBetween g) exact between;
}

-- ---- so far

pub begun : (g : Grammar) (shown : Shown) (i o : Option (List ℕ)) (s : Supplied) → s.hand ≡ [] → SoFar g shown s.left i i o o s 0
begun g shown i o s none = record {
  values = [];
  packets = [];
  recording = refl;
  few = omega arith;
  taken = subst (Takes i i) (sym none) (takes_nothing i);
  counted = omega (arith, ap length none);
  all = refl;
  written = gains_nothing o;
}

-- packets more, whose lines were written
pub written_on : (g : Grammar) (shown : Shown) (limit : ℕ) (i i' o o' o'' : Option (List ℕ)) (s after : Supplied) (old text : List ℕ) (count n : ℕ)
    → SoFar g shown limit i i' o o' s count → TakesMany g shown s after old text count n → old ≡ [] → Gains o' o'' text → SoFar g shown limit i i' o o'' after n
written_on g shown limit i i' o o' o'' s after old text count n so m none gains =
    let whole : so.packets ++ s.hand ≡ (so.packets ++ m.packets) ++ after.hand = ap (λ (t : List ℕ). so.packets ++ t) m.cut ∙ sym (append_assoc so.packets m.packets after.hand) in
    let before = texts g shown 1 so.values so.packets so.recording in
    let more = texts g shown (count + 1) m.values m.packets m.recording in
    let there : text ≡ more = m.added ∙ ap (λ (t : List ℕ). t ++ more) none in
    let all : before ++ text ≡ texts g shown 1 (so.values ++ m.values) (so.packets ++ m.packets) (joined_on (IsPacket g) so.values m.values so.packets m.packets so.recording m.recording) =
    ap (λ (t : List ℕ). before ++ t) there ∙ sym (texts_on g shown 1 (count + 1) so.values m.values so.packets m.packets so.recording m.recording (omega (arith, so.all))) in
    record {
      values = so.values ++ m.values;
      packets = so.packets ++ m.packets;
      recording = joined_on (IsPacket g) so.values m.values so.packets m.packets so.recording m.recording;
      few = omega (arith, so.few, m.few, length-append so.values m.values, length-append so.packets m.packets);
      taken = subst (Takes i i') whole so.taken;
      counted = omega (arith, so.counted, m.left, ap length whole);
      all = omega (arith, so.all, m.all, length-append so.values m.values);
      written = subst (Gains o o'') all (gains_more o o' o'' before text so.written gains);
    }

-- the counts can be kept
pub room : (g : Grammar) (shown : Shown) (limit : ℕ) (i i' o o' : Option (List ℕ)) (s : Supplied) (count : ℕ) → SoFar g shown limit i i' o o' s count → limit < 2 ^ 64 → count + length s.hand < 2 ^ 64
room g shown limit i i' o o' s count so below = omega (arith, so.few, so.all, so.counted, below, length-append so.packets s.hand)

pub more_room : (g : Grammar) (shown : Shown) (limit : ℕ) (i i' o o' : Option (List ℕ)) (s : Supplied) (count : ℕ) (fault : Fault) → SoFar g shown limit i i' o o' s count → limit < 2 ^ 64 → Pauses g s.hand (Refused fault) → count + 1 < 2 ^ 64
more_room g shown limit i i' o o' s count fault so below p = omega (arith, room g shown limit i i' o o' s count so below, p.0.some)

-- ---- the ends

abbrev begins : (g : Grammar) (shown : Shown) (limit : ℕ) (i i' o o' : Option (List ℕ)) (s : Supplied) (count : ℕ) (so : SoFar g shown limit i i' o o' s count) → length s.hand ≤ MOST_IN_HAND → Begins g limit (so.packets ++ s.hand) so.values s.hand
begins g shown limit i i' o o' s count so few = record { packets = so.packets; whole = refl; recording = so.recording; within = omega (arith, so.counted); near = few }

nothing_more : (i i' i'' : Option (List ℕ)) (given : List ℕ) → Takes i i' given → Takes i' i'' [] → Takes i i'' given
nothing_more i i' i'' given a b = subst (Takes i i'') (append-nil given) (takes_more i i' i'' given [] a b)

pub refused : (g : Grammar) (shown : Shown) (limit : ℕ) (i i' i'' o o' : Option (List ℕ)) (s : Supplied) (count : ℕ) (fault : Fault)
    → SoFar g shown limit i i' o o' s count → Takes i' i'' [] → length s.hand ≤ MOST_IN_HAND → IsStuck g s.hand (fault_of fault) → ((fault_of fault).reason ≡ short → IsUsedUp i'') → IsRefused g (texts g shown 1) limit i i'' o o' (count + 1) fault
refused g shown limit i i' i'' o o' s count fault so taken few stuck ends = record {
  given = so.packets ++ s.hand;
  values = so.values;
  rest = s.hand;
  taken = nothing_more i i' i'' (so.packets ++ s.hand) so.taken taken;
  begins = begins g shown limit i i' o o' s count so few;
  counted = ap (λ (k : ℕ). k + 1) so.all;
  stuck = stuck;
  ends = ends;
  written = so.written;
}

pub refused_now : (g : Grammar) (shown : Shown) (limit : ℕ) (i i' o o' : Option (List ℕ)) (s : Supplied) (count : ℕ) (fault : Fault)
    → SoFar g shown limit i i' o o' s count → length s.hand ≤ MOST_IN_HAND → Pauses g s.hand (Refused fault) → IsRefused g (texts g shown 1) limit i i' o o' (count + 1) fault
refused_now g shown limit i i' o o' s count fault so few p = refused g shown limit i i' i' o o' s count fault so (takes_nothing i') few p.0 (λ e. absurd (not_short fault.reason p.1 e))

-- what is in hand, where more is wanted
pub wants_few : (g : Grammar) (hand : List ℕ) (wanting : Option Fault) → Pauses g hand (Wants wanting) → length hand < MOST_IN_HAND
wants_few g hand None p = omega (arith, ap length p)
wants_few g hand (Some fault) p = p.2

pub wants_room : (g : Grammar) (shown : Shown) (limit : ℕ) (i i' o o' : Option (List ℕ)) (s : Supplied) (count : ℕ) (wanting : Option Fault)
    → SoFar g shown limit i i' o o' s count → limit < 2 ^ 64 → Pauses g s.hand (Wants wanting) → IfSome wanting (λ fault. count + 1 < 2 ^ 64)
wants_room g shown limit i i' o o' s count None so below p = tt
wants_room g shown limit i i' o o' s count (Some fault) so below p = omega (arith, so.few, so.counted, so.all, below, p.0.some, length-append so.packets s.hand)

unfinished : (g : Grammar) (hand : List ℕ) (wanting : Option Fault) → Pauses g hand (Wants wanting) → IsUnfinished g hand
unfinished g hand None p = inl p
unfinished g hand (Some fault) p = inr (fault_of fault, p.0.reach, p.0.fails, short_is fault.reason p.1)

-- the input is used up
pub ended : (g : Grammar) (shown : Shown) (limit : ℕ) (i i' i'' o o' : Option (List ℕ)) (s after : Supplied) (count : ℕ) (wanting : Option Fault)
    → SoFar g shown limit i i' o o' s count → Pauses g s.hand (Wants wanting) → Ends s after i' i'' → ShowEnds g (texts g shown 1) limit i i'' o o' (end_of count wanting)
ended g shown limit i i' i'' o o' s after count None so p e =
    let all : so.packets ++ s.hand ≡ so.packets = ap (λ (t : List ℕ). so.packets ++ t) p ∙ append-nil so.packets in
    record {
      given = so.packets;
      values = so.values;
      taken = nothing_more i i' i'' so.packets (subst (Takes i i') all so.taken) e.taken;
      used_up = e.used_up;
      recording = so.recording;
      within = omega (arith, so.counted, ap length all);
      counted = so.all;
      written = so.written;
    }
ended g shown limit i i' i'' o o' s after count (Some fault) so p e =
    refused g shown limit i i' i'' o o' s count fault so e.taken (omega (arith, p.2)) p.0 (λ short. e.used_up)

-- a read failed
pub cut_off : (g : Grammar) (shown : Shown) (limit : ℕ) (i i' i'' o o' : Option (List ℕ)) (s : Supplied) (count : ℕ) (wanting : Option Fault)
    → SoFar g shown limit i i' o o' s count → Pauses g s.hand (Wants wanting) → i'' ≡ i' → IsCutOff g (texts g shown 1) limit i i'' o o'
cut_off g shown limit i i' i'' o o' s count wanting so p e =
    let few = wants_few g s.hand wanting p in
    record {
      given = so.packets ++ s.hand;
      values = so.values;
      rest = s.hand;
      taken = subst (λ (left : Option (List ℕ)). Takes i left (so.packets ++ s.hand)) (sym e) so.taken;
      begins = begins g shown limit i i' o o' s count so (omega (arith, few));
      unfinished = unfinished g s.hand wanting p;
      written = so.written;
    }

pub passed : (g : Grammar) (shown : Shown) (limit : ℕ) (i i' i'' o o' : Option (List ℕ)) (s after : Supplied) (count : ℕ) (wanting : Option Fault)
    → SoFar g shown limit i i' o o' s count → Pauses g s.hand (Wants wanting) → Passes s after i' i'' → IsTooLong g (texts g shown 1) limit i i'' o o'
passed g shown limit i i' i'' o o' s after count wanting so p m =
    let few = wants_few g s.hand wanting p in
    record {
      given = so.packets ++ s.hand;
      byte = m.byte;
      values = so.values;
      rest = s.hand;
      taken = takes_more i i' i'' (so.packets ++ s.hand) (m.byte ∷ []) so.taken m.taken;
      full = omega (arith, so.counted, m.none_left);
      begins = begins g shown limit i i' o o' s count so (omega (arith, few));
      room = few;
      unfinished = unfinished g s.hand wanting p;
      written = so.written;
    }

pub stopped : (g : Grammar) (shown : Shown) (limit : ℕ) (i i' o o' : Option (List ℕ)) (s : Supplied) (count : ℕ) → SoFar g shown limit i i' o o' s count → length s.hand ≤ MOST_IN_HAND → IsStopped g (texts g shown 1) limit i i' o o'
stopped g shown limit i i' o o' s count so few = record {
  given = so.packets ++ s.hand;
  values = so.values;
  rest = s.hand;
  taken = so.taken;
  begins = begins g shown limit i i' o o' s count so few;
  written = so.written;
}

pub never_begun : (g : Grammar) (shown : Shown) (limit : ℕ) (i o : Option (List ℕ)) → IsStopped g (texts g shown 1) limit i i o o
never_begun g shown limit i o = stopped g shown limit i i o o (record { hand = []; left = limit }) 0 (begun g shown i o (record { hand = []; left = limit }) refl) (omega arith)

-- a write failed
pub front : (g : Grammar) (shown : Shown) (limit : ℕ) (i i' o o' o'' : Option (List ℕ)) (s after : Supplied) (old text : List ℕ) (count n : ℕ)
    → SoFar g shown limit i i' o o' s count → TakesMany g shown s after old text count n → old ≡ [] → length after.hand ≤ MOST_IN_HAND → GainsFront o' o'' text → IsFront g (texts g shown 1) limit i i' o o''
front g shown limit i i' o o' o'' s after old text count n so m none few f =
    let whole : so.packets ++ s.hand ≡ (so.packets ++ m.packets) ++ after.hand = ap (λ (t : List ℕ). so.packets ++ t) m.cut ∙ sym (append_assoc so.packets m.packets after.hand) in
    let before = texts g shown 1 so.values so.packets so.recording in
    let more = texts g shown (count + 1) m.values m.packets m.recording in
    let there : text ≡ more = m.added ∙ ap (λ (t : List ℕ). t ++ more) none in
    let all : texts g shown 1 (so.values ++ m.values) (so.packets ++ m.packets) (joined_on (IsPacket g) so.values m.values so.packets m.packets so.recording m.recording) ≡ (before ++ f.0) ++ f.1 =
    texts_on g shown 1 (count + 1) so.values m.values so.packets m.packets so.recording m.recording (omega (arith, so.all)) ∙ ap (λ (t : List ℕ). before ++ t) (sym there ∙ f.2) ∙ sym (append_assoc before f.0 f.1) in
    record {
      given = so.packets ++ s.hand;
      values = so.values ++ m.values;
      rest = after.hand;
      taken = so.taken;
      begins = record {
        packets = so.packets ++ m.packets;
        whole = whole;
        recording = joined_on (IsPacket g) so.values m.values so.packets m.packets so.recording m.recording;
        within = omega (arith, so.counted);
        near = few;
      };
      written = (before ++ f.0, f.1, all, gains_more o o' o'' before f.0 so.written f.3);
    }

-- a count that rose later
pub rose_later : (a b c : ℕ) → a ≤ b → b ≤ c → Rose b c → Rose a c
rose_later a b c less falls (inl h) = inl (omega (arith, less, h))
rose_later a b c less falls (inr h) = by_order (le_cases a b less)
  where
    le_cases : (m n : ℕ) → m ≤ n → (m < n) ⊎ (m ≡ n)
    le_cases m n h = grind arith

    by_order : (a < b) ⊎ (a ≡ b) → Rose a c
    by_order (inl l) = inl (omega (arith, l, falls))
    by_order (inr e) = inr (e ∙ h)

-- ---- another text that is the same

module _ (g : Grammar) (text other : Text g) (same : (values : List Data) (packets : List ℕ) (r : Recording g values packets) → text values packets r ≡ other values packets r) (limit : ℕ) (i i' o o' : Option (List ℕ)) where
  gained : (values : List Data) (packets : List ℕ) (r : Recording g values packets) → Gains o o' (text values packets r) → Gains o o' (other values packets r)
  gained values packets r h = subst (Gains o o') (same values packets r) h

  pub ends_so : (result : Result ℕ StreamFault) → ShowEnds g text limit i i' o o' result → ShowEnds g other limit i i' o o' result
  ends_so (Ok count) e = record { given = e.given; values = e.values; taken = e.taken; used_up = e.used_up; recording = e.recording; within = e.within; counted = e.counted; written = gained e.values e.given e.recording e.written }
  ends_so (Err (stream.LineTooLong line)) e = absurd e
  ends_so (Err stream.InputTooLong) e = record { given = e.given; byte = e.byte; values = e.values; rest = e.rest; taken = e.taken; full = e.full; begins = e.begins; room = e.room; unfinished = e.unfinished; written = gained e.values e.begins.packets e.begins.recording e.written }
  ends_so (Err stream.EmptyPacket) e = e
  ends_so (Err (stream.Packet number fault)) e = record { given = e.given; values = e.values; rest = e.rest; taken = e.taken; begins = e.begins; counted = e.counted; stuck = e.stuck; ends = e.ends; written = gained e.values e.begins.packets e.begins.recording e.written }
  ends_so (Err (stream.BadLine number fault)) e = absurd e
  ends_so (Err (stream.Unfit number fault)) e = absurd e
  ends_so (Err stream.InputFault) e = record { given = e.given; values = e.values; rest = e.rest; taken = e.taken; begins = e.begins; unfinished = e.unfinished; written = gained e.values e.begins.packets e.begins.recording e.written }
  ends_so (Err stream.OutputFault) e = record { given = e.given; values = e.values; rest = e.rest; taken = e.taken; begins = e.begins; written = subst (GainsFront o o') (same e.values e.begins.packets e.begins.recording) e.written }
  ends_so (Err stream.NoMemory) e = record { given = e.given; values = e.values; rest = e.rest; taken = e.taken; begins = e.begins; written = gained e.values e.begins.packets e.begins.recording e.written }

-- what is shown by decoding
pub decoded : (g : Grammar) (limit : ℕ) (i i' o o' : Option (List ℕ)) (result : Result ℕ StreamFault) → ShowEnds g (texts g (λ number d piece. line_of g d ++ 10 ∷ []) 1) limit i i' o o' result → DecodeEnds g limit i i' o o' result
decoded g limit i i' o o' result e = ends_so g (texts g (λ number d piece. line_of g d ++ 10 ∷ []) 1) (lines_text g) (lines_shown g 1) limit i i' o o' result e

pub never_decoded : (g : Grammar) (limit : ℕ) (i o : Option (List ℕ)) → IsStopped g (lines_text g) limit i i o o
never_decoded g limit i o = decoded g limit i i o o (Err stream.NoMemory) (never_begun g (λ number d piece. line_of g d ++ 10 ∷ []) limit i o)
