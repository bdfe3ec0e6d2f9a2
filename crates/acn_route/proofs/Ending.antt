-- How far routing came, and how it ends.
use Rattle.std.proofs.Common.{◌≡◌, ◌⊎◌, ℕ, ◌+◌, ◌^◌, ◌<◌, ◌≤◌, List, [], ◌∷◌, ◌++◌, length, Option, None, Some, Result, Ok, Err, inl, inr, subst, sym, ap, refl, ◌∙◌, arith, length-append, append_assoc, append-nil}
use Rattle.std.specs.List.{concat}
use Rattle.acn_outside.specs.Counts.{Rose}
use Rattle.acn_outside.specs.Moves.{Takes, Gains, IsUsedUp}
use Rattle.acn_outside.specs.Whole.{GainsFront}
use Rattle.acn_outside.proofs.Joined.{gains_more}
use Rattle.acn_route.specs.Counting.{total}
use Rattle.acn_route.specs.Listed.{Listed}
use Rattle.acn_route.specs.Routing.{Line, IsLine, Routed, IsTooLong, IsCutOff, IsFront, IsStopped, RouteEnds, packets_of, text_of, counts_of}
use Rattle.acn_route.specs.Space.{IsUnfinished}
use Rattle.acn_route.specs.Steps.{TakesMany, Pauses, SoFar, ahead, end_of}
use Rattle.acn_route.specs.declared.count.RouteCount.{RouteCount}
use Rattle.acn_route.specs.declared.packets.Pause.TheVariants.{Wants}
use Rattle.acn_route.specs.declared.route_fault.RouteFault.TheVariants.{Cut}
use Rattle.acn_supply.specs.Reading.{Supplied, Ends, Passes, Grows}
use Rattle.acn_supply.specs.declared.window.TheConstants.{MOST_IN_HAND}
use Rattle.acn_supply.proofs.Moving.{takes_nothing, takes_more}
use Rattle.acn_route.proofs.Counts.{each_on, packets_on, bytes_on, text_on}

gains_nothing : (o : Option (List ℕ)) → Gains o o []
gains_nothing None = tt
gains_nothing (Some bytes) = (bytes, refl, sym (append-nil bytes))

nothing_more : (i i' i'' : Option (List ℕ)) (given : List ℕ) → Takes i i' given → Takes i' i'' [] → Takes i i'' given
nothing_more i i' i'' given a b = subst (Takes i i'') (append-nil given) (takes_more i i' i'' given [] a b)

pub begun : (routes : List Listed) (i o : Option (List ℕ)) (s : Supplied) (c : RouteCount) → s.hand ≡ [] → c ≡ counts_of [] → SoFar routes s.left i i o o s c
begun routes i o s c none zero = record {
  lines = [];
  each = tt;
  packets = tt;
  few = omega (arith, ap length none);
  taken = subst (Takes i i) (sym none) (takes_nothing i);
  counted = omega (arith, ap length none);
  all = zero;
  most = ap total zero;
  written = gains_nothing o;
}

module _ (routes : List Listed) (limit : ℕ) (i i' o o' : Option (List ℕ)) (s : Supplied) (c : RouteCount) (so : SoFar routes limit i i' o o' s c) where
  -- the counts can be kept
  pub room : limit < 2 ^ 64 → total c + length s.hand < 2 ^ 64
  room below = omega (arith, so.few, so.most, below)

  -- the packets of more lines, and what is in hand behind them
  whole_on : (after : Supplied) (old text : List ℕ) (n : RouteCount) (m : TakesMany routes s after old text c n) → concat (packets_of so.lines) ++ s.hand ≡ concat (packets_of (so.lines ++ m.lines)) ++ after.hand
  whole_on after old text n m =
      ap (λ (t : List ℕ). concat (packets_of so.lines) ++ t) m.cut
      ∙ sym (append_assoc (concat (packets_of so.lines)) (concat (packets_of m.lines)) after.hand)
      ∙ ap (λ (t : List ℕ). t ++ after.hand) (sym (bytes_on so.lines m.lines))

  -- packets more, whose lines were written
  pub written_on : (o'' : Option (List ℕ)) (after : Supplied) (old text : List ℕ) (n : RouteCount) → TakesMany routes s after old text c n → old ≡ [] → Gains o' o'' text → SoFar routes limit i i' o o'' after n
  written_on o'' after old text n m none gains =
      let whole = whole_on after old text n m in
      let there : text ≡ text_of m.lines = m.added ∙ ap (λ (t : List ℕ). t ++ text_of m.lines) none in
      let all : text_of so.lines ++ text ≡ text_of (so.lines ++ m.lines) = ap (λ (t : List ℕ). text_of so.lines ++ t) there ∙ sym (text_on so.lines m.lines) in
      record {
        lines = so.lines ++ m.lines;
        each = each_on (IsLine routes) so.lines m.lines so.each m.each;
        packets = packets_on so.lines m.lines so.packets m.packets;
        few = omega (arith, so.few, m.few, m.left, length-append so.lines m.lines);
        taken = subst (Takes i i') whole so.taken;
        counted = omega (arith, so.counted, m.left, ap length whole);
        all = m.all so.lines so.all;
        most = omega (arith, m.most, so.most, length-append so.lines m.lines);
        written = subst (Gains o o'') all (gains_more o o' o'' (text_of so.lines) text so.written gains);
      }

  -- ---- the ends

  routed : length s.hand ≤ MOST_IN_HAND → Routed routes limit (concat (packets_of so.lines) ++ s.hand) so.lines s.hand
  routed near = record {
    begun = record { front = concat (packets_of so.lines); whole = refl; space = record { joined = refl; each = so.packets } };
    each = so.each;
    within = omega (arith, so.counted);
    near = near;
  }

  -- more is in hand
  pub grown : (i'' : Option (List ℕ)) (after : Supplied) → Grows s after i' i'' → SoFar routes limit i i'' o o' after c
  grown i'' after m =
      let front = concat (packets_of so.lines) in
      let whole : (front ++ s.hand) ++ m.given ≡ front ++ after.hand = append_assoc front s.hand m.given ∙ ap (λ (t : List ℕ). front ++ t) (sym m.added) in
      let long = ap length m.added ∙ length-append s.hand m.given in
      record {
        lines = so.lines;
        each = so.each;
        packets = so.packets;
        few = omega (arith, so.few, m.counted, long);
        taken = subst (Takes i i'') whole (takes_more i i' i'' (front ++ s.hand) m.given so.taken m.taken);
        counted = omega (arith, so.counted, m.counted, ap length whole, length-append (front ++ s.hand) m.given);
        all = so.all;
        most = so.most;
        written = so.written;
      }

  -- the input is used up
  pub ended : (i'' : Option (List ℕ)) (after : Supplied) → Pauses s.hand Wants → Ends s after i' i'' → RouteEnds routes limit i i'' o o' (end_of s.hand c)
  ended i'' after p e = by_hand s.hand refl
    where
      taken : Takes i i'' (concat (packets_of so.lines) ++ s.hand)
      taken = nothing_more i i' i'' (concat (packets_of so.lines) ++ s.hand) so.taken e.taken

      by_hand : (hand : List ℕ) → s.hand ≡ hand → RouteEnds routes limit i i'' o o' (end_of hand c)
      by_hand [] h =
          let all : concat (packets_of so.lines) ++ s.hand ≡ concat (packets_of so.lines) = ap (λ (t : List ℕ). concat (packets_of so.lines) ++ t) h ∙ append-nil (concat (packets_of so.lines)) in
          record {
            given = concat (packets_of so.lines);
            lines = so.lines;
            taken = subst (Takes i i'') all taken;
            used_up = e.used_up;
            within = omega (arith, so.counted, ap length all);
            space = record { joined = refl; each = so.packets };
            each = so.each;
            counted = so.all;
            written = so.written;
          }
      by_hand (b ∷ hand) h = record {
        given = concat (packets_of so.lines) ++ s.hand;
        lines = so.lines;
        rest = s.hand;
        taken = taken;
        used_up = e.used_up;
        routed = routed (omega (arith, p.1));
        unfinished = p.0;
        some = omega (arith, ap length h);
        numbered = omega (arith, so.most);
        counted = sym (ap length h);
        written = so.written;
      }

  -- a read failed
  pub cut_off : (i'' : Option (List ℕ)) → Pauses s.hand Wants → i'' ≡ i' → IsCutOff routes limit i i'' o o'
  cut_off i'' p e = record {
    given = concat (packets_of so.lines) ++ s.hand;
    lines = so.lines;
    rest = s.hand;
    taken = subst (λ (left : Option (List ℕ)). Takes i left (concat (packets_of so.lines) ++ s.hand)) (sym e) so.taken;
    routed = routed (omega (arith, p.1));
    unfinished = p.0;
    written = so.written;
  }

  -- one byte more came than may be taken
  pub passed : (i'' : Option (List ℕ)) (after : Supplied) → Pauses s.hand Wants → Passes s after i' i'' → IsTooLong routes limit i i'' o o'
  passed i'' after p m = record {
    given = concat (packets_of so.lines) ++ s.hand;
    byte = m.byte;
    lines = so.lines;
    rest = s.hand;
    taken = takes_more i i' i'' (concat (packets_of so.lines) ++ s.hand) (m.byte ∷ []) so.taken m.taken;
    full = omega (arith, so.counted, m.none_left);
    routed = routed (omega (arith, p.1));
    unfinished = p.0;
    written = so.written;
  }

  pub stopped : length s.hand ≤ MOST_IN_HAND → IsStopped routes limit i i' o o'
  stopped near = record { given = concat (packets_of so.lines) ++ s.hand; lines = so.lines; rest = s.hand; taken = so.taken; routed = routed near; written = so.written }

  -- a write failed
  pub front : (o'' : Option (List ℕ)) (after : Supplied) (old text : List ℕ) (n : RouteCount) → TakesMany routes s after old text c n → old ≡ [] → length after.hand ≤ MOST_IN_HAND → GainsFront o' o'' text → IsFront routes limit i i' o o''
  front o'' after old text n m none near f =
      let whole = whole_on after old text n m in
      let there : text ≡ text_of m.lines = m.added ∙ ap (λ (t : List ℕ). t ++ text_of m.lines) none in
      let all : text_of (so.lines ++ m.lines) ≡ (text_of so.lines ++ f.0) ++ f.1 =
      text_on so.lines m.lines ∙ ap (λ (t : List ℕ). text_of so.lines ++ t) (sym there ∙ f.2) ∙ sym (append_assoc (text_of so.lines) f.0 f.1) in
      record {
        given = concat (packets_of so.lines) ++ s.hand;
        lines = so.lines ++ m.lines;
        rest = after.hand;
        taken = so.taken;
        routed = record {
          begun = record { front = concat (packets_of (so.lines ++ m.lines)); whole = whole; space = record { joined = refl; each = packets_on so.lines m.lines so.packets m.packets } };
          each = each_on (IsLine routes) so.lines m.lines so.each m.each;
          within = omega (arith, so.counted);
          near = near;
        };
        written = (text_of so.lines ++ f.0, f.1, all, gains_more o o' o'' (text_of so.lines) f.0 so.written f.3);
      }

-- what is in hand at the end of the input
pub at_none : (hand : List ℕ) (c : RouteCount) → length hand ≡ 0 → Ok c ≡ end_of hand c
at_none [] c h = refl
at_none (b ∷ hand) c h = absurd (omega arith)

pub at_some : (hand : List ℕ) (c : RouteCount) (n k : ℕ) → (length hand ≡ 0 → ⊥) → n ≡ total c + 1 → k ≡ length hand → Err (Cut n k) ≡ end_of hand c
at_some [] c n k h e f = absurd (h refl)
at_some (b ∷ hand) c n k h e f = ap (λ (x : ℕ). Err (Cut x k)) e ∙ ap (λ (y : ℕ). Err (Cut (total c + 1) y)) f

-- what is ahead gets less where bytes come
pub less_ahead : (s after : Supplied) (i i' : Option (List ℕ)) → Grows s after i i' → ahead after < ahead s
less_ahead s after i i' m = omega (arith, m.some, m.counted, ap length m.added, length-append s.hand m.given)

pub never_begun : (routes : List Listed) (limit : ℕ) (i o : Option (List ℕ)) → IsStopped routes limit i i o o
never_begun routes limit i o =
    let s : Supplied = record { hand = []; left = limit } in
    stopped routes limit i i o o s (counts_of []) (begun routes i o s (counts_of []) refl refl) (omega arith)

-- a count that rose later
pub rose_later : (a b c : ℕ) → a ≤ b → b ≤ c → Rose b c → Rose a c
rose_later a b c less falls (inl h) = inl (omega (arith, less, h))
rose_later a b c less falls (inr h) = by_order (le_cases a b less)
  where
    le_cases : (m n : ℕ) → m ≤ n → (m < n) ⊎ (m ≡ n)
    le_cases m n h = grind arith

    by_order : (a < b) ⊎ (a ≡ b) → Rose a c
    by_order (inl l) = inl (omega (arith, l, falls))
    by_order (inr e) = inr (e ∙ h)
