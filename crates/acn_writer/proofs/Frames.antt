-- Contents that begin, and contents that end.
use Rattle.std.proofs.Common.{◌≡◌, ℕ, ◌+◌, ◌-◌, ◌<◌, ◌≤◌, pos, Bool, true, false, List, [], ◌∷◌, length, replicate, Some, None, refl, sym, ap, ◌∙◌, subst, arith}
use Rattle.std.proofs.lemmas.List.{length-replicate}
use Rattle.acn_num.specs.Bits.{bits, low_bits}
use Rattle.acn_num.specs.Ranges.{has}
use Rattle.acn_num.specs.declared.limits.TheConstants.{MOST_STEPS}
use Rattle.acn_bits.specs.Overwrite.{Gap, overwritten}
use Rattle.acn_bits.specs.Writing.{Writes, place_of}
use Rattle.acn_bits.specs.declared.word.TheConstants.{WORD_BITS}
use Rattle.acn_bits.specs.declared.write_cursor.WriteCursor.{WriteCursor}
use Rattle.acn_fill.specs.Table.{OneMore, begun}
use Rattle.acn_grammar.specs.Asks.{Equal}
use Rattle.acn_grammar.specs.declared.node.SizeRule.{SizeRule}
use Rattle.acn_grammar.specs.declared.node.SizeRule.TheVariants.{Prefix, Slot}
use Rattle.acn_grammar.specs.declared.node.Sizing.{Sizing}
use Rattle.acn_events.specs.Event.{Frame, State, closes, enters, octets_in}
use Rattle.acn_events.specs.Steps.{CanClose, CanEnter, Closes, SizeFits, entered, gap_of, tail_of}
use Rattle.acn_events.proofs.Joins.{same_state}
use Rattle.acn_writer.specs.Answers.{Comes, HaltsFor, state_of}
use Rattle.acn_writer.specs.Slots.{OpenSlots}
use Rattle.acn_writer.specs.declared.halt.Halt.{Halt}
use Rattle.acn_writer.specs.declared.halt.Halt.TheVariants.{Lost}
use Rattle.acn_writer.specs.declared.writer.Writer.{Writer}
use Rattle.acn_writer.proofs.Buffers.{had_room}
use Rattle.acn_writer.proofs.FrameLists.{frame}
use Rattle.acn_writer.proofs.States.{halts_still}

-- Contents begin.

pub entered_sized : {N S A : ℕ} (old new : Writer N S A) (rule : SizeRule) (low width base : ℕ) (hole : Gap) → rule ≡ Prefix low width → length old.contents < MOST_STEPS → width ≤ WORD_BITS
    → Writes old.cursor new.cursor (place_of old.cursor) (replicate width false) (place_of old.cursor + width) → base ≡ place_of new.cursor → hole ≡ record { place = place_of old.cursor; width = width } → new.slots ≡ old.slots
    → new.contents ≡ frame base (Some hole) ∷ old.contents → Comes (λ path. enters rule) old new
entered_sized old new rule low width base hole is few narrow zeros at left s c =
    let contents =
    c ∙ (ap (λ (b : ℕ). frame b (Some hole) ∷ old.contents) (at ∙ zeros.moved) ∙ ap (λ (h : Gap). frame (place_of old.cursor + width) (Some h) ∷ old.contents) left) in
    let next =
    same_state (bits new.cursor.buf.now) (overwritten (bits old.cursor.buf.now) old.cursor.at (replicate width false)) new.cursor.at (old.cursor.at + width) new.slots.table old.slots.table new.slots.leaves old.slots.leaves new.contents
    (frame (place_of old.cursor + width) (Some (record { place = place_of old.cursor; width = width })) ∷ old.contents) zeros.changed zeros.moved (ap (λ (z : OpenSlots). z.table) s) (ap (λ (z : OpenSlots). z.leaves) s) contents in
    record {
      step = λ path. record {
        can = (few, subst (λ (r : SizeRule). CanEnter r (state_of old)) (sym is) (narrow, had_room old new.cursor (replicate width false) width (length-replicate width false) zeros));
        does = next ∙ ap (λ (r : SizeRule). entered r (state_of old)) (sym is);
      };
      same_buffer = zeros.same_buffer;
    }

pub entered_bare : {N S A : ℕ} (old new : Writer N S A) (rule : SizeRule) (slot base : ℕ) → rule ≡ Slot slot → length old.contents < MOST_STEPS → base ≡ place_of old.cursor → new.cursor ≡ old.cursor → new.slots ≡ old.slots → new.contents ≡ frame base None ∷ old.contents
    → Comes (λ path. enters rule) old new
entered_bare old new rule slot base is few at k s c =
    let next =
    same_state (bits new.cursor.buf.now) (bits old.cursor.buf.now) new.cursor.at old.cursor.at new.slots.table old.slots.table new.slots.leaves old.slots.leaves new.contents (frame old.cursor.at None ∷ old.contents) (ap (λ (z : WriteCursor _). bits z.buf.now) k)
    (ap (λ (z : WriteCursor _). z.at) k) (ap (λ (z : OpenSlots). z.table) s) (ap (λ (z : OpenSlots). z.leaves) s) (c ∙ ap (λ (b : ℕ). frame b None ∷ old.contents) at) in
    record {
      step = λ path. record { can = (few, subst (λ (r : SizeRule). CanEnter r (state_of old)) (sym is) tt); does = next ∙ ap (λ (r : SizeRule). entered r (state_of old)) (sym is) };
      same_buffer = ap (λ (z : WriteCursor _). z.buf.ghost_name) k;
    }

-- Contents end whose size stands in front.

pub record SizedSo (low width k : ℕ) (allowed : Bool) (fs : List Frame) (m : State) : Type 0 where
  pub gap : Gap
  pub is : gap_of fs ≡ Some gap
  pub wide : gap.width ≡ width
  pub passed : gap.place + gap.width ≤ m.place
  pub fits : allowed ≡ true → SizeFits (Prefix low width) k

sized_so : (fs : List Frame) (low width k : ℕ) (allowed : Bool) (m : State) → CanClose (Prefix low width) k allowed fs m → SizedSo low width k allowed fs m
sized_so [] low width k allowed m c = absurd c
sized_so (f ∷ fs) low width k allowed m c = record { gap = c.0; is = c.1; wide = c.2; passed = c.3; fits = c.4 }

can_so : (fs : List Frame) (low width k : ℕ) (allowed : Bool) (m : State) → SizedSo low width k allowed fs m → CanClose (Prefix low width) k allowed fs m
can_so [] low width k allowed m s = (let e = s.is in cc)
can_so (f ∷ fs) low width k allowed m s = (s.gap, s.is, s.wide, s.passed, s.fits)

module _ {N S A : ℕ} (old : Writer N S A) (sizing : Sizing) (low width k n : ℕ) (is : sizing.rule ≡ Prefix low width) (e : k ≡ octets_in (state_of old)) where
  abbrev EndsSo : Type 0
  EndsSo = SizedSo low width k (has sizing.sizes (pos k)) old.contents (state_of old)

  pub sized_lost : (why : Halt) → why ≡ Lost → (EndsSo → ⊥) → HaltsFor (λ path. closes path sizing n) old old why
  sized_lost why told otherwise = halts_still (λ path. closes path sizing n) old why Lost told (λ path can. otherwise (so can))
    where
      so : CanClose sizing.rule (octets_in (state_of old)) (has sizing.sizes (pos (octets_in (state_of old)))) old.contents (state_of old) → EndsSo
      so can =
          let here = subst (λ (r : SizeRule). CanClose r (octets_in (state_of old)) (has sizing.sizes (pos (octets_in (state_of old)))) old.contents (state_of old)) is can in
          sized_so old.contents low width k (has sizing.sizes (pos k)) (state_of old) (subst (λ (j : ℕ). CanClose (Prefix low width) j (has sizing.sizes (pos j)) old.contents (state_of old)) (sym e) here)

  pub closed_sized : (new : Writer N S A) (hole : Gap) → has sizing.sizes (pos k) ≡ true → gap_of old.contents ≡ Some hole → hole.width ≡ width → hole.place + hole.width ≤ place_of old.cursor → SizeFits (Prefix low width) k
      → Writes old.cursor new.cursor hole.place (low_bits hole.width (k - low)) (place_of old.cursor) → new.slots ≡ old.slots → new.contents ≡ tail_of old.contents → Comes (λ path. closes path sizing n) old new
  closed_sized new hole permitted own wide passed fits w s c =
      let so : EndsSo = record { gap = hole; is = own; wide = wide; passed = passed; fits = λ p. fits } in
      let can = subst (λ (j : ℕ). CanClose (Prefix low width) j (has sizing.sizes (pos j)) old.contents (state_of old)) e (can_so old.contents low width k (has sizing.sizes (pos k)) (state_of old) so) in
      let next =
      same_state (bits new.cursor.buf.now) (overwritten (bits old.cursor.buf.now) hole.place (low_bits width (k - low))) new.cursor.at old.cursor.at new.slots.table old.slots.table new.slots.leaves old.slots.leaves new.contents (tail_of old.contents)
      (w.changed ∙ ap (λ (j : ℕ). overwritten (bits old.cursor.buf.now) hole.place (low_bits j (k - low))) wide) w.moved (ap (λ (z : OpenSlots). z.table) s) (ap (λ (z : OpenSlots). z.leaves) s) c in
      let ended : Closes (Prefix low width) k (gap_of old.contents) (state_of old) (state_of new) = subst (λ z. Closes (Prefix low width) k z (state_of old) (state_of new)) (sym own) next in
      let here = subst (λ (j : ℕ). Closes (Prefix low width) j (gap_of old.contents) (state_of old) (state_of new)) e ended in
      record {
        step = λ path. record {
          can = subst (λ (r : SizeRule). CanClose r (octets_in (state_of old)) (has sizing.sizes (pos (octets_in (state_of old)))) old.contents (state_of old)) (sym is) can;
          does = (subst (λ (j : ℕ). has sizing.sizes (pos j) ≡ true) e permitted, subst (λ (r : SizeRule). Closes r (octets_in (state_of old)) (gap_of old.contents) (state_of old) (state_of new)) (sym is) here);
        };
        same_buffer = w.same_buffer;
      }

-- Contents end whose size is asked of a slot.

can_ask : (fs : List Frame) (slot k : ℕ) (allowed : Bool) (m : State) → 0 < length fs → gap_of fs ≡ None → begun m.table slot ≡ true → CanClose (Slot slot) k allowed fs m
can_ask [] slot k allowed m some none b = absurd (omega (arith, some))
can_ask (f ∷ fs) slot k allowed m some none b = (none, b)

pub closed_asking : {N S A : ℕ} (old new : Writer N S A) (sizing : Sizing) (slot k n : ℕ) → sizing.rule ≡ Slot slot → k ≡ octets_in (state_of old) → has sizing.sizes (pos k) ≡ true → 0 < length old.contents → gap_of old.contents ≡ None → begun old.slots.table slot ≡ true
    → OneMore slot (Equal (pos k)) old.slots.table new.slots.table → new.slots.leaves ≡ old.slots.leaves → new.cursor ≡ old.cursor → new.contents ≡ tail_of old.contents → Comes (λ path. closes path sizing n) old new
closed_asking old new sizing slot k n is e permitted some none b more leaves cur c =
    let octets = octets_in (state_of old) in
    let can = can_ask old.contents slot octets (has sizing.sizes (pos octets)) (state_of old) some none b in
    let next =
    same_state (bits new.cursor.buf.now) (bits old.cursor.buf.now) new.cursor.at old.cursor.at new.slots.table new.slots.table new.slots.leaves old.slots.leaves new.contents (tail_of old.contents) (ap (λ (z : WriteCursor _). bits z.buf.now) cur)
    (ap (λ (z : WriteCursor _). z.at) cur) refl leaves c in
    let asked = subst (λ (j : ℕ). OneMore slot (Equal (pos j)) old.slots.table new.slots.table) e more in
    record {
      step = λ path. record {
        can = subst (λ (r : SizeRule). CanClose r octets (has sizing.sizes (pos octets)) old.contents (state_of old)) (sym is) can;
        does = (subst (λ (j : ℕ). has sizing.sizes (pos j) ≡ true) e permitted, subst (λ (r : SizeRule). Closes r octets (gap_of old.contents) (state_of old) (state_of new)) (sym is) (asked, next));
      };
      same_buffer = ap (λ (z : WriteCursor _). z.buf.ghost_name) cur;
    }
