-- Slots and contents that end.
use Rattle.std.proofs.Common.{◌≡◌, ℕ, ◌+◌, ◌<◌, ◌≤◌, ℤ, pos, Bool, true, List, [], ◌∷◌, length, Option, Some, None, Result, Ok, Err, OnOk, OnErr, IsTrue, refl, sym, ap, ◌∙◌, subst, arith}
use Rattle.std.specs.Prelude.{option_map}
use Rattle.acn_num.specs.Bits.{bits}
use Rattle.acn_num.specs.Ranges.{has}
use Rattle.acn_bits.specs.Overwrite.{Gap, overwritten}
use Rattle.acn_bits.specs.Writing.{Fills, place_of}
use Rattle.acn_bits.specs.declared.write_cursor.WriteCursor.{WriteCursor}
use Rattle.acn_fill.specs.Table.{Keeps, begun, gap_at}
use Rattle.acn_grammar.specs.Asks.{Ask, Equal}
use Rattle.acn_grammar.specs.AsksOn.{LeastAnswer}
use Rattle.acn_grammar.specs.Faults.{ask_of}
use Rattle.acn_grammar.specs.Code.{Code, Written}
use Rattle.acn_grammar.specs.Leaves.{num_fine}
use Rattle.acn_grammar.specs.Interval.{width_of}
use Rattle.acn_grammar.specs.declared.node.NumLeaf.{NumLeaf}
use Rattle.acn_grammar.specs.declared.node.SizeRule.{SizeRule}
use Rattle.acn_grammar.specs.declared.node.SizeRule.TheVariants.{Slot}
use Rattle.acn_grammar.specs.declared.node.Sizing.{Sizing}
use Rattle.acn_events.specs.Event.{Frame, State, closes, fills, leaf_of, leaves_without, octets_in, wants}
use Rattle.acn_events.specs.Steps.{AsksInVain, CanClose, ClosesInVain, Ends, FillsGap, GapFits, Halts, gap_of}
use Rattle.acn_events.proofs.Joins.{same_state}
use Rattle.acn_writer.specs.Answers.{Comes, HaltsFor, state_of}
use Rattle.acn_writer.specs.Halts.{AsksHalt, class_of, halt_of}
use Rattle.acn_writer.specs.Slots.{OpenSlots}
use Rattle.acn_writer.specs.declared.halt.Halt.{Halt}
use Rattle.acn_writer.specs.declared.halt.Halt.TheVariants.{Breaks, Full, Lost, Miscounts, Unmet}
use Rattle.acn_writer.specs.declared.writer.Writer.{Writer}
use Rattle.acn_writer.proofs.LeafLists.{same_some}
use Rattle.acn_writer.proofs.States.{halts_still, not_both}

-- What follows from what an answer says.

pub on_ok : {X E A B : Type 0} (r : Result X E) → OnOk r A → (A → B) → OnOk r B
on_ok (Ok x) h f = f h
on_ok (Err e) h f = tt

pub on_err : {X E A B : Type 0} (r : Result X E) → OnErr r A → (A → B) → OnErr r B
on_err (Ok x) h f = tt
on_err (Err e) h f = f h

-- Slots end.

pub slot_filled : {N S A : ℕ} (old new : Writer N S A) (slot : ℕ) (g : Gap) (leaf : NumLeaf) (x : ℤ) (wanted : List Ask) → begun old.slots.table slot ≡ true → gap_at old.slots.table slot ≡ Some (Some g) → leaf_of slot old.slots.leaves ≡ Some leaf → width_of leaf ≡ Some g.width
    → g.place + g.width ≤ place_of old.cursor → Keeps leaf.set wanted old.slots.table slot → ((set : List (ℤ × ℤ)) (asked : List Ask) → Keeps set asked old.slots.table slot → LeastAnswer set asked x)
    → IsTrue (num_fine leaf) → Fills (Code Written leaf x) g.place old.cursor new.cursor → Ends slot old.slots.table new.slots.table → new.slots.leaves ≡ leaves_without slot old.slots.leaves → new.contents ≡ old.contents → Comes (λ path. fills slot) old new
slot_filled {N} {S} {A} old new slot g leaf x wanted b is found width passed keeps least fine f e leaves c = record {
  step = λ path. record {
    can = (b, subst (λ (o : Option (Option Gap)). GapFits slot o (state_of old)) (sym is) (record { leaf = leaf; of_slot = found; width = width; passed = passed; wanted = wanted; keeps = keeps }));
    does = (
      e,
      subst (λ (o : Option (Option Gap)). FillsGap slot o (state_of old) (state_of new)) (sym is) (record {
        leaf = leaf;
        of_slot = found;
        number = x;
        least = least;
        code = f.code;
        codes = f.holds;
        next = same_state (bits new.cursor.buf.now) (overwritten (bits old.cursor.buf.now) g.place f.code) new.cursor.at old.cursor.at new.slots.table new.slots.table new.slots.leaves (leaves_without slot old.slots.leaves) new.contents old.contents f.writes.changed f.writes.moved refl leaves c;
      }),
    );
  };
  same_buffer = f.writes.same_buffer;
}

-- a slot with its own number is ended
pub slot_ended : {N S A : ℕ} (old new : Writer N S A) (slot : ℕ) → begun old.slots.table slot ≡ true → gap_at old.slots.table slot ≡ Some None → Ends slot old.slots.table new.slots.table → new.slots.leaves ≡ old.slots.leaves → new.cursor ≡ old.cursor → new.contents ≡ old.contents
    → Comes (λ path. fills slot) old new
slot_ended old new slot b is e leaves k c =
    let next =
    same_state (bits new.cursor.buf.now) (bits old.cursor.buf.now) new.cursor.at old.cursor.at new.slots.table new.slots.table new.slots.leaves old.slots.leaves new.contents old.contents (ap (λ (z : WriteCursor _). bits z.buf.now) k) (ap (λ (z : WriteCursor _). z.at) k) refl leaves c in
    record {
      step = λ path. record {
        can = (b, subst (λ (o : Option (Option Gap)). GapFits slot o (state_of old)) (sym is) tt);
        does = (e, subst (λ (o : Option (Option Gap)). FillsGap slot o (state_of old) (state_of new)) (sym is) next);
      };
      same_buffer = ap (λ (z : WriteCursor _). z.buf.ghost_name) k;
    }

-- the hole that is given back is the one whose end was told
pub same_end : (o : Option (Option Gap)) (g h : Gap) (end : ℕ) → o ≡ Some (Some g) → end ≡ g.place + g.width → o ≡ Some (Some h) → end ≡ h.place + h.width
same_end o g h end a e b = e ∙ ap (λ (z : Gap). z.place + z.width) (same_some (same_some (sym a ∙ b)))

-- Contents end.

pub record AsksSo (t : ℕ) (fs : List Frame) (m : State) : Type 0 where
  pub some : 0 < length fs
  pub none : gap_of fs ≡ None
  pub is_begun : begun m.table t ≡ true

asks_so : (fs : List Frame) (t k : ℕ) (allowed : Bool) (m : State) → CanClose (Slot t) k allowed fs m → AsksSo t fs m
asks_so [] t k allowed m c = absurd c
asks_so (f ∷ fs) t k allowed m c = record { some = omega arith; none = c.0; is_begun = c.1 }

-- contents behind a hole for their size don't end by a slot
pub asking_lost : {N S A : ℕ} (old : Writer N S A) (t n : ℕ) (sizing : Sizing) (gap : Gap) (why : Halt) → sizing.rule ≡ Slot t → gap_of old.contents ≡ Some gap → why ≡ Lost → HaltsFor (λ path. closes path sizing n) old old why
asking_lost old t n sizing gap why is own told =
    let k = octets_in (state_of old) in
    let allowed = has sizing.sizes (pos k) in
    halts_still (λ path. closes path sizing n) old why Lost told (λ path can. not_both (gap_of old.contents) gap (asks_so old.contents t k allowed (state_of old) (subst (λ (r : SizeRule). CanClose r k allowed old.contents (state_of old)) is can)).none own)

-- why a slot isn't asked is why contents don't end
pub asking_halts : {N S A : ℕ} (old new : Writer N S A) (t k n : ℕ) (sizing : Sizing) (why : Halt) → sizing.rule ≡ Slot t → k ≡ octets_in (state_of old) → has sizing.sizes (pos k) ≡ true → AsksHalt S A t (Equal (pos k)) old.slots.table why
    → new.cursor ≡ old.cursor → new.slots ≡ old.slots → new.contents ≡ old.contents → HaltsFor (λ path. closes path sizing n) old new why
asking_halts {N} {S} {A} old new t k n sizing why is e permitted halts cur s c = record {
  halts = λ path. by why path (halts path (state_of old) refl);
  same_state = same_state (bits new.cursor.buf.now) (bits old.cursor.buf.now) new.cursor.at old.cursor.at new.slots.table old.slots.table new.slots.leaves old.slots.leaves new.contents old.contents (ap (λ (z : WriteCursor _). bits z.buf.now) cur) (ap (λ (z : WriteCursor _). z.at) cur) (ap (λ (z : OpenSlots). z.table) s) (ap (λ (z : OpenSlots). z.leaves) s) c;
  same_buffer = ap (λ (z : WriteCursor _). z.buf.ghost_name) cur;
}
  where
    by : (why : Halt) (path : List ℕ) → Halts (class_of S A) (wants path t (Equal (pos k))) (state_of old) (halt_of path why) → Halts (class_of S A) (closes path sizing n) (state_of old) (halt_of path why)
    by Breaks path h = absurd h
    by (Unmet slot earlier wanted) path h = (
      refl,
      subst (λ (r : SizeRule). ClosesInVain r (octets_in (state_of old)) (has sizing.sizes (pos (octets_in (state_of old)))) (state_of old) slot (option_map ask_of earlier) (ask_of wanted)) (sym is)
          (h.1, h.2 ∙ ap (λ (j : ℕ). Equal (pos j)) e, ap (λ (j : ℕ). has sizing.sizes (pos j)) (sym e) ∙ permitted, subst (λ (j : ℕ). AsksInVain t (Equal (pos j)) (state_of old) (option_map ask_of earlier)) e h.3),
    )
    by (Miscounts octets) path h = absurd h
    by Full path h = absurd h
    by Lost path h = λ can. h (asks_so (state_of old).contents t (octets_in (state_of old)) (has sizing.sizes (pos (octets_in (state_of old)))) (state_of old) (subst (λ (r : SizeRule). CanClose r (octets_in (state_of old)) (has sizing.sizes (pos (octets_in (state_of old)))) (state_of old).contents (state_of old)) is can)).is_begun
