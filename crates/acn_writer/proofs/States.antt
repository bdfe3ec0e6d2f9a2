-- What the calls on the parts of a writer mean for its state: each event that comes, and each that
-- halts.
use Rattle.std.proofs.Common.{◌≡◌, ℕ, ◌+◌, ◌*◌, ◌^◌, ◌<◌, ◌≤◌, ℤ, pos, Bool, true, false, List, [], ◌∷◌, length, replicate, Option, Some, None, IsTrue, refl, sym, ap, ◌∙◌, subst, arith}
use Rattle.std.proofs.lemmas.List.{length-replicate}
use Rattle.acn_num.specs.Bits.{bits, low_bits}
use Rattle.acn_num.specs.Ranges.{has}
use Rattle.acn_num.proofs.BitLists.{length-low_bits}
use Rattle.acn_bits.specs.Overwrite.{overwritten}
use Rattle.acn_bits.specs.Writing.{Puts, Writes, place_of}
use Rattle.acn_bits.specs.declared.write_cursor.WriteCursor.{WriteCursor}
use Rattle.acn_bits.specs.declared.word.TheConstants.{WORD_BITS}
use Rattle.acn_fill.specs.Table.{Keeps, OneMore, begun}
use Rattle.acn_grammar.specs.Asks.{Ask, Equal}
use Rattle.acn_grammar.specs.Code.{Code, Written}
use Rattle.acn_grammar.specs.Leaves.{num_fine}
use Rattle.acn_grammar.specs.Interval.{width_of}
use Rattle.acn_grammar.specs.Length.{padding, rule_width, text_length}
use Rattle.acn_grammar.specs.Meets.{text_breach}
use Rattle.acn_grammar.specs.declared.node.NumLeaf.{NumLeaf}
use Rattle.acn_grammar.specs.declared.node.SizeRule.{SizeRule}
use Rattle.acn_grammar.specs.declared.node.Sizing.{Sizing}
use Rattle.acn_grammar.specs.declared.node.TextLeaf.{TextLeaf}
use Rattle.acn_text.specs.Steps.{size_bits}
use Rattle.acn_text.specs.Texts.{TextCode, given_size}
use Rattle.acn_grammar.proofs.LeafLengths.{code-length}
use Rattle.acn_events.specs.Event.{Event, aligns, begins, codes, copies, notes, opens, position, puts, sizes, texts, wants}
use Rattle.acn_events.specs.Steps.{Can, Does, Halts, IsBegun, Room, SizeFits, put}
use Rattle.acn_events.proofs.Joins.{same_state}
use Rattle.acn_events.proofs.Standing.{size_long}
use Rattle.acn_writer.specs.Answers.{Comes, HaltsFor, state_of}
use Rattle.acn_writer.proofs.Buffers.{had_room}
use Rattle.acn_writer.specs.Halts.{AsksHalt, class_of, halt_of}
use Rattle.acn_writer.specs.Slots.{OpenSlots}
use Rattle.acn_writer.specs.declared.halt.Halt.{Halt}
use Rattle.acn_writer.specs.declared.writer.Writer.{Writer}

-- Nothing is changed, and the reason is told.

pub halts_still : {N S A : ℕ} (event_at : List ℕ → Event) (w : Writer N S A) (why reason : Halt) → why ≡ reason → ((path : List ℕ) → Halts (class_of S A) (event_at path) (state_of w) (halt_of path reason)) → HaltsFor event_at w w why
halts_still {N} {S} {A} event_at w why reason told h = record { halts = λ path. subst (λ (x : Halt). Halts (class_of S A) (event_at path) (state_of w) (halt_of path x)) (sym told) (h path); same_state = refl; same_buffer = refl }

-- a slot that is begun isn't begun anew
pub begun_already : (b : Bool) → b ≡ true → b ≡ false → ⊥
begun_already true e f = cc
begun_already false e f = cc

-- what isn't there isn't something
pub not_both : {X : Type 0} (o : Option X) (x : X) → o ≡ None → o ≡ Some x → ⊥
not_both None x e f = cc
not_both (Some y) x e f = cc

-- what has no room isn't put
pub room_lost : {N S A : ℕ} (w : Writer N S A) (n : ℕ) → 8 * N < place_of w.cursor + n → Room n (state_of w) → ⊥
room_lost w n late room = (let long = w.long in omega (arith, late, room, long))

-- Bits are put.

pub put_is : {N S A : ℕ} (old new : Writer N S A) (bs : List Bool) (n : ℕ) → length bs ≡ n → Writes old.cursor new.cursor (place_of old.cursor) bs (place_of old.cursor + n) → new.slots ≡ old.slots → new.contents ≡ old.contents → state_of new ≡ put bs (state_of old)
put_is old new bs n l w s c =
    same_state (bits new.cursor.buf.now) (overwritten (bits old.cursor.buf.now) old.cursor.at bs) new.cursor.at (old.cursor.at + length bs) new.slots.table old.slots.table new.slots.leaves old.slots.leaves new.contents old.contents
    w.changed (w.moved ∙ ap (λ (k : ℕ). old.cursor.at + k) (sym l)) (ap (λ (z : OpenSlots). z.table) s) (ap (λ (z : OpenSlots). z.leaves) s) c

module _ {N S A : ℕ} (old new : Writer N S A) (s : new.slots ≡ old.slots) (c : new.contents ≡ old.contents) where
  comes_put : (event_at : List ℕ → Event) (bs : List Bool) (n : ℕ) → length bs ≡ n → Writes old.cursor new.cursor (place_of old.cursor) bs (place_of old.cursor + n)
      → ((path : List ℕ) → Room n (state_of old) → Can (event_at path) (state_of old)) → ((path : List ℕ) → state_of new ≡ put bs (state_of old) → Does (event_at path) (state_of old) (state_of new)) → Comes event_at old new
  comes_put event_at bs n l w can does = record { step = λ path. record { can = can path (had_room old new.cursor bs n l w); does = does path (put_is old new bs n l w s c) }; same_buffer = w.same_buffer }

  pub copied : (bs : List Bool) (n : ℕ) → length bs ≡ n → Writes old.cursor new.cursor (place_of old.cursor) bs (place_of old.cursor + n) → Comes (λ path. copies bs) old new
  copied bs n l w = comes_put (λ path. copies bs) bs n l w (λ path room. subst (λ (j : ℕ). Room j (state_of old)) (sym l) room) (λ path is. is)

  pub aligned : (align n : ℕ) → 0 < align → n ≡ padding align (position (state_of old)) → Writes old.cursor new.cursor (place_of old.cursor) (replicate n false) (place_of old.cursor + n) → Comes (λ path. aligns align) old new
  aligned align n some is w =
      comes_put (λ path. aligns align) (replicate n false) n (length-replicate n false) w (λ path room. (some, subst (λ (j : ℕ). Room j (state_of old)) is room))
      (λ path e. e ∙ ap (λ (k : ℕ). put (replicate k false) (state_of old)) is)

  pub bits_begun : (homes : List (ℕ × List ℕ)) (bs : List Bool) (n : ℕ) → length bs ≡ n → Writes old.cursor new.cursor (place_of old.cursor) bs (place_of old.cursor + n) → Comes (λ path. begins homes bs) old new
  bits_begun homes bs n l w = comes_put (λ path. begins homes bs) bs n l w (λ path room. subst (λ (j : ℕ). Room j (state_of old)) (sym l) room) (λ path is. is)

  pub number_put : (width n : ℕ) → width ≤ WORD_BITS → n < 2 ^ width → Writes old.cursor new.cursor (place_of old.cursor) (low_bits width n) (place_of old.cursor + width) → Comes (λ path. puts width n) old new
  number_put width n narrow fits w = comes_put (λ path. puts width n) (low_bits width n) width (length-low_bits width n) w (λ path room. (narrow, fits, room)) (λ path is. is)

  pub size_put : (sizing : Sizing) (rule : SizeRule) (n : ℕ) → sizing.rule ≡ rule → has sizing.sizes (pos n) ≡ true → SizeFits rule n
      → Writes old.cursor new.cursor (place_of old.cursor) (size_bits rule n) (place_of old.cursor + rule_width rule) → Comes (λ path. sizes sizing n) old new
  size_put sizing rule n is permitted fits w =
      comes_put (λ path. sizes sizing n) (size_bits rule n) (rule_width rule) (size_long rule n) w
      (λ path room. (λ p. subst (λ (r : SizeRule). SizeFits r n) (sym is) fits, subst (λ (r : SizeRule). Room (rule_width r) (state_of old)) (sym is) room))
      (λ path e. (permitted, e ∙ ap (λ (r : SizeRule). put (size_bits r n) (state_of old)) (sym is)))

  pub number_coded : (leaf : NumLeaf) (x : ℤ) → IsTrue (num_fine leaf) → Puts (Code Written leaf x) old.cursor new.cursor → Comes (λ path. codes leaf x) old new
  number_coded leaf x fine p =
      let long = code-length Written leaf fine x p.code p.holds in
      comes_put (λ path. codes leaf x) p.code (length p.code) refl p.writes (λ path room. subst (λ (j : ℕ). Room j (state_of old)) long room) (λ path is. (p.code, p.holds, is))

  pub text_put : (leaf : TextLeaf) (cs : List ℕ) → text_breach leaf cs ≡ [] → Puts (TextCode leaf (given_size leaf.sized.rule (length cs)) cs) old.cursor new.cursor → place_of new.cursor ≡ place_of old.cursor + text_length leaf.ended leaf (length cs) → Comes (λ path. texts leaf cs) old new
  text_put leaf cs meets p long =
      let moved = p.writes.moved in
      let all : length p.code ≡ text_length leaf.ended leaf (length cs) = omega (arith, long, moved) in
      comes_put (λ path. texts leaf cs) p.code (length p.code) refl p.writes (λ path room. subst (λ (j : ℕ). Room j (state_of old)) all room) (λ path is. (meets, (p.code, p.holds, is)))

-- Slots are begun.

pub slot_opened : {N S A : ℕ} (old new : Writer N S A) (slot : ℕ) (leaf : NumLeaf) (w : ℕ) → begun old.slots.table slot ≡ false → width_of leaf ≡ Some w → w ≤ WORD_BITS → Writes old.cursor new.cursor (place_of old.cursor) (replicate w false) (place_of old.cursor + w) → Keeps leaf.set [] new.slots.table slot
    → IsBegun slot (Some (record { place = place_of old.cursor; width = w })) old.slots.table new.slots.table → new.slots.leaves ≡ (slot, leaf) ∷ old.slots.leaves → new.contents ≡ old.contents → Comes (λ path. opens slot leaf) old new
slot_opened old new slot leaf w fresh is narrow zeros keeps b leaves c =
    let long = length-replicate w false in
    record {
      step = λ path. record {
        can = (fresh, w, is, narrow, had_room old new.cursor (replicate w false) w long zeros);
        does = record {
          width = w;
          is_width = is;
          keeps = keeps;
          begun_so = b;
          next = same_state (bits new.cursor.buf.now) (overwritten (bits old.cursor.buf.now) old.cursor.at (replicate w false)) new.cursor.at (old.cursor.at + w) new.slots.table new.slots.table new.slots.leaves ((slot, leaf) ∷ old.slots.leaves) new.contents old.contents zeros.changed zeros.moved refl leaves c;
        };
      };
      same_buffer = zeros.same_buffer;
    }

pub slot_noted : {N S A : ℕ} (old new : Writer N S A) (slot : ℕ) (set : List (ℤ × ℤ)) (x : ℤ) → has set x ≡ true → begun old.slots.table slot ≡ false → Keeps set (Equal x ∷ []) new.slots.table slot → IsBegun slot None old.slots.table new.slots.table
    → new.slots.leaves ≡ old.slots.leaves → new.cursor ≡ old.cursor → new.contents ≡ old.contents → Comes (λ path. notes path slot set x) old new
slot_noted old new slot set x permitted fresh keeps b leaves k c = record {
  step = λ path. record {
    can = fresh;
    does = record {
      permitted = permitted;
      keeps = keeps;
      begun_so = b;
      next = same_state (bits new.cursor.buf.now) (bits old.cursor.buf.now) new.cursor.at old.cursor.at new.slots.table new.slots.table new.slots.leaves old.slots.leaves new.contents old.contents (ap (λ (z : WriteCursor _). bits z.buf.now) k) (ap (λ (z : WriteCursor _). z.at) k) refl leaves c;
    };
  };
  same_buffer = ap (λ (z : WriteCursor _). z.buf.ghost_name) k;
}

-- A slot is asked.

pub slot_asked : {N S A : ℕ} (old new : Writer N S A) (slot : ℕ) (a : Ask) → begun old.slots.table slot ≡ true → OneMore slot a old.slots.table new.slots.table → new.slots.leaves ≡ old.slots.leaves → new.cursor ≡ old.cursor → new.contents ≡ old.contents → Comes (λ path. wants path slot a) old new
slot_asked old new slot a b more leaves k c = record {
  step = λ path. record {
    can = b;
    does = record {
      more = more;
      next = same_state (bits new.cursor.buf.now) (bits old.cursor.buf.now) new.cursor.at old.cursor.at new.slots.table new.slots.table new.slots.leaves old.slots.leaves new.contents old.contents (ap (λ (z : WriteCursor _). bits z.buf.now) k) (ap (λ (z : WriteCursor _). z.at) k) refl leaves c;
    };
  };
  same_buffer = ap (λ (z : WriteCursor _). z.buf.ghost_name) k;
}

pub slot_not_asked : {N S A : ℕ} (old new : Writer N S A) (slot : ℕ) (a : Ask) (why : Halt) → AsksHalt S A slot a old.slots.table why → new.cursor ≡ old.cursor → new.slots ≡ old.slots → new.contents ≡ old.contents → HaltsFor (λ path. wants path slot a) old new why
slot_not_asked old new slot a why halts k s c = record {
  halts = λ path. halts path (state_of old) refl;
  same_state = same_state (bits new.cursor.buf.now) (bits old.cursor.buf.now) new.cursor.at old.cursor.at new.slots.table old.slots.table new.slots.leaves old.slots.leaves new.contents old.contents (ap (λ (z : WriteCursor _). bits z.buf.now) k) (ap (λ (z : WriteCursor _). z.at) k) (ap (λ (z : OpenSlots). z.table) s) (ap (λ (z : OpenSlots). z.leaves) s) c;
  same_buffer = ap (λ (z : WriteCursor _). z.buf.ghost_name) k;
}
