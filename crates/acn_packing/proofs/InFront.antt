-- What stands in a buffer: the bits that are written with zeros that fill the last octet, and behind them what stood there.
use Rattle.std.proofs.Common.{◌≡◌, ℕ, ◌+◌, ◌-◌, ◌*◌, ◌≤◌, Bool, false, List, [], ◌++◌, length, take, drop, replicate, sym, ap, ◌∙◌, subst, arith, append_assoc, length-append}
use Rattle.std.proofs.lemmas.List.{drop-drop, drop_at, length-replicate, take_at}
use Rattle.acn_num.specs.Bits.{bits, low_bits, octets}
use Rattle.acn_num.proofs.BitLists.{length-bits}
use Rattle.acn_bits.proofs.Parts.{low_bits-zero}
use Rattle.acn_bits.specs.Overwrite.{overwritten}
use Rattle.acn_bits.specs.Writing.{Writes, place_of}
use Rattle.acn_bits.specs.declared.write_cursor.WriteCursor.{WriteCursor}
use Rattle.acn_grammar.specs.Code.{Written}
use Rattle.acn_grammar.specs.Front.{IsWritten}
use Rattle.acn_grammar.specs.Grammar.{Grammar, Data}
use Rattle.acn_grammar.specs.Length.{bit_length}
use Rattle.acn_packet_laws.specs.Laws.{IsAccepted, LengthsAreTold}
use Rattle.acn_events.specs.Event.{Halt, State}
use Rattle.acn_events.specs.Events.{events}
use Rattle.acn_events.specs.Laws.{IsInPlace, empty_table, first_state}
use Rattle.acn_events.specs.Steps.{Stops}
use Rattle.acn_writer.specs.Answers.{state_of}
use Rattle.acn_writer.specs.Ending.{KeepsBehind}
use Rattle.acn_writer.specs.Halts.{class_of}
use Rattle.acn_writer.specs.declared.writer.Writer.{Writer}
use Rattle.acn_packing.specs.Tries.{HaltsTry, HaltsWhole, PacksWhole, StandsInFront}

-- the bits of a buffer of so many octets
pub long_bits : (n : ℕ) (xs : List ℕ) → length xs ≡ n → length (bits xs) ≡ 8 * n
long_bits n xs l = length-bits xs ∙ ap (λ k. 8 * k) l

-- what is the same behind a place is so behind a later one
later_same : (xs ys : List Bool) (p k : ℕ) → p ≤ k → drop p xs ≡ drop p ys → drop k xs ≡ drop k ys
later_same xs ys p k l e = split xs ∙ (ap (drop (k - p)) e ∙ sym (split ys))
  where
    sum : k ≡ p + (k - p)
    sum = omega (arith, l)

    split : (zs : List Bool) → drop k zs ≡ drop (k - p) (drop p zs)
    split zs = ap (λ n. drop n zs) sum ∙ sym (drop-drop (k - p) p zs)

up : (p : ℕ) → p ≤ 8 * octets p
up p = omega arith

abbrev zeros_behind : ℕ → List Bool
zeros_behind p = replicate (8 * octets p - p) false

stands : (root : Grammar) (d : Data) (before after bs : List Bool) (m : State) → IsWritten root d bs → IsInPlace bs before m → after ≡ overwritten m.buf m.place (zeros_behind m.place) → StandsInFront root d m.place before after
stands root d before after bs m written i e =
    let p = m.place in
    let o = 8 * octets p in
    let zeros = zeros_behind p in
    let rest = drop (p + length zeros) m.buf in
    let wide : length zeros ≡ o - p = length-replicate (8 * octets p - p) false in
    let grows : p ≤ 8 * octets p = up p in
    let end : p + length zeros ≡ o = omega (arith, wide, grows) in
    let long : p ≡ length bs = i.long in
    let sum = length-append bs zeros in
    let size : length (bs ++ zeros) ≡ o = omega (arith, sum, long, end) in
    let whole : after ≡ (bs ++ zeros) ++ rest = e ∙ (ap (λ z. z ++ (zeros ++ rest)) i.front ∙ sym (append_assoc bs zeros rest)) in
    record {
      spelling = bs;
      written = written;
      counted = long;
      first = ap (take o) whole ∙ (take_at (bs ++ zeros) rest o size ∙ ap (λ k. bs ++ zeros_behind k) long);
      later = ap (drop o) whole ∙ (drop_at (bs ++ zeros) rest o size ∙ (ap (λ k. drop k m.buf) end ∙ later_same m.buf before p o grows i.behind));
    }

-- zeros are put up to whole octets
pub fills : {N : ℕ} (old new : WriteCursor N) (k : ℕ) → Writes old new (place_of old) (low_bits k 0) (place_of old + k) → place_of old + k ≡ 8 * octets (place_of old)
    → Writes old new (place_of old) (replicate (8 * octets (place_of old) - place_of old) false) (8 * octets (place_of old))
fills old new k w e =
    let p = place_of old in
    let rest : k ≡ 8 * octets p - p = omega (arith, e) in
    let piece : low_bits k 0 ≡ replicate (8 * octets p - p) false = low_bits-zero k ∙ ap (λ j. replicate j false) rest in
    subst (λ z. Writes old new p z (8 * octets p)) piece (subst (λ j. Writes old new p (low_bits k 0) j) e w)

abbrev over : List Bool → ℕ → State
over buf k = record { buf = buf; place = k; table = empty_table; leaves = []; contents = [] }

-- a writer that is made over that of a buffer
pub starts : {N S A : ℕ} (w : Writer N S A) (cur : WriteCursor N) → state_of w ≡ record { buf = bits cur.buf.now; place = place_of cur; table = empty_table; leaves = []; contents = [] } → place_of cur ≡ 0 → state_of w ≡ first_state (state_of w).buf
starts w cur e p = e ∙ (ap (over (bits cur.buf.now)) p ∙ ap first_state (sym (ap (λ (z : State). z.buf) e)))

-- A writer that is ended behind the whole value, over the buffer as it is left.
pub packed : {N S A : ℕ} (root : Grammar) (d : Data) (n : ℕ) (before final : List ℕ) (old new : Writer N S A) (cur end : WriteCursor N)
    → (state_of old).buf ≡ bits before → PacksWhole root d old new → bits cur.buf.now ≡ (state_of new).buf → place_of cur ≡ (state_of new).place
    → n ≡ place_of cur → Writes cur end (place_of cur) (replicate (8 * octets (place_of cur) - place_of cur) false) (8 * octets (place_of cur)) → final ≡ end.buf.now
    → StandsInFront root d n (bits before) (bits final)
packed root d n before final old new cur end b w buf place count writes last =
    let over : bits final ≡ overwritten (state_of new).buf (state_of new).place (zeros_behind (state_of new).place) =
    ap bits last ∙ (writes.changed ∙ (ap (λ z. overwritten z (place_of cur) (zeros_behind (place_of cur))) buf ∙ ap (λ k. overwritten (state_of new).buf k (zeros_behind k)) place)) in
    subst (λ k. StandsInFront root d k (bits before) (bits final)) (sym (count ∙ place))
    (stands root d (bits before) (bits final) w.spelling (state_of new) w.written (subst (λ z. IsInPlace w.spelling z (state_of new)) b w.in_place) over)

-- One that is ended behind a halt.
pub halted : {N S A : ℕ} (root : Grammar) (d : Data) (h : Halt) (before final : List ℕ) (old new : Writer N S A) (cur : WriteCursor N)
    → length before ≡ N → (state_of old).buf ≡ bits before → HaltsWhole root d h old new → KeepsBehind new.cursor cur → final ≡ cur.buf.now → HaltsTry (class_of S A) (8 * N) root d h (bits before) (bits final)
halted {N} {S} {A} root d h before final old new cur l b w keeps last =
    let p = (state_of new).place in
    let behind : drop p (bits cur.buf.now) ≡ drop p (bits before) =
    ap (λ k. drop k (bits cur.buf.now)) (sym keeps.place) ∙ (keeps.behind ∙ (w.later.behind ∙ ap (drop p) b)) in
    record {
      long = long_bits N before l;
      end = state_of new;
      stops = subst (λ z. Stops (class_of S A) (events root root [] d) (first_state z) (state_of new) h) b w.stops;
      later = ap (λ z. drop (bit_length root 0 d) (bits z)) last ∙ later_same (bits cur.buf.now) (bits before) p (bit_length root 0 d) w.later.within behind;
    }

-- behind a try that halted, what is packed stands as in the buffer before that
pub stands_again : (root : Grammar) (d : Data) (n : ℕ) (before mid after : List Bool) → IsAccepted root → LengthsAreTold → drop (bit_length root 0 d) mid ≡ drop (bit_length root 0 d) before → StandsInFront root d n mid after → StandsInFront root d n before after
stands_again root d n before mid after accepted told e s =
    let long = told root Written d s.spelling accepted s.written in
    let count = s.counted in
    let grows = up n in
    record {
      spelling = s.spelling;
      written = s.written;
      counted = s.counted;
      first = s.first;
      later = s.later ∙ later_same mid before (bit_length root 0 d) (8 * octets n) (omega (arith, long, count, grows)) e;
    }
