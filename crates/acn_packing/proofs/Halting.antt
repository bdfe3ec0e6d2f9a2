-- What a halt of the events of the whole value says.
use Rattle.std.proofs.Common.{◌≡◌, ℕ, ◌≤◌, Bool, true, false, List, [], Some, Result, Ok, Err, IfOk, OnErr, refl, sym, subst, arith}
use Rattle.std.specs.Prelude.{is_some}
use Rattle.acn_grammar.specs.Check.{NodeAt}
use Rattle.acn_grammar.specs.Grammar.{Grammar, Data, node}
use Rattle.acn_grammar.specs.Interval.{span}
use Rattle.acn_grammar.specs.Length.{bit_length}
use Rattle.acn_grammar.specs.Meets.{Meets, Unfit, breach}
use Rattle.acn_grammar.specs.Refused.{Refused, RefusedAfter}
use Rattle.acn_grammar.specs.Shaped.{Shaped}
use Rattle.acn_grammar.specs.Walk.{Stand}
use Rattle.acn_grammar.specs.declared.limits.TheConstants.{MOST_PACKET_BITS}
use Rattle.acn_packet_laws.specs.Laws.{EachPathHasItsNumber, HasNumber, IsAccepted, NoFaultWithoutAFirst, OneRefusal, RefusedIsNotSpelled, ValuesLieWithinBounds}
use Rattle.acn_bounds.proofs.Lying.{short}
use Rattle.acn_events.specs.Events.{events}
use Rattle.acn_events.specs.Laws.{IsRefused, StopsAreRefusals, first_state}
use Rattle.acn_events.specs.Steps.{Class, Stops}
use Rattle.acn_event_limits.specs.Laws.{LargestTablesHaveRoom, largest}
use Rattle.acn_writer.specs.Halts.{halt_of}
use Rattle.acn_writer.specs.declared.halt.Halt.{Halt}
use Rattle.acn_writer.specs.declared.halt.Halt.TheVariants.{Breaks, Unmet, Miscounts, Full, Lost}
use Rattle.acn_packing.specs.Packed.{IsRefusedFor}
use Rattle.acn_packing.specs.Tries.{EndsTry, HaltsTry, is_full, said_by}

-- The end of all tries.

pub ends_here : (root : Grammar) (d : Data) (c : Class) (size : ℕ) (path : List ℕ) (halt : Halt) (before after : List Bool) → (span root).greatest ≤ size → is_full halt ≡ false → HaltsTry c size root d (halt_of path halt) before after → EndsTry root d path halt
ends_here root d c size path halt before after fits other t = (let l = t.long in record { class = c; buf = before; end = t.end; stops = t.stops; room = omega (arith, fits, l); other = other })

pub ends_with_most : LargestTablesHaveRoom → (root : Grammar) (d : Data) (size : ℕ) (path : List ℕ) (halt : Halt) (before after : List Bool) → IsAccepted root → Shaped root d → (span root).greatest ≤ size → HaltsTry largest size root d (halt_of path halt) before after → EndsTry root d path halt
ends_with_most law root d size path halt before after accepted shaped fits t = ends_here root d largest size path halt before after fits (other halt t.stops) t
  where
    other : (halt : Halt) → Stops largest (events root root [] d) (first_state before) t.end (halt_of path halt) → is_full halt ≡ false
    other Breaks s = refl
    other (Unmet slot earlier wanted) s = refl
    other (Miscounts n) s = refl
    other Full s = absurd (law root d before t.end accepted shaped s)
    other Lost s = refl

-- There is room for the value.

fits_room : (root : Grammar) (d : Data) → IsAccepted root → Meets root d → NoFaultWithoutAFirst → EachPathHasItsNumber → ValuesLieWithinBounds → bit_length root 0 d ≤ (span root).greatest
fits_room root d accepted m first numbered within = near (numbered root [] root refl)
  where
    at : (k : ℕ) (here : Stand) → NodeAt root k here → node here.align here.form ≡ root → bit_length root 0 d ≤ (span root).greatest
    at k here is e =
        let few : (span (node here.align here.form)).greatest ≤ MOST_PACKET_BITS = subst (λ g. (span g).greatest ≤ MOST_PACKET_BITS) (sym e) (short root accepted first) in
        subst (λ g. bit_length g 0 d ≤ (span g).greatest) e (within root k here d 0 accepted is few (subst (λ g. Meets g d) (sym e) m)).1

    near : HasNumber root [] root → bit_length root 0 d ≤ (span root).greatest
    near t = at t.number t.here t.stands t.node_is

-- The refusal.

pub is_refused : StopsAreRefusals → NoFaultWithoutAFirst → EachPathHasItsNumber → ValuesLieWithinBounds → (root : Grammar) (d : Data) (path : List ℕ) (halt : Halt) → IsAccepted root → Meets root d → EndsTry root d path halt → IsRefused root d (halt_of path halt)
is_refused law first numbered within root d path halt accepted m t =
    let fits = fits_room root d accepted m first numbered within in
    let room = t.room in
    law t.class root d t.buf t.end (halt_of path halt) accepted m (omega (arith, fits, room)) t.stops

pub is_said : (root : Grammar) (d : Data) (path : List ℕ) (halt : Halt) → is_full halt ≡ false → IsRefused root d (halt_of path halt) → is_some (said_by root path halt) ≡ true
is_said root d path Breaks other r = absurd r
is_said root d path (Unmet slot earlier wanted) other r = refl
is_said root d path (Miscounts n) other r = refl
is_said root d path Full other r = absurd cc
is_said root d path Lost other r = absurd r

pub refused_so : (root : Grammar) (d : Data) (path : List ℕ) (halt : Halt) (u : Unfit) → IsRefused root d (halt_of path halt) → Some u ≡ said_by root path halt → Refused root d u
refused_so root d path Breaks u r e = absurd r
refused_so root d path (Unmet slot earlier wanted) u r e = subst (Refused root d) (sym (one e)) r
  where
    one : {a b : Unfit} → Some a ≡ Some b → a ≡ b
    one e = cc
refused_so root d path (Miscounts n) u r e = subst (Refused root d) (sym (one e)) r
  where
    one : {a b : Unfit} → Some a ≡ Some b → a ≡ b
    one e = cc
refused_so root d path Full u r e = absurd cc
refused_so root d path Lost u r e = absurd r

-- a breach of a constraint
pub breached : (root : Grammar) (d : Data) (u : Unfit) → Some u ≡ breach root d → Refused root d u
breached root d u e = subst (λ o. RefusedAfter root o d u) e refl

pub is_refused_for : OneRefusal → RefusedIsNotSpelled → (root : Grammar) (d : Data) (u : Unfit) → IsAccepted root → Refused root d u → IsRefusedFor root d u
is_refused_for one never root d u accepted r = record {
  refused = r;
  only = λ other o. one root d other u o r;
  unspelled = λ mode bs s. never root mode d u bs accepted r s;
}

-- The same of each answer.

pub each_ok : {A E : Type 0} (r : Result A E) {P Q : A → Type 0} → ((x : A) → P x → Q x) → IfOk r P → IfOk r Q
each_ok (Ok x) f p = f x p
each_ok (Err e) f p = tt

pub each_fault : {A E : Type 0} (r : Result A E) {P Q : Type 0} → (P → Q) → OnErr r P → OnErr r Q
each_fault (Ok x) f p = tt
each_fault (Err e) f p = f p
