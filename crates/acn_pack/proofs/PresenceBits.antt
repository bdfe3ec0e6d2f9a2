-- Presence bits, one by one.
use Rattle.std.proofs.Common.{◌≡◌, ℕ, ◌+◌, ◌<◌, ◌≤◌, Bool, List, [], ◌∷◌, ◌++◌, drop, take, length, get_or, Option, Some, None, refl, sym, ap, ◌∙◌, inl, arith, length-append, take-append-drop, drop_of_length-le}
use Rattle.std.specs.Prelude.{is_some}
use Rattle.std.proofs.lemmas.List.{drop_more}
use Rattle.acn_bits.specs.Overwrite.{overwritten}
use Rattle.acn_bits.proofs.Parts.{length-overwritten, overwritten-append}
use Rattle.acn_grammar.specs.Grammar.{Grammar, Fields, no_fields, component, inserted}
use Rattle.acn_grammar.specs.Length.{presence_bits, bit_before}
use Rattle.acn_grammar.specs.View.{OneField, a_component, an_inserted, with_field, places_view}
use Rattle.acn_grammar.specs.declared.node.Presence.{Presence}
use Rattle.acn_grammar.specs.declared.node.Presence.TheVariants.{Always, Bit, When}
use Rattle.acn_grammar.specs.declared.value.Value.{Value}
use Rattle.acn_events.specs.Event.{State, begins, lost}
use Rattle.acn_events.specs.Steps.{put, Room}
use Rattle.acn_events.proofs.Joins.{same_state}
use Rattle.acn_writer.specs.Answers.{state_of}
use Rattle.acn_writer.specs.declared.writer.Writer.{Writer}
use Rattle.acn_pack.specs.Packs.{Ran, Stopped}
use Rattle.acn_pack.specs.Parts.{bits_in}

place_first : (name : List ℕ) (g : Grammar) (presence : Presence) (default : Option (List ℕ)) (own : Option ℕ) (fs : Fields) (p : Option Value) (ps : List (Option Value))
    → presence_bits (component name g presence default own fs) (places_view (p ∷ ps)) ≡ bit_before presence (is_some p) (presence_bits fs (places_view ps))
place_first name g presence default own fs None ps = refl
place_first name g presence default own fs (Some v) ps = refl

pub component_flag : (f : OneField) (name : List ℕ) (g : Grammar) (presence : Presence) (default : Option (List ℕ)) (own : Option ℕ) (fs : Fields) (next : ℕ) (p : Option Value) (ps : List (Option Value)) (bit : Option Bool)
    → f ≡ a_component name g presence default own → next < length ps → p ≡ get_or ps next p → ((bs : List Bool) → bit_before presence (is_some p) bs ≡ bits_in bit ++ bs)
    → presence_bits (with_field f fs) (places_view (drop next ps)) ≡ bits_in bit ++ presence_bits fs (places_view (drop (next + 1) ps))
component_flag f name g presence default own fs next p ps bit e h is said =
    let more : drop next ps ≡ p ∷ drop (next + 1) ps = drop_more ps next p h ∙ ap (λ (x : Option Value). x ∷ drop (next + 1) ps) (sym is) in
    ap (λ (x : OneField). presence_bits (with_field x fs) (places_view (drop next ps))) e
    ∙ (ap (λ (x : List (Option Value)). presence_bits (component name g presence default own fs) (places_view x)) more
    ∙ (place_first name g presence default own fs p (drop (next + 1) ps) ∙ said (presence_bits fs (places_view (drop (next + 1) ps)))))

pub no_flag : (f : OneField) (name : List ℕ) (g : Grammar) (presence : Presence) (default : Option (List ℕ)) (own : Option ℕ) (fs : Fields) (next : ℕ) (ps : List (Option Value))
    → f ≡ a_component name g presence default own → length ps ≤ next → presence_bits (with_field f fs) (places_view (drop next ps)) ≡ []
no_flag f name g presence default own fs next ps e h =
    ap (λ (x : OneField). presence_bits (with_field x fs) (places_view (drop next ps))) e ∙ ap (λ (x : List (Option Value)). presence_bits (component name g presence default own fs) (places_view x)) (drop_of_length-le ps h)

pub inserted_flag : (f : OneField) (name : List ℕ) (g : Grammar) (slot : Option ℕ) (fs : Fields) (next : ℕ) (ps : List (Option Value))
    → f ≡ an_inserted name g slot → presence_bits (with_field f fs) (places_view (drop next ps)) ≡ presence_bits fs (places_view (drop next ps))
inserted_flag f name g slot fs next ps e = ap (λ (x : OneField). presence_bits (with_field x fs) (places_view (drop next ps))) e

-- Bits that are put one behind another.

pub put_none : (m : State) → put [] m ≡ m
put_none m = (let z : m.place + 0 ≡ m.place = omega arith in same_state (overwritten m.buf m.place []) m.buf (m.place + 0) m.place m.table m.table m.leaves m.leaves m.contents m.contents (none_over m.buf m.place) z refl refl refl)
  where
    none_over : (all : List Bool) (at : ℕ) → overwritten all at [] ≡ all
    none_over all at = (let z : at + 0 ≡ at = omega arith in ap (λ (k : ℕ). take at all ++ drop k all) z ∙ take-append-drop at all)

pub put_more : (a b : List Bool) (m : State) → Room (length (a ++ b)) m → put b (put a m) ≡ put (a ++ b) m
put_more a b m room =
    let l = length-append a b in
    let z : (m.place + length a) + length b ≡ m.place + length (a ++ b) = omega (arith, l) in
    same_state (overwritten (overwritten m.buf m.place a) (m.place + length a) b) (overwritten m.buf m.place (a ++ b)) ((m.place + length a) + length b) (m.place + length (a ++ b)) m.table m.table m.leaves m.leaves m.contents m.contents (overwritten-append m.buf m.place a b (omega (arith, room, l))) z refl refl refl

pub room_more : (a b : List Bool) (m : State) → Room (length (a ++ b)) m → Room (length b) (put a m)
room_more a b m room = (let l = length-append a b in let e = length-overwritten m.buf m.place a (omega (arith, room, l)) in omega (arith, room, l, e))

pub room_first : (a b : List Bool) (m : State) → Room (length (a ++ b)) m → Room (length a) m
room_first a b m room = (let l = length-append a b in omega (arith, room, l))

-- a SEQUENCE begins, or has no room for its bits
pub begins_ran : {N S A : ℕ} (homes : List (ℕ × List ℕ)) (bs : List Bool) (m n : Writer N S A) → Room (length bs) (state_of m) → state_of n ≡ put bs (state_of m) → n.cursor.buf.ghost_name ≡ m.cursor.buf.ghost_name → Ran (begins homes bs ∷ []) m n
begins_ran homes bs m n room e same = record { runs = (state_of n, record { can = room; does = e }, refl); same_buffer = same }

pub begins_lost : {N S A : ℕ} (homes : List (ℕ × List ℕ)) (bs : List Bool) (m : Writer N S A) → (Room (length bs) (state_of m) → ⊥) → Stopped (begins homes bs ∷ []) m m lost
begins_lost homes bs m none = record { stops = inl (refl, none); same_buffer = refl }

-- a field has at most one bit
pub one_at_most : (bit : Option Bool) → length (bits_in bit) ≤ 1
one_at_most None = omega arith
one_at_most (Some b) = omega arith

-- and all fields together at most as many as there are places
one_before : (presence : Presence) (there : Bool) (bs : List Bool) → length (bit_before presence there bs) ≤ length bs + 1
one_before Always there bs = omega arith
one_before Bit there bs = omega arith
one_before (When ts) there bs = omega arith

few_flags : (fs : Fields) (ps : List (Option Value)) → length (presence_bits fs (places_view ps)) ≤ length ps
few_flags no_fields ps = omega arith
few_flags (component name g presence default own fs) [] = omega arith
few_flags (component name g presence default own fs) (p ∷ ps) =
    let e = ap length (place_first name g presence default own fs p ps) in
    let one = one_before presence (is_some p) (presence_bits fs (places_view ps)) in
    let few = few_flags fs ps in
    omega (arith, e, one, few)
few_flags (inserted name g slot fs) ps = few_flags fs ps

pub room_for_flags : (fs : Fields) (ps : List (Option Value)) (m : State) → Room (length ps) m → Room (length (presence_bits fs (places_view ps))) m
room_for_flags fs ps m room = (let few = few_flags fs ps in omega (arith, room, few))
