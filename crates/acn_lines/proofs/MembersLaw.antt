-- The members of an object from the tokens that were taken.
use Rattle.std.proofs.Common.{◌≡◌, ℕ, zero, suc, ◌+◌, ◌<◌, ◌≤◌, Bool, true, false, cond, not, List, [], ◌∷◌, ◌++◌, length, get_or, set, Option, Some, None, option_map, option_and_then, Ok, Ordering, Less, Equal, Greater, nat_cmp, refl, sym, ap, subst, ◌∙◌, arith, append_assoc}
use Rattle.std.specs.List.{list_any}
use Rattle.std.specs.Ordering.{match_ordering}
use Rattle.std.specs.Cmp.Lexicographic.{slice_cmp}
use Rattle.std.proofs.lemmas.Bool.{and_parts, not-true, or_parts}
use Rattle.json.specs.Token.{Token}
use Rattle.json.specs.Json as tree
use Rattle.json.specs.Tree.{json_tokens, members_tokens, members_depth}
use Rattle.serde_json.specs.Data.{Members, no_members, member, put}
use Rattle.serde_json.specs.Data as json
use Rattle.serde_json.specs.Find.{get_member}
use Rattle.serde_json.specs.Read.{of_members}
use Rattle.serde_json.proofs.Views.{get_member-put, get_member-put_other}
use Rattle.acn_grammar.specs.Asks.{same_name}
use Rattle.acn_grammar.specs.Grammar.{Grammar, Fields, Data, Places, node, seq, no_fields, component, inserted, record_of, no_places, empty, filled}
use Rattle.acn_grammar.specs.Leaves.{all_differ}
use Rattle.acn_grammar.specs.Shaped.{may_be_absent}
use Rattle.acn_grammar.specs.Tree.{field_names}
use Rattle.acn_grammar.specs.View.{OneField, a_component, data_of, places_view}
use Rattle.acn_grammar.specs.declared.node.Presence.{Presence}
use Rattle.acn_grammar.specs.declared.value.Value.{Value}
use Rattle.acn_grammar.proofs.Characters.{same_name-refl}
use Rattle.acn_json.specs.Few.{CanRead, FieldsCanRead}
use Rattle.acn_json.specs.Reads.{after, made, with_place, has_component, first_unknown, if_missing, first_missing, component_from, value_from, places_from}
use Rattle.acn_lines.specs.Names.{Differ}
use Rattle.acn_lines.specs.Order.{field_at, place_of, HasKey, AreKeyed, ArePlaced}
use Rattle.acn_lines.specs.declared.turns.Turn.{Turn}
use Rattle.acn_lines.specs.Taken.{IsTaken, MembersTaken, HasValue, Holds, AllKnown, component_count, no_values, is_whole}

-- A component of a name.

abbrev pub IsNamed : Option OneField → List ℕ → Type 0
IsNamed (Some (a_component own g presence default slot)) name = name ≡ own
IsNamed _ name = ⊥

abbrev GivesAt : Option OneField → Data → json.Data → Type 0
GivesAt (Some (a_component own g presence default slot)) v d = (path : List ℕ) → value_from path g d ≡ Ok v
GivesAt _ v d = ⊥

abbrev CanReadAt : ℕ → Option OneField → Type 0
CanReadAt k (Some (a_component own g presence default slot)) = CanRead k g
CanReadAt k _ = Unit {0}

can_read_at : (k : ℕ) (fs : Fields) (i : ℕ) → FieldsCanRead k fs → CanReadAt k (field_at fs i)
can_read_at k no_fields i r = tt
can_read_at k (component name g presence default own fs) zero r = r.0
can_read_at k (component name g presence default own fs) (suc i) r = can_read_at k fs i r.1
can_read_at k (inserted name g slot fs) zero r = tt
can_read_at k (inserted name g slot fs) (suc i) r = can_read_at k fs i r

-- the value goes into the place of a number
abbrev pub fill : ℕ → Data → Places → Places
fill i v no_places = no_places
fill zero v (empty ps) = filled v ps
fill zero v (filled w ps) = filled v ps
fill (suc i) v (empty ps) = empty (fill i v ps)
fill (suc i) v (filled w ps) = filled w (fill i v ps)

pub fill-view : (ps : List (Option Value)) (i : ℕ) (v : Value) → places_view (set ps i (Some v)) ≡ fill i (data_of v) (places_view ps)
fill-view [] i v = refl
fill-view (None ∷ ps) zero v = refl
fill-view (Some w ∷ ps) zero v = refl
fill-view (None ∷ ps) (suc i) v = ap empty (fill-view ps i v)
fill-view (Some w ∷ ps) (suc i) v = ap (filled (data_of w)) (fill-view ps i v)

pub place-within : (fs : Fields) (k : ℕ) (name : List ℕ) → IsNamed (field_at fs k) name → place_of fs k < component_count fs
place-within no_fields k name h = absurd h
place-within (component own g presence default slot fs) zero name h = omega arith
place-within (component own g presence default slot fs) (suc k) name h = (let rest = place-within fs k name h in omega arith)
place-within (inserted own g slot fs) zero name h = absurd h
place-within (inserted own g slot fs) (suc k) name h = place-within fs k name h

-- Names.

not_same : (n m : List ℕ) → same_name n m ≡ false → n ≡ m → ⊥
not_same n m h e = let t : same_name n m ≡ true = subst (λ x. same_name n x ≡ true) e (same_name-refl n) in cc

-- the name of a field is none of the names that differ from those of the fields
other : (n : List ℕ) (fs : Fields) (k : ℕ) (name : List ℕ) → IsNamed (field_at fs k) name → list_any (same_name n) (field_names fs) ≡ false → same_name n name ≡ false
other n no_fields k name h e = absurd h
other n (component own g presence default slot fs) zero name h e = ap (same_name n) h ∙ (or_parts (same_name n own) (list_any (same_name n) (field_names fs)) e).0
other n (component own g presence default slot fs) (suc k) name h e = other n fs k name h (or_parts (same_name n own) (list_any (same_name n) (field_names fs)) e).1
other n (inserted own g slot fs) zero name h e = absurd h
other n (inserted own g slot fs) (suc k) name h e = other n fs k name h (or_parts (same_name n own) (list_any (same_name n) (field_names fs)) e).1

has_name : (fs : Fields) (k : ℕ) (name : List ℕ) → IsNamed (field_at fs k) name → has_component name fs ≡ true
has_name no_fields k name h = absurd h
has_name (component own g presence default slot fs) zero name h = rw (h, same_name-refl own) refl
has_name (component own g presence default slot fs) (suc k) name h = go (same_name own name) (has_name fs k name h)
  where
    go : (b : Bool) → has_component name fs ≡ true → cond b true (has_component name fs) ≡ true
    go true e = refl
    go false e = e
has_name (inserted own g slot fs) zero name h = absurd h
has_name (inserted own g slot fs) (suc k) name h = has_name fs k name h

-- One member more.

holds_other : (name : List ℕ) (d : json.Data) (ms : Members) (fs : Fields) (ps : Places) → list_any (same_name name) (field_names fs) ≡ false → Holds ms fs ps → Holds (put name d ms) fs ps
holds_other name d ms no_fields no_places e h = tt
holds_other name d ms no_fields (empty ps) e h = h
holds_other name d ms no_fields (filled v ps) e h = h
holds_other name d ms (component own g presence default slot fs) no_places e h = h
holds_other name d ms (component own g presence default slot fs) (empty ps) e h =
    let p = or_parts (same_name name own) (list_any (same_name name) (field_names fs)) e in
    (get_member-put_other own name d ms (λ same. not_same name own p.0 (sym same)) ∙ h.0, holds_other name d ms fs ps p.1 h.1)
holds_other name d ms (component own g presence default slot fs) (filled v ps) e h =
    let p = or_parts (same_name name own) (list_any (same_name name) (field_names fs)) e in
    (subst (HasValue g v) (sym (get_member-put_other own name d ms (λ same. not_same name own p.0 (sym same)))) h.0, holds_other name d ms fs ps p.1 h.1)
holds_other name d ms (inserted own g slot fs) ps e h = holds_other name d ms fs ps (or_parts (same_name name own) (list_any (same_name name) (field_names fs)) e).1 h

value_here : (own : List ℕ) (g : Grammar) (v : Data) (name : List ℕ) (d : json.Data) (ms : Members) → name ≡ own → ((path : List ℕ) → value_from path g d ≡ Ok v) → HasValue g v (get_member own (put name d ms))
value_here own g v name d ms e h = subst (λ n. HasValue g v (get_member own (put n d ms))) (sym e) (subst (HasValue g v) (sym (get_member-put own d ms)) h)

holds_put : (name : List ℕ) (d : json.Data) (v : Data) (ms : Members) (fs : Fields) (k : ℕ) (ps : Places) → all_differ same_name (field_names fs) ≡ true → IsNamed (field_at fs k) name → GivesAt (field_at fs k) v d → Holds ms fs ps → Holds (put name d ms) fs (fill (place_of fs k) v ps)
holds_put name d v ms no_fields k ps a n h w = absurd n
holds_put name d v ms (component own g presence default slot fs) k no_places a n h w = absurd w
holds_put name d v ms (component own g presence default slot fs) zero (empty ps) a n h w =
    let p = and_parts (not (list_any (same_name own) (field_names fs))) (all_differ same_name (field_names fs)) a in
    (value_here own g v name d ms n h, holds_other name d ms fs ps (subst (λ x. list_any (same_name x) (field_names fs) ≡ false) (sym n) (not-true (list_any (same_name own) (field_names fs)) p.0)) w.1)
holds_put name d v ms (component own g presence default slot fs) zero (filled u ps) a n h w =
    let p = and_parts (not (list_any (same_name own) (field_names fs))) (all_differ same_name (field_names fs)) a in
    (value_here own g v name d ms n h, holds_other name d ms fs ps (subst (λ x. list_any (same_name x) (field_names fs) ≡ false) (sym n) (not-true (list_any (same_name own) (field_names fs)) p.0)) w.1)
holds_put name d v ms (component own g presence default slot fs) (suc k) (empty ps) a n h w =
    let p = and_parts (not (list_any (same_name own) (field_names fs))) (all_differ same_name (field_names fs)) a in
    let apart = not_same own name (other own fs k name n (not-true (list_any (same_name own) (field_names fs)) p.0)) in
    (get_member-put_other own name d ms apart ∙ w.0, holds_put name d v ms fs k ps p.1 n h w.1)
holds_put name d v ms (component own g presence default slot fs) (suc k) (filled u ps) a n h w =
    let p = and_parts (not (list_any (same_name own) (field_names fs))) (all_differ same_name (field_names fs)) a in
    let apart = not_same own name (other own fs k name n (not-true (list_any (same_name own) (field_names fs)) p.0)) in
    (subst (HasValue g u) (sym (get_member-put_other own name d ms apart)) w.0, holds_put name d v ms fs k ps p.1 n h w.1)
holds_put name d v ms (inserted own g slot fs) zero ps a n h w = absurd n
holds_put name d v ms (inserted own g slot fs) (suc k) ps a n h w = holds_put name d v ms fs k ps (and_parts (not (list_any (same_name own) (field_names fs))) (all_differ same_name (field_names fs)) a).1 n h w

known_put_at : (o : Ordering) (fs : Fields) (k l : List ℕ) (d e : json.Data) (ms more : Members) → has_component k fs ≡ true → AllKnown fs (member l e ms) → AllKnown fs more → AllKnown fs (match_ordering o (member k d (member l e ms)) (member l d ms) (member l e more))
known_put_at Less fs k l d e ms more h a r = (h, a)
known_put_at Equal fs k l d e ms more h a r = a
known_put_at Greater fs k l d e ms more h a r = (a.0, r)

known_put : (fs : Fields) (k : List ℕ) (d : json.Data) (ms : Members) → has_component k fs ≡ true → AllKnown fs ms → AllKnown fs (put k d ms)
known_put fs k d no_members h a = (h, tt)
known_put fs k d (member l e ms) h a = known_put_at (slice_cmp nat_cmp k l) fs k l d e ms (put k d ms) h a (known_put fs k d ms h a.1)

-- Members that were taken.

pub members_end : (fs : Fields) (ps : Places) (new : List Token) → MembersTaken fs ps (Token.end_object ∷ new) ps new
members_end fs ps new = record {
  texts = tree.no_members;
  tokens = refl;
  shallow = λ k n r room. omega arith;
  found = λ ms h a. (ms, refl, h, a);
}

pub members_more : (fs : Fields) (k : ℕ) (name : List ℕ) (g : Grammar) (presence : Presence) (default : Option (List ℕ)) (slot : Option ℕ) (v : Data) (ps qs : Places) (next rest new : List Token) → Differ fs → field_at fs k ≡ Some (a_component name g presence default slot)
    → IsTaken g v next rest → MembersTaken fs (fill (place_of fs k) v ps) rest qs new → MembersTaken fs ps (Token.key name ∷ next) qs new
members_more fs k name g presence default slot v ps qs next rest new differ is h more =
    let named = subst (λ o. IsNamed o name) (sym is) refl in
    let gives = subst (λ o. GivesAt o v h.said) (sym is) h.gives in
    record {
      texts = tree.member name h.text more.texts;
      tokens = ap (λ ts. Token.key name ∷ ts) (h.tokens ∙ (ap (λ ts. json_tokens h.text ++ ts) more.tokens ∙ sym (append_assoc (json_tokens h.text) (members_tokens more.texts) new)));
      shallow = λ i n r room. (let a = h.shallow i n (subst (CanReadAt i) is (can_read_at i fs k r)) room in let b = more.shallow i n r room in omega arith);
      found = λ ms w a.
          (let r = more.found (put name h.said ms) (holds_put name h.said v ms fs k ps differ named gives w) (known_put fs name h.said ms (has_name fs k name named) a) in
          (r.0, ap (option_and_then (λ d. of_members more.texts (put name d ms))) h.is ∙ r.1, r.2, r.3));
    }

-- The record.

none_held : (fs : Fields) → Holds no_members fs (no_values fs)
none_held no_fields = tt
none_held (component name g presence default own fs) = (refl, none_held fs)
none_held (inserted name g slot fs) = none_held fs

there : (g : Grammar) (v : Data) (o : Option json.Data) (b : Bool) → HasValue g v o → if_missing b o ≡ false
there g v None b h = absurd h
there g v (Some d) true h = refl
there g v (Some d) false h = refl

none_missing : (ms : Members) (at : ℕ) (fs : Fields) (ps : Places) → Holds ms fs ps → is_whole fs ps ≡ true → first_missing ms at fs ≡ None
none_missing ms at no_fields ps h e = refl
none_missing ms at (component name g presence default own fs) no_places h e = absurd h
none_missing ms at (component name g presence default own fs) (empty ps) h e =
    let p = and_parts (may_be_absent presence) (is_whole fs ps) e in
    rw (p.0, h.0) (none_missing ms (at + 1) fs ps h.1 p.1)
none_missing ms at (component name g presence default own fs) (filled v ps) h e = rw (there g v (get_member name ms) (may_be_absent presence) h.0) (none_missing ms (at + 1) fs ps h.1 e)
none_missing ms at (inserted name g slot fs) ps h e = none_missing ms (at + 1) fs ps h e

none_unknown : (fs : Fields) (at : ℕ) (ms : Members) → AllKnown fs ms → first_unknown fs at ms ≡ None
none_unknown fs at no_members h = refl
none_unknown fs at (member k d ms) h = rw h.0 (none_unknown fs (at + 1) ms h.1)

there_from : (g : Grammar) (v : Data) (o : Option json.Data) (path : List ℕ) → HasValue g v o → component_from (λ d. value_from path g d) o ≡ Ok (Some v)
there_from g v None path h = absurd h
there_from g v (Some d) path h = ap (made Some) (h path)

held_places : (path : List ℕ) (at : ℕ) (fs : Fields) (ms : Members) (ps : Places) → Holds ms fs ps → places_from path at fs ms ≡ Ok ps
held_places path at no_fields ms no_places h = refl
held_places path at no_fields ms (empty ps) h = absurd h
held_places path at no_fields ms (filled v ps) h = absurd h
held_places path at (component name g presence default own fs) ms no_places h = absurd h
held_places path at (component name g presence default own fs) ms (empty ps) h = rw h.0 (ap (made empty) (held_places path (at + 1) fs ms ps h.1))
held_places path at (component name g presence default own fs) ms (filled v ps) h =
    ap (λ r. after r (λ p. made (with_place p) (places_from path (at + 1) fs ms))) (there_from g v (get_member name ms) (path ++ at ∷ []) h.0) ∙ ap (made (filled v)) (held_places path (at + 1) fs ms ps h.1)
held_places path at (inserted name g slot fs) ms ps h = held_places path (at + 1) fs ms ps h

deeper : (k n d : ℕ) → k ≤ 64 → 65 ≤ k + n → ((m : ℕ) → 65 ≤ k + 1 + m → d ≤ m) → suc d ≤ n
deeper k zero d few room h = absurd (omega arith)
deeper k (suc n) d few room h = (let a = h n (omega arith) in omega arith)

pub record_taken : (fs : Fields) (ps qs : Places) (old mid new : List Token) (align : ℕ) (home : List ℕ) → ps ≡ no_values fs → old ≡ Token.begin_object ∷ mid → MembersTaken fs ps mid qs new → is_whole fs qs ≡ true → IsTaken (node align (seq fs home)) (record_of qs) old new
record_taken fs ps qs old mid new align home begins opened h whole =
    let r = h.found no_members (subst (Holds no_members fs) (sym begins) (none_held fs)) tt in
    record {
      text = tree.object h.texts;
      said = json.object r.0;
      tokens = opened ∙ ap (λ ts. Token.begin_object ∷ ts) h.tokens;
      is = ap (option_map json.object) r.1;
      shallow = λ k n s room. deeper k n (members_depth h.texts) s.0 room (λ m more. h.shallow (k + 1) m s.1.1 more);
      gives = λ path. rw (none_unknown fs 0 r.0 r.3, none_missing r.0 0 fs qs r.2 whole) (ap (made record_of) (held_places path 0 fs r.0 qs r.2));
    }

-- Turns.

pub keyed_at : (fs : Fields) (ts : List Turn) (i : ℕ) (t : Turn) → AreKeyed fs ts → i < length ts → t ≡ get_or ts i t → HasKey (field_at fs t.field) t.key
keyed_at fs [] i t k h e = absurd (omega arith)
keyed_at fs (x ∷ ts) zero t k h e = subst (λ y. HasKey (field_at fs y.field) y.key) (sym e) k.0
keyed_at fs (x ∷ ts) (suc i) t k h e = keyed_at fs ts i t k.1 (omega arith) e

pub placed_at : (fs : Fields) (ts : List Turn) (i : ℕ) (t : Turn) → ArePlaced fs ts → i < length ts → t ≡ get_or ts i t → t.place ≡ place_of fs t.field
placed_at fs [] i t k h e = absurd (omega arith)
placed_at fs (x ∷ ts) zero t k h e = subst (λ y. y.place ≡ place_of fs y.field) (sym e) k.0
placed_at fs (x ∷ ts) (suc i) t k h e = placed_at fs ts i t k.1 (omega arith) e
