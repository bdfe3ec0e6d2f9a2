-- Components noted in byte order of their names: their members are those of the object, whichever are there.
use Rattle.std.proofs.Common.{◌≡◌, ℕ, zero, suc, true, false, not, List, [], ◌∷◌, Option, Some, None, Bor, Ordering, Less, Equal, Greater, nat_cmp, is_eq, refl, sym, ap, subst, ◌∙◌, arith}
use Rattle.std.specs.List.{list_any}
use Rattle.std.specs.Ordering.{match_ordering, ordering_reverse}
use Rattle.std.specs.Cmp.Lexicographic.{slice_cmp}
use Rattle.std.specs.BTreeMap.{insert_entry}
use Rattle.std.proofs.lemmas.Bool.{or_parts, and_parts, not-true}
use Rattle.std.proofs.lemmas.Cmp.{nat_list_cmp_total}
use Rattle.std.proofs.lemmas.Map.Text.{is_eq-slice_cmp}
use Rattle.std.proofs.lemmas.Slice.Eq.{bytes_eq-Decides}
use Rattle.serde_json.specs.Data.{Members, no_members, member, put}
use Rattle.serde_json.specs.Data as json
use Rattle.acn_grammar.specs.Asks.{same_name}
use Rattle.acn_grammar.specs.Grammar.{Grammar, Fields, Data, Places, no_fields, component, inserted, no_places, empty, filled}
use Rattle.acn_grammar.specs.Leaves.{all_differ}
use Rattle.acn_grammar.specs.Tree.{field_names}
use Rattle.acn_grammar.specs.View.{OneField, a_component, an_inserted}
use Rattle.acn_grammar.specs.declared.node.Presence.{Presence}
use Rattle.acn_grammar.proofs.Characters.{same_name-refl}
use Rattle.acn_json.specs.Lines.{json_of, fields_json}
use Rattle.acn_lines.specs.Order.{field_at, place_at, place_of, member_at, in_order, key_text, HasKey, AreKeyed, ArePlaced, Elsewhere, AreApart}
use Rattle.acn_lines.proofs.KeysLaw.{all_short}
use Rattle.acn_lines.specs.Names.{Differ}
use Rattle.acn_lines.specs.Spots.{Spots, turns_at, AreSpots}
use Rattle.acn_lines.specs.declared.turns.Spot.{Spot}

abbrev cmp : List ℕ → List ℕ → Ordering
cmp k l = slice_cmp nat_cmp k l

abbrev by_name : Bor (List ℕ) → Bor (List ℕ) → Ordering
by_name a b = slice_cmp nat_cmp a.now b.now

-- The JSON where a spot leads, if its component is there.

abbrev json_there : Option OneField → Option Data → Option json.Data
json_there (Some (a_component name g presence default own)) (Some d) = Some (json_of g d)
json_there _ _ = None

abbrev one : List ℕ → Option json.Data → Members → Members
one k None ms = ms
one k (Some j) ms = member k j ms

abbrev put_one : List ℕ → Option json.Data → Members → Members
put_one k None ms = ms
put_one k (Some j) ms = put k j ms

-- the members of spots, each with its own name
abbrev there : (Spot → Option json.Data) → Spots → Members
there value [] = no_members
there value (e ∷ es) = one e.0.now (value e.1) (there value es)

-- Sorted spots.

abbrev AllAbove : List ℕ → Members → Type 0
AllAbove k no_members = Unit {0}
AllAbove k (member l e ms) = (slice_cmp nat_cmp k l ≡ Less) × AllAbove k ms

abbrev Above : List ℕ → Spots → Type 0
Above k [] = Unit {0}
Above k (u ∷ us) = (slice_cmp nat_cmp k u.0.now ≡ Less) × Above k us

abbrev pub Sorted : Spots → Type 0
Sorted [] = Unit {0}
Sorted (t ∷ ts) = Above t.0.now ts × Sorted ts

abbrev pub New : List ℕ → Spots → Type 0
New k [] = Unit {0}
New k (u ∷ us) = (slice_cmp nat_cmp k u.0.now ≡ Equal → ⊥) × New k us

abbrev insert : Bor (List ℕ) → Spot → Spots → Spots
insert k s es = insert_entry by_name es k s

chain : (j k : List ℕ) (ts : Spots) → cmp j k ≡ Less → Above k ts → Above j ts
chain j k [] e h = tt
chain j k (u ∷ us) e h = (nat_list_cmp_total.trans j k u.0.now e h.0, chain j k us e h.1)

turned : (k l : List ℕ) → cmp l k ≡ ordering_reverse (cmp k l)
turned k l = nat_list_cmp_total.antisymm l k

above_insert_at : (o : Ordering) (j : List ℕ) (k : Bor (List ℕ)) (s : Spot) (u : Bor (List ℕ) × Spot) (us more : Spots) → cmp j k.now ≡ Less → Above j (u ∷ us) → Above j more → Above j (match_ordering o ((k, s) ∷ u ∷ us) ((u.0, s) ∷ us) (u ∷ more))
above_insert_at Less j k s u us more e h r = (e, h)
above_insert_at Equal j k s u us more e h r = h
above_insert_at Greater j k s u us more e h r = (h.0, r)

above_insert : (j : List ℕ) (k : Bor (List ℕ)) (s : Spot) (ts : Spots) → cmp j k.now ≡ Less → Above j ts → Above j (insert k s ts)
above_insert j k s [] e h = (e, tt)
above_insert j k s (u ∷ us) e h = above_insert_at (by_name k u.0) j k s u us (insert k s us) e h (above_insert j k s us e h.1)

pub sorted_insert : (k : Bor (List ℕ)) (s : Spot) (ts : Spots) → Sorted ts → New k.now ts → Sorted (insert_entry by_name ts k s)
sorted_insert k s [] h n = (tt, tt)
sorted_insert k s (u ∷ us) h n = go (by_name k u.0) refl (sorted_insert k s us h.1 n.1)
  where
    go : (o : Ordering) → by_name k u.0 ≡ o → Sorted (insert k s us) → Sorted (match_ordering o ((k, s) ∷ u ∷ us) ((u.0, s) ∷ us) (u ∷ insert k s us))
    go Less is r = ((is, chain k.now u.0.now us is h.0), h)
    go Equal is r = absurd (n.0 is)
    go Greater is r = (above_insert u.0.now k s us (turned k.now u.0.now ∙ ap ordering_reverse is) h.0, r)

above_one : (k l : List ℕ) (o : Option json.Data) (ms : Members) → cmp k l ≡ Less → AllAbove k ms → AllAbove k (one l o ms)
above_one k l None ms e h = h
above_one k l (Some d) ms e h = (e, h)

above_members : (value : Spot → Option json.Data) (k : List ℕ) (ts : Spots) → Above k ts → AllAbove k (there value ts)
above_members value k [] h = tt
above_members value k (u ∷ us) h = above_one k u.0.now (value u.1) (there value us) h.0 (above_members value k us h.1)

put_first : (k : List ℕ) (d : json.Data) (ms : Members) → AllAbove k ms → put k d ms ≡ member k d ms
put_first k d no_members h = refl
put_first k d (member l e ms) h = ap (λ o. match_ordering o (member k d (member l e ms)) (member l d ms) (member l e (put k d ms))) h.0

put_later : (k l : List ℕ) (d e : json.Data) (ms : Members) → cmp k l ≡ Greater → put k d (member l e ms) ≡ member l e (put k d ms)
put_later k l d e ms h = ap (λ o. match_ordering o (member k d (member l e ms)) (member l d ms) (member l e (put k d ms))) h

first_one : (k : List ℕ) (o : Option json.Data) (ms : Members) → AllAbove k ms → one k o ms ≡ put_one k o ms
first_one k None ms h = refl
first_one k (Some d) ms h = sym (put_first k d ms h)

later_one : (k l : List ℕ) (o p : Option json.Data) (ms : Members) → cmp k l ≡ Greater → one l p (put_one k o ms) ≡ put_one k o (one l p ms)
later_one k l None p ms h = refl
later_one k l (Some d) None ms h = refl
later_one k l (Some d) (Some e) ms h = sym (put_later k l d e ms h)

there-insert : (value : Spot → Option json.Data) (k : Bor (List ℕ)) (s : Spot) (ts : Spots) → Sorted ts → New k.now ts → there value (insert_entry by_name ts k s) ≡ put_one k.now (value s) (there value ts)
there-insert value k s [] h n = first_one k.now (value s) no_members tt
there-insert value k s (u ∷ us) h n = go (by_name k u.0) refl (there-insert value k s us h.1 n.1)
  where
    go : (o : Ordering) → by_name k u.0 ≡ o → there value (insert k s us) ≡ put_one k.now (value s) (there value us)
        → there value (match_ordering o ((k, s) ∷ u ∷ us) ((u.0, s) ∷ us) (u ∷ insert k s us)) ≡ put_one k.now (value s) (there value (u ∷ us))
    go Less is r = first_one k.now (value s) (there value (u ∷ us)) (above_members value k.now (u ∷ us) (is, chain k.now u.0.now us is h.0))
    go Equal is r = absurd (n.0 is)
    go Greater is r = ap (one u.0.now (value u.1)) r ∙ later_one k.now u.0.now (value s) (value u.1) (there value us) is

-- Names that are new.

abbrev pub AllNew : Fields → Spots → Type 0
AllNew no_fields ts = Unit {0}
AllNew (component name g presence default own fs) ts = New name ts × AllNew fs ts
AllNew (inserted name g slot fs) ts = AllNew fs ts

pub none_found : (fs : Fields) → AllNew fs []
none_found no_fields = tt
none_found (component name g presence default own fs) = (tt, none_found fs)
none_found (inserted name g slot fs) = none_found fs

new_insert_at : (o : Ordering) (j : List ℕ) (k : Bor (List ℕ)) (s : Spot) (u : Bor (List ℕ) × Spot) (us more : Spots) → (cmp j k.now ≡ Equal → ⊥) → New j (u ∷ us) → New j more → New j (match_ordering o ((k, s) ∷ u ∷ us) ((u.0, s) ∷ us) (u ∷ more))
new_insert_at Less j k s u us more e h r = (e, h)
new_insert_at Equal j k s u us more e h r = h
new_insert_at Greater j k s u us more e h r = (h.0, r)

new_insert : (j : List ℕ) (k : Bor (List ℕ)) (s : Spot) (ts : Spots) → (cmp j k.now ≡ Equal → ⊥) → New j ts → New j (insert k s ts)
new_insert j k s [] e h = (e, tt)
new_insert j k s (u ∷ us) e h = new_insert_at (by_name k u.0) j k s u us (insert k s us) e h (new_insert j k s us e h.1)

apart : (k l : List ℕ) → same_name l k ≡ false → cmp k l ≡ Equal → ⊥
apart k l h e =
    let is : k ≡ l = (bytes_eq-Decides k l).0 (sym (is_eq-slice_cmp k l) ∙ ap is_eq e) in
    let same : same_name l k ≡ true = subst (λ x. same_name l x ≡ true) (sym is) (same_name-refl l) in
    cc

all_new : (fs : Fields) (k : Bor (List ℕ)) (s : Spot) (ts : Spots) → list_any (same_name k.now) (field_names fs) ≡ false → AllNew fs ts → AllNew fs (insert k s ts)
all_new no_fields k s ts h a = tt
all_new (component name g presence default own fs) k s ts h a =
    let p = or_parts (same_name k.now name) (list_any (same_name k.now) (field_names fs)) h in
    (new_insert name k s ts (apart name k.now p.0) a.0, all_new fs k s ts p.1 a.1)
all_new (inserted name g slot fs) k s ts h a = all_new fs k s ts (or_parts (same_name k.now name) (list_any (same_name k.now) (field_names fs)) h).1 a

-- The places that are left, and the JSON of a component.

abbrev left_places : ℕ → Places → Places
left_places zero ps = ps
left_places (suc k) no_places = no_places
left_places (suc k) (empty ps) = left_places k ps
left_places (suc k) (filled d ps) = left_places k ps

no_more : (found : Members) (fs : Fields) → fields_json found fs no_places ≡ found
no_more found no_fields = refl
no_more found (component name g presence default own fs) = refl
no_more found (inserted name g slot fs) = no_more found fs

-- the place of a number, and those behind it
abbrev Heads : Places → Option Data → Places → Type 0
Heads no_places o qs = (o ≡ None) × (qs ≡ no_places)
Heads (empty ps) o qs = (o ≡ None) × (qs ≡ ps)
Heads (filled d ps) o qs = (o ≡ Some d) × (qs ≡ ps)

heads : (k : ℕ) (ps : Places) → Heads (left_places k ps) (place_at ps k) (left_places (suc k) ps)
heads zero no_places = (refl, refl)
heads zero (empty ps) = (refl, refl)
heads zero (filled d ps) = (refl, refl)
heads (suc k) no_places = (refl, refl)
heads (suc k) (empty ps) = heads k ps
heads (suc k) (filled d ps) = heads k ps

step : (name : List ℕ) (g : Grammar) (presence : Presence) (default : Option (List ℕ)) (own : Option ℕ) (fs : Fields) (found : Members) (here next : Places) (o : Option Data) → Heads here o next
    → fields_json (put_one name (json_there (Some (a_component name g presence default own)) o) found) fs next ≡ fields_json found (component name g presence default own fs) here
step name g presence default own fs found no_places next o h = rw (h.0, h.1) (no_more found fs)
step name g presence default own fs found (empty ps) next o h = rw (h.0, h.1) refl
step name g presence default own fs found (filled d ps) next o h = rw (h.0, h.1) refl

-- Spots at their components.

abbrev NamedAt : Option OneField → List ℕ → Type 0
NamedAt (Some (a_component name g presence default own)) k = k ≡ name
NamedAt _ k = ⊥

abbrev AllNamed : Fields → Spots → Type 0
AllNamed whole [] = Unit {0}
AllNamed whole (e ∷ es) = NamedAt (field_at whole e.1.field) e.0.now × AllNamed whole es

named_insert : (whole : Fields) (k : Bor (List ℕ)) (s : Spot) (ts : Spots) → NamedAt (field_at whole s.field) k.now → New k.now ts → AllNamed whole ts → AllNamed whole (insert k s ts)
named_insert whole k s [] p n h = (p, tt)
named_insert whole k s (u ∷ us) p n h = go (by_name k u.0) refl (named_insert whole k s us p n.1 h.1)
  where
    go : (o : Ordering) → by_name k u.0 ≡ o → AllNamed whole (insert k s us) → AllNamed whole (match_ordering o ((k, s) ∷ u ∷ us) ((u.0, s) ∷ us) (u ∷ insert k s us))
    go Less is r = (p, h)
    go Equal is r = absurd (n.0 is)
    go Greater is r = (h.0, r)

-- the JSON where a spot leads
abbrev value : Fields → Places → Spot → Option json.Data
value whole ps s = json_there (field_at whole s.field) (place_at ps s.place)

-- so many places are passed, and the fields in front of these are noted
abbrev pub Noted : (whole rest : Fields) → (at : ℕ) → Spots → Type 0
Noted whole rest at es = Sorted es × AllNew rest es × Differ rest × AllNamed whole es × ((ps : Places) → fields_json (there (value whole ps) es) rest (left_places at ps) ≡ fields_json no_members whole ps)

pub nothing_noted : (whole : Fields) → Differ whole → Noted whole whole 0 []
nothing_noted whole h = (tt, none_found whole, h, tt, λ ps. refl)

noted_at : (whole : Fields) (n : Bor (List ℕ)) (g : Grammar) (presence : Presence) (default : Option (List ℕ)) (own : Option ℕ) (fs : Fields) (s : Spot) (es : Spots) → field_at whole s.field ≡ Some (a_component n.now g presence default own)
    → Noted whole (component n.now g presence default own fs) s.place es → Noted whole fs (suc s.place) (insert_entry by_name es n s)
noted_at whole n g presence default own fs s es f h =
    let p = and_parts (not (list_any (same_name n.now) (field_names fs))) (all_differ same_name (field_names fs)) h.2 in (
      sorted_insert n s es h.0 h.1.0,
      all_new fs n s es (not-true (list_any (same_name n.now) (field_names fs)) p.0) h.1.1,
      p.1,
      named_insert whole n s es (subst (λ o. NamedAt o n.now) (sym f) refl) h.1.0 h.3,
      λ ps. ap (λ ms. fields_json ms fs (left_places (suc s.place) ps)) (there-insert (value whole ps) n s es h.0 h.1.0)
          ∙ (ap (λ o. fields_json (put_one n.now (json_there o (place_at ps s.place)) (there (value whole ps) es)) fs (left_places (suc s.place) ps)) f
          ∙ (step n.now g presence default own fs (there (value whole ps) es) (left_places s.place ps) (left_places (suc s.place) ps) (place_at ps s.place) (heads s.place ps)
          ∙ h.4 ps)),
    )

pub component_noted : (whole : Fields) (n : Bor (List ℕ)) (name : List ℕ) (g : Grammar) (presence : Presence) (default : Option (List ℕ)) (own : Option ℕ) (fs : Fields) (s : Spot) (next : ℕ) (es : Spots) → n.now ≡ name → next ≡ suc s.place
    → field_at whole s.field ≡ Some (a_component name g presence default own) → Noted whole (component name g presence default own fs) s.place es → Noted whole fs next (insert_entry by_name es n s)
component_noted whole n name g presence default own fs s next es e m f h =
    subst (λ k. Noted whole fs k (insert_entry by_name es n s)) (sym m)
    (noted_at whole n g presence default own fs s es (f ∙ ap (λ k. Some (a_component k g presence default own)) (sym e)) (subst (λ k. Noted whole (component k g presence default own fs) s.place es) (sym e) h))

pub inserted_noted : (whole : Fields) (name : List ℕ) (g : Grammar) (slot : Option ℕ) (fs : Fields) (at : ℕ) (es : Spots) → Noted whole (inserted name g slot fs) at es → Noted whole fs at es
inserted_noted whole name g slot fs at es h =
    let p = and_parts (not (list_any (same_name name) (field_names fs))) (all_differ same_name (field_names fs)) h.2 in
    (h.0, h.1, p.1, h.3, h.4)

-- The places of the spots.

abbrev pub AllPlaced : Fields → Spots → Type 0
AllPlaced whole [] = Unit {0}
AllPlaced whole (e ∷ es) = (e.1.place ≡ place_of whole e.1.field) × AllPlaced whole es

placed_insert_at : (o : Ordering) (whole : Fields) (k : Bor (List ℕ)) (s : Spot) (u : Bor (List ℕ) × Spot) (us more : Spots) → s.place ≡ place_of whole s.field → AllPlaced whole (u ∷ us) → AllPlaced whole more → AllPlaced whole (match_ordering o ((k, s) ∷ u ∷ us) ((u.0, s) ∷ us) (u ∷ more))
placed_insert_at Less whole k s u us more p h r = (p, h)
placed_insert_at Equal whole k s u us more p h r = (p, h.1)
placed_insert_at Greater whole k s u us more p h r = (h.0, r)

pub placed_insert : (whole : Fields) (k : Bor (List ℕ)) (s : Spot) (ts : Spots) → s.place ≡ place_of whole s.field → AllPlaced whole ts → AllPlaced whole (insert_entry by_name ts k s)
placed_insert whole k s [] p h = (p, tt)
placed_insert whole k s (u ∷ us) p h = placed_insert_at (by_name k u.0) whole k s u us (insert k s us) p h (placed_insert whole k s us p h.1)

pub first_place : (fs : Fields) → place_of fs zero ≡ zero
first_place no_fields = refl
first_place (component name g presence default own fs) = refl
first_place (inserted name g slot fs) = refl

abbrev IsComponent : Option OneField → Type 0
IsComponent (Some (a_component name g presence default own)) = Unit {0}
IsComponent _ = ⊥

abbrev IsInserted : Option OneField → Type 0
IsInserted (Some (an_inserted name g slot)) = Unit {0}
IsInserted _ = ⊥

next_place : (fs : Fields) (k : ℕ) → IsComponent (field_at fs k) → place_of fs (suc k) ≡ suc (place_of fs k)
next_place no_fields k h = absurd h
next_place (component name g presence default own fs) zero h = ap suc (first_place fs)
next_place (component name g presence default own fs) (suc k) h = ap suc (next_place fs k h)
next_place (inserted name g slot fs) zero h = absurd h
next_place (inserted name g slot fs) (suc k) h = next_place fs k h

same_place : (fs : Fields) (k : ℕ) → IsInserted (field_at fs k) → place_of fs (suc k) ≡ place_of fs k
same_place no_fields k h = absurd h
same_place (component name g presence default own fs) zero h = absurd h
same_place (component name g presence default own fs) (suc k) h = ap suc (same_place fs k h)
same_place (inserted name g slot fs) zero h = first_place fs
same_place (inserted name g slot fs) (suc k) h = same_place fs k h

pub place_behind_component : (fs : Fields) (k next : ℕ) (name : List ℕ) (g : Grammar) (presence : Presence) (default : Option (List ℕ)) (own : Option ℕ) → next ≡ suc k → field_at fs k ≡ Some (a_component name g presence default own) → place_of fs next ≡ suc (place_of fs k)
place_behind_component fs k next name g presence default own n e = ap (place_of fs) n ∙ next_place fs k (subst IsComponent (sym e) tt)

pub place_behind_inserted : (fs : Fields) (k next : ℕ) (name : List ℕ) (g : Grammar) (slot : Option ℕ) → next ≡ suc k → field_at fs k ≡ Some (an_inserted name g slot) → place_of fs next ≡ place_of fs k
place_behind_inserted fs k next name g slot n e = ap (place_of fs) n ∙ same_place fs k (subst IsInserted (sym e) tt)

all_placed : (whole : Fields) (es : Spots) → AllPlaced whole es → ArePlaced whole (turns_at es)
all_placed whole [] h = tt
all_placed whole (e ∷ es) h = (h.0, all_placed whole es h.1)

-- All are noted.

keyed_one : (o : Option OneField) (k : List ℕ) → NamedAt o k → HasKey o (key_text k)
keyed_one None k h = absurd h
keyed_one (Some (a_component name g presence default own)) k h = ap key_text h
keyed_one (Some (an_inserted name g slot)) k h = absurd h

all_keyed : (whole : Fields) (es : Spots) → AllNamed whole es → AreKeyed whole (turns_at es)
all_keyed whole [] h = tt
all_keyed whole (e ∷ es) h = (keyed_one (field_at whole e.1.field) e.0.now h.0, all_keyed whole es h.1)

one_member : (o : Option OneField) (k : List ℕ) (p : Option Data) (ms : Members) → NamedAt o k → member_at o p ms ≡ one k (json_there o p) ms
one_member None k p ms h = absurd h
one_member (Some (a_component name g presence default own)) k None ms h = refl
one_member (Some (a_component name g presence default own)) k (Some d) ms h = ap (λ n. member n (json_of g d) ms) (sym h)
one_member (Some (an_inserted name g slot)) k p ms h = absurd h

all_members : (whole : Fields) (es : Spots) (ps : Places) → AllNamed whole es → in_order whole (turns_at es) ps ≡ there (value whole ps) es
all_members whole [] ps h = refl
all_members whole (e ∷ es) ps h =
    let o = field_at whole e.1.field in
    let p = place_at ps e.1.place in
    ap (member_at o p) (all_members whole es ps h.1) ∙ one_member o e.0.now p (there (value whole ps) es) h.0

-- No two spots have a place in common.

same_component : (fs : Fields) (i j : ℕ) (k l : List ℕ) → NamedAt (field_at fs i) k → NamedAt (field_at fs j) l → place_of fs i ≡ place_of fs j → k ≡ l
same_component no_fields i j k l h g e = absurd h
same_component (component name g' presence default own fs) zero zero k l h g e = h ∙ sym g
same_component (component name g' presence default own fs) zero (suc j) k l h g e = absurd (omega arith)
same_component (component name g' presence default own fs) (suc i) zero k l h g e = absurd (omega arith)
same_component (component name g' presence default own fs) (suc i) (suc j) k l h g e = same_component fs i j k l h g (omega arith)
same_component (inserted name g' slot fs) zero j k l h g e = absurd h
same_component (inserted name g' slot fs) (suc i) zero k l h g e = absurd g
same_component (inserted name g' slot fs) (suc i) (suc j) k l h g e = same_component fs i j k l h g e

not_less : (k l : List ℕ) → k ≡ l → cmp k l ≡ Less → ⊥
not_less k l same e =
    let here : cmp k k ≡ Less = subst (λ x. cmp k x ≡ Less) (sym same) e in
    let there : cmp k k ≡ ordering_reverse Less = turned k k ∙ ap ordering_reverse here in
    cc

elsewhere : (whole : Fields) (e : Bor (List ℕ) × Spot) (es : Spots) → Above e.0.now es → NamedAt (field_at whole e.1.field) e.0.now → e.1.place ≡ place_of whole e.1.field → AllNamed whole es → AllPlaced whole es → Elsewhere e.1.place (turns_at es)
elsewhere whole e [] above named placed names places = tt
elsewhere whole e (u ∷ us) above named placed names places = (
  λ same. not_less e.0.now u.0.now (same_component whole e.1.field u.1.field e.0.now u.0.now named names.0 (sym placed ∙ (sym same ∙ places.0))) above.0,
  elsewhere whole e us above.1 named placed names.1 places.1,
)

all_apart : (whole : Fields) (es : Spots) → Sorted es → AllNamed whole es → AllPlaced whole es → AreApart (turns_at es)
all_apart whole [] sorted named placed = tt
all_apart whole (e ∷ es) sorted named placed = (elsewhere whole e es sorted.0 named.0 placed.0 named.1 placed.1, all_apart whole es sorted.1 named.1 placed.1)

pub all_noted : (whole rest : Fields) (at : ℕ) (es : Spots) → rest ≡ no_fields → Noted whole rest at es → AllPlaced whole es → AreSpots whole es
all_noted whole rest at es e h placed =
    let n = subst (λ fs. Noted whole fs at es) e h in
    (all_keyed whole es n.3, λ ps. all_members whole es ps n.3 ∙ n.4 ps, all_placed whole es placed, all_apart whole es n.0 n.3 placed, all_short es)
