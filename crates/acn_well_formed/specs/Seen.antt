-- What is seen of one slot inside a node, by recursion over its nodes.
use Rattle.std.specs.Prelude.{ℕ, ◌+◌, ◌-◌, ◌^◌, min, nat_eq, nat_lt, Bool, true, false, not, ◌&&◌, ◌||◌, List, Option}
use Rattle.std.specs.List.{list_any}
use Rattle.acn_grammar.specs.Grammar.{Grammar, Form, Fields, Alternatives, node, seq, list, choice, contained, no_fields, component, inserted, no_alternatives, alternative}
use Rattle.acn_grammar.specs.Check.{test_slot}
use Rattle.acn_grammar.specs.Leaves.{implies, same_truth}
use Rattle.acn_grammar.specs.Tree.{holds, is_seq, is_slot}
use Rattle.acn_grammar.specs.View.{OneField, OneAlternative, a_component, an_inserted}
use Rattle.acn_grammar.specs.Walk.{slot_of, form_uses, presence_tests}
use Rattle.acn_well_formed.specs.declared.homes.Seen.{Seen}
use Rattle.acn_grammar.specs.declared.node.Presence.{Presence}
use Rattle.acn_grammar.specs.declared.node.Presence.TheVariants.{Always, Bit, When}
use Rattle.acn_grammar.specs.declared.node.Test.{Test}

abbrev pub tests_name : ℕ → List Test → Bool
tests_name s ts = list_any (λ t. nat_eq s (test_slot t)) ts

-- the form of a node uses the slot
abbrev pub form_names : ℕ → Form → Bool
form_names s form = list_any (λ u. nat_eq s (slot_of u)) (form_uses form)

abbrev pub nothing : Seen
nothing = record { about = 0; encloses = false; near = false; fine = true }

-- both, counted up to the greatest number of 32 bits
abbrev pub joined : Seen → Seen → Seen
joined a b = record { about = min (a.about + b.about) (2 ^ 32 - 1); encloses = a.encloses || b.encloses; near = a.near || b.near; fine = a.fine && b.fine }

abbrev pub weight : Bool → ℕ
weight true = 1
weight false = 0

abbrev pub far : Seen → Seen
far a = record { about = a.about; encloses = a.encloses; near = false; fine = a.fine }

module _ (s total : ℕ) where
  -- a component that says the slot is right where the slot has a use
  abbrev pub own_right : Option ℕ → Bool
  own_right own = implies (is_slot s own) (nat_lt 1 total)

  -- a node with what is inside it: its role is the slot's field or uses the slot, or the form uses it
  abbrev pub with_node : (in_home is_field uses_it is_right : Bool) → Form → Seen → Seen
  with_node in_home is_field uses_it is_right form inner = record {
    about = min (inner.about + weight (is_field || (uses_it || form_names s form))) (2 ^ 32 - 1);
    encloses = inner.encloses || (is_seq form && nat_eq inner.about total);
    near = inner.near;
    fine = inner.fine && (implies (uses_it || form_names s form) in_home && is_right);
  }

  -- a SEQUENCE with what is inside it: it is the slot's home exactly where it encloses all and nothing inside it does
  abbrev pub with_home : List ℕ → Seen → Seen
  with_home home inner = record {
    about = inner.about;
    encloses = inner.encloses;
    near = inner.near;
    fine = inner.fine && (same_truth (holds home s) (nat_eq inner.about total && not inner.encloses) && implies (holds home s) inner.near);
  }

  -- a component lends what is near in it where it is always there
  abbrev pub through : Presence → Seen → Seen
  through Always inner = inner
  through Bit inner = far inner
  through (When ts) inner = far inner

  -- an inserted field is near where it is the slot's
  abbrev pub inserted_near : Option ℕ → Seen → Seen
  inserted_near slot inner = record { about = inner.about; encloses = inner.encloses; near = is_slot s slot; fine = inner.fine }

  -- a component is near, too, where it says the slot
  abbrev pub own_near : Option ℕ → Seen → Seen
  own_near own inner = record { about = inner.about; encloses = inner.encloses; near = is_slot s own || inner.near; fine = inner.fine }

  abbrev mutual
    pub seen : (in_home is_field uses_it is_right : Bool) → Grammar → Seen
    seen in_home is_field uses_it is_right (node align form) = with_node in_home is_field uses_it is_right form (form_seen in_home form)

    pub form_seen : (in_home : Bool) → Form → Seen
    form_seen in_home (seq fields home) = with_home home (fields_seen (in_home || holds home s) nothing fields)
    form_seen in_home (list sizing g) = far (seen in_home false false true g)
    form_seen in_home (choice alternatives rule) = far (alternatives_seen in_home nothing alternatives)
    form_seen in_home (contained sizing g) = far (seen in_home false false true g)
    form_seen in_home _ = nothing

    -- behind what was seen before
    pub fields_seen : (in_home : Bool) → Seen → Fields → Seen
    fields_seen in_home before no_fields = before
    fields_seen in_home before (component name g presence default own fs) =
        fields_seen in_home (joined before (own_near own (through presence (seen in_home (is_slot s own) (tests_name s (presence_tests presence)) (own_right own) g)))) fs
    fields_seen in_home before (inserted name g slot fs) =
        fields_seen in_home (joined before (inserted_near slot (seen in_home (is_slot s slot) false true g))) fs

    pub alternatives_seen : (in_home : Bool) → Seen → Alternatives → Seen
    alternatives_seen in_home before no_alternatives = before
    alternatives_seen in_home before (alternative name g tests more) = alternatives_seen in_home (joined before (seen in_home false (tests_name s tests) true g)) more

  abbrev pub field_seen : (in_home : Bool) → OneField → Seen
  field_seen in_home (a_component name g presence default own) = own_near own (through presence (seen in_home (is_slot s own) (tests_name s (presence_tests presence)) (own_right own) g))
  field_seen in_home (an_inserted name g slot) = inserted_near slot (seen in_home (is_slot s slot) false true g)

  abbrev pub alternative_seen : (in_home : Bool) → OneAlternative → Seen
  alternative_seen in_home a = seen in_home false (tests_name s a.tests) true a.grammar

-- the home of a slot and its uses are right in a tree
unfoldable pub slot_kept : Grammar → ℕ → Bool
slot_kept root s = (seen s (seen s 0 false false false true root).about false false false true root).fine
