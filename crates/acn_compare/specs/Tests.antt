-- What two nodes at one place have alike, as tests that compute: the program makes these.
use Rattle.std.specs.Prelude.{◌≡◌, ℕ, nat_eq, nat_le, ℤ, Bool, true, false, ◌&&◌, ◌||◌, List, ◌∷◌, slice_get, Option, Some, None}
use Rattle.std.specs.Ordering.{int_eq}
use Rattle.std.specs.Cmp.Lexicographic.{pointwise}
use mathlib.Core.Bool.{beq}
use Rattle.acn_num.specs.Ranges.{Ranges}
use Rattle.acn_grammar.specs.Fails.{count_of}
use Rattle.acn_grammar.specs.Grammar.{Grammar, Form, Alternatives, node, num, octets, bits, text, seq, list, choice, contained}
use Rattle.acn_grammar.specs.View.{OneField, a_component, an_inserted, alternative_of}
use Rattle.acn_grammar.specs.Walk.{conditions_of}
use Rattle.acn_grammar.specs.declared.node.Alternative.{Alternative}
use Rattle.acn_grammar.specs.declared.node.NumKind.{NumKind}
use Rattle.acn_grammar.specs.declared.node.NumKind.TheVariants.{Integer, Boolean, Enumerated, Null}
use Rattle.acn_grammar.specs.declared.node.NumCoding.{NumCoding}
use Rattle.acn_grammar.specs.declared.node.NumCoding.TheVariants.{Range, CountedFrom, CountedSigned, PosInt, Twos, Bcd, BcdEnded, Ascii, AsciiEnded, Flag, Fixed}
use Rattle.acn_grammar.specs.declared.node.NumLeaf.{NumLeaf}
use Rattle.acn_grammar.specs.declared.node.Table.{Table}
use Rattle.acn_grammar.specs.declared.node.TextLeaf.{TextLeaf}
use Rattle.acn_grammar.specs.declared.node.SizeRule.{SizeRule}
use Rattle.acn_grammar.specs.declared.node.SizeRule.TheVariants.{Prefix, Slot, Ended}
use Rattle.acn_grammar.specs.declared.node.Presence.{Presence}
use Rattle.acn_grammar.specs.declared.node.Presence.TheVariants.{Always, Bit, When}
use Rattle.acn_grammar.specs.declared.node.Test.{Test}
use Rattle.acn_grammar.specs.declared.node.Test.TheVariants as test
use Rattle.acn_grammar.specs.declared.node.ChoiceRule.{ChoiceRule}
use Rattle.acn_grammar.specs.declared.node.ChoiceRule.TheVariants.{Index, Tests, Item}
use Rattle.acn_compare.specs.Accepts.{Answering, answers, Head, heads}
use Rattle.acn_compare.specs.declared.answer.Reason.{Reason}
use Rattle.acn_compare.specs.declared.answer.Reason.TheVariants as because

-- the same of each two that stand at one place, as far as both lists go
abbrev pub together : {A : Type 0} → (A → A → Bool) → List A → List A → Bool
together p (a ∷ as') (b ∷ bs) = p a b && together p as' bs
together p _ _ = true

-- Slots: by its number, the slot of the new grammar that answers to one of the old.

abbrev pub Slots : Type 0
Slots = List (Option ℕ)

abbrev pub is_that : ℕ → Option (Option ℕ) → Bool
is_that t (Some (Some u)) = nat_eq u t
is_that t (Some None) = false
is_that t None = false

abbrev pub answer : Slots → ℕ → ℕ → Bool
answer slots s t = is_that t (slice_get slots s)

-- the table says what answers
abbrev pub Tells : Answering → Slots → Type 0
Tells by slots = (s t : ℕ) → answer slots s t ≡ answers by s t

-- Kinds.

abbrev pub kinds_same : NumKind → NumKind → Bool
kinds_same Integer Integer = true
kinds_same Boolean Boolean = true
kinds_same Enumerated Enumerated = true
kinds_same Null Null = true
kinds_same _ _ = false

abbrev pub same_kind : Form → Form → Bool
same_kind (num leaf) (num leaf') = kinds_same leaf.kind leaf'.kind
same_kind (octets sizing) (octets sizing') = true
same_kind (bits sizing) (bits sizing') = true
same_kind (text leaf) (text leaf') = true
same_kind (seq _ _) (seq _ _) = true
same_kind (list sizing g) (list sizing' g') = true
same_kind (choice cases rule) (choice cases' rule') = true
same_kind (contained sizing g) (contained sizing' g') = true
same_kind _ _ = false

-- Codings.

abbrev pub same_pattern : List Bool → List Bool → Bool
same_pattern = pointwise beq

abbrev pub same_end : Option (List Bool) → Option (List Bool) → Bool
same_end None None = true
same_end (Some p) (Some q) = same_pattern p q
same_end _ _ = false

abbrev pub same_num_coding : NumCoding → NumCoding → Bool
same_num_coding (Range low width) (Range low' width') = int_eq low low' && nat_eq width width'
same_num_coding (CountedFrom low) (CountedFrom low') = int_eq low low'
same_num_coding CountedSigned CountedSigned = true
same_num_coding (PosInt n) (PosInt m) = nat_eq n m
same_num_coding (Twos n) (Twos m) = nat_eq n m
same_num_coding (Bcd n) (Bcd m) = nat_eq n m
same_num_coding BcdEnded BcdEnded = true
same_num_coding (Ascii n signed) (Ascii m signed') = nat_eq n m && beq signed signed'
same_num_coding (AsciiEnded p signed) (AsciiEnded q signed') = beq signed signed' && same_pattern p q
same_num_coding (Flag p r) (Flag q s) = same_end p q && same_end r s
same_num_coding (Fixed p) (Fixed q) = same_pattern p q
same_num_coding _ _ = false

abbrev pub same_line : ℤ × ℤ × ℤ → ℤ × ℤ × ℤ → Bool
same_line l m = (int_eq l.0 m.0 && int_eq l.1 m.1) && int_eq l.2 m.2

abbrev pub same_table : Option Table → Option Table → Bool
same_table None None = true
same_table (Some t) (Some u) = pointwise same_line t.lines u.lines
same_table _ _ = false

abbrev pub same_leaf : NumLeaf → NumLeaf → Bool
same_leaf l m = same_num_coding l.coding m.coding && (beq l.little m.little && (same_table l.table m.table && beq l.items.values m.items.values))

abbrev pub same_rule : SizeRule → SizeRule → Bool
same_rule (Prefix low width) (Prefix low' width') = nat_eq low low' && nat_eq width width'
same_rule (Slot s) (Slot t) = true
same_rule (Ended p) (Ended q) = same_pattern p q
same_rule _ _ = false

abbrev pub same_range : ℤ × ℤ → ℤ × ℤ → Bool
same_range r s = int_eq r.0 s.0 && int_eq r.1 s.1

abbrev pub same_places : (indexed : Bool) → Ranges → Ranges → Bool
same_places true r s = pointwise same_range r s
same_places false r s = true

abbrev pub same_characters : TextLeaf → TextLeaf → Bool
same_characters l m = nat_eq l.width m.width && (beq l.indexed m.indexed && same_places l.indexed l.alphabet m.alphabet)

abbrev pub same_text : TextLeaf → TextLeaf → Bool
same_text l m = same_rule l.sized.rule m.sized.rule && (same_end l.ended m.ended && same_characters l m)

abbrev pub same_index : ChoiceRule → ChoiceRule → Bool
same_index (Index width) (Index width') = nat_eq width width'
same_index _ _ = true

abbrev pub same_coding : Form → Form → Bool
same_coding (num leaf) (num leaf') = same_leaf leaf leaf'
same_coding (octets sizing) (octets sizing') = same_rule sizing.rule sizing'.rule
same_coding (bits sizing) (bits sizing') = same_rule sizing.rule sizing'.rule
same_coding (text leaf) (text leaf') = same_text leaf leaf'
same_coding (list sizing g) (list sizing' g') = same_rule sizing.rule sizing'.rule
same_coding (choice cases rule) (choice cases' rule') = same_index rule rule'
same_coding (contained sizing g) (contained sizing' g') = same_rule sizing.rule sizing'.rule
same_coding _ _ = true

-- Names.

abbrev pub same_word : List ℕ → List ℕ → Bool
same_word = pointwise nat_eq

abbrev pub same_item : List ℕ × ℤ → List ℕ × ℤ → Bool
same_item a b = same_word a.0 b.0 && int_eq a.1 b.1

abbrev pub head_of : OneField → Head
head_of (a_component name g presence default slot) = record { inserted = false; name = name; presence = presence; slot = slot }
head_of (an_inserted name g slot) = record { inserted = true; name = name; presence = Always; slot = slot }

abbrev pub same_component : Head → Head → Bool
same_component h k = h.inserted || (k.inserted || same_word h.name k.name)

abbrev pub condition_of : Alternative → List ℕ × List Test
condition_of a = ((alternative_of a).name, (alternative_of a).tests)

abbrev pub same_alternative : (List ℕ × List Test) → (List ℕ × List Test) → Bool
same_alternative c d = same_word c.0 d.0

abbrev pub same_names : Form → Form → Bool
same_names (num leaf) (num leaf') = pointwise same_item leaf.items.items leaf'.items.items
same_names (seq fields home) (seq fields' home') = together same_component (heads fields) (heads fields')
same_names (choice cases rule) (choice cases' rule') = together same_alternative (conditions_of cases) (conditions_of cases')
same_names _ _ = true

-- Fields and their presence.

abbrev pub same_place : Head → Head → Bool
same_place h k = beq h.inserted k.inserted

abbrev pub same_fields : Form → Form → Bool
same_fields (seq fields home) (seq fields' home') = pointwise same_place (heads fields) (heads fields')
same_fields _ _ = true

abbrev pub both_by : Presence → Presence → Bool
both_by Always Always = true
both_by Bit Bit = true
both_by (When ts) (When us) = true
both_by _ _ = false

abbrev pub same_presence : Form → Form → Bool
same_presence (seq fields home) (seq fields' home') = together (λ h k. both_by h.presence k.presence) (heads fields) (heads fields')
same_presence _ _ = true

-- Determinants.

abbrev pub both_say : Option ℕ → Option ℕ → Bool
both_say None None = true
both_say (Some s) (Some t) = true
both_say _ _ = false

module _ (slots : Slots) where
  abbrev pub same_test : Test → Test → Bool
  same_test (test.Flag s) (test.Flag t) = answer slots s t
  same_test (test.Equals s k) (test.Equals t m) = answer slots s t && int_eq k m
  same_test _ _ = false

  abbrev pub same_conditions : Presence → Presence → Bool
  same_conditions (When ts) (When us) = pointwise same_test ts us
  same_conditions _ _ = true

  abbrev pub same_field : Head → Head → Bool
  same_field h k = both_say h.slot k.slot && same_conditions h.presence k.presence

  abbrev pub same_slot : SizeRule → SizeRule → Bool
  same_slot (Slot s) (Slot t) = answer slots s t
  same_slot _ _ = true

  abbrev pub same_case : (List ℕ × List Test) → (List ℕ × List Test) → Bool
  same_case c d = pointwise same_test c.1 d.1

  abbrev pub same_chooser : Alternatives → ChoiceRule → Alternatives → ChoiceRule → Bool
  same_chooser cases Tests cases' Tests = together same_case (conditions_of cases) (conditions_of cases')
  same_chooser cases (Item s) cases' (Item t) = answer slots s t
  same_chooser cases _ cases' _ = true

  abbrev pub same_determinants : Form → Form → Bool
  same_determinants (octets sizing) (octets sizing') = same_slot sizing.rule sizing'.rule
  same_determinants (bits sizing) (bits sizing') = same_slot sizing.rule sizing'.rule
  same_determinants (text leaf) (text leaf') = same_slot leaf.sized.rule leaf'.sized.rule
  same_determinants (list sizing g) (list sizing' g') = same_slot sizing.rule sizing'.rule
  same_determinants (contained sizing g) (contained sizing' g') = same_slot sizing.rule sizing'.rule
  same_determinants (choice cases rule) (choice cases' rule') = same_chooser cases rule cases' rule'
  same_determinants (seq fields home) (seq fields' home') = pointwise (answer slots) home home' && together same_field (heads fields) (heads fields')
  same_determinants _ _ = true

-- Alternatives.

abbrev pub both_choose : ChoiceRule → ChoiceRule → Bool
both_choose (Index width) (Index width') = true
both_choose Tests Tests = true
both_choose (Item s) (Item t) = true
both_choose _ _ = false

abbrev pub same_alternatives : Form → Form → Bool
same_alternatives (choice cases rule) (choice cases' rule') = both_choose rule rule' && nat_le (count_of cases) (count_of cases')
same_alternatives _ _ = true

-- The first reason that holds, in two halves: the one between them, of lost values, doesn't compute.

abbrev pub unless_so : Bool → Reason → Option Reason → Option Reason
unless_so true reason others = others
unless_so false reason others = Some reason

abbrev pub written : Grammar → Grammar → Option Reason
written (node align form) (node align' form') = unless_so (same_kind form form') because.Kind (unless_so (nat_eq align align') because.Align (unless_so (same_coding form form') because.Coding None))

abbrev pub made : Slots → Form → Form → Option Reason
made slots form form' =
    unless_so (same_names form form') because.Names
    (unless_so (same_fields form form') because.Fields
    (unless_so (same_presence form form') because.Presence
    (unless_so (same_determinants slots form form') because.Determinant
    (unless_so (same_alternatives form form') because.Alternatives None))))
