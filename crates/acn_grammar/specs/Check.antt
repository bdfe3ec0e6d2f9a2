-- What keeps a grammar from being decoded, with its evidence, and which fault comes first. (This profile's own; X.680 and
-- X.691 have no determinants outside a type's own code.)
use Rattle.std.specs.Prelude.{◌≡◌, ℕ, ◌+◌, ◌<◌, ◌≤◌, ℤ, Bool, true, false, not, ◌&&◌, nat_le, if◌then◌else◌, List, [], ◌∷◌, ◌++◌, length, map, take, Option, Some, None, slice_get, nat_eq, ◌⊎◌, count_by, Contains}
use Rattle.std.specs.List.{AllByRecursion, flat_map}
use Rattle.acn_num.specs.Ranges.{In}
use Rattle.acn_grammar.specs.Grammar.{Grammar, Form, Fields, Alternatives, node, num, seq, list, choice, component, inserted}
use Rattle.acn_grammar.specs.Code.{Any, Code}
use Rattle.acn_grammar.specs.Env.{AllHold}
use Rattle.acn_grammar.specs.Fails.{presence_count}
use Rattle.acn_grammar.specs.Interval.{span, value_count}
use Rattle.acn_grammar.specs.Length.{flag_width, ending}
use Rattle.acn_grammar.specs.Slots.{slot_leaf, domain_of, items_of}
use Rattle.acn_grammar.specs.Walk.{Stand, Role, a_component, Use, condition, item_of, size_of, nodes_of, uses, slot_of, slot_here, inserted_slot, presence_tests, conditions_of}
use Rattle.acn_grammar.specs.declared.node.NumKind.{NumKind}
use Rattle.acn_grammar.specs.declared.node.NumKind.TheVariants.{Integer, Boolean, Enumerated}
use Rattle.acn_grammar.specs.declared.node.NumLeaf.{NumLeaf}
use Rattle.acn_grammar.specs.declared.node.NumCoding.{NumCoding}
use Rattle.acn_grammar.specs.declared.node.NumCoding.TheVariants.{Range, PosInt, Twos, Flag as Pattern_or_bit, Fixed}
use Rattle.acn_grammar.specs.declared.node.Table.{Table}
use Rattle.acn_grammar.specs.declared.node.Presence.TheVariants.{Always}
use Rattle.acn_grammar.specs.declared.node.Test.{Test}
use Rattle.acn_grammar.specs.declared.node.Test.TheVariants.{Flag, Equals}
use Rattle.acn_grammar.specs.declared.node.ChoiceRule.{ChoiceRule}
use Rattle.acn_grammar.specs.declared.node.ChoiceRule.TheVariants.{Tests, Item}
use Rattle.acn_grammar.specs.declared.limits.TheConstants.{MOST_DETERMINANT_BITS, MOST_PACKET_BITS, MOST_OPEN_SLOTS, MOST_CONDITIONS, MOST_VALUES}

pub data CheckFault : Type 0 where
  forward : (user det : List ℕ) → CheckFault
  det_kind : (user det : List ℕ) → CheckFault
  det_width : (det : List ℕ) → CheckFault
  overlap : (choice : List ℕ) → (first second : ℕ) → (values : List (ℕ × ℤ)) → CheckFault
  absent_unclear : (at : List ℕ) → CheckFault
  unused : (det : List ℕ) → CheckFault
  no_item : (choice : List ℕ) → (which : ℕ) → CheckFault
  mixed_choice : (choice : List ℕ) → CheckFault
  too_long : (bits : ℕ) → CheckFault
  too_many_open : (at : List ℕ) → (count : ℕ) → CheckFault
  too_many_conditions : (det : List ℕ) → (count : ℕ) → CheckFault
  too_many_values : (count : ℕ) → CheckFault
  terminator_ambiguous : (list : List ℕ) → CheckFault

abbrev pub number_of_fault : CheckFault → ℕ
number_of_fault (forward user det) = 1
number_of_fault (det_kind user det) = 2
number_of_fault (det_width det) = 3
number_of_fault (overlap at i j values) = 4
number_of_fault (absent_unclear at) = 5
number_of_fault (unused det) = 6
number_of_fault (no_item at i) = 7
number_of_fault (mixed_choice at) = 8
number_of_fault (too_long n) = 9
number_of_fault (too_many_open at n) = 10
number_of_fault (too_many_conditions det n) = 11
number_of_fault (too_many_values n) = 12
number_of_fault (terminator_ambiguous at) = 13

-- the kind of leaf that a use asks for
abbrev pub AsksFor : Use → NumKind → Type 0
AsksFor (condition (Flag s)) Boolean = Unit {0}
AsksFor (condition (Equals s k)) Integer = Unit {0}
AsksFor (item_of s) Enumerated = Unit {0}
AsksFor (size_of s) Integer = Unit {0}
AsksFor _ _ = ⊥

-- all codes of the leaf have this length
abbrev pub HasWidth : NumLeaf → ℕ → Type 0
HasWidth leaf w = (x : ℤ) (bs : List Bool) → Code Any leaf x bs → length bs ≡ w

-- all codes of the leaf have one length, that of a determinant at most
pub record HasOneWidth (leaf : NumLeaf) : Type 0 where
  pub width : ℕ
  pub all_codes : HasWidth leaf width
  pub narrow : width ≤ MOST_DETERMINANT_BITS

-- a component with more than one condition
abbrev pub HasMoreConditions : Role → Type 0
HasMoreConditions (a_component one) = 1 < length (presence_tests one.presence)
HasMoreConditions _ = ⊥

abbrev pub test_slot : Test → ℕ
test_slot (Flag s) = s
test_slot (Equals s k) = s

abbrev pub is_equals_on : ℕ → Use → Bool
is_equals_on s (condition (Equals t k)) = nat_eq s t
is_equals_on s _ = false

abbrev pub home_size : Form → ℕ
home_size (seq _ home) = length home
home_size _ = 0

-- how many slots the homes on the path to a node have, itself included
abbrev pub open_at : Stand → ℕ
open_at at = home_size at.form + length at.around

abbrev pub IsStrictly : List ℕ → Type 0
IsStrictly [] = Unit {0}
IsStrictly (a ∷ []) = Unit {0}
IsStrictly (a ∷ b ∷ rest) = (a < b) × IsStrictly (b ∷ rest)

-- A list that is ended by a pattern can be read where the first bits of each element tell it from the pattern.

-- its codes are plain and have at least so many bits
abbrev pub is_wide : ℕ → NumCoding → Bool
is_wide n (Range low width) = nat_le n width
is_wide n (PosInt width) = nat_le n width
is_wide n (Twos width) = nat_le n width
is_wide n (Pattern_or_bit ones zeros) = nat_le n (flag_width ones zeros)
is_wide n (Fixed pattern) = nat_le n (length pattern)
is_wide n _ = false

abbrev pub has_no_table : Option Table → Bool
has_no_table None = true
has_no_table (Some table) = false

abbrev pub is_lead : ℕ → NumLeaf → Bool
is_lead n leaf = is_wide n leaf.coding && (not leaf.little && has_no_table leaf.table)

-- the number with whose code of at least n bits every spelling of the node begins, if there is one
abbrev mutual
  pub lead : ℕ → Grammar → Option NumLeaf
  lead n (node align form) = if nat_eq align 1 then form_lead n form else None

  pub form_lead : ℕ → Form → Option NumLeaf
  form_lead n (num leaf) = if is_lead n leaf then Some leaf else None
  form_lead n (seq fields home) = if nat_eq (presence_count fields) 0 then fields_lead n fields else None
  form_lead n _ = None

  pub fields_lead : ℕ → Fields → Option NumLeaf
  fields_lead n (component name g Always default own fs) = lead n g
  fields_lead n (inserted name g slot fs) = lead n g
  fields_lead n _ = None

-- a permitted number has a code that begins with the pattern
pub record BeginsLike (p : List Bool) (leaf : NumLeaf) : Type 0 where
  pub number : ℤ
  pub code : List Bool
  pub codes : Code Any leaf number code
  pub begins : take (length p) code ≡ p

-- there is none, or it may begin like the pattern
abbrev pub LeadAmbiguous : List Bool → Option NumLeaf → Type 0
LeadAmbiguous p None = Unit {0}
LeadAmbiguous p (Some leaf) = BeginsLike p leaf

abbrev pub EndAmbiguous : Option (List Bool) → Grammar → Type 0
EndAmbiguous None g = ⊥
EndAmbiguous (Some p) g = LeadAmbiguous p (lead (length p) g)

abbrev pub ListAmbiguous : Form → Type 0
ListAmbiguous (list sizing g) = EndAmbiguous (ending sizing.rule) g
ListAmbiguous _ = ⊥

module _ (root : Grammar) where
  -- the node of a number in preorder
  abbrev pub NodeAt : ℕ → Stand → Type 0
  NodeAt k at = slice_get (nodes_of root) k ≡ Some at

  -- a use of a slot at node k, and the slot's field at node j
  pub record UseOf (k u : ℕ) (user det : List ℕ) (use' : Use) (j : ℕ) : Type 0 where
    pub at : Stand
    pub field : Stand
    pub is_at : NodeAt k at
    pub is_use : slice_get (uses at) u ≡ Some use'
    pub is_field : NodeAt j field
    pub slot : slot_here field.role ≡ Some (slot_of use')
    pub user_path : at.path ≡ user
    pub det_path : field.path ≡ det

  -- both alternatives have conditions, and these numbers, one for each slot that either names, meet them all
  pub record Overlaps (cases : Alternatives) (i j : ℕ) (values : List (ℕ × ℤ)) : Type 0 where
    pub in_order : i < j
    pub one : List ℕ × List Test
    pub other : List ℕ × List Test
    pub is_one : slice_get (conditions_of cases) i ≡ Some one
    pub is_other : slice_get (conditions_of cases) j ≡ Some other
    pub some_one : 0 < length one.1
    pub some_other : 0 < length other.1
    pub slots : (s : ℕ) → Contains (map (λ e. e.0) values) s → Contains (map test_slot (one.1 ++ other.1)) s
    pub all_slots : (s : ℕ) → Contains (map test_slot (one.1 ++ other.1)) s → Contains (map (λ e. e.0) values) s
    pub ascending : IsStrictly (map (λ e. e.0) values)
    pub permitted : AllByRecursion (λ e. In (domain_of root e.0) e.1) values
    pub holds : AllHold values (one.1 ++ other.1)

  abbrev pub IsChoice : Form → Alternatives → ChoiceRule → Type 0
  IsChoice (choice cases rule) cases' rule' = (cases ≡ cases') × (rule ≡ rule')
  IsChoice _ cases' rule' = ⊥

  pub record ChoiceAt (k : ℕ) (path : List ℕ) (cases : Alternatives) (rule : ChoiceRule) : Type 0 where
    pub at : Stand
    pub is_at : NodeAt k at
    pub path_is : at.path ≡ path
    pub form_is : IsChoice at.form cases rule

  abbrev pub equals_on : ℕ → ℕ
  equals_on s = count_by (is_equals_on s) (flat_map uses (nodes_of root))

  -- What shows a fault, at node k and its use u.

  -- a use stands before the field of its slot
  pub record UsedTooEarly (user det : List ℕ) (k u : ℕ) : Type 0 where
    pub named : Use
    pub field_at : ℕ
    pub use_is : UseOf k u user det named field_at
    pub behind : k < field_at

  -- a use asks for another kind of number than that of its slot
  pub record AsksForAnotherKind (user det : List ℕ) (k u : ℕ) : Type 0 where
    pub named : Use
    pub field_at : ℕ
    pub leaf : NumLeaf
    pub use_is : UseOf k u user det named field_at
    pub leaf_is : slot_leaf root (slot_of named) ≡ Some leaf
    pub another : AsksFor named leaf.kind → ⊥

  -- the codes of an inserted slot don't all have one length, or too great a one
  pub record HasNoWidth (det : List ℕ) (k : ℕ) : Type 0 where
    pub at : Stand
    pub is_at : NodeAt k at
    pub path_is : at.path ≡ det
    pub slot : ℕ
    pub slot_is : inserted_slot at.role ≡ Some slot
    pub leaf : NumLeaf
    pub leaf_is : slot_leaf root slot ≡ Some leaf
    pub no_width : HasOneWidth leaf → ⊥

  -- two alternatives of a CHOICE by conditions overlap
  pub record HasOverlap (path : List ℕ) (i j : ℕ) (values : List (ℕ × ℤ)) (k : ℕ) : Type 0 where
    pub cases : Alternatives
    pub choice_is : ChoiceAt k path cases Tests
    pub overlaps : Overlaps cases i j values

  -- a component has more than one condition
  pub record IsUnclear (path : List ℕ) (k : ℕ) : Type 0 where
    pub at : Stand
    pub is_at : NodeAt k at
    pub path_is : at.path ≡ path
    pub more : HasMoreConditions at.role

  -- no use names the slot of a field
  pub record HasNoUse (det : List ℕ) (k : ℕ) : Type 0 where
    pub at : Stand
    pub is_at : NodeAt k at
    pub path_is : at.path ≡ det
    pub slot : ℕ
    pub slot_is : slot_here at.role ≡ Some slot
    pub no_use : Contains (map slot_of (flat_map uses (nodes_of root))) slot → ⊥

  -- the determinant has no item for an alternative
  pub record HasNoItem (path : List ℕ) (i : ℕ) (k : ℕ) : Type 0 where
    pub cases : Alternatives
    pub slot : ℕ
    pub choice_is : ChoiceAt k path cases (Item slot)
    pub name : List ℕ
    pub tests : List Test
    pub is_alternative : slice_get (conditions_of cases) i ≡ Some (name, tests)
    pub no_item : Contains (map (λ e. e.0) (items_of root slot)) name → ⊥

  -- what conditions don't stand beside: a determinant, and an alternative without conditions
  pub data IsMixedWith (cases : Alternatives) (rule : ChoiceRule) : Type 0 where
    a_determinant : (s : ℕ) → rule ≡ Item s → IsMixedWith cases rule
    one_without : (j : ℕ) (other : List ℕ × List Test) → slice_get (conditions_of cases) j ≡ Some other → other.1 ≡ [] → IsMixedWith cases rule

  -- an alternative has conditions beside one of these
  pub record IsMixed (path : List ℕ) (k : ℕ) : Type 0 where
    pub cases : Alternatives
    pub rule : ChoiceRule
    pub choice_is : ChoiceAt k path cases rule
    pub first : ℕ
    pub one : List ℕ × List Test
    pub is_one : slice_get (conditions_of cases) first ≡ Some one
    pub some_one : 0 < length one.1
    pub beside : IsMixedWith cases rule

  -- the whole tree: too many bits
  pub record IsTooLong (n k : ℕ) : Type 0 where
    pub at_root : k ≡ 0
    pub bits_are : n ≡ (span root).greatest
    pub many : MOST_PACKET_BITS < n

  -- too many slots are at home on the path to a node
  pub record HasManyOpen (path : List ℕ) (n k : ℕ) : Type 0 where
    pub at : Stand
    pub is_at : NodeAt k at
    pub path_is : at.path ≡ path
    pub count_is : n ≡ open_at at
    pub many : MOST_OPEN_SLOTS < n

  -- too many conditions with == on the slot of a field
  pub record HasManyConditions (det : List ℕ) (n k : ℕ) : Type 0 where
    pub at : Stand
    pub is_at : NodeAt k at
    pub path_is : at.path ≡ det
    pub slot : ℕ
    pub slot_is : slot_here at.role ≡ Some slot
    pub count_is : n ≡ equals_on slot
    pub many : MOST_CONDITIONS < n

  -- the whole tree: too many values
  pub record HasManyValues (n k : ℕ) : Type 0 where
    pub at_root : k ≡ 0
    pub count_is : n ≡ value_count root
    pub many : MOST_VALUES < n

  -- the elements of a list don't tell the pattern that ends it
  pub record HasNoEnd (path : List ℕ) (k : ℕ) : Type 0 where
    pub at : Stand
    pub is_at : NodeAt k at
    pub path_is : at.path ≡ path
    pub ambiguous : ListAmbiguous at.form

  -- the fault holds at node k and its use u
  abbrev pub Evidence : CheckFault → (k u : ℕ) → Type 0
  Evidence (forward user det) k u = UsedTooEarly user det k u
  Evidence (det_kind user det) k u = AsksForAnotherKind user det k u
  Evidence (det_width det) k u = HasNoWidth det k
  Evidence (overlap path i j values) k u = HasOverlap path i j values k
  Evidence (absent_unclear path) k u = IsUnclear path k
  Evidence (unused det) k u = HasNoUse det k
  Evidence (no_item path i) k u = HasNoItem path i k
  Evidence (mixed_choice path) k u = IsMixed path k
  Evidence (too_long n) k u = IsTooLong n k
  Evidence (too_many_open path n) k u = HasManyOpen path n k
  Evidence (too_many_conditions det n) k u = HasManyConditions det n k
  Evidence (too_many_values n) k u = HasManyValues n k
  Evidence (terminator_ambiguous path) k u = HasNoEnd path k

  -- it holds at some node and use
  pub record Undecodable (f : CheckFault) : Type 0 where
    pub node : ℕ
    pub use_here : ℕ
    pub holds : Evidence f node use_here

  -- the order of faults: number, node, use, alternatives
  abbrev pub rank : CheckFault → (k u : ℕ) → List ℕ
  rank (overlap path i j values) k u = 4 ∷ k ∷ 0 ∷ i ∷ j ∷ []
  rank (no_item path i) k u = 7 ∷ k ∷ 0 ∷ i ∷ 0 ∷ []
  rank f k u = number_of_fault f ∷ k ∷ u ∷ 0 ∷ 0 ∷ []

  abbrev pub Before : List ℕ → List ℕ → Type 0
  Before (a ∷ as') (b ∷ bs) = (a < b) ⊎ ((a ≡ b) × Before as' bs)
  Before _ _ = ⊥

  pub record FirstFault (f : CheckFault) : Type 0 where
    pub node : ℕ
    pub use_here : ℕ
    pub holds : Evidence f node use_here
    pub first : (g : CheckFault) (k u : ℕ) → Evidence g k u → Before (rank g k u) (rank f node use_here) → ⊥
