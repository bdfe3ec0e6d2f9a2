-- What a value asks of the numbers of slots, in the order of the walk. Conditions, sizes and determinants are ACN's
-- (`present-when`, `size`, `determinant`); which number each asks is this profile's own.
use Rattle.std.specs.Prelude.{ℕ, zero, suc, ℤ, pos, Bool, true, false, List, [], ◌∷◌, ◌++◌, length, map, nat_eq, ◌&&◌, if◌then◌else◌, Option, Some, None, option_map, unwrap_or}
use Rattle.acn_num.specs.Bits.{octets as octets_for}
use Rattle.acn_grammar.specs.Grammar.{Grammar, Form, Fields, Alternatives, Data, Places, Elements, node, octets, bits, text, seq, list, choice, contained, no_fields, component, inserted, no_alternatives, alternative, octet_string, bit_string, characters, record_of, list_of, alt, empty, filled, no_elements, element, element_count}
use Rattle.acn_grammar.specs.Length.{bit_length, number_of}
use Rattle.acn_grammar.specs.Slots.{items_of}
use Rattle.acn_grammar.specs.declared.node.Presence.{Presence}
use Rattle.acn_grammar.specs.declared.node.Presence.TheVariants.{When}
use Rattle.acn_grammar.specs.declared.node.Test.{Test}
use Rattle.acn_grammar.specs.declared.node.Test.TheVariants.{Flag, Equals}
use Rattle.acn_grammar.specs.declared.node.Sizing.{Sizing}
use Rattle.acn_grammar.specs.declared.node.SizeRule.{SizeRule}
use Rattle.acn_grammar.specs.declared.node.SizeRule.TheVariants.{Prefix, Slot, Ended}
use Rattle.acn_grammar.specs.declared.node.ChoiceRule.{ChoiceRule}
use Rattle.acn_grammar.specs.declared.node.ChoiceRule.TheVariants.{Item}

pub data Ask : Type 0 where
  Equal : ℤ → Ask
  Avoid : ℤ → Ask

-- A moment of the walk: a node at a path asks of the slot whose field is at another path of this packet,
-- or contained octets show their count. Two asks on a slot are in one occurrence of its home where their fields are one.
pub data Moment : Type 0 where
  asks : (path field : List ℕ) → (slot : ℕ) → Ask → Moment
  counts : (path : List ℕ) → (octets : ℕ) → Sizing → Moment

-- Where the fields of the slots round a place are in this packet.

abbrev pub FieldPaths : Type 0
FieldPaths = List (ℕ × List ℕ)

abbrev pub field_of : FieldPaths → ℕ → List ℕ
field_of [] s = []
field_of (e ∷ paths) s = if nat_eq e.0 s then e.1 else field_of paths s

abbrev pub or_else : Option (List ℕ) → Option (List ℕ) → Option (List ℕ)
or_else None y = y
or_else (Some x) y = Some x

abbrev pub at_slot : Option ℕ → ℕ → List ℕ → Option (List ℕ) → Option (List ℕ)
at_slot None s steps y = y
at_slot (Some t) s steps y = if nat_eq t s then Some steps else y

-- the steps that lead to the field of a slot, through SEQUENCEs alone
abbrev mutual
  pub steps_to : Grammar → ℕ → Option (List ℕ)
  steps_to (node align form) s = form_steps form s

  pub form_steps : Form → ℕ → Option (List ℕ)
  form_steps (seq fields home) s = field_steps fields 0 s
  form_steps _ s = None

  -- k is the number of the next field
  pub field_steps : Fields → (k s : ℕ) → Option (List ℕ)
  field_steps no_fields k s = None
  field_steps (component name g presence default own fs) k s = at_slot own s (k ∷ []) (or_else (option_map (λ steps. k ∷ steps) (steps_to g s)) (field_steps fs (suc k) s))
  field_steps (inserted name g slot fs) k s = at_slot slot s (k ∷ []) (field_steps fs (suc k) s)

-- where the field of a slot at home in the SEQUENCE at a path is
abbrev pub field_path : List ℕ → Fields → (s : ℕ) → List ℕ
field_path path fields s = path ++ unwrap_or (field_steps fields 0 s) []

-- with the fields of the slots at home in the SEQUENCE at a path
abbrev pub with_fields : List ℕ → Fields → (home : List ℕ) → FieldPaths → FieldPaths
with_fields path fields home paths = map (λ s. (s, field_path path fields s)) home ++ paths

-- what a node asks of a slot
abbrev pub asked : FieldPaths → List ℕ → ℕ → Ask → Moment
asked paths path s a = asks path (field_of paths s) s a

abbrev pub test_asks : FieldPaths → List ℕ → (there : Bool) → Test → Moment
test_asks paths path true (Flag s) = asked paths path s (Equal (pos 1))
test_asks paths path false (Flag s) = asked paths path s (Equal (pos 0))
test_asks paths path true (Equals s k) = asked paths path s (Equal k)
test_asks paths path false (Equals s k) = asked paths path s (Avoid k)

abbrev pub presence_asks : FieldPaths → List ℕ → (there : Bool) → Presence → List Moment
presence_asks paths path there (When ts) = map (test_asks paths path there) ts
presence_asks paths path there _ = []

abbrev pub size_asks : FieldPaths → List ℕ → ℕ → SizeRule → List Moment
size_asks paths path n (Slot s) = asked paths path s (Equal (pos n)) ∷ []
size_asks paths path n (Prefix low width) = []
size_asks paths path n (Ended p) = []

-- a component with a slot asks its own number
abbrev pub own_asks : FieldPaths → List ℕ → Option ℕ → Data → List Moment
own_asks paths path None d = []
own_asks paths path (Some s) d = asked paths path s (Equal (number_of d)) ∷ []

-- the place of the first item of the name
abbrev pub index_of : (List ℕ → Bool) → List (List ℕ × ℤ) → ℕ
index_of is_it [] = 0
index_of is_it (named ∷ more) = if is_it named.0 then 0 else suc (index_of is_it more)

abbrev pub same_name : List ℕ → List ℕ → Bool
same_name [] [] = true
same_name (a ∷ as') (b ∷ bs) = nat_eq a b && same_name as' bs
same_name _ _ = false

abbrev pub run_moments : (ℕ → Data → List Moment) → ℕ → Elements → List Moment
run_moments each k no_elements = []
run_moments each k (element d es) = each k d ++ run_moments each (suc k) es

module _ (root : Grammar) where
  -- The conditions of an alternative are asked by it, at its own path. An item of the determinant is asked by the CHOICE.
  abbrev pub rule_asks : FieldPaths → List ℕ → ℕ → ChoiceRule → (name : List ℕ) → List Test → List Moment
  rule_asks paths path i (Item s) name tests = asked paths path s (Equal (pos (index_of (same_name name) (items_of root s)))) ∷ []
  rule_asks paths path i _ name tests = map (test_asks paths (path ++ i ∷ []) true) tests

  abbrev mutual
    pub moments : Grammar → FieldPaths → List ℕ → Data → List Moment
    moments (node align form) paths path d = form_moments form paths path d

    pub form_moments : Form → FieldPaths → List ℕ → Data → List Moment
    form_moments (octets sizing) paths path (octet_string bs) = size_asks paths path (length bs) sizing.rule
    form_moments (bits sizing) paths path (bit_string bs) = size_asks paths path (length bs) sizing.rule
    form_moments (text leaf) paths path (characters cs) = size_asks paths path (length cs) leaf.sized.rule
    form_moments (seq fields home) paths path (record_of ps) = fields_moments fields (with_fields path fields home paths) path 0 ps
    form_moments (list sizing g) paths path (list_of es) =
        size_asks paths path (element_count es) sizing.rule ++ run_moments (λ k d. moments g paths (path ++ k ∷ []) d) 0 es
    form_moments (choice alternatives rule) paths path (alt i d) = alternative_moments alternatives rule paths path i i d
    form_moments (contained sizing g) paths path d =
        let n = octets_for (bit_length g 0 d) in
        moments g paths (path ++ 0 ∷ []) d ++ counts path n sizing ∷ size_asks paths path n sizing.rule
    form_moments _ paths path d = []

    -- k is the number of the next field
    pub fields_moments : Fields → FieldPaths → List ℕ → ℕ → Places → List Moment
    fields_moments (component name g presence default own fs) paths path k (filled d ps) =
        own_asks paths (path ++ k ∷ []) own d ++ presence_asks paths (path ++ k ∷ []) true presence ++ moments g paths (path ++ k ∷ []) d ++ fields_moments fs paths path (suc k) ps
    fields_moments (component name g presence default own fs) paths path k (empty ps) =
        presence_asks paths (path ++ k ∷ []) false presence ++ fields_moments fs paths path (suc k) ps
    fields_moments (inserted name g slot fs) paths path k ps = fields_moments fs paths path (suc k) ps
    fields_moments _ paths path k ps = []

    -- the number of the alternative is i, of which j are left to pass over
    pub alternative_moments : Alternatives → ChoiceRule → FieldPaths → List ℕ → (i j : ℕ) → Data → List Moment
    alternative_moments (alternative name g tests more) rule paths path i zero d =
        rule_asks paths path i rule name tests ++ moments g paths (path ++ i ∷ []) d
    alternative_moments (alternative name g tests more) rule paths path i (suc j) d = alternative_moments more rule paths path i j d
    alternative_moments no_alternatives rule paths path i j d = []
