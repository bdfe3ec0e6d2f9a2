-- A node and a value as plain data, with no memory behind them. The forms are the types of X.680 and the contained octets of
-- X.682 clause 11; what the fields mean stands at `Node` and `Value` in src/.
use Rattle.std.specs.Prelude.{ℕ, zero, suc, ℤ, Bool, List, Option}
use Rattle.acn_grammar.specs.declared.node.NumLeaf.{NumLeaf}
use Rattle.acn_grammar.specs.declared.node.TextLeaf.{TextLeaf}
use Rattle.acn_grammar.specs.declared.node.Sizing.{Sizing}
use Rattle.acn_grammar.specs.declared.node.Presence.{Presence}
use Rattle.acn_grammar.specs.declared.node.Test.{Test}
use Rattle.acn_grammar.specs.declared.node.ChoiceRule.{ChoiceRule}

mutual
  pub data Grammar : Type 0 where
    node : (align : ℕ) → Form → Grammar

  pub data Form : Type 0 where
    num : NumLeaf → Form
    octets : Sizing → Form
    bits : Sizing → Form
    text : TextLeaf → Form
    seq : Fields → (home : List ℕ) → Form
    list : Sizing → Grammar → Form
    choice : Alternatives → ChoiceRule → Form
    contained : Sizing → Grammar → Form

  pub data Fields : Type 0 where
    no_fields : Fields
    component : (name : List ℕ) → Grammar → Presence → (default : Option (List ℕ)) → (slot : Option ℕ) → Fields → Fields
    inserted : (name : List ℕ) → Grammar → (slot : Option ℕ) → Fields → Fields

  pub data Alternatives : Type 0 where
    no_alternatives : Alternatives
    alternative : (name : List ℕ) → Grammar → List Test → Alternatives → Alternatives

mutual
  pub data Data : Type 0 where
    int : ℤ → Data
    boolean : Bool → Data
    item : ℕ → Data
    null : Data
    octet_string : List ℕ → Data
    bit_string : List Bool → Data
    characters : List ℕ → Data
    record_of : Places → Data
    list_of : Elements → Data
    alt : ℕ → Data → Data

  -- one place for each component
  pub data Places : Type 0 where
    no_places : Places
    empty : Places → Places
    filled : Data → Places → Places

  pub data Elements : Type 0 where
    no_elements : Elements
    element : Data → Elements → Elements

abbrev pub element_count : Elements → ℕ
element_count no_elements = zero
element_count (element d es) = suc (element_count es)
