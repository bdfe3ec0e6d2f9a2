-- What a field says of the number with which its SEQUENCE begins.
use Rattle.std.specs.Prelude.{ℕ, Bool, true, false, Option, None}
use Rattle.acn_grammar.specs.Check.{lead}
use Rattle.acn_grammar.specs.View.{OneField, a_component, an_inserted}
use Rattle.acn_grammar.specs.declared.node.NumLeaf.{NumLeaf}
use Rattle.acn_grammar.specs.declared.node.Presence.TheVariants.{Always, Bit, When}

-- the number with which a SEQUENCE begins that has this field first
abbrev pub field_lead : ℕ → OneField → Option NumLeaf
field_lead n (a_component name g Always default own) = lead n g
field_lead n (a_component name g Bit default own) = None
field_lead n (a_component name g (When ts) default own) = None
field_lead n (an_inserted name g slot) = lead n g

abbrev pub is_bit : OneField → Bool
is_bit (a_component name g Bit default own) = true
is_bit (a_component name g Always default own) = false
is_bit (a_component name g (When ts) default own) = false
is_bit (an_inserted name g slot) = false
