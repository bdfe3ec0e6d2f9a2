-- Steps, nodes and slots of a tree, counted by recursion over its nodes.
use Rattle.std.specs.Prelude.{ℕ, suc, ◌+◌, ◌-◌, nat_eq, nat_le, nat_lt, Option, Some, None, if◌then◌else◌}
use Rattle.acn_grammar.specs.Grammar.{Grammar, Form, Fields, Alternatives, node, seq, list, choice, contained, no_fields, component, inserted, no_alternatives, alternative}
use Rattle.acn_grammar.specs.View.{OneField, a_component, an_inserted}
use Rattle.acn_well_formed.specs.declared.tallies.Tally.{Tally}
use Rattle.acn_num.specs.declared.limits.TheConstants.{MOST_STEPS}

-- one node more, where one may still come
abbrev pub spent : Tally → Option Tally
spent t = if nat_lt 0 t.left then Some (record { left = t.left - 1; next = t.next }) else None

-- the next slot, where there is one here, has the next number
abbrev pub numbered : Option ℕ → Tally → Option Tally
numbered None t = Some t
numbered (Some s) t = if nat_eq s t.next then Some (record { left = t.left; next = suc t.next }) else None

abbrev pub then_tally : Option Tally → (Tally → Option Tally) → Option Tally
then_tally None more = None
then_tally (Some t) more = more t

abbrev mutual
  -- none where a node is too many steps away, too many nodes come or a slot has not the next number
  pub tally : (steps : ℕ) → Grammar → Tally → Option Tally
  tally steps (node align form) t = if nat_le steps MOST_STEPS then then_tally (spent t) (form_tally (steps + 1) form) else None

  pub form_tally : (steps : ℕ) → Form → Tally → Option Tally
  form_tally steps (seq fields home) t = fields_tally steps fields t
  form_tally steps (list sizing g) t = tally steps g t
  form_tally steps (choice alternatives rule) t = alternatives_tally steps alternatives t
  form_tally steps (contained sizing g) t = tally steps g t
  form_tally steps _ t = Some t

  pub fields_tally : (steps : ℕ) → Fields → Tally → Option Tally
  fields_tally steps no_fields t = Some t
  fields_tally steps (component name g presence default own fs) t = then_tally (then_tally (numbered own t) (tally steps g)) (fields_tally steps fs)
  fields_tally steps (inserted name g slot fs) t = then_tally (then_tally (numbered slot t) (tally steps g)) (fields_tally steps fs)

  pub alternatives_tally : (steps : ℕ) → Alternatives → Tally → Option Tally
  alternatives_tally steps no_alternatives t = Some t
  alternatives_tally steps (alternative name g tests more) t = then_tally (tally steps g t) (alternatives_tally steps more)

abbrev pub field_tally : (steps : ℕ) → OneField → Tally → Option Tally
field_tally steps (a_component name g presence default own) t = then_tally (numbered own t) (tally steps g)
field_tally steps (an_inserted name g slot) t = then_tally (numbered slot t) (tally steps g)
