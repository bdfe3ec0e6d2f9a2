-- Where the fields of slots stand in a SEQUENCE, by the steps that lead to them through SEQUENCEs alone (`field_steps`), each
-- with the leaf that it is. (This profile's own.)
use Rattle.std.specs.Prelude.{ℕ, suc, ◌≤◌, nat_eq, if◌then◌else◌, List, [], ◌∷◌, ◌++◌, Option, Some, None, option_map}
use Rattle.std.specs.HashMap.{get}
use Rattle.acn_grammar.specs.Grammar.{Grammar, Form, Fields, node, seq, no_fields, component, inserted}
use Rattle.acn_grammar.specs.Slots.{first_of_two, number_leaf}
use Rattle.acn_grammar.specs.Sound.{field_count}
use Rattle.acn_grammar.specs.declared.node.NumLeaf.{NumLeaf}
use Rattle.acn_grammar.specs.declared.limits.TheConstants.{MOST_NODES}
use Rattle.acn_num.specs.declared.limits.TheConstants.{MOST_STEPS}
use Rattle.acn_determinants.specs.declared.found.Found.{Found}
use Rattle.acn_determinants.specs.declared.found.Spot.{Spot as Noted}

-- the steps that lead to a field, and the leaf that it is
pub record Spot : Type 0 where
  pub steps : List ℕ
  pub leaf : Option NumLeaf

-- the same behind these steps
abbrev pub under : (path : List ℕ) → Spot → Spot
under path x = record { steps = path ++ x.steps; leaf = x.leaf }

-- a field with a slot, or else another
abbrev pub here_or : Option ℕ → ℕ → Spot → Option Spot → Option Spot
here_or None s x y = y
here_or (Some t) s x y = if nat_eq t s then Some x else y

abbrev pub at : (step : ℕ) → Grammar → Spot
at step g = record { steps = step ∷ []; leaf = number_leaf g }

abbrev mutual
  pub spot_in : Grammar → ℕ → Option Spot
  spot_in (node align form) s = form_spot form s

  pub form_spot : Form → ℕ → Option Spot
  form_spot (seq fields home) s = field_spot fields 0 s
  form_spot _ s = None

  -- k is the number of the next field
  pub field_spot : Fields → (k s : ℕ) → Option Spot
  field_spot no_fields k s = None
  field_spot (component name g presence default own fs) k s = here_or own s (at k g) (first_of_two (option_map (under (k ∷ [])) (spot_in g s)) (field_spot fs (suc k) s))
  field_spot (inserted name g slot fs) k s = here_or slot s (at k g) (field_spot fs (suc k) s)

-- what is noted of a slot
abbrev pub spot_of : Noted → Spot
spot_of x = record { steps = x.steps; leaf = option_map (λ leaf. leaf.now) x.leaf }

abbrev pub noted_at : Found → ℕ → Option Spot
noted_at found s = option_map spot_of (get nat_eq found.spots s)

-- A node to which so many steps lead from a SEQUENCE: no path of steps through SEQUENCEs is too long, and each step is below 2^32.
abbrev mutual
  pub Reached : ℕ → Grammar → Type 0
  Reached n (node align form) = (n ≤ MOST_STEPS) × FormReached n form

  pub FormReached : ℕ → Form → Type 0
  FormReached n (seq fields home) = (field_count fields ≤ MOST_NODES) × FieldsReached (suc n) fields
  FormReached n _ = Unit {0}

  pub FieldsReached : ℕ → Fields → Type 0
  FieldsReached n no_fields = Unit {0}
  FieldsReached n (component name g presence default own fs) = Reached n g × FieldsReached n fs
  FieldsReached n (inserted name g slot fs) = Reached n g × FieldsReached n fs
