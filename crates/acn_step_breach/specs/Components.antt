-- Components among the fields of a SEQUENCE.
use Rattle.std.specs.Prelude.{◌≡◌, ℕ, suc, ◌<◌, ◌≤◌, List, [], ◌∷◌, ◌++◌, Bool, true, false, Option, None, Some}
use Rattle.acn_grammar.specs.Grammar.{Grammar, Data, Places, empty, filled}
use Rattle.acn_grammar.specs.Meets.{Unfit, breaches, field_breaches}
use Rattle.acn_plan.specs.Back.{node_at, fields_at}
use Rattle.acn_plan.specs.declared.step.Place.{Place}
use Rattle.acn_plan.specs.declared.step.Place.TheVariants as places
use Rattle.acn_plan.specs.declared.step.Step.{Step}
use Rattle.acn_step_breach.specs.declared.steps.Spot.{Spot}
use Rattle.acn_tree.specs.Room.{HasRoom, FieldsHaveRoom}

-- the field is a component
abbrev pub is_component : Place → Bool
is_component (places.Component name presence default own) = true
is_component _ = false

-- the breaches of a component, if it is there
abbrev pub place_breaches : List ℕ → Grammar → Option Data → List Unfit
place_breaches path g None = []
place_breaches path g (Some d) = breaches path g d

-- a place in front of others
abbrev pub put_place : Option Data → Places → Places
put_place None ps = empty ps
put_place (Some d) ps = filled d ps

-- The first component among the fields from step k on, before which n fields stand: its step, its number, and the step
-- behind it.
pub record IsFirst (steps : List Step) (k end n : ℕ) (spot : Spot) : Type 0 where
  pub from : k ≤ spot.this
  pub inside : spot.this < end
  pub behind : spot.this < spot.next
  pub few : spot.number ≤ spot.this
  -- the first place is its value's
  pub takes : (path : List ℕ) (d : Option Data) (ps : Places)
      → field_breaches path n (fields_at steps k end) (put_place d ps) ≡ place_breaches (path ++ spot.number ∷ []) (node_at steps spot.this) d ++ field_breaches path (suc spot.number) (fields_at steps spot.next end) ps
  pub room : (depth : ℕ) → FieldsHaveRoom depth (fields_at steps k end) → HasRoom depth (node_at steps spot.this) × FieldsHaveRoom depth (fields_at steps spot.next end)

-- there is no component, so that no place is looked at
abbrev pub HasNone : List Step → (k end n : ℕ) → Type 0
HasNone steps k end n = (path : List ℕ) (ps : Places) → field_breaches path n (fields_at steps k end) ps ≡ []
