-- What the walk over a line that was printed says of the parts of a value.
use Rattle.std.specs.Prelude.{◌≡◌, ℕ, zero, suc, Bool, false, IsTrue, List, [], ◌++◌, Option, Some, None}
use Rattle.serde_json.specs.Data.{Members}
use Rattle.serde_json.specs.Written.{items_text, members_text}
use Rattle.acn_grammar.specs.Grammar.{Grammar, Fields, Alternatives, Data, Places, Elements, no_fields, component, inserted, no_alternatives, alternative, no_places, empty, filled}
use Rattle.acn_grammar.specs.Shaped.{fits, each_element, may_be_absent}
use Rattle.acn_grammar.specs.View.{OneField, a_component, an_inserted}
use Rattle.acn_json.specs.Lines.{json_of, each_json}
use Rattle.acn_json.specs.RoundTrip.{CanBeSaid, ElementsCanBeSaid}
use Rattle.acn_lines.specs.Order.{field_at, place_at, member_at}
use Rattle.acn_lines.specs.declared.turns.Turn.{Turn}
use Rattle.acn_printed.specs.Read.{IsRead}

-- the text of the value of a component was read
abbrev pub IsFieldRead : OneField → Data → (old new : List ℕ) → Type 0
IsFieldRead (a_component name g presence default own) d old new = IsRead g d old new
IsFieldRead (an_inserted name g slot) d old new = ⊥

-- the text of the value in the place of a component was read
abbrev pub IsPlaceRead : OneField → Option Data → (old new : List ℕ) → Type 0
IsPlaceRead x (Some d) old new = IsFieldRead x d old new
IsPlaceRead x None old new = ⊥

-- the texts of the elements were read, and the bracket behind them
pub record AreRead (g : Grammar) (es : Elements) (old new : List ℕ) : Type 0 where
  pub text : old ≡ items_text false (each_json (json_of g) es) ++ new
  pub fits : IsTrue (each_element (fits g) es)
  pub said : ElementsCanBeSaid es

-- one place for each component, and the values that are there have the form of their components and come back from their lines
abbrev pub AreFilled : Fields → Places → Type 0
AreFilled no_fields no_places = Unit {0}
AreFilled (component name g presence default own fs) (empty ps) = AreFilled fs ps
AreFilled (component name g presence default own fs) (filled d ps) = IsTrue (fits g d) × CanBeSaid d × AreFilled fs ps
AreFilled (inserted name g slot fs) ps = AreFilled fs ps
AreFilled _ _ = ⊥

-- what stands in the place of a component: a value of its form, which comes back from its line, or none where it may be absent
abbrev pub IsMet : Option OneField → Option Data → Type 0
IsMet (Some (a_component name g presence default own)) (Some d) = IsTrue (fits g d) × CanBeSaid d
IsMet (Some (a_component name g presence default own)) None = IsTrue (may_be_absent presence)
IsMet _ _ = ⊥

-- the member of a turn was read into its own place, if it came next, and no other place was changed
pub record IsTurnRead (fs : Fields) (t : Turn) (later more : Bool) (ps qs : Places) (old new : List ℕ) : Type 0 where
  pub text : (ms : Members) (end : List ℕ) → new ≡ members_text more ms ++ end → old ≡ members_text later (member_at (field_at fs t.field) (place_at qs t.place) ms) ++ end
  pub others : (k : ℕ) → (k ≡ t.place → ⊥) → place_at qs k ≡ place_at ps k
  pub met : IsMet (field_at fs t.field) (place_at qs t.place)

-- the name of the alternative of a number
abbrev pub alternative_name : Alternatives → (k : ℕ) → List ℕ
alternative_name no_alternatives k = []
alternative_name (alternative name g tests more) zero = name
alternative_name (alternative name g tests more) (suc k) = alternative_name more k
