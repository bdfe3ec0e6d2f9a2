-- What the walk over the tokens of a line says: which JSON they are, and what that gives.
use Rattle.std.specs.Prelude.{◌≡◌, ℕ, suc, ◌+◌, ◌≤◌, Bool, true, false, ◌&&◌, ◌||◌, if◌then◌else◌, List, [], ◌∷◌, ◌++◌, Option, Some, None, option_map, Ok}
use Rattle.json.specs.Token.{Token}
use Rattle.json.specs.Json as tree
use Rattle.json.specs.Tree.{json_tokens, items_tokens, members_tokens, depth, items_depth, members_depth}
use Rattle.serde_json.specs.Data.{Items, Members}
use Rattle.serde_json.specs.Data as json
use Rattle.serde_json.specs.Find.{get_member}
use Rattle.serde_json.specs.Read.{number_of, of_json, of_items, of_members}
use Rattle.acn_grammar.specs.Asks.{same_name}
use Rattle.acn_grammar.specs.Grammar.{Grammar, Fields, Alternatives, Data, Places, Elements, no_fields, component, inserted, no_alternatives, alternative, no_places, empty, filled}
use Rattle.acn_grammar.specs.Shaped.{may_be_absent}
use Rattle.acn_json.specs.Few.{CanRead, FieldsCanRead}
use Rattle.acn_json.specs.Reads.{value_from, each_from, has_component}

-- Leaves.

-- the JSON of a token that is a value by itself
abbrev pub token_data : Token → Option json.Data
token_data (Token.string s) = Some (json.string s)
token_data (Token.number s) = option_map json.number (number_of s)
token_data (Token.boolean b) = Some (json.boolean b)
token_data Token.null = Some json.null
token_data _ = None

-- one token was taken, and its JSON gives the value
pub record LeafTaken (from : json.Data → Option Data) (v : Data) (old new : List Token) : Type 0 where
  pub token : Token
  pub said : json.Data
  pub tokens : old ≡ token ∷ new
  pub is : token_data token ≡ Some said
  pub gives : from said ≡ Some v

-- the key of a member, or the brace behind the last
abbrev pub key_or_end : Option (List ℕ) → Token
key_or_end None = Token.end_object
key_or_end (Some name) = Token.key name

-- Values.

-- the tokens of some JSON were taken, and it gives the value wherever it stands
pub record IsTaken (g : Grammar) (v : Data) (old new : List Token) : Type 0 where
  pub text : tree.Json
  pub said : json.Data
  pub tokens : old ≡ json_tokens text ++ new
  pub is : of_json text ≡ Some said
  pub shallow : (k n : ℕ) → CanRead k g → 65 ≤ k + n → depth text ≤ n
  pub gives : (path : List ℕ) → value_from path g said ≡ Ok v

-- the same of elements, with the bracket that closes the array
pub record AreTaken (g : Grammar) (vs : Elements) (old new : List Token) : Type 0 where
  pub texts : tree.Items
  pub said : Items
  pub tokens : old ≡ items_tokens texts ++ new
  pub is : of_items texts ≡ Some said
  pub shallow : (k n : ℕ) → CanRead k g → 65 ≤ k + n → items_depth texts ≤ n
  pub gives : (path : List ℕ) (at : ℕ) → each_from (λ k j. value_from (path ++ k ∷ []) g j) at said ≡ Ok vs

-- Members.

-- the JSON of a member that is there gives the value
abbrev pub HasValue : Grammar → Data → Option json.Data → Type 0
HasValue g v None = ⊥
HasValue g v (Some j) = (path : List ℕ) → value_from path g j ≡ Ok v

-- one place for each component, and the members are those of the places that are filled
abbrev pub Holds : Members → Fields → Places → Type 0
Holds ms no_fields no_places = Unit {0}
Holds ms (component name g presence default own fs) (empty ps) = (get_member name ms ≡ None) × Holds ms fs ps
Holds ms (component name g presence default own fs) (filled v ps) = HasValue g v (get_member name ms) × Holds ms fs ps
Holds ms (inserted name g slot fs) ps = Holds ms fs ps
Holds ms _ _ = ⊥

-- every member is a component
abbrev pub AllKnown : Fields → Members → Type 0
AllKnown fs json.no_members = Unit {0}
AllKnown fs (json.member k j ms) = (has_component k fs ≡ true) × AllKnown fs ms

-- the tokens of some members were taken, with the brace that closes the object: what was held by the places `ps` is held by `qs` with them
pub record MembersTaken (fs : Fields) (ps : Places) (old : List Token) (qs : Places) (new : List Token) : Type 0 where
  pub texts : tree.Members
  pub tokens : old ≡ members_tokens texts ++ new
  pub shallow : (k n : ℕ) → FieldsCanRead k fs → 65 ≤ k + n → members_depth texts ≤ n
  pub found : (ms : Members) → Holds ms fs ps → AllKnown fs ms → (ns : Members) × (of_members texts ms ≡ Some ns) × Holds ns fs qs × AllKnown fs ns

-- the number of components
abbrev pub component_count : Fields → ℕ
component_count no_fields = 0
component_count (component name g presence default own fs) = suc (component_count fs)
component_count (inserted name g slot fs) = component_count fs

-- a place for each component, with no value in it
abbrev pub no_values : Fields → Places
no_values no_fields = no_places
no_values (component name g presence default own fs) = empty (no_values fs)
no_values (inserted name g slot fs) = no_values fs

-- a value stands in the first of these places
abbrev pub is_there : Places → Bool
is_there no_places = false
is_there (empty ps) = false
is_there (filled v ps) = true

-- the places behind the first
abbrev pub behind : Places → Places
behind no_places = no_places
behind (empty ps) = ps
behind (filled v ps) = ps

-- each component that has to be there is there
abbrev pub is_whole : Fields → Places → Bool
is_whole no_fields ps = true
is_whole (component name g presence default own fs) ps = (is_there ps || may_be_absent presence) && is_whole fs (behind ps)
is_whole (inserted name g slot fs) ps = is_whole fs ps

-- the number of the alternative of a name, the alternatives being numbered from k
abbrev pub alternative_number : List ℕ → (k : ℕ) → Alternatives → Option ℕ
alternative_number name k no_alternatives = None
alternative_number name k (alternative own g tests more) = if same_name own name then Some k else alternative_number name (k + 1) more
