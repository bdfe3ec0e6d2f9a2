-- Where the packets of a node can end that begin within some bits: the shortest and the longest of them, put together part by part, or that it has
-- none. A size is one that the sizes and the slot permit, a presence and an alternative one whose conditions can be met. (This profile's own.)
use Rattle.std.specs.Prelude.{ℕ, zero, suc, ◌+◌, ◌*◌, ℤ, pos, negsuc, max, nat_eq, not, ◌&&◌, ◌||◌, Bool, true, false, List, [], ◌∷◌, length, Option, Some, None}
use Rattle.std.specs.Ordering.{int_eq}
use Rattle.std.specs.List.{list_any}
use Rattle.acn_num.specs.Bits.{octets as octets_for}
use Rattle.acn_num.specs.Ranges.{Ranges, has, meet}
use Rattle.acn_grammar.specs.Asks.{same_name}
use Rattle.acn_grammar.specs.Grammar.{Grammar, Form, Fields, Alternatives, node, num, octets, bits, text, seq, list, choice, contained, no_fields, component, inserted, no_alternatives, alternative}
use Rattle.acn_grammar.specs.Images.{ends}
use Rattle.acn_grammar.specs.Interval.{hull}
use Rattle.acn_grammar.specs.Length.{padding, num_length, rule_width, index_width, ending}
use Rattle.acn_grammar.specs.Slots.{domain_of, items_of}
use Rattle.acn_grammar.specs.declared.bounds.Bounds.{Bounds}
use Rattle.acn_grammar.specs.declared.node.ChoiceRule.{ChoiceRule}
use Rattle.acn_grammar.specs.declared.node.ChoiceRule.TheVariants.{Index, Tests, Item}
use Rattle.acn_grammar.specs.declared.node.NumLeaf.{NumLeaf}
use Rattle.acn_grammar.specs.declared.node.Presence.{Presence}
use Rattle.acn_grammar.specs.declared.node.Presence.TheVariants.{Always, Bit, When}
use Rattle.acn_grammar.specs.declared.node.Sizing.{Sizing}
use Rattle.acn_grammar.specs.declared.node.SizeRule.{SizeRule}
use Rattle.acn_grammar.specs.declared.node.SizeRule.TheVariants.{Prefix, Slot, Ended}
use Rattle.acn_grammar.specs.declared.node.Test.{Test}
use Rattle.acn_grammar.specs.declared.node.Test.TheVariants.{Flag, Equals}
use Rattle.acn_grammar.specs.declared.node.TextLeaf.{TextLeaf}
use Rattle.acn_extreme_laws.specs.Codes.{number_at}
use Rattle.acn_extreme_laws.specs.declared.side.Side.TheVariants.{Shortest, Longest}

abbrev pub from_to : (low high : ℕ) → Bounds
from_to low high = record { least = low; greatest = high }

-- so many bits later
abbrev pub later : ℕ → Bounds → Bounds
later n b = from_to (b.least + n) (b.greatest + n)

abbrev pub padded : (align : ℕ) → Bounds → Bounds
padded align b = from_to (b.least + padding align b.least) (b.greatest + padding align b.greatest)

abbrev pub and_then : Option Bounds → (Bounds → Option Bounds) → Option Bounds
and_then None next = None
and_then (Some b) next = next b

-- one way or the other
abbrev pub or_else : Option Bounds → Option Bounds → Option Bounds
or_else None b = b
or_else (Some a) None = Some a
or_else (Some a) (Some b) = Some (hull a b)

abbrev pub where_can : Bool → Option Bounds → Option Bounds
where_can true b = b
where_can false b = None

-- Numbers.

-- the shortest and the longest code
abbrev pub code_span : NumLeaf → Bounds
code_span leaf = from_to (num_length leaf (number_at Shortest leaf)) (num_length leaf (number_at Longest leaf))

abbrev pub num_reach : NumLeaf → Bounds → Bounds
num_reach leaf b = from_to (b.least + (code_span leaf).least) (b.greatest + (code_span leaf).greatest)

abbrev pub natural : ℤ → ℕ
natural (pos n) = n
natural (negsuc n) = 0

-- parts of one width each, as many as some number of the set says
abbrev pub parts_by : Option (ℤ × ℤ) → (unit : ℕ) → Bounds → Option Bounds
parts_by None unit b = None
parts_by (Some e) unit b = Some (from_to (b.least + unit * natural e.0) (b.greatest + unit * natural e.1))

abbrev pub parts_reach : Ranges → (unit : ℕ) → Bounds → Option Bounds
parts_reach sizes unit b = parts_by (ends sizes) unit b

-- what stands beside the characters of a text
abbrev pub text_around : Option (List Bool) → TextLeaf → ℕ
text_around None leaf = rule_width leaf.sized.rule
text_around (Some end) leaf = length end

-- Elements one after another: each begins where those before it can end.

abbrev pub behind : Option Bounds → (Bounds → Option ℕ) → Option ℕ
behind None next = None
behind (Some c) next = next c

-- the earliest end of so many
abbrev pub earliest : (Bounds → Option Bounds) → ℕ → Bounds → Option ℕ
earliest each zero b = Some b.least
earliest each (suc n) b = behind (each b) (λ c. earliest each n c)

abbrev pub furthest : ℕ → Option Bounds → (Bounds → ℕ) → ℕ
furthest so_far None next = so_far
furthest so_far (Some c) next = max so_far (next c)

-- the latest end of at most so many
abbrev pub latest : (Bounds → Option Bounds) → ℕ → Bounds → ℕ
latest each zero b = b.greatest
latest each (suc n) b = furthest b.greatest (each b) (λ c. latest each n c)

abbrev pub up_to : Option ℕ → ℕ → Option Bounds
up_to None high = None
up_to (Some low) high = Some (from_to low high)

abbrev pub run_by : (Bounds → Option Bounds) → Option (ℤ × ℤ) → Bounds → Option Bounds
run_by each None b = None
run_by each (Some e) b = up_to (earliest each (natural e.0) b) (latest each (natural e.1) b)

-- a size in front of the elements, or a pattern behind them
abbrev pub list_reach : Option (List Bool) → SizeRule → (Bounds → Option Bounds) → Ranges → Bounds → Option Bounds
list_reach None rule each sizes b = run_by each (ends sizes) (later (rule_width rule) b)
list_reach (Some p) rule each sizes b = and_then (run_by each (ends sizes) b) (λ c. Some (later (length p) c))

-- Conditions.

abbrev pub tested_slot : Test → ℕ
tested_slot (Flag s) = s
tested_slot (Equals s k) = s

abbrev pub tested_number : Test → ℤ
tested_number (Flag s) = pos 1
tested_number (Equals s k) = k

-- some number of the set is another
abbrev pub has_other : Ranges → ℤ → Bool
has_other [] k = false
has_other (r ∷ rs) k = not (int_eq r.0 k && int_eq r.1 k) || has_other rs k

-- no other condition asks another number of the same slot
abbrev pub agrees : Test → List Test → Bool
agrees t [] = true
agrees t (u ∷ us) = (not (nat_eq (tested_slot t) (tested_slot u)) || int_eq (tested_number t) (tested_number u)) && agrees t us

-- the name is that of an item whose place is in the set: k is the place of the next item
abbrev pub item_can : Ranges → (k : ℕ) → List (List ℕ × ℤ) → List ℕ → Bool
item_can set k [] name = false
item_can set k (named ∷ items) name = (same_name named.0 name && has set (pos k)) || item_can set (suc k) items name

abbrev pub presence_count : Fields → ℕ
presence_count no_fields = 0
presence_count (component name g Bit default own fs) = suc (presence_count fs)
presence_count (component name g Always default own fs) = presence_count fs
presence_count (component name g (When ts) default own fs) = presence_count fs
presence_count (inserted name g slot fs) = presence_count fs

module _ (root : Grammar) where
  -- the sizes that the slot permits too
  abbrev pub sizes_by : SizeRule → Ranges → Ranges
  sizes_by (Slot s) sizes = meet sizes (domain_of root s)
  sizes_by (Prefix low width) sizes = sizes
  sizes_by (Ended p) sizes = sizes

  abbrev pub sizes_can : Sizing → Ranges
  sizes_can sizing = sizes_by sizing.rule sizing.sizes

  -- some permitted numbers meet all of these conditions
  abbrev pub tests_can : List Test → Bool
  tests_can [] = true
  tests_can (t ∷ ts) = has (domain_of root (tested_slot t)) (tested_number t) && (agrees t ts && tests_can ts)

  -- and some don't meet one of them
  abbrev pub tests_can_fail : List Test → Bool
  tests_can_fail ts = list_any (λ t. has_other (domain_of root (tested_slot t)) (tested_number t)) ts

  abbrev pub can_be_there : Presence → Bool
  can_be_there Always = true
  can_be_there Bit = true
  can_be_there (When ts) = tests_can ts

  abbrev pub can_be_away : Presence → Bool
  can_be_away Always = false
  can_be_away Bit = true
  can_be_away (When ts) = tests_can_fail ts

  abbrev pub can_be_chosen : ChoiceRule → (name : List ℕ) → List Test → Bool
  can_be_chosen (Index width) name ts = true
  can_be_chosen Tests name ts = tests_can ts
  can_be_chosen (Item s) name ts = item_can (domain_of root s) 0 (items_of root s) name

  abbrev mutual
    pub reach : Grammar → Bounds → Option Bounds
    reach (node align form) b = form_reach form (padded align b)

    pub form_reach : Form → Bounds → Option Bounds
    form_reach (num leaf) b = Some (num_reach leaf b)
    form_reach (octets sizing) b = parts_reach (sizes_can sizing) 8 (later (rule_width sizing.rule) b)
    form_reach (bits sizing) b = parts_reach (sizes_can sizing) 1 (later (rule_width sizing.rule) b)
    form_reach (text leaf) b = parts_reach (sizes_can leaf.sized) leaf.width (later (text_around leaf.ended leaf) b)
    form_reach (seq fields home) b = fields_reach fields (later (presence_count fields) b)
    form_reach (list sizing g) b = list_reach (ending sizing.rule) sizing.rule (reach g) (sizes_can sizing) b
    form_reach (choice cases rule) b = cases_reach rule cases (later (index_width rule) b)
    form_reach (contained sizing g) b = and_then (reach g (from_to 0 0)) (λ c. Some (from_to (b.least + (rule_width sizing.rule + 8 * octets_for c.least)) (b.greatest + (rule_width sizing.rule + 8 * octets_for c.greatest))))

    pub fields_reach : Fields → Bounds → Option Bounds
    fields_reach no_fields b = Some b
    fields_reach (component name g presence default own fs) b = and_then (or_else (where_can (can_be_there presence) (reach g b)) (where_can (can_be_away presence) (Some b))) (fields_reach fs)
    fields_reach (inserted name g slot fs) b = and_then (reach g b) (fields_reach fs)

    pub cases_reach : ChoiceRule → Alternatives → Bounds → Option Bounds
    cases_reach rule no_alternatives b = None
    cases_reach rule (alternative name g ts more) b = or_else (where_can (can_be_chosen rule name ts) (reach g b)) (cases_reach rule more b)
