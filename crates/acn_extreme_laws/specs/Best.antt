-- A value of a node with a shortest packet, and one with a longest, put together part by part: the walk, as plain data. Places are
-- held down to 2^40. (For proofs: what is promised of these values speaks of spellings.)
use Rattle.std.specs.Prelude.{◌≡◌, ℕ, zero, suc, ◌+◌, ◌*◌, ℤ, pos, ◌+ℤ◌, int_lt, nat_eq, Bool, true, false, ◌&&◌, List, [], ◌∷◌, length, Option, Some, None, is_none, if◌then◌else◌, replicate, slice_get}
use Rattle.std.specs.Ordering.{int_eq}
use Rattle.acn_num.specs.Bits.{octets as octets_for, number}
use Rattle.acn_num.specs.Ranges.{Ranges, has}
use Rattle.acn_grammar.specs.Code.{in_octets}
use Rattle.acn_grammar.specs.Grammar.{Grammar, Form, Fields, Alternatives, Data, Places, Elements, node, num, octets, bits, text, seq, list, choice, contained, no_fields, component, inserted, no_alternatives, alternative, int, boolean, item, null, octet_string, bit_string, characters, record_of, list_of, alt, no_places, empty, filled, no_elements, element}
use Rattle.acn_grammar.specs.Images.{ends}
use Rattle.acn_grammar.specs.Interval.{held}
use Rattle.acn_grammar.specs.Length.{padding, num_length, rule_width, index_width, ending, least}
use Rattle.acn_grammar.specs.Meets.{first_end}
use Rattle.acn_grammar.specs.Spell.{octet_numbers}
use Rattle.acn_grammar.specs.declared.bounds.Bounds.{Bounds}
use Rattle.acn_grammar.specs.declared.node.ChoiceRule.{ChoiceRule}
use Rattle.acn_grammar.specs.declared.node.NumKind.{NumKind}
use Rattle.acn_grammar.specs.declared.node.NumKind.TheVariants.{Integer, Boolean, Enumerated, Null}
use Rattle.acn_grammar.specs.declared.node.SizeRule.{SizeRule}
use Rattle.acn_grammar.specs.declared.node.TextLeaf.{TextLeaf}
use Rattle.acn_extreme_laws.specs.Codes.{ahead, number_at}
use Rattle.acn_extreme_laws.specs.Reach.{natural, text_around, presence_count, sizes_can, can_be_there, can_be_away, can_be_chosen}
use Rattle.acn_extreme_laws.specs.declared.side.Side.{Side}
use Rattle.acn_extreme_laws.specs.declared.side.Side.TheVariants.{Shortest, Longest}

-- what is chosen, and the place behind it
abbrev pub Way : Type 0 → Type 0
Way A = ℕ × A

abbrev pub behind : (at n : ℕ) → ℕ
behind at n = held (at + n)

-- Sizes and characters.

abbrev pub end_of : Side → ℤ × ℤ → ℤ
end_of Shortest e = e.0
end_of Longest e = e.1

abbrev pub size_by : Side → Option (ℤ × ℤ) → Option ℕ
size_by side None = None
size_by side (Some e) = Some (natural (end_of side e))

-- where parts have no bits the least size serves on both sides
abbrev pub side_by : (unit : ℕ) → Side → Side
side_by unit side = if nat_eq unit 0 then Shortest else side

abbrev pub parts_way : (unit : ℕ) → (ℕ → Data) → (at : ℕ) → Option ℕ → Option (Way Data)
parts_way unit value at None = None
parts_way unit value at (Some n) = Some (behind at (unit * n), value n)

-- the least of these numbers that is another
abbrev pub other_than : ℤ → Ranges → ℕ
other_than k [] = 0
other_than k (r ∷ rs) = if int_eq r.0 k then (if int_lt r.0 r.1 then natural (r.0 +ℤ pos 1) else other_than k rs) else natural r.0

abbrev pub other_than_octet : Option (List Bool) → Ranges → ℕ
other_than_octet None rs = natural (least rs)
other_than_octet (Some octet) rs = other_than (pos (number octet)) rs

-- the least character that the terminator doesn't begin with
abbrev pub other_by : (end : List Bool) → Ranges → ℕ
other_by end rs = other_than_octet (slice_get (in_octets end) 0) rs

-- whether one such character in front of the terminator doesn't end the text too early
abbrev pub can_stand : (end : List Bool) → ℕ → Bool
can_stand end c = is_none (first_end (octet_numbers end) (c ∷ []))

-- the least character of which texts can be made: one that the terminator begins with may be such a character
abbrev pub character_by : Option (List Bool) → Ranges → ℕ
character_by None rs = natural (least rs)
character_by (Some end) rs = if can_stand end (natural (least rs)) then natural (least rs) else other_by end rs

abbrev pub character_of : TextLeaf → ℕ
character_of leaf = character_by leaf.ended leaf.alphabet

-- the value of a number
abbrev pub number_data : NumKind → ℤ → Data
number_data Integer x = int x
number_data Boolean x = boolean (int_eq x (pos 1))
number_data Enumerated x = item (natural x)
number_data Null x = null

-- Parts.

-- the first, unless the second is nearer to the side
abbrev pub better : {A : Type 0} → Side → Option (Way A) → Option (Way A) → Option (Way A)
better side None b = b
better side (Some a) None = Some a
better side (Some a) (Some b) = if ahead side b.0 a.0 then Some b else Some a

abbrev pub put : Option Data → Places → Places
put None ps = empty ps
put (Some d) ps = filled d ps

abbrev pub where_way : {A : Type 0} → Bool → Option (Way A) → Option (Way A)
where_way true w = w
where_way false w = None

abbrev pub there_way : Option (Way Data) → Option (Way (Option Data))
there_way None = None
there_way (Some w) = Some (w.0, Some w.1)

abbrev pub alternative_way : ℕ → Option (Way Data) → Option (Way Data)
alternative_way i None = None
alternative_way i (Some w) = Some (w.0, alt i w.1)

abbrev pub put_way : Option Data → Option (Way Places) → Option (Way Places)
put_way d None = None
put_way d (Some w) = Some (w.0, put d w.1)

-- a place, and the places behind it
abbrev pub with_place : Option (Way (Option Data)) → (ℕ → Option (Way Places)) → Option (Way Places)
with_place None next = None
with_place (Some w) next = put_way w.1 (next w.0)

abbrev pub past : Option (Way Data) → (ℕ → Option (Way Places)) → Option (Way Places)
past None next = None
past (Some w) next = next w.0

abbrev pub record_way : Option (Way Places) → Option (Way Data)
record_way None = None
record_way (Some w) = Some (w.0, record_of w.1)

-- Elements.

abbrev pub element_way : Data → Option (Way Elements) → Option (Way Elements)
element_way d None = None
element_way d (Some w) = Some (w.0, element d w.1)

abbrev pub with_element : Option (Way Data) → (ℕ → Option (Way Elements)) → Option (Way Elements)
with_element None next = None
with_element (Some w) next = element_way w.1 (next w.0)

-- whether a list of so many is as long as any, where no element behind them has bits
abbrev pub is_enough : Side → Ranges → ℕ → Bool
is_enough Shortest sizes k = false
is_enough Longest sizes k = has sizes (pos k)

abbrev pub adds_nothing : Option (Way Data) → (at : ℕ) → Bool
adds_nothing None at = false
adds_nothing (Some w) at = nat_eq w.0 at

-- so many elements behind k others, or fewer: where the next one has no bits, those before it serve if they are enough
abbrev pub run_way : (enough : ℕ → Bool) → (ℕ → Option (Way Data)) → ℕ → (k at : ℕ) → Option (Way Elements)
run_way enough each zero k at = Some (at, no_elements)
run_way enough each (suc n) k at = if adds_nothing (each at) at && enough k then Some (at, no_elements) else with_element (each at) (run_way enough each n (suc k))

-- or none, where there can be none
abbrev pub or_none : Option (Way Elements) → (fewest at : ℕ) → Option (Way Elements)
or_none (Some w) n at = Some w
or_none None zero at = Some (at, no_elements)
or_none None (suc n) at = None

abbrev pub run_by_ends : Side → Ranges → (ℕ → Option (Way Data)) → (at : ℕ) → Option (ℤ × ℤ) → Option (Way Elements)
run_by_ends side sizes each at None = None
run_by_ends side sizes each at (Some e) = or_none (run_way (is_enough side sizes) each (natural (end_of side e)) 0 at) (natural e.0) at

abbrev pub list_way : (n : ℕ) → Option (Way Elements) → Option (Way Data)
list_way n None = None
list_way n (Some w) = Some (behind w.0 n, list_of w.1)

-- a size in front of the elements, or a pattern behind them
abbrev pub elements_way : Side → Option (List Bool) → SizeRule → (ℕ → Option (Way Data)) → Ranges → (at : ℕ) → Option (Way Data)
elements_way side None rule each sizes at = list_way 0 (run_by_ends side sizes each (behind at (rule_width rule)) (ends sizes))
elements_way side (Some p) rule each sizes at = list_way (length p) (run_by_ends side sizes each at (ends sizes))

-- whole octets round contents
abbrev pub octets_way : (at width : ℕ) → Option (Way Data) → Option (Way Data)
octets_way at width None = None
octets_way at width (Some w) = Some (behind at (width + 8 * octets_for w.0), w.1)

module _ (root : Grammar) (side : Side) where
  abbrev mutual
    pub best : Grammar → (at : ℕ) → Option (Way Data)
    best (node align form) at = form_best form (behind at (padding align at))

    pub form_best : Form → (at : ℕ) → Option (Way Data)
    form_best (num leaf) at = Some (behind at (num_length leaf (number_at side leaf)), number_data leaf.kind (number_at side leaf))
    form_best (octets sizing) at = parts_way 8 (λ n. octet_string (replicate n 0)) (behind at (rule_width sizing.rule)) (size_by side (ends (sizes_can root sizing)))
    form_best (bits sizing) at = parts_way 1 (λ n. bit_string (replicate n false)) (behind at (rule_width sizing.rule)) (size_by side (ends (sizes_can root sizing)))
    form_best (text leaf) at = parts_way leaf.width (λ n. characters (replicate n (character_of leaf))) (behind at (text_around leaf.ended leaf)) (size_by (side_by leaf.width side) (ends (sizes_can root leaf.sized)))
    form_best (seq fields home) at = record_way (fields_best fields (behind at (presence_count fields)))
    form_best (list sizing g) at = elements_way side (ending sizing.rule) sizing.rule (best g) (sizes_can root sizing) at
    form_best (choice cases rule) at = cases_best rule cases 0 (behind at (index_width rule)) None
    form_best (contained sizing g) at = octets_way at (rule_width sizing.rule) (best g 0)

    pub fields_best : Fields → (at : ℕ) → Option (Way Places)
    fields_best no_fields at = Some (at, no_places)
    fields_best (component name g presence default own fs) at =
        with_place (better side (where_way (can_be_away root presence) (Some (at, None))) (where_way (can_be_there root presence) (there_way (best g at)))) (fields_best fs)
    fields_best (inserted name g slot fs) at = past (best g at) (fields_best fs)

    -- i is the number of the next alternative
    pub cases_best : ChoiceRule → Alternatives → (i at : ℕ) → Option (Way Data) → Option (Way Data)
    cases_best rule no_alternatives i at so_far = so_far
    cases_best rule (alternative name g tests more) i at so_far =
        cases_best rule more (suc i) at (better side so_far (where_way (can_be_chosen root rule name tests) (alternative_way i (best g at))))

-- What the bounds of the reach have to do with it.

-- the bound on this side
abbrev pub side_of : Side → Bounds → ℕ
side_of Shortest b = b.least
side_of Longest b = b.greatest

-- both are there, and the end is the bound, held down
abbrev pub Agree : {A : Type 0} → Side → Option Bounds → Option (Way A) → Type 0
Agree side None None = Unit {0}
Agree side (Some r) (Some w) = w.0 ≡ held (side_of side r)
Agree side None (Some w) = ⊥
Agree side (Some r) None = ⊥
