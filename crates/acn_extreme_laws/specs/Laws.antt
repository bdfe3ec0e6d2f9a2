-- Laws of the definitions, as contracts name them.
use Rattle.std.specs.Prelude.{◌≡◌, ℕ, ◌≤◌, true, Bool, IsTrue, List, [], length, Option, Some, None}
use Rattle.acn_grammar.specs.Code.{Mode}
use Rattle.acn_grammar.specs.Grammar.{Grammar, Fields, Data, node, seq}
use Rattle.acn_grammar.specs.Spell.{Spell}
use Rattle.acn_grammar.specs.Tree.{holds}
use Rattle.acn_grammar.specs.declared.bounds.Bounds.{Bounds}
use Rattle.acn_grammar.specs.Leaves.{num_fine}
use Rattle.acn_grammar.specs.declared.node.NumLeaf.{NumLeaf}
use Rattle.acn_extreme_laws.specs.Best.{Agree, Way, best}
use Rattle.acn_extreme_laws.specs.Codes.{IsBestNumber, number_at}
use Rattle.acn_extreme_laws.specs.declared.side.Side.{Side}
use Rattle.acn_extreme_laws.specs.Reach.{reach, from_to, tests_can}
use Rattle.acn_extreme_laws.specs.OneUse.{weight, fields_weight, Settled}
use Rattle.acn_extreme_laws.specs.Facts.{first_unsingle}
use Rattle.acn_extreme_laws.specs.Single.{Single, FirstUnsingle}
use Rattle.acn_extreme_laws.specs.declared.why.Why.{Why}
use Rattle.acn_packet_laws.specs.Laws.{IsAccepted}
use Rattle.acn_grammar.specs.Check.{NodeAt}
use Rattle.acn_grammar.specs.Walk.{Stand, Role, slot_here}
use Rattle.acn_grammar.specs.Asks.{Moment, asks, counts, moments}
use Rattle.acn_grammar.specs.AsksOn.{asks_on, form_asks_on, test_ask_on, Meetable}
use Rattle.acn_grammar.specs.Front.{IsWritten}
use Rattle.acn_grammar.specs.PartAt.{part_at, occurrence}
use Rattle.acn_grammar.specs.Images.{ends}
use Rattle.acn_grammar.specs.Meets.{Meets, Unfit, first_end}
use Rattle.acn_grammar.specs.Refused.{Refused}
use Rattle.acn_grammar.specs.Shaped.{Shaped}
use Rattle.acn_extreme_laws.specs.declared.side.Side.TheVariants.{Shortest, Longest}
use Rattle.acn_grammar.specs.declared.node.Test.{Test}
use Rattle.std.specs.List.{AllByRecursion, flat_map}
use Rattle.acn_grammar.specs.Slots.{domain_of}
use Rattle.acn_num.specs.Ranges.{In, Ranges, has}
use Rattle.std.specs.Prelude.{ℤ, pos, ◌≤ℤ◌, ◌∷◌, replicate}

-- it lies in what can be reached
abbrev pub Reaches : Option Bounds → ℕ → Type 0
Reaches None n = ⊥
Reaches (Some r) n = (r.least ≤ n) × (n ≤ r.greatest)

-- every packet, read or written, has a length within the grammar's reach, and there is none where there is no reach
abbrev pub SpellingsLieWithinReach : Type 0
SpellingsLieWithinReach =
    (root : Grammar) (mode : Mode) (d : Data) (bs : List Bool) → IsAccepted root → Spell root mode root [] d 0 bs → Reaches (reach root root (from_to 0 0)) (length bs)

-- where a slot is used once, and not through a list, all that a value asks of it can be met if each part's own asks can
abbrev pub OneUseIsMeetable : Type 0
OneUseIsMeetable =
    (root : Grammar) (s : ℕ) (g : Grammar) (d : Data) (x : ℤ) → weight s g ≤ 1 → Settled root s g d → In (domain_of root s) x → Meetable (domain_of root s) (asks_on root s g d)

-- the slot has a field
abbrev pub HasField : Grammar → ℕ → Type 0
HasField root s = (k : ℕ) × (at : Stand) × NodeAt root k at × (slot_here at.role ≡ Some s)

-- in a single grammar a SEQUENCE uses each slot at home there once, and not through a list
abbrev pub SingleIsOneUse : Type 0
SingleIsOneUse =
    (root : Grammar) (m s align : ℕ) (path around home : List ℕ) (role : Role) (fields : Fields) → Single root → NodeAt root m (record { path = path; around = around; role = role; align = align; form = seq fields home })
    → holds home s ≡ true → HasField root s → fields_weight s fields ≤ 1

-- conditions that can hold ask what can be met of each slot
abbrev pub TestsCanBeMet : Type 0
TestsCanBeMet = (root : Grammar) (ts : List Test) (s : ℕ) (x : ℤ) → tests_can root ts ≡ true → In (domain_of root s) x → Meetable (domain_of root s) (flat_map (test_ask_on s true) ts)

-- a text of one character that the terminator doesn't begin with has no end inside
abbrev pub RepeatedTextsHaveNoEnd : Type 0
RepeatedTextsHaveNoEnd = (c first n : ℕ) (end : List ℕ) → (c ≡ first → ⊥) → first_end (first ∷ end) (replicate n c) ≡ None

-- none of the ranges is empty
abbrev pub Ordered : Ranges → Type 0
Ordered [] = Unit {0}
Ordered (r ∷ rs) = (r.0 ≤ℤ r.1) × Ordered rs

-- the least and the greatest number of ranges are in them
abbrev pub EndsAreMembers : Type 0
EndsAreMembers = (rs : Ranges) (e : ℤ × ℤ) → Ordered rs → ends rs ≡ Some e → (has rs e.0 ≡ true) × (has rs e.1 ≡ true)

-- a best number of a leaf is the one that the walk takes
abbrev pub OneNumberIsBest : Type 0
OneNumberIsBest = (leaf : NumLeaf) (side : Side) (x : ℤ) → IsTrue (num_fine leaf) → IsBestNumber side leaf x → x ≡ number_at side leaf

-- Values that can be written.

-- a count of octets is one of the sizes
abbrev pub CountPermitted : Moment → Type 0
CountPermitted (asks path field s a) = Unit {0}
CountPermitted (counts path n sizing) = In sizing.sizes (pos n)

-- a value that meets the tree, whose counts of octets are permitted, is written where what each occurrence of a SEQUENCE asks of each slot at home there can be met
abbrev pub MeetableIsWritten : Type 0
MeetableIsWritten =
    (root : Grammar) (d : Data) → IsAccepted root → Meets root d → AllByRecursion CountPermitted (moments root root [] [] d)
    → ((path home : List ℕ) (align s : ℕ) (fields : Fields) (part : Data) → part_at root d path ≡ Some (occurrence (node align (seq fields home)) part) → holds home s ≡ true → Meetable (domain_of root s) (form_asks_on root s (seq fields home) part))
    → (bs : List Bool) × IsWritten root d bs

-- the best value ends where the grammar reaches on its side, and there is none where there is no reach
abbrev pub BestReaches : Type 0
BestReaches = (root : Grammar) (side : Side) → IsAccepted root → Agree side (reach root root (from_to 0 0)) (best root side root 0)

-- what is written for the value has so many bits
abbrev pub IsEnd : Grammar → Data → ℕ → Type 0
IsEnd root d n = (bs : List Bool) × IsWritten root d bs × (length bs ≡ n)

-- in a grammar whose determinants serve one use each, the best value is written, and its end is the number of its bits
abbrev pub BestIsWritten : Type 0
BestIsWritten = (root : Grammar) (side : Side) → IsAccepted root → Single root → (w : Way Data) → best root side root 0 ≡ Some w → IsEnd root w.1 w.0

-- no packet, written or read, is shorter than the one, or longer than the other
abbrev pub BestIsExtreme : Type 0
BestIsExtreme =
    (root : Grammar) (mode : Mode) (d : Data) (bs : List Bool) → IsAccepted root → Spell root mode root [] d 0 bs
    → ((w : Way Data) → best root Shortest root 0 ≡ Some w → w.0 ≤ length bs) × ((w : Way Data) → best root Longest root 0 ≡ Some w → length bs ≤ w.0)

-- where there is no best value, each value is refused
abbrev pub NoBestIsRefused : Type 0
NoBestIsRefused = (root : Grammar) (side : Side) → IsAccepted root → best root side root 0 ≡ None → (d : Data) → Shaped root d → (u : Unfit) × Refused root d u

-- Grammars that aren't single.

-- what the pass finds is the least reason, at the first node that shows it; where it finds none the grammar is single
pub record PassFindsWhy (root : Grammar) : Type 0 where
  pub single : first_unsingle root ≡ None → Single root
  pub found : (why : Why) (path : List ℕ) → first_unsingle root ≡ Some (why, path) → FirstUnsingle root path why

abbrev pub FirstUnsingleIsFound : Type 0
FirstUnsingleIsFound = (root : Grammar) → IsAccepted root → PassFindsWhy root
