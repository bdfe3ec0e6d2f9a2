-- What the events so far tell of a state, without a state: which slots are begun, where in its contents the writer stands, and
-- what was asked of each slot since it was begun. (This profile's own.)
use Rattle.std.specs.Prelude.{◌≡◌, ℕ, ◌+◌, ◌*◌, ◌^◌, ◌<◌, ◌≤◌, pos, Bool, true, false, not, ◌&&◌, List, [], ◌∷◌, ◌++◌, length, Some, nat_eq, if◌then◌else◌, IsTrue}
use Rattle.std.specs.List.{AllByRecursion}
use Rattle.acn_num.specs.Ranges.{has}
use Rattle.acn_num.specs.declared.limits.TheConstants.{MOST_STEPS}
use Rattle.acn_bits.specs.declared.word.TheConstants.{WORD_BITS}
use Rattle.acn_grammar.specs.Asks.{Ask, Equal}
use Rattle.acn_grammar.specs.AsksOn.{on, size_asks_on}
use Rattle.acn_grammar.specs.Check.{HasOneWidth}
use Rattle.acn_grammar.specs.Grammar.{Grammar}
use Rattle.acn_grammar.specs.Leaves.{num_fine, text_fine}
use Rattle.acn_grammar.specs.Length.{least, num_length, padding, rule_width, text_length}
use Rattle.acn_grammar.specs.Scoped.{Known, with_slot}
use Rattle.acn_grammar.specs.Slots.{domain_of, slot_leaf}
use Rattle.acn_grammar.specs.declared.node.NumLeaf.{NumLeaf}
use Rattle.acn_grammar.specs.declared.node.SizeRule.{SizeRule}
use Rattle.acn_grammar.specs.declared.node.SizeRule.TheVariants.{Prefix, Slot, Ended}
use Rattle.acn_events.specs.Event.{Event, aligns, copies, begins, puts, sizes, codes, texts, opens, notes, wants, fills, enters, closes}
use Rattle.acn_events.specs.Steps.{SizeFits}

pub record Mark : Type 0 where
  pub known : Known
  pub at : ℕ
  -- where contents that aren't ended begin in what is round them, with the rule of their size, the innermost first
  pub outer : List (ℕ × SizeRule)
  pub asked : ℕ → List Ask

-- nothing is begun, at the first bit
abbrev pub first_mark : Mark
first_mark = record { known = λ s. false; at = 0; outer = []; asked = λ s. [] }

-- what an event asks of a slot
abbrev pub ask_on : (s : ℕ) → Event → List Ask
ask_on s (notes path t set x) = on s t (Equal x)
ask_on s (wants path t a) = on s t a
ask_on s (closes path sizing n) = size_asks_on s n sizing.rule
ask_on s _ = []

abbrev pub start_of : List (ℕ × SizeRule) → ℕ
start_of [] = 0
start_of (o ∷ os) = o.0

abbrev pub rest_of : List (ℕ × SizeRule) → List (ℕ × SizeRule)
rest_of [] = []
rest_of (o ∷ os) = os

-- how many bits an event puts or leaves
abbrev pub size_of : Event → (at : ℕ) → ℕ
size_of (aligns align) at = padding align at
size_of (copies bs) at = length bs
size_of (begins homes bs) at = length bs
size_of (puts width n) at = width
size_of (sizes sizing n) at = rule_width sizing.rule
size_of (codes leaf x) at = num_length leaf x
size_of (texts leaf cs) at = text_length leaf.ended leaf (length cs)
size_of (opens s leaf) at = num_length leaf (least leaf.set)
size_of (enters rule) at = rule_width rule
size_of _ at = 0

abbrev pub at_after : Event → Mark → ℕ
at_after (enters rule) p = 0
at_after (closes path sizing n) p = start_of p.outer + p.at
at_after e p = p.at + size_of e p.at

abbrev pub outer_after : Event → Mark → List (ℕ × SizeRule)
outer_after (enters rule) p = (p.at + rule_width rule, rule) ∷ p.outer
outer_after (closes path sizing n) p = rest_of p.outer
outer_after _ p = p.outer

abbrev pub known_after : Event → Known → Known
known_after (opens s leaf) ks = with_slot s ks
known_after (notes path s set x) ks = with_slot s ks
known_after (fills s) ks = λ t. ks t && not (nat_eq s t)
known_after _ ks = ks

abbrev pub asked_after : Event → (ℕ → List Ask) → (s : ℕ) → List Ask
asked_after (fills t) asked s = if nat_eq t s then [] else asked s
asked_after e asked s = asked s ++ ask_on s e

abbrev pub marked : Event → Mark → Mark
marked e p = record { known = known_after e p.known; at = at_after e p; outer = outer_after e p; asked = asked_after e p.asked }

abbrev pub ends : List Event → Mark → Mark
ends [] p = p
ends (e ∷ es) p = ends es (marked e p)

-- the place, from the start of the buffer
abbrev pub depth_of : List (ℕ × SizeRule) → ℕ
depth_of [] = 0
depth_of (o ∷ os) = o.0 + depth_of os

abbrev pub reach : Mark → ℕ
reach p = depth_of p.outer + p.at

-- Events that come in good order.

abbrev pub CanBeEntered : SizeRule → Type 0
CanBeEntered (Prefix low width) = width ≤ WORD_BITS
CanBeEntered (Slot s) = Unit {0}
CanBeEntered (Ended p) = ⊥

abbrev pub CanBeClosed : SizeRule → Known → (n : ℕ) → (allowed : Bool) → Type 0
CanBeClosed (Prefix low width) ks n allowed = allowed ≡ true → SizeFits (Prefix low width) n
CanBeClosed (Slot s) ks n allowed = ks s ≡ true
CanBeClosed (Ended p) ks n allowed = ⊥

-- contents end that were begun, behind so many octets
pub record ClosesRight (rule : SizeRule) (n : ℕ) (allowed : Bool) (p : Mark) : Type 0 where
  pub start : ℕ
  pub rest : List (ℕ × SizeRule)
  pub outer : p.outer ≡ (start, rule) ∷ rest
  pub octets : p.at ≡ 8 * n
  pub closes : CanBeClosed rule p.known n allowed

pub record OpensRight (root : Grammar) (s : ℕ) (leaf : NumLeaf) (p : Mark) : Type 0 where
  pub fresh : p.known s ≡ false
  pub fine : IsTrue (num_fine leaf)
  pub width : HasOneWidth leaf
  pub of_slot : slot_leaf root s ≡ Some leaf

module _ (root : Grammar) where
  abbrev pub Right : Event → Mark → Type 0
  Right (aligns align) p = 0 < align
  Right (copies bs) p = Unit {0}
  Right (begins homes bs) p = AllByRecursion (λ (h : ℕ × List ℕ). p.known h.0 ≡ false) homes
  Right (puts width n) p = (width ≤ WORD_BITS) × (n < 2 ^ width)
  Right (sizes sizing n) p = has sizing.sizes (pos n) ≡ true → SizeFits sizing.rule n
  Right (codes leaf x) p = IsTrue (num_fine leaf)
  Right (texts leaf cs) p = IsTrue (text_fine leaf)
  Right (opens s leaf) p = OpensRight root s leaf p
  Right (notes path s set x) p = (p.known s ≡ false) × (domain_of root s ≡ set)
  Right (wants path s a) p = p.known s ≡ true
  Right (fills s) p = p.known s ≡ true
  Right (enters rule) p = (length p.outer < MOST_STEPS) × CanBeEntered rule
  Right (closes path sizing n) p = ClosesRight sizing.rule n (has sizing.sizes (pos n)) p

  abbrev pub AllRight : List Event → Mark → Type 0
  AllRight [] p = Unit {0}
  AllRight (e ∷ es) p = Right e p × AllRight es (marked e p)
