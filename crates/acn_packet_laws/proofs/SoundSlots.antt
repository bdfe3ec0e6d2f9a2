-- Slots that are known behind sound fields and weren't before them: each has a leaf that keeps its rules.
use Rattle.std.proofs.Common.{◌≡◌, ℕ, suc, ℤ, true, false, not, List, ◌++◌, Option, Some, None, nat_eq, subst, IsTrue}
use Rattle.std.proofs.lemmas.Bool.{and_parts, eqb-true}
use Rattle.acn_num.specs.Ranges.{In}
use Rattle.acn_grammar.specs.Grammar.{Grammar, Fields, node, num, octets, bits, text, seq, list, choice, contained, no_fields, component, inserted}
use Rattle.acn_grammar.specs.Leaves.{num_fine}
use Rattle.acn_grammar.specs.Scoped.{Known, with_slot, with_own, after, fields_after}
use Rattle.acn_grammar.specs.Slots.{slot_leaf, domain_of}
use Rattle.acn_grammar.specs.Sound.{SaysSlot, OwnSound, Sound, FieldsSound}
use Rattle.acn_grammar.specs.Tree.{holds, is_slot}
use Rattle.acn_grammar.specs.declared.node.NumLeaf.{NumLeaf}
use Rattle.acn_grammar.specs.declared.node.Presence.{Presence}
use Rattle.acn_grammar.specs.declared.node.Presence.TheVariants.{Always, Bit, When}
use Rattle.acn_packet_laws.proofs.Homes.{truth}
use Rattle.acn_packet_laws.proofs.Scoping.{own_either}
use Rattle.acn_packet_laws.proofs.SlotNumbers.{leaf_some}
use Rattle.acn_packet_laws.proofs.Tuples.{first_four, last_two, last_three, last_four, last_five, second_five, third_four, fourth_five}
use Rattle.acn_grammar.proofs.WholeTests.{either}

module _ (root : Grammar) where
  abbrev pub HasLeaf : ℕ → Type 0
  HasLeaf s = (leaf : NumLeaf) × (slot_leaf root s ≡ Some leaf) × IsTrue (num_fine leaf)

  pub says_leaf : (k : ℕ) (around : List ℕ) (ks : Known) (s : ℕ) (g : Grammar) → SaysSlot root around ks s g → Sound root k around ks g → HasLeaf s
  says_leaf k around ks s (node align (num leaf)) h f = (leaf, h.2, last_three f)
  says_leaf k around ks s (node align _) h f = absurd h

  own_leaf : (k : ℕ) (around : List ℕ) (ks : Known) (own : Option ℕ) (presence : Presence) (g : Grammar) → OwnSound root around ks own presence g → Sound root k around ks g → (s : ℕ) → is_slot s own ≡ true → HasLeaf s
  own_leaf k around ks None presence g h f s e = cc
  own_leaf k around ks (Some t) presence g h f s e = subst HasLeaf (eqb-true t s e) (says_leaf k around ks t g h.1 f)

  mutual
    pub leaf_behind : (g : Grammar) (k : ℕ) (around : List ℕ) (ks : Known) → Sound root k around ks g → (s : ℕ) → ks s ≡ false → after ks g s ≡ true → HasLeaf s
    leaf_behind (node align (seq fields home)) k around ks h s n e = fields_leaf_behind fields (suc k) (home ++ around) ks (last_two (last_three h)) s n (and_parts (fields_after ks fields s) (not (holds home s)) e).0
    leaf_behind (node align (num leaf)) k around ks h s n e = cc
    leaf_behind (node align (octets sizing)) k around ks h s n e = cc
    leaf_behind (node align (bits sizing)) k around ks h s n e = cc
    leaf_behind (node align (text leaf)) k around ks h s n e = cc
    leaf_behind (node align (list sizing g)) k around ks h s n e = cc
    leaf_behind (node align (choice cases rule)) k around ks h s n e = cc
    leaf_behind (node align (contained sizing g)) k around ks h s n e = cc

    pub fields_leaf_behind : (fs : Fields) (k : ℕ) (around : List ℕ) (ks : Known) → FieldsSound root k around ks fs → (s : ℕ) → ks s ≡ false → fields_after ks fs s ≡ true → HasLeaf s
    fields_leaf_behind no_fields k around ks h s n e = cc
    fields_leaf_behind (component name g Always default own fs) k around ks h s n e =
        truth {F = HasLeaf s} (with_own own (after ks g) s)
        (λ q. own_either {F = HasLeaf s} own (after ks g) s q (λ r. own_leaf k around ks own Always g (second_five h) (fourth_five h) s r) (λ r. leaf_behind g k around ks (fourth_five h) s n r))
        (λ q. fields_leaf_behind fs k around (with_own own (after ks g)) (last_five h) s q e)
    fields_leaf_behind (component name g Bit default own fs) k around ks h s n e = fields_leaf_behind fs k around ks (last_five h) s n e
    fields_leaf_behind (component name g (When ts) default own fs) k around ks h s n e = fields_leaf_behind fs k around ks (last_five h) s n e
    fields_leaf_behind (inserted name g (Some t) fs) k around ks h s n e =
        truth {F = HasLeaf s} (with_slot t ks s)
        (λ q. either {F = HasLeaf s} (nat_eq t s) (ks s) q (λ r. subst HasLeaf (eqb-true t s r) (says_leaf k around ks t g (first_four h) (third_four h))) (λ r. cc))
        (λ q. fields_leaf_behind fs k around (with_slot t ks) (last_four h) s q e)
    fields_leaf_behind (inserted name g None fs) k around ks h s n e = fields_leaf_behind fs k around ks (last_three h) s n e

  -- so it permits some number
  pub some_behind : (fs : Fields) (k : ℕ) (around : List ℕ) (ks : Known) → FieldsSound root k around ks fs → (s : ℕ) → ks s ≡ false → fields_after ks fs s ≡ true → (x : ℤ) × In (domain_of root s) x
  some_behind fs k around ks h s n e = (let l = fields_leaf_behind fs k around ks h s n e in leaf_some root s l.0 l.1 l.2)
