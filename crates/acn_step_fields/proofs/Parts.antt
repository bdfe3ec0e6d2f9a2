-- The node that one step leads to.
use Rattle.std.proofs.Common.{◌≡◌, ℕ, zero, suc, ◌<◌, ◌≤◌, Option, Some, None, IfSome, sym, ap, subst, ◌∙◌, arith}
use Rattle.acn_grammar.specs.Grammar.{Grammar, Form, node, num, octets, bits, text, seq, list, choice, contained}
use Rattle.acn_grammar.specs.Paths.{only, part_node, form_part_node}
use Rattle.acn_tree.specs.Room.{HasRoom}
use Rattle.acn_step_breach.proofs.Inners.{some_is, field_room, case_room}

-- what one step leads to, by the node's form
pub part_by : (o : Option Grammar) (g : Grammar) (align : ℕ) (form other : Form) (k : ℕ) → g ≡ node align form → form ≡ other → o ≡ form_part_node other k → o ≡ part_node g k
part_by o g align form other k e f a = a ∙ (ap (λ (x : Form). form_part_node x k) (sym f) ∙ ap (λ (x : Grammar). part_node x k) (sym e))

-- Room inside.

only_room : (h : Grammar) (i k : ℕ) (g : Grammar) → HasRoom k h → Some g ≡ only h i → HasRoom k g
only_room h zero k g r e = subst (HasRoom k) (sym (some_is g h e)) r
only_room h (suc i) k g r e = cc

pub part_room : (g : Grammar) (i k : ℕ) (inside : Grammar) → HasRoom k g → Some inside ≡ part_node g i → HasRoom (suc k) inside
part_room (node align (num leaf)) i k inside r e = cc
part_room (node align (octets sizing)) i k inside r e = cc
part_room (node align (bits sizing)) i k inside r e = cc
part_room (node align (text leaf)) i k inside r e = cc
part_room (node align (seq fields home)) i k inside r e = field_room fields i (suc k) inside r.1.1 e
part_room (node align (list sizing g)) i k inside r e = subst (HasRoom (suc k)) (sym (some_is inside g e)) r.1.1
part_room (node align (choice cases rule)) i k inside r e = case_room cases i (suc k) inside r.1 e
part_room (node align (contained sizing g)) i k inside r e = only_room g i (suc k) inside r.1 e

-- a step before an end is one before a later end
pub inside_longer : (o : Option ℕ) (first end long : ℕ) → end ≤ long → IfSome o (λ this. (first ≤ this) × (this < end)) → IfSome o (λ this. this < long)
inside_longer None first end long le h = tt
inside_longer (Some this) first end long le h = (let a = h.1 in omega (arith, le, a))
