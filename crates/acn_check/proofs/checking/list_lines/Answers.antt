use Rattle.std.proofs.Common.{◌≡◌, ℕ, List, [], ◌++◌, map, sym, ap, ◌∙◌, subst}
use Rattle.acn_grammar.specs.View.{grammar_of}
use Rattle.acn_grammar.specs.declared.node.Node.{Node}
use Rattle.acn_check.specs.Facts.{Fit, Tag, Facts, facts, facts_of, plain, tag_seen}
use Rattle.acn_check.specs.Order.{lines_of}
use Rattle.acn_check.specs.declared.lines.Line.{Line}
use Rattle.acn_check.proofs.Flat.{lines_are}
use Rattle.acn_check.proofs.TreeFits.{lines_fit}
use Rattle.acn_check.proofs.checking.list_lines.Goals as goal

all_lines : (tag : Tag) (path : List ℕ) (r root : Node) → tag ≡ plain → path ≡ [] → r ≡ root → facts tag path 0 (grammar_of r) ≡ lines_of (grammar_of root)
all_lines tag path r root t p e = ap (λ x. facts x path 0 (grammar_of r)) t ∙ (ap (λ x. facts plain x 0 (grammar_of r)) p ∙ (ap (λ x. facts plain [] 0 (grammar_of x)) e ∙ sym (lines_are (grammar_of root))))

from_none : (lines : List Line) (l : List Facts) → lines ≡ [] → map facts_of lines ++ l ≡ l
from_none lines l e = ap (λ x. map facts_of x ++ l) e

pub list_node-requires : goal.list_node-requires
list_node-requires c = subst Fit (sym (all_lines (tag_seen c.plain.result) c.new.result c.root.result.now c.args.tree.now.root c.plain.ensures c.new.ensures c.root.ensures.same)) (lines_fit (grammar_of c.args.tree.now.root) (subst (λ (n : Node). Rattle.acn_grammar.specs.Tree.IsTree (grammar_of n)) c.root.ensures.same c.root.ensures.formed))

pub returns : goal.returns
returns c =
    c.in_ok-list_node.ensures
    ∙ (from_none c.new-lines.result.items (facts (tag_seen c.plain.result) c.new.result 0 (grammar_of c.root.result.now)) c.new-lines.ensures.items
    ∙ all_lines (tag_seen c.plain.result) c.new.result c.root.result.now c.args.tree.now.root c.plain.ensures c.new.ensures c.root.ensures.same)
