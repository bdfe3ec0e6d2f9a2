use Rattle.std.proofs.Common.{ap, ◌∙◌}
use Rattle.acn_grammar.specs.View.{grammar_of}
use Rattle.acn_tree.specs.declared.tree.Tree.{Tree}
use Rattle.acn_compare.proofs.Answered.{of_roots, says_yes, says_no, says_read}
use Rattle.acn_compare.proofs.comparing.compare.Goals as goal

pub returns-clause-yes : goal.returns-clause-yes
returns-clause-yes c =
    let old = c.root-first.ensures.same ∙ ap (λ (t : Tree). t.root) c.tree-older.ensures.same in
    let new = c.root-second.ensures.same ∙ ap (λ (t : Tree). t.root) c.tree-newer.ensures.same in
    says_yes (grammar_of c.args.old.now.tree.root) (grammar_of c.args.new.now.tree.root) c.answered.result (of_roots _ _ _ _ c.answered.result old new c.answered.ensures)

pub returns-clause-no : goal.returns-clause-no
returns-clause-no c =
    let old = c.root-first.ensures.same ∙ ap (λ (t : Tree). t.root) c.tree-older.ensures.same in
    let new = c.root-second.ensures.same ∙ ap (λ (t : Tree). t.root) c.tree-newer.ensures.same in
    says_no (grammar_of c.args.old.now.tree.root) (grammar_of c.args.new.now.tree.root) c.answered.result (of_roots _ _ _ _ c.answered.result old new c.answered.ensures)

pub returns-clause-read : goal.returns-clause-read
returns-clause-read c = λ e.
    let old = c.root-first.ensures.same ∙ ap (λ (t : Tree). t.root) c.tree-older.ensures.same in
    let new = c.root-second.ensures.same ∙ ap (λ (t : Tree). t.root) c.tree-newer.ensures.same in
    says_read c.args.old.now.tree c.args.new.now.tree c.tree-older.result.now c.tree-newer.result.now c.tree-older.ensures.same c.tree-newer.ensures.same c.tree-older.ensures.accepted c.tree-newer.ensures.accepted
    c.old_packets_are_read.ensures c.lines_are_alike.ensures c.spelled_values_meet.ensures
    (says_yes (grammar_of c.args.old.now.tree.root) (grammar_of c.args.new.now.tree.root) c.answered.result (of_roots _ _ _ _ c.answered.result old new c.answered.ensures) e)
