use Rattle.std.proofs.Common.{◌≡◌, List, [], ap, sym, ◌∙◌}
use Rattle.acn_grammar.specs.View.{grammar_of}
use Rattle.acn_grammar.specs.declared.node.Node.{Node}
use Rattle.acn_report.proofs.Rooms.{walkable}
use Rattle.acn_layout.specs.Walks.{tag_seen, plain, node_lines}
use Rattle.acn_layout.proofs.Flat.{layout_is}
use Rattle.acn_layout.proofs.Forms.{moved}
use Rattle.acn_tree.specs.declared.tree.Tree.{Tree}
use Rattle.acn_layout.proofs.walk.put_layout.Goals as goal

pub put_node-requires : goal.put_node-requires
put_node-requires g c = rw c.new-path.ensures (walkable (grammar_of c.root.result.now) c.root.ensures.formed)

pub returns : goal.returns
returns g c =
    let tree = c.args.checked.now.tree in
    let root = c.root.result.now in
    moved _ _ _ _ _
    (ap (λ tag. node_lines tree tag c.new-path.result (grammar_of root)) c.with_tests-tag.ensures
    ∙ (ap (λ path. node_lines tree plain path (grammar_of root)) c.new-path.ensures
    ∙ (ap (λ (n : Node). node_lines tree plain [] (grammar_of n)) (c.root.ensures.same ∙ ap (λ (t : Tree). t.root) c.tree.ensures.same)
    ∙ sym (layout_is tree c.each_node_has_its_path.ensures))))
    c.put_node.ensures
