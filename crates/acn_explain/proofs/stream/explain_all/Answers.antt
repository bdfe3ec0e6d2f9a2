use Rattle.std.proofs.Common.{subst}
use Rattle.acn_grammar.specs.View.{grammar_of}
use Rattle.acn_stream.specs.Decoding.{ShowEnds}
use Rattle.acn_stream.specs.Recording.{texts}
use Rattle.acn_tree.specs.declared.tree.Tree.{Tree}
use Rattle.acn_explain.specs.Texts.{packet_text}
use Rattle.acn_explain.proofs.stream.explain_all.Goals as goal

pub returns-clause-ends : goal.returns-clause-ends
returns-clause-ends g c =
    let root = grammar_of c.args.checked.now.tree.root in
    subst (λ (t : Tree). ShowEnds root (texts root (packet_text t) 1) c.args.limit (g.S.Source.rest c.args.input.now) (g.S.Source.rest c.show_all.new.input) (g.O.Sink.taken c.args.out.now) (g.O.Sink.taken c.show_all.new.out) c.show_all.result) c.tree.ensures.same c.show_all.ensures.ends
