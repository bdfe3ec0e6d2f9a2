use Rattle.std.proofs.Common.{ℕ, List, ap, ◌∙◌, subst}
use Rattle.acn_print.specs.Printing.{Prints}
use Rattle.acn_tree.specs.declared.tree.Tree.{Tree}
use Rattle.acn_report.proofs.Bounded.{bounded}
use Rattle.acn_report.proofs.lines.put_bounds.Goals as goal

pub returns : goal.returns
returns g c =
    let name = c.bytes.ensures ∙ (c.name.ensures ∙ ap (λ (t : Tree). t.name) c.tree.ensures.same) in
    subst
    (λ (text : List ℕ). Prints text (g.O.Sink.taken c.args.out.now, g.O.Sink.faults c.args.out.now) (g.O.Sink.taken c.put_parts.new.out, g.O.Sink.faults c.put_parts.new.out) c.put_parts.result)
    (bounded c.args.checked.now.tree c.bytes.result.now c.bounds-both.result name c.bounds-both.ensures.exact)
    c.put_parts.ensures
