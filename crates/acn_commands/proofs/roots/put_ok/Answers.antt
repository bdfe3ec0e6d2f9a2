use Rattle.std.proofs.Common.{ℕ, List, [], ◌∷◌, ap, ◌∙◌, subst, codes}
use Rattle.std.specs.List.{concat}
use Rattle.acn_print.specs.Printing.{Prints}
use Rattle.acn_tree.specs.declared.tree.Tree.{Tree}
use Rattle.acn_commands.proofs.roots.put_ok.Goals as goal

pub returns : goal.returns
returns g c =
    let name = c.bytes.ensures ∙ (c.name.ensures ∙ ap (λ (t : Tree). t.name) c.tree.ensures.same) in
    subst (λ (n : List ℕ). Prints (concat (n ∷ codes " ok\n" ∷ [])) (g.O.Sink.taken c.args.out.now, g.O.Sink.faults c.args.out.now) (g.O.Sink.taken c.put_all.new.out, g.O.Sink.faults c.put_all.new.out) c.put_all.result) name c.put_all.ensures
