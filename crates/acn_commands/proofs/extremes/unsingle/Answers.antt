use Rattle.std.proofs.Common.{◌≡◌, ℕ, [], ◌∷◌, subst, codes, ◌∙◌}
use Rattle.std.specs.Fmt.{decimal}
use Rattle.std.specs.List.{concat}
use Rattle.acn_extreme_laws.specs.Single.{rank}
use Rattle.acn_print.specs.Printing.{Prints}
use Rattle.acn_report.specs.Names.{path_text}
use Rattle.acn_commands.proofs.extremes.unsingle.Goals as goal

pub returns-clause-says : goal.returns-clause-says
returns-clause-says g c =
    let number : c.from.result ≡ rank c.args.why = c.from.ensures ∙ c.rank.ensures in
    record {
      result = c.put_parts.result;
      prints = subst (λ (n : ℕ). Prints (concat (codes "acn: " ∷ path_text c.args.tree.now c.args.at.now ∷ codes ": NotSingle " ∷ decimal n ∷ codes "\n" ∷ [])) (g.E.Sink.taken c.args.err.now, g.E.Sink.faults c.args.err.now) (g.E.Sink.taken c.put_parts.new.out, g.E.Sink.faults c.put_parts.new.out) c.put_parts.result) number c.put_parts.ensures;
    }
