use Rattle.std.proofs.Common.{◌≡◌, ℕ, List, [], ◌∷◌, Some, refl, subst, codes, ◌∙◌}
use Rattle.std.specs.Fmt.{decimal}
use Rattle.std.specs.List.{concat}
use Rattle.acn_grammar.specs.View.{data_of, grammar_of}
use Rattle.acn_json.specs.Lines.{line_of}
use Rattle.acn_print.specs.Printing.{Prints}
use Rattle.acn_commands.specs.Extremes.{extremes_text}
use Rattle.acn_commands.specs.Steps.{stopped}
use Rattle.acn_commands.proofs.Printing.{text_told}
use Rattle.acn_commands.proofs.extremes.put_ends.Goals as goal

abbrev lines : (least : ℕ) → (shortest : List ℕ) → (greatest : ℕ) → (longest : List ℕ) → List ℕ
lines least shortest greatest longest = concat (codes "least " ∷ decimal least ∷ codes " " ∷ shortest ∷ codes "\ngreatest " ∷ decimal greatest ∷ codes " " ∷ longest ∷ codes "\n" ∷ [])

pub returns-in-Ok : goal.returns-in-Ok
returns-in-Ok g c =
    let ends = c.args.ends.now in
    let root = grammar_of c.args.tree.now.root in
    let one = subst (λ (x : List ℕ). Prints (lines ends.least x ends.greatest c.deref-in-Ok.result.now) (g.O.Sink.taken c.args.out.now, g.O.Sink.faults c.args.out.now) (g.O.Sink.taken c.put_lines.new.out, g.O.Sink.faults c.put_lines.new.out) c.put_lines.result) (c.deref.ensures.value ∙ c.in-Ok.ensures.least) c.put_lines.ensures in
    let both = subst (λ (x : List ℕ). Prints (lines ends.least (line_of root (data_of ends.least_value)) ends.greatest x) (g.O.Sink.taken c.args.out.now, g.O.Sink.faults c.args.out.now) (g.O.Sink.taken c.put_lines.new.out, g.O.Sink.faults c.put_lines.new.out) c.put_lines.result) (c.deref-in-Ok.ensures.value ∙ c.in-Ok.ensures.greatest) one in
    text_told (λ text. text ≡ extremes_text root (Some ends)) (extremes_text root (Some ends)) _ _ _ _ c.behind_text.result c.put_lines.result refl both c.behind_text.ensures.done c.behind_text.ensures.failed

pub returns-in-Err : goal.returns-in-Err
returns-in-Err g c = rw c.no_memory.ensures.status (stopped refl c.no_memory.ensures.says)
