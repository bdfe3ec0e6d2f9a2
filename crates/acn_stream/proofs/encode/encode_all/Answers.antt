use Rattle.std.proofs.Common.{◌≡◌, List, rules, subst}
use Rattle.acn_grammar.specs.View.{grammar_of}
use Rattle.acn_lines.specs.Order.{IsOrder}
use Rattle.acn_plan.specs.Back.{root_of}
use Rattle.acn_plan.specs.declared.step.Step.{Step}
use Rattle.acn_stream.proofs.Ending.{bounded}
use Rattle.acn_stream.proofs.LinesPassing.{never_encoded}
use Rattle.acn_tree.specs.declared.tree.Tree.{Tree}
use Rattle.acn_stream.proofs.encode.encode_all.Goals as goal

pub encode_in_order-requires : goal.encode_in_order-requires
encode_in_order-requires g c =
    let grammar = grammar_of c.args.checked.now.tree.root in
    record {
      can = record {
        planned = subst (λ (steps : List Step). root_of steps ≡ grammar) c.requires.planned (c.steps_say_their_root.ensures grammar);
        bounded = bounded _ c.bounds.result c.bounds.ensures.exact (search rules) c.bounds.ensures.short c.bounds.ensures.between;
        ordered = subst (λ (t : Tree). IsOrder (grammar_of t.root) c.in-Ok.order.order) c.tree.ensures.same c.in-Ok.ensures;
      };
    }

pub returns-in-Err-clause-ends : goal.returns-in-Err-clause-ends
returns-in-Err-clause-ends g c = never_encoded _ _ _ _
