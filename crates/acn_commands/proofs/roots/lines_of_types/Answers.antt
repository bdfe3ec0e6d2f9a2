use Rattle.std.proofs.Common.{ℕ, List, [], ◌∷◌, ◌++◌, sym, ap, ◌∙◌, append-nil}
use Rattle.std.specs.List.{flat_map}
use Rattle.std.proofs.lemmas.Grind.{flat_map-append}
use Rattle.acn_front.proofs.Grown.{first_fault, one_more}
use Rattle.acn_front.specs.declared.grammars.TypeFault.TheVariants.{NoMemory}
use Rattle.acn_world.specs.Viewed.{world_view}
use Rattle.acn_commands.specs.Roots.{root_line}
use Rattle.acn_commands.proofs.roots.lines_of_types.Goals as goal

pub returns-in-Err-add_line-clause-fault : goal.returns-in-Err-add_line-clause-fault
returns-in-Err-add_line-clause-fault c =
    let so_far = c.loop-of.invariant in
    first_fault (world_view c.args.world.now) c.args.types.now c.loop-of.of-index so_far.trees so_far.grammars (record { «module» = 0; item = 0 }) c.loop-of-test.true NoMemory tt

pub returns-in-Err-clause-fault : goal.returns-in-Err-clause-fault
returns-in-Err-clause-fault c =
    let so_far = c.loop-of.invariant in
    first_fault (world_view c.args.world.now) c.args.types.now c.loop-of.of-index so_far.trees so_far.grammars _ c.loop-of-test.true c.in-Err.fault c.in-Err.ensures.fault

pub loop-of-preserved : goal.loop-of-preserved
loop-of-preserved c =
    let so_far = c.loop-of.invariant in
    let line = root_line c.args.line in
    record {
      trees = so_far.trees ++ c.in-Ok.checked.tree ∷ [];
      grammars = one_more (world_view c.args.world.now) c.args.types.now c.loop-of.of-index so_far.trees so_far.grammars _ c.loop-of-test.true c.in-Ok.checked.tree c.in-Ok.ensures.grammar;
      is = c.in-Ok-add_line.ensures ∙ ap (λ (t : List ℕ). t ++ line c.in-Ok.checked.tree) so_far.is ∙ sym (flat_map-append line so_far.trees (c.in-Ok.checked.tree ∷ []) ∙ ap (λ (t : List ℕ). flat_map line so_far.trees ++ t) (append-nil (line c.in-Ok.checked.tree)));
    }
