use Rattle.std.proofs.Common.{List, None, refl, ◌∙◌, subst}
use Rattle.acn_front.specs.Grammars.{IsFirstTypeFault}
use Rattle.acn_index.specs.declared.sources.TypeId.{TypeId}
use Rattle.acn_world.specs.Viewed.{world_view}
use Rattle.acn_commands.specs.Roots.{AreLinesOf}
use Rattle.acn_commands.proofs.Refusing.{memory_ends, type_ends}
use Rattle.acn_commands.proofs.roots.root_lines.Goals as goal

pub returns-in_default-clause-fails : goal.returns-in_default-clause-fails
returns-in_default-clause-fails g c = λ told faults faults' request read is. memory_ends told faults faults' request _ _ _ c.no_memory.ensures.status c.no_memory.ensures.says

pub returns-in-Ok-lines_of_types-clause-lines : goal.returns-in-Ok-lines_of_types-clause-lines
returns-in-Ok-lines_of_types-clause-lines g c =
    let w = world_view c.args.world.now in
    let all = subst (λ (types : List TypeId). AreLinesOf w types c.args.line c.in-Ok-lines_of_types.text.items) (c.deref.ensures.value ∙ c.in-Ok.ensures.roots) c.in-Ok-lines_of_types.ensures.lines in
    record { trees = all.trees; answers = record { types = _; question = refl; grammars = all.grammars }; is = all.is }

pub returns-clause-fails : goal.returns-clause-fails
returns-clause-fails g c =
    let w = world_view c.args.world.now in
    let first = subst (λ (types : List TypeId). IsFirstTypeFault w types c.in-Err.fault) (c.deref.ensures.value ∙ c.in-Ok.ensures.roots) c.in-Err.ensures.fault in
    type_ends w None _ refl _ _ c.in-Err.fault _ first c.type_refused.ensures
