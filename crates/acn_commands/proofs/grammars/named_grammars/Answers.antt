use Rattle.std.proofs.Common.{List, Some, map, subst}
use Rattle.acn_front.specs.Grammars.{IsFirstTypeFault}
use Rattle.acn_index.specs.declared.sources.TypeId.{TypeId}
use Rattle.acn_words.specs.View.{type_view}
use Rattle.acn_world.specs.Viewed.{world_view}
use Rattle.acn_commands.proofs.Refusing.{memory_ends, type_ends, unknown_ends}
use Rattle.acn_commands.proofs.grammars.named_grammars.Goals as goal

pub returns-in-Err-Unknown-clause-fails : goal.returns-in-Err-Unknown-clause-fails
returns-in-Err-Unknown-clause-fails g c =
    unknown_ends (world_view c.args.world.now) (map type_view c.args.names.now) (type_view c.in-Err-Unknown.of.now) _ _ c.type_unknown.result (rw c.in-Err-Unknown.field-0-is at c.in-Err-Unknown.ensures.unknown)
    c.type_unknown.ensures.status (rw c.in-Err-Unknown.field-0-is at c.type_unknown.ensures.says)

pub returns-in-Err-NoMemory-clause-fails : goal.returns-in-Err-NoMemory-clause-fails
returns-in-Err-NoMemory-clause-fails g c = λ told faults faults' request read is. memory_ends told faults faults' request _ _ _ c.no_memory.ensures.status c.no_memory.ensures.says

pub returns-clause-fails : goal.returns-clause-fails
returns-clause-fails g c =
    let w = world_view c.args.world.now in
    let first = subst (λ (types : List TypeId). IsFirstTypeFault w types c.in-Err.fault) c.deref.ensures.value c.in-Err.ensures.fault in
    type_ends w (Some (map type_view c.args.names.now)) c.in-Ok.types.items c.in-Ok.ensures.types _ _ c.in-Err.fault _ first c.type_refused.ensures
