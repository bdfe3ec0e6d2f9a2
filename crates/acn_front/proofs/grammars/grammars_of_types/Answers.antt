use Rattle.std.proofs.Common.{◌≡◌, ℕ, ◌+◌, ◌<◌, ◌≤◌, List, [], ◌∷◌, ◌++◌, length, take, map, refl, sym, ap, subst, arith}
use Rattle.acn_front.specs.Grammars.{AreGrammarsOf, IsFirstTypeFault}
use Rattle.acn_front.specs.declared.grammars.TypeFault.{TypeFault}
use Rattle.acn_front.specs.declared.grammars.TypeFault.TheVariants.{NoMemory}
use Rattle.acn_world.specs.Viewed.{world_view}
use Rattle.acn_front.proofs.Grown.{first_fault, one_more}
use Rattle.acn_front.proofs.grammars.grammars_of_types.Goals as goal

pub returns-in-Err-keep-clause-fault : goal.returns-in-Err-keep-clause-fault
returns-in-Err-keep-clause-fault c =
    rw c.in-Err-keep.ensures.fault (first_fault (world_view c.args.world.now) c.args.types.now c.loop-of.of-index (map (λ d. d.tree) c.loop-of.all.items) c.loop-of.invariant (record { «module» = 0; item = 0 }) c.loop-of-test.true NoMemory tt)

pub returns-in-Err-clause-fault : goal.returns-in-Err-clause-fault
returns-in-Err-clause-fault c =
    first_fault (world_view c.args.world.now) c.args.types.now c.loop-of.of-index (map (λ d. d.tree) c.loop-of.all.items) c.loop-of.invariant _ c.loop-of-test.true c.in-Err.fault c.in-Err.ensures.fault

pub loop-of-preserved : goal.loop-of-preserved
loop-of-preserved c =
    subst (λ (trees : List _). AreGrammarsOf (world_view c.args.world.now) (take (c.loop-of.of-index + 1) c.args.types.now) trees) (sym c.in-Ok-keep.ensures.kept)
    (one_more (world_view c.args.world.now) c.args.types.now c.loop-of.of-index (map (λ d. d.tree) c.loop-of.all.items) c.loop-of.invariant _ c.loop-of-test.true c.in-Ok.checked.tree c.in-Ok.ensures.grammar)
