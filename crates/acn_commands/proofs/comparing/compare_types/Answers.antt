use Rattle.std.proofs.Common.{List, map, sym, subst, arith}
use Rattle.acn_tree.specs.declared.tree.Tree.{Tree}
use Rattle.acn_words.specs.Requests.{compare}
use Rattle.acn_words.specs.View.{type_view}
use Rattle.acn_world.specs.Viewed.{world_view}
use Rattle.acn_commands.specs.Compared.{IsAnswerLine}
use Rattle.acn_commands.specs.Serves.{IsText}
use Rattle.acn_commands.proofs.Printing.{ends_serve}
use Rattle.acn_commands.proofs.TwoGrammars.{two_checked, trees_of_two}
use Rattle.acn_commands.proofs.comparing.compare_types.Goals as goal

pub index-first-requires : goal.index-first-requires
index-first-requires g c =
    let two = two_checked (world_view c.args.world.now) (type_view c.args.old.now) (type_view c.args.newer.now) c.in-Ok.all.items c.in-Ok.ensures.grammars in
    omega arith

pub index-second-requires : goal.index-second-requires
index-second-requires g c =
    let two = two_checked (world_view c.args.world.now) (type_view c.args.old.now) (type_view c.args.newer.now) c.in-Ok.all.items c.in-Ok.ensures.grammars in
    omega arith

pub returns-in-Ok : goal.returns-in-Ok
returns-in-Ok g c = λ names.
    let w = world_view c.args.world.now in
    let old = type_view c.args.old.now in
    let newer = type_view c.args.newer.now in
    let two = two_checked w old newer c.in-Ok.all.items c.in-Ok.ensures.grammars in
    let x = c.index-first.result.now in
    let y = c.index-second.result.now in
    let trees = trees_of_two c.in-Ok.all.items two x y c.index-first.ensures c.index-second.ensures in
    ends_serve (compare old newer names) w (map (λ c. c.tree) c.in-Ok.all.items) c.in-Ok.ensures.grammars (IsAnswerLine x.tree y.tree) (λ text h. subst (λ (ts : List Tree). IsText (compare old newer names) ts text) (sym trees) h)
    _ _ _ _ _ c.comparison.result c.in-Ok.ensures.silent c.comparison.ensures
