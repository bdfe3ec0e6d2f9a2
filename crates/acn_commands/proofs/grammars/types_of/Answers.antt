use Rattle.std.proofs.Common.{[], List, Some, suc, map, take, drop, get_or, sym, ap, subst, ◌∙◌}
use Rattle.std.specs.Prelude.{All}
use Rattle.acn_index.specs.World.{IsType}
use Rattle.acn_index.specs.declared.sources.TypeId.{TypeId}
use Rattle.acn_words.specs.View.{type_view}
use Rattle.acn_words.specs.declared.names.TypeName.{TypeName}
use Rattle.acn_world.specs.Viewed.{world_view}
use Rattle.acn_commands.specs.Asked.{types_named}
use Rattle.acn_commands.proofs.Named.{more_named, one_taken, parts_at, all_more}
use Rattle.acn_commands.proofs.grammars.types_of.Goals as goal

-- what stands where no name is
abbrev nobody : TypeName
nobody = record { «module» = record { ref_ptr = (0, 0); now = [] }; name = record { ref_ptr = (0, 0); now = [] } }

pub returns-in-None-clause-unknown : goal.returns-in-None-clause-unknown
returns-in-None-clause-unknown c =
    let names = c.args.names.now in
    let i = c.loop-of.of-index in
    record {
      front = map type_view (take i names);
      back = map type_view (drop (suc i) names);
      parts = parts_at type_view names i nobody c.loop-of-test.true;
      known = (c.loop-of.types.items, c.loop-of.invariant.0);
      unknown = sym c.in-None.ensures.found;
    }

pub loop-of-preserved : goal.loop-of-preserved
loop-of-preserved c =
    let w = world_view c.args.world.now in
    let names = c.args.names.now in
    let i = c.loop-of.of-index in
    let found = c.in-Some.found in
    let more = more_named w (map type_view (take i names)) (type_view (get_or names i nobody)) c.loop-of.types.items found c.loop-of.invariant.0 (sym c.in-Some.ensures.found) in (
      ap (types_named w) (sym (one_taken type_view names i nobody c.loop-of-test.true)) ∙ more ∙ ap Some (sym c.in-Ok.ensures.items),
      subst (λ (ts : List TypeId). All (IsType w) ts) (sym c.in-Ok.ensures.items) (all_more (IsType w) c.loop-of.types.items found c.loop-of.invariant.1 c.in-Some.ensures.of_type),
    )
