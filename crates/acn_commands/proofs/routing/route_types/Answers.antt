use Rattle.std.proofs.Common.{List, Some, map, string_bytes, subst, ◌∙◌}
use Rattle.std.proofs.lemmas.List.{length-map}
use Rattle.acn_words.specs.Names.{TypeName}
use Rattle.acn_words.specs.Routes.{route_of}
use Rattle.acn_world.specs.Viewed.{world_view}
use Rattle.acn_commands.specs.Steps.{Answers}
use Rattle.acn_commands.proofs.Packets.{all_named, routes_serve, as_many_checked}
use Rattle.acn_commands.proofs.routing.route_types.Goals as goal

pub route_input-requires-clause-same : goal.route_input-requires-clause-same
route_input-requires-clause-same g c = as_many_checked (world_view c.args.world.now) (map route_of (map string_bytes c.args.words.now.words.now)) c.args.words.now.words.now c.in-Ok.all.items (length-map (map string_bytes c.args.words.now.words.now) route_of ∙ length-map c.args.words.now.words.now string_bytes) (subst (λ (ns : List TypeName). Answers (world_view c.args.world.now) (Some ns) (map (λ c. c.tree) c.in-Ok.all.items)) c.requires.named c.in-Ok.ensures.grammars)

pub route_input-requires-clause-named : goal.route_input-requires-clause-named
route_input-requires-clause-named g c = all_named (world_view c.args.world.now) c.in-Ok.all.items c.in-Ok.ensures.grammars.types c.in-Ok.ensures.grammars.grammars

pub returns-in-Ok : goal.returns-in-Ok
returns-in-Ok g c = λ names.
    let w = world_view c.args.world.now in
    let answers = subst (λ (ns : List TypeName). Answers w (Some ns) (map (λ c. c.tree) c.in-Ok.all.items)) c.requires.named c.in-Ok.ensures.grammars in
    routes_serve (map route_of (map string_bytes c.args.words.now.words.now)) names w (map (λ c. c.tree) c.in-Ok.all.items) answers _ _ _ _ _ _ _ _ _ c.route_input.result c.in-Ok.ensures.silent c.route_input.ensures
