use Rattle.std.proofs.Common.{[], ◌∷◌, Some}
use Rattle.acn_words.specs.View.{type_view}
use Rattle.acn_world.specs.Viewed.{world_view}
use Rattle.acn_commands.proofs.Refusing.{is_named, one_unknown, one_fault, type_ends, unknown_ends}
use Rattle.acn_commands.proofs.grammars.named_grammar.Goals as goal

pub returns-in-None-clause-fails : goal.returns-in-None-clause-fails
returns-in-None-clause-fails g c =
    let w = world_view c.args.world.now in
    let of = type_view c.args.of.now in
    unknown_ends w (of ∷ []) of _ _ _ (one_unknown w of c.in-None.ensures.found) c.type_unknown.ensures.status c.type_unknown.ensures.says

pub returns-in-Ok-clause-grammars : goal.returns-in-Ok-clause-grammars
returns-in-Ok-clause-grammars g c = record {
  types = c.in-Some.found ∷ [];
  question = is_named (world_view c.args.world.now) (type_view c.args.of.now) c.in-Some.found c.in-Some.ensures.found;
  grammars = (c.in-Ok.ensures.grammar, tt);
}

pub returns-in-Err-clause-fails : goal.returns-in-Err-clause-fails
returns-in-Err-clause-fails g c =
    let w = world_view c.args.world.now in
    let of = type_view c.args.of.now in
    type_ends w (Some (of ∷ [])) (c.in-Some.found ∷ []) (is_named w of c.in-Some.found c.in-Some.ensures.found) _ _ c.in-Err.fault _ (one_fault w c.in-Some.found c.in-Err.fault c.in-Err.ensures.fault) c.type_refused.ensures
