use Rattle.std.proofs.Common.{◌∷◌, [], None, sym, ap, ◌∙◌}
use Rattle.std.specs.Prelude.{is_some}
use Rattle.acn_events.specs.Located.{behind}
use Rattle.acn_step_fields.proofs.Soughts.{sought, not_sought}
use Rattle.acn_step_fields.proofs.seek.seek_inserted.Goals as goal

pub returns-then-is_sought-clause-found : goal.returns-then-is_sought-clause-found
returns-then-is_sought-clause-found c = ap is_some (sym (sought _ (c.args.number ∷ []) None _ (c.is_sought.ensures (c.args.number ∷ []) None) c.if-is_sought.true))

pub returns-then-is_sought-clause-path : goal.returns-then-is_sought-clause-path
returns-then-is_sought-clause-path c = c.push.ensures ∙ ap (λ x. behind c.args.path.now x c.args.path.now) (sym (sought _ (c.args.number ∷ []) None _ (c.is_sought.ensures (c.args.number ∷ []) None) c.if-is_sought.true))

pub returns-else-is_sought-clause-found : goal.returns-else-is_sought-clause-found
returns-else-is_sought-clause-found c = ap is_some (sym (not_sought _ (c.args.number ∷ []) None _ (c.is_sought.ensures (c.args.number ∷ []) None) c.if-is_sought.false))

pub returns-else-is_sought-clause-path : goal.returns-else-is_sought-clause-path
returns-else-is_sought-clause-path c = ap (λ x. behind c.args.path.now x c.args.path.now) (sym (not_sought _ (c.args.number ∷ []) None _ (c.is_sought.ensures (c.args.number ∷ []) None) c.if-is_sought.false))
