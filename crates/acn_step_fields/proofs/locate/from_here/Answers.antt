use Rattle.std.proofs.Common.{◌+◌, length, sym, ap, ◌∙◌}
use Rattle.std.specs.Prelude.{is_some}
use Rattle.acn_events.specs.Located.{behind}
use Rattle.acn_grammar.specs.Asks.{field_steps}
use Rattle.acn_plan.specs.Back.{form_at, fields_at}
use Rattle.acn_plan.specs.declared.step.Act.TheVariants as acts
use Rattle.acn_plan.proofs.Mades.{made_nested}
use Rattle.acn_step_breach.proofs.Levels.{form_by, body_room, seq_room}
use Rattle.acn_step_fields.proofs.Soughts.{home_is, not_home, behind_home, here_with, here_without}
use Rattle.acn_step_fields.proofs.locate.from_here.Goals as goal

pub seek-found-requires : goal.seek-found-requires
seek-found-requires c =
    record {
      made = c.requires.made;
      within = (made_nested c.args.steps.now c.requires.made c.args.this c.args.step.now c.requires.is).within;
      room = seq_room (form_at c.args.steps.now c.args.this c.args.step.now) (fields_at c.args.steps.now (c.args.this + 1) c.args.step.now.next) c.in-Some.home.now (length c.args.field.now) (form_by c.args.steps.now c.args.this c.args.step.now (acts.Seq c.in-Some.home.now) c.in-Some.ensures.some) (body_room c.args.steps.now c.args.this c.args.step.now (length c.args.field.now) c.requires.is c.requires.room);
    }

pub returns-then-holds-clause-found : goal.returns-then-holds-clause-found
returns-then-holds-clause-found c =
    ap is_some (sym (home_is (fields_at c.args.steps.now (c.args.this + 1) c.args.step.now.next) c.in-Some.home.now c.args.slot (sym c.holds.ensures ∙ c.if-holds.true)) ∙ here_with c.args.steps.now c.args.this c.args.step.now c.args.slot c.in-Some.home.now c.requires.is c.in-Some.ensures.some)

pub returns-then-holds-clause-path : goal.returns-then-holds-clause-path
returns-then-holds-clause-path c =
    c.seek-found.ensures.path ∙ (behind_home c.args.field.now (field_steps (fields_at c.args.steps.now (c.args.this + 1) c.args.step.now.next) 0 c.args.slot) ∙ ap (λ x. behind c.args.field.now x c.args.field.now)
    (sym (home_is (fields_at c.args.steps.now (c.args.this + 1) c.args.step.now.next) c.in-Some.home.now c.args.slot (sym c.holds.ensures ∙ c.if-holds.true)) ∙ here_with c.args.steps.now c.args.this c.args.step.now c.args.slot c.in-Some.home.now c.requires.is c.in-Some.ensures.some))

pub returns-else-holds-clause-found : goal.returns-else-holds-clause-found
returns-else-holds-clause-found c =
    ap is_some (sym (not_home (fields_at c.args.steps.now (c.args.this + 1) c.args.step.now.next) c.in-Some.home.now c.args.slot (sym c.holds.ensures ∙ c.if-holds.false)) ∙ here_with c.args.steps.now c.args.this c.args.step.now c.args.slot c.in-Some.home.now c.requires.is c.in-Some.ensures.some)

pub returns-else-holds-clause-path : goal.returns-else-holds-clause-path
returns-else-holds-clause-path c =
    ap (λ x. behind c.args.field.now x c.args.field.now)
    (sym (not_home (fields_at c.args.steps.now (c.args.this + 1) c.args.step.now.next) c.in-Some.home.now c.args.slot (sym c.holds.ensures ∙ c.if-holds.false)) ∙ here_with c.args.steps.now c.args.this c.args.step.now c.args.slot c.in-Some.home.now c.requires.is c.in-Some.ensures.some)

pub returns-in-None-clause-found : goal.returns-in-None-clause-found
returns-in-None-clause-found c = ap is_some (sym (here_without c.args.steps.now c.args.this c.args.step.now c.args.slot c.requires.is c.in-None.ensures.none))

pub returns-in-None-clause-path : goal.returns-in-None-clause-path
returns-in-None-clause-path c = ap (λ x. behind c.args.field.now x c.args.field.now) (sym (here_without c.args.steps.now c.args.this c.args.step.now c.args.slot c.requires.is c.in-None.ensures.none))
