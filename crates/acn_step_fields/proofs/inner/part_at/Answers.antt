use Rattle.std.proofs.Common.{◌≡◌, suc, ◌+◌, ◌-◌, refl, sym, ap, arith}
use Rattle.acn_grammar.specs.Grammar.{num, octets, bits, text, seq, list, choice, contained}
use Rattle.acn_grammar.specs.Paths.{only}
use Rattle.acn_plan.specs.Back.{node_at, form_at, fields_at, cases_at}
use Rattle.acn_plan.specs.declared.step.Act.TheVariants as acts
use Rattle.acn_plan.proofs.Mades.{made_nested}
use Rattle.acn_plan.proofs.Marks.{node_is}
use Rattle.acn_step_breach.proofs.Levels.{form_by, child_inside}
use Rattle.acn_step_fields.proofs.Parts.{part_by, inside_longer}
use Rattle.acn_step_fields.proofs.inner.part_at.Goals as goal

pub inner_at-requires : goal.inner_at-requires
inner_at-requires c = record { made = c.requires.made; within = (made_nested c.args.steps.now c.requires.made c.args.this c.args.step.now c.requires.is).within }

pub inner_at-requires-in-Choice : goal.inner_at-requires-in-Choice
inner_at-requires-in-Choice c = record { made = c.requires.made; within = (made_nested c.args.steps.now c.requires.made c.args.this c.args.step.now c.requires.is).within }

pub returns-in-Seq-clause-is : goal.returns-in-Seq-clause-is
returns-in-Seq-clause-is c =
    part_by _ (node_at c.args.steps.now c.args.this) c.args.step.now.align (form_at c.args.steps.now c.args.this c.args.step.now) (seq (fields_at c.args.steps.now (c.args.this + 1) c.args.step.now.next) c.in-Seq.field-0) c.args.number (node_is c.args.steps.now c.args.this c.args.step.now c.requires.is) (form_by c.args.steps.now c.args.this c.args.step.now (acts.Seq c.in-Seq.field-0) c.in-Seq.is) c.inner_at.ensures.field

pub returns-in-Choice-clause-is : goal.returns-in-Choice-clause-is
returns-in-Choice-clause-is c =
    part_by _ (node_at c.args.steps.now c.args.this) c.args.step.now.align (form_at c.args.steps.now c.args.this c.args.step.now) (choice (cases_at c.args.steps.now (c.args.this + 1) c.args.step.now.next) c.in-Choice.field-0.rule) c.args.number (node_is c.args.steps.now c.args.this c.args.step.now c.requires.is) (form_by c.args.steps.now c.args.this c.args.step.now (acts.Choice c.in-Choice.field-0) c.in-Choice.is) c.inner_at-in-Choice.ensures.case

pub returns-in-List-clause-is : goal.returns-in-List-clause-is
returns-in-List-clause-is c =
    part_by _ (node_at c.args.steps.now c.args.this) c.args.step.now.align (form_at c.args.steps.now c.args.this c.args.step.now) (list c.in-List.field-0 (node_at c.args.steps.now (c.args.this + 1))) c.args.number (node_is c.args.steps.now c.args.this c.args.step.now c.requires.is) (form_by c.args.steps.now c.args.this c.args.step.now (acts.List c.in-List.field-0) c.in-List.is) refl

pub returns-in-List-clause-inside : goal.returns-in-List-clause-inside
returns-in-List-clause-inside c =
    child_inside c.args.steps.now c.args.this c.args.step.now (acts.List c.in-List.field-0) (made_nested c.args.steps.now c.requires.made) c.requires.is c.in-List.is (λ x. x)

pub returns-then-number-eq0-clause-is : goal.returns-then-number-eq0-clause-is
returns-then-number-eq0-clause-is c =
    part_by _ (node_at c.args.steps.now c.args.this) c.args.step.now.align (form_at c.args.steps.now c.args.this c.args.step.now) (contained c.in-Contained.field-0 (node_at c.args.steps.now (c.args.this + 1))) c.args.number (node_is c.args.steps.now c.args.this c.args.step.now c.requires.is) (form_by c.args.steps.now c.args.this c.args.step.now (acts.Contained c.in-Contained.field-0) c.in-Contained.is) (ap (only (node_at c.args.steps.now (c.args.this + 1))) (sym c.if-number-eq0.true))

pub returns-then-number-eq0-clause-inside : goal.returns-then-number-eq0-clause-inside
returns-then-number-eq0-clause-inside c =
    child_inside c.args.steps.now c.args.this c.args.step.now (acts.Contained c.in-Contained.field-0) (made_nested c.args.steps.now c.requires.made) c.requires.is c.in-Contained.is (λ x. x)

pub returns-else-number-eq0-clause-is : goal.returns-else-number-eq0-clause-is
returns-else-number-eq0-clause-is c =
    let some = c.if-number-eq0.false in
    let e : c.args.number ≡ suc (c.args.number - 1) = omega (arith, some) in
    part_by _ (node_at c.args.steps.now c.args.this) c.args.step.now.align (form_at c.args.steps.now c.args.this c.args.step.now) (contained c.in-Contained.field-0 (node_at c.args.steps.now (c.args.this + 1))) c.args.number (node_is c.args.steps.now c.args.this c.args.step.now c.requires.is) (form_by c.args.steps.now c.args.this c.args.step.now (acts.Contained c.in-Contained.field-0) c.in-Contained.is) (ap (only (node_at c.args.steps.now (c.args.this + 1))) (sym e))

pub returns-in-Num-clause-is : goal.returns-in-Num-clause-is
returns-in-Num-clause-is c =
    part_by _ (node_at c.args.steps.now c.args.this) c.args.step.now.align (form_at c.args.steps.now c.args.this c.args.step.now) (num c.in-Num.field-0) c.args.number (node_is c.args.steps.now c.args.this c.args.step.now c.requires.is) (form_by c.args.steps.now c.args.this c.args.step.now (acts.Num c.in-Num.field-0) c.in-Num.is) refl

pub returns-in-Octets-clause-is : goal.returns-in-Octets-clause-is
returns-in-Octets-clause-is c =
    part_by _ (node_at c.args.steps.now c.args.this) c.args.step.now.align (form_at c.args.steps.now c.args.this c.args.step.now) (octets c.in-Octets.field-0) c.args.number (node_is c.args.steps.now c.args.this c.args.step.now c.requires.is) (form_by c.args.steps.now c.args.this c.args.step.now (acts.Octets c.in-Octets.field-0) c.in-Octets.is) refl

pub returns-in-Bits-clause-is : goal.returns-in-Bits-clause-is
returns-in-Bits-clause-is c =
    part_by _ (node_at c.args.steps.now c.args.this) c.args.step.now.align (form_at c.args.steps.now c.args.this c.args.step.now) (bits c.in-Bits.field-0) c.args.number (node_is c.args.steps.now c.args.this c.args.step.now c.requires.is) (form_by c.args.steps.now c.args.this c.args.step.now (acts.Bits c.in-Bits.field-0) c.in-Bits.is) refl

pub returns-in-Text-clause-is : goal.returns-in-Text-clause-is
returns-in-Text-clause-is c =
    part_by _ (node_at c.args.steps.now c.args.this) c.args.step.now.align (form_at c.args.steps.now c.args.this c.args.step.now) (text c.in-Text.field-0) c.args.number (node_is c.args.steps.now c.args.this c.args.step.now c.requires.is) (form_by c.args.steps.now c.args.this c.args.step.now (acts.Text c.in-Text.field-0) c.in-Text.is) refl

pub returns-in-Seq-clause-inside : goal.returns-in-Seq-clause-inside
returns-in-Seq-clause-inside c =
    inside_longer _ (c.args.this + 1) c.args.step.now.next _ (made_nested c.args.steps.now c.requires.made c.args.this c.args.step.now c.requires.is).within c.inner_at.ensures.inside

pub returns-in-Choice-clause-inside : goal.returns-in-Choice-clause-inside
returns-in-Choice-clause-inside c =
    inside_longer _ (c.args.this + 1) c.args.step.now.next _ (made_nested c.args.steps.now c.requires.made c.args.this c.args.step.now c.requires.is).within c.inner_at-in-Choice.ensures.inside
