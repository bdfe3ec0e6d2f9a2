use Rattle.acn_report.proofs.Rooms.{room}
use Rattle.acn_report.proofs.Turns.{field-walk, case-walk}
use Rattle.acn_warnings.proofs.walk.+sizes.Goals as goal

pub put_inside-with_step-place-requires : goal.put_inside-with_step-place-requires
put_inside-with_step-place-requires g t c = room c.args.path.now 0 _ c.requires

pub put_field-with_step-place-requires : goal.put_field-with_step-place-requires
put_field-with_step-place-requires g t c = room c.args.path.now c.args.step _ c.requires

pub put_case-with_step-place-requires : goal.put_case-with_step-place-requires
put_case-with_step-place-requires g t c = room c.args.path.now c.args.step _ c.requires

pub put_fields-loop-field-preserved : goal.put_fields-loop-field-preserved
put_fields-loop-field-preserved g t c =
    let l = c.loop-field in
    (field-walk c.args.path.now l.step c.args.fields.now l.field-index c.field-item.result c.loop-field-test.true c.field-item.is l.invariant).rest

pub put_cases-loop-alternative-preserved : goal.put_cases-loop-alternative-preserved
put_cases-loop-alternative-preserved g t c =
    let l = c.loop-alternative in
    (case-walk c.args.path.now l.step c.args.alternatives.now l.alternative-index c.alternative-item.result c.loop-alternative-test.true c.alternative-item.is l.invariant).rest
