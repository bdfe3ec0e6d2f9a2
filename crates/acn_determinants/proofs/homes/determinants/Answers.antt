use Rattle.std.proofs.Common.{ℕ, suc, length, List, sym, subst, arith}
use Rattle.acn_grammar.specs.View.{fields_view}
use Rattle.acn_determinants.specs.Determinants.{IsNumber}
use Rattle.acn_determinants.specs.Spots.{noted_at, field_spot, FieldsReached}
use Rattle.acn_determinants.proofs.Turns.{few}
use Rattle.acn_determinants.proofs.Telling.{home_numbers, fields_reached, fields_told, all_met, told_steps, told_leaves, if_ok, IsTold}
use Rattle.acn_determinants.proofs.homes.determinants.Goals as goal

pub find_fields-requires-clause-few : goal.find_fields-requires-clause-few
find_fields-requires-clause-few c = few c.args.fields.now c.requires.1.sound.0.few_fields

pub find_fields-requires-clause-reached : goal.find_fields-requires-clause-reached
find_fields-requires-clause-reached c =
    subst (λ (p : List ℕ). FieldsReached (suc (length p)) (fields_view c.args.fields.now)) (sym c.new-path.ensures) (fields_reached c.requires.0 (fields_view c.args.fields.now) 1 _ _ _ c.requires.1.sound.1 (omega arith))

pub listed-requires : goal.listed-requires
listed-requires c = λ s h.
    subst IsNumber (sym (all_met _ _ (field_spot (fields_view c.args.fields.now) 0 s) _ (c.new-found.ensures s) c.new-path.ensures (c.in_ok-find_fields.ensures.noted s)))
    (home_numbers c.requires.0 (fields_view c.args.fields.now) c.args.home.now c.requires.1 s h)

pub returns-clause-steps : goal.returns-clause-steps
returns-clause-steps c =
    if_ok c.listed.result c.listed.ensures (λ all h. told_steps (fields_view c.args.fields.now) (noted_at c.find_fields.new.found) (λ s. all_met _ _ (field_spot (fields_view c.args.fields.now) 0 s) _ (c.new-found.ensures s) c.new-path.ensures (c.in_ok-find_fields.ensures.noted s)) all c.args.home.now h)

pub returns-clause-leaves : goal.returns-clause-leaves
returns-clause-leaves c =
    if_ok c.listed.result c.listed.ensures (λ all h root i. told_leaves root (noted_at c.find_fields.new.found)
    (λ s. subst (IsTold root s) (sym (all_met _ _ (field_spot (fields_view c.args.fields.now) 0 s) _ (c.new-found.ensures s) c.new-path.ensures (c.in_ok-find_fields.ensures.noted s))) (fields_told root (fields_view c.args.fields.now) _ _ _ i.sound.1 0 s))
    all c.args.home.now h)
