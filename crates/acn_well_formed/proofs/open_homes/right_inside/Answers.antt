use Rattle.std.proofs.Common.{ap, ◌∙◌, ℕ, false}
use Rattle.acn_well_formed.specs.Held.{right_inside}
use Rattle.acn_well_formed.specs.Seen.{form_seen}
use Rattle.acn_grammar.specs.View.{form_of}
use Rattle.acn_well_formed.specs.declared.homes.Seen.{Seen}
use Rattle.acn_well_formed.proofs.open_homes.right_inside.Goals as goal

pub returns : goal.returns
unfolding right_inside
returns c =
    let g = form_of c.args.body.now in
    let e = ap (λ (r : Seen). r.about) c.look_inside-all.ensures in
    ap (λ (r : Seen). r.fine) c.look_inside-seen.ensures ∙ ap (λ (n : ℕ). (form_seen c.args.slot n false g).fine) e
