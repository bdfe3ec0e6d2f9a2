use Rattle.std.proofs.Common.{rules, FitsSigned, subst}
use Rattle.std.proofs.lemmas.Int.{to_z-of_z}
use Rattle.std.specs.Int.{w128}
use Rattle.acn_grammar.specs.View.{form_of}
use Rattle.acn_compare.specs.Accepts.{sets_of}
use Rattle.acn_compare.specs.Judging.{AreLeastLost}
use Rattle.acn_compare.proofs.Judged.{in_lost}
use Rattle.acn_compare.proofs.judge.behind_written.Goals as goal

pub returns-in-Some : goal.returns-in-Some
returns-in-Some c = λ by tells.
    let fits : FitsSigned w128 c.in-Some.number = search rules in
    let found = subst (AreLeastLost (sets_of (form_of c.args.old.now.body)) (sets_of (form_of c.args.new.now.body))) c.in-Some.is c.in_ok-number.ensures in
    rw (to_z-of_z w128 c.in-Some.number fits) (in_lost by c.args.old.now c.args.new.now c.in-Some.number c.requires found)
