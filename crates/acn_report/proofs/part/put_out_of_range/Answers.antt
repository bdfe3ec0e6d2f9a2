use Rattle.std.proofs.Common.{rules, FitsSigned, ℤ, [], ◌∷◌, subst}
use Rattle.std.specs.Prelude.{codes}
use Rattle.std.proofs.lemmas.Int.{to_z-of_z}
use Rattle.std.specs.Fmt.{signed_decimal}
use Rattle.std.specs.Int.{w128}
use Rattle.std.specs.List.{concat}
use Rattle.acn_print.specs.Printing.{Prints}
use Rattle.acn_report.proofs.part.put_out_of_range.Goals as goal

pub returns : goal.returns
returns g c =
    let fits : FitsSigned w128 c.args.wire.now = search rules in
    subst
    (λ (x : ℤ). Prints (concat (codes "OutOfRange " ∷ signed_decimal x ∷ [])) (g.O.Sink.taken c.args.out.now, g.O.Sink.faults c.args.out.now) (g.O.Sink.taken c.put_all.new.out, g.O.Sink.faults c.put_all.new.out) c.put_all.result)
    (to_z-of_z w128 c.args.wire.now fits)
    c.put_all.ensures
