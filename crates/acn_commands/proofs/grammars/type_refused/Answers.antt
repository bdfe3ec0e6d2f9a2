use Rattle.std.proofs.Common.{refl, subst}
use Rattle.acn_print.specs.Printing.{Prints}
use Rattle.acn_report.specs.CheckTexts.{check_line}
use Rattle.acn_tree.specs.declared.tree.Tree.{Tree}
use Rattle.acn_commands.proofs.grammars.type_refused.Goals as goal

pub returns-in-Refused : goal.returns-in-Refused
returns-in-Refused g c = rw c.in-Refused.is (refl, record { result = c.put_refused.result; prints = c.put_refused.ensures })

pub returns-in-Undecodable : goal.returns-in-Undecodable
returns-in-Undecodable g c =
    let prints = subst (λ (t : Tree). Prints (check_line t c.in-Undecodable.fault) (g.E.Sink.taken c.args.err.now, g.E.Sink.faults c.args.err.now) (g.E.Sink.taken c.put_check_fault.new.out, g.E.Sink.faults c.put_check_fault.new.out) c.put_check_fault.result) c.get.ensures c.put_check_fault.ensures in
    rw c.in-Undecodable.is (refl, record { result = c.put_check_fault.result; prints = prints })
