use Rattle.std.proofs.Common.{ap, subst, sym, arith, ◌∙◌, IfOk, Option, List}
use Rattle.acn_route.specs.Adding.{Adds}
use Rattle.acn_route.specs.Listed.{tree_for}
use Rattle.acn_route.specs.Routing.{LineBy}
use Rattle.acn_route.proofs.LineTexts.{unrouted_line}
use Rattle.acn_route.proofs.lines.put_line.Goals as goal
use Rattle.acn_tree.specs.declared.tree.Tree.{Tree}

pub returns-in-Some-clause-added : goal.returns-in-Some-clause-added
returns-in-Some-clause-added c =
    subst (λ (t : Option Tree). IfOk c.put_routed.result (λ kind. Adds (LineBy t c.args.packet.now kind) c.args.page.now.bytes.items c.put_routed.new.page.bytes.items))
    (c.in-Some.ensures.found ∙ ap (tree_for c.args.routes.now) c.packet_apid-apid.ensures) c.put_routed.ensures.added

pub returns-in_ok-put_unrouted-in-None-clause-added : goal.returns-in_ok-put_unrouted-in-None-clause-added
returns-in_ok-put_unrouted-in-None-clause-added c =
    rw (sym (c.in-None.ensures.found ∙ ap (tree_for c.args.routes.now) c.packet_apid-apid.ensures)) (unrouted_line _ _ _ _ _ c.packet_apid-apid.ensures (omega arith) c.in_ok-put_unrouted-in-None.ensures.added)
