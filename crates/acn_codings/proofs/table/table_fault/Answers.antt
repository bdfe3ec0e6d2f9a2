use Rattle.std.proofs.Common.{◌≡◌, ◌&&◌, true, take, sym, ap, subst, ◌∙◌}
use Rattle.std.specs.Prelude.{IfOk, map}
use Rattle.std.specs.List.{list_all}
use Rattle.acn_grammar.specs.Leaves.{line_fine, share, all_differ}
use Rattle.acn_codings.specs.Tables.{line_of, table_fault}
use Rattle.acn_codings.proofs.FineFront.{front_passed}
use Rattle.acn_codings.proofs.table.table_fault.Goals as goal

pub returns : goal.returns
unfolding table_fault
returns c =
    let whole = sym c.in_ok-lines.ensures ∙ (sym c.deref.ensures.value ∙ c.split_at.ensures.by_index.0) in
    let front = ap (take c.fine_front.result) (c.deref-2.ensures.value ∙ sym c.deref.ensures.value) ∙ sym c.split_at.ensures.front in
    subst (λ x. IfOk c.fault_behind.result (λ k. k ≡ x))
    (front_passed (map line_of c.args.lines.now) c.split_at.result.0.now c.split_at.result.1.now whole (subst (λ z. (list_all line_fine z && all_differ share z) ≡ true) front c.fine_front.ensures.fine))
    c.fault_behind.ensures
