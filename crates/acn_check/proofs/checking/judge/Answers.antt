use Rattle.std.proofs.Common.{map, length, sym, ap, ◌∙◌, subst, ◌≡◌, true}
use Rattle.std.specs.List.{list_all}
use Rattle.std.proofs.lemmas.Result.{err_from_is_err_and}
use Rattle.acn_grammar.specs.Leaves.{num_fine}
use Rattle.acn_grammar.specs.View.{grammar_of}
use Rattle.acn_check.specs.Facts.{Facts, facts_of, Fit}
use Rattle.acn_check.specs.First.{Det, dets, leads_fine}
use Rattle.acn_check.specs.Program.{det_of, tally_of, FewCases}
use Rattle.acn_check.proofs.Answering.{told_unreadable, told_dubious, told_beyond}
use Rattle.acn_check.proofs.Flat.{length-map}
use Rattle.acn_check.proofs.KindEnds.{leads_are_fine}
use Rattle.acn_check.proofs.TreeFits.{lines_fit, few_cases, leaves_fine}
use Rattle.acn_check.proofs.checking.judge.Goals as goal

pub can_be_read-requires-clause-fine : goal.can_be_read-requires-clause-fine
can_be_read-requires-clause-fine c =
    let root = grammar_of c.args.tree.now.root in
    subst (λ (ds : Rattle.std.proofs.Common.List Det). list_all (λ d. num_fine d.leaf) ds ≡ true) (sym (c.requires.dets ∙ ap (dets 0) c.requires.lines)) (leaves_fine root c.requires.formed)

pub can_be_read-requires-clause-few : goal.can_be_read-requires-clause-few
can_be_read-requires-clause-few c = subst FewCases (sym c.requires.lines) (few_cases (grammar_of c.args.tree.now.root) c.requires.formed)

pub returns-in_err-can_be_read : goal.returns-in_err-can_be_read
returns-in_err-can_be_read c =
    let p = err_from_is_err_and c.from_residual.result c.from_residual.ensures.1 in
    rw (p.1, p.2) (told_unreadable (grammar_of c.args.tree.now.root) (map facts_of c.args.lines.now) c.requires.lines (map det_of c.args.dets.now) c.requires.dets c.in_err-can_be_read.field-0.0 c.in_err-can_be_read.ensures)

pub is_clear-requires : goal.is_clear-requires
is_clear-requires c = subst FewCases (sym c.requires.lines) (few_cases (grammar_of c.args.tree.now.root) c.requires.formed)

pub returns-in_err-is_clear : goal.returns-in_err-is_clear
returns-in_err-is_clear c =
    let p = err_from_is_err_and c.from_residual-in_err-is_clear.result c.from_residual-in_err-is_clear.ensures.1 in
    rw (p.1, p.2)
    (told_dubious (grammar_of c.args.tree.now.root) (map facts_of c.args.lines.now) c.requires.lines (map det_of c.args.dets.now) c.requires.dets (map tally_of c.args.tallies.now) (length c.args.dets.now) (sym (length-map det_of c.args.dets.now)) c.requires.tallies
    c.in_err-is_clear.field-0.0 c.in_ok-can_be_read.ensures c.in_err-is_clear.ensures)

pub is_within_limits-requires-clause-leads : goal.is_within_limits-requires-clause-leads
is_within_limits-requires-clause-leads c = subst (λ (l : Rattle.std.proofs.Common.List Facts). list_all leads_fine l ≡ true) (sym c.requires.lines) (leads_are_fine (grammar_of c.args.tree.now.root) c.requires.formed)

pub is_within_limits-requires-clause-fit : goal.is_within_limits-requires-clause-fit
is_within_limits-requires-clause-fit c = subst Fit (sym c.requires.lines) (lines_fit (grammar_of c.args.tree.now.root) c.requires.formed)

pub returns : goal.returns
returns c =
    told_beyond (grammar_of c.args.tree.now.root) (map facts_of c.args.lines.now) c.requires.lines (map det_of c.args.dets.now) c.requires.dets (map tally_of c.args.tallies.now) (length c.args.dets.now) (sym (length-map det_of c.args.dets.now)) c.requires.tallies
    c.requires.formed c.is_within_limits.result c.in_ok-can_be_read.ensures c.in_ok-is_clear.ensures c.is_within_limits.ensures.told c.is_within_limits.ensures.exact
