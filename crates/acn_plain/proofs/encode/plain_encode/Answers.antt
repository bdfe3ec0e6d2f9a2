use Rattle.std.proofs.Common.{◌∙◌, ap, sym, subst, IfOk, IfErr}
use Rattle.acn_grammar.specs.Front.{IsWritten}
use Rattle.acn_grammar.specs.Shaped.{Shaped}
use Rattle.acn_grammar.specs.View.{data_of, grammar_of}
use Rattle.acn_grammar.specs.declared.node.Node.{Node}
use Rattle.acn_packet_laws.specs.Laws.{IsAccepted}
use Rattle.acn_tree.specs.declared.tree.Tree.{Tree}
use Rattle.acn_reads.specs.Answers.{IsReadAgain}
use Rattle.acn_plain.specs.Encoded.{OnlyRefusal, OnlyWriting, Refuses}
use Rattle.acn_plain.proofs.Encoding.{all_err, all_ok, only_refusal, read_again}
use Rattle.acn_plain.proofs.encode.plain_encode.Goals as goal

-- the root is that of the tree which was checked

pub encode-requires : goal.encode-requires
encode-requires c =
    let same = c.root.ensures.same ∙ ap (λ (t : Tree). t.root) c.tree.ensures.same in
    record {
      accepted = subst (λ (n : Node). IsAccepted (grammar_of n)) (sym c.root.ensures.same) c.tree.ensures.accepted;
      shaped = subst (λ (n : Node). Shaped (grammar_of n) (data_of c.args.v.now)) (sym same) c.requires;
    }

pub returns-clause-written : goal.returns-clause-written
returns-clause-written c =
    let same = c.root.ensures.same ∙ ap (λ (t : Tree). t.root) c.tree.ensures.same in
    subst (λ (n : Node). IfOk c.encode.result (λ bits. IsWritten (grammar_of n) (data_of c.args.v.now) bits)) same c.encode.ensures.written

pub returns-clause-alone : goal.returns-clause-alone
returns-clause-alone c =
    let same = c.root.ensures.same ∙ ap (λ (t : Tree). t.root) c.tree.ensures.same in
    let accepted = subst (λ (n : Node). IsAccepted (grammar_of n)) (sym c.root.ensures.same) c.tree.ensures.accepted in
    let root = grammar_of c.root.result.now in
    let d = data_of c.args.v.now in
    subst (λ (n : Node). IfOk c.encode.result (λ bits. OnlyWriting (grammar_of n) d bits)) same (all_ok c.encode.result (λ bits w other o. c.one_writing.ensures root d other bits accepted o w) c.encode.ensures.written)

pub returns-clause-read : goal.returns-clause-read
returns-clause-read c =
    let same = c.root.ensures.same ∙ ap (λ (t : Tree). t.root) c.tree.ensures.same in
    let accepted = subst (λ (n : Node). IsAccepted (grammar_of n)) (sym c.root.ensures.same) c.tree.ensures.accepted in
    let root = grammar_of c.root.result.now in
    let d = data_of c.args.v.now in
    subst (λ (n : Node). IfOk c.encode.result (λ bits. IsReadAgain (grammar_of n) d bits)) same
    (all_ok c.encode.result (λ bits w. read_again c.written_is_read.ensures c.one_front.ensures c.fronts_exclude_failures.ensures root d bits accepted w) c.encode.ensures.written)

pub returns-clause-refused : goal.returns-clause-refused
returns-clause-refused c =
    let same = c.root.ensures.same ∙ ap (λ (t : Tree). t.root) c.tree.ensures.same in
    subst (λ (n : Node). IfErr c.encode.result (λ fault. Refuses (grammar_of n) (data_of c.args.v.now) fault)) same c.encode.ensures.refused

pub returns-clause-only : goal.returns-clause-only
returns-clause-only c =
    let same = c.root.ensures.same ∙ ap (λ (t : Tree). t.root) c.tree.ensures.same in
    let accepted = subst (λ (n : Node). IsAccepted (grammar_of n)) (sym c.root.ensures.same) c.tree.ensures.accepted in
    let root = grammar_of c.root.result.now in
    let d = data_of c.args.v.now in
    subst (λ (n : Node). IfErr c.encode.result (λ fault. OnlyRefusal (grammar_of n) d fault)) same
    (all_err c.encode.result (λ fault r. only_refusal c.one_refusal.ensures c.refused_is_not_spelled.ensures root d fault accepted r) c.encode.ensures.refused)
