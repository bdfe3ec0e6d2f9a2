use Rattle.acn_run.proofs.Answering.{one_answer}
use Rattle.acn_run.proofs.laws.one_answer.Goals as goal

pub returns : goal.returns
returns c = λ words files input x y are p q.
    one_answer (
    record {
      decoded = c.recordings_are_decoded.ensures;
      shown = c.recordings_are_shown.ensures;
      encoded = c.lines_are_encoded.ensures;
      space = c.one_space.ensures;
      one = c.one_world.ensures;
      none = c.faulty_files_have_no_world.ensures;
      refuse = c.refused_types_have_no_grammars.ensures;
      single = c.one_grammar.ensures;
      unspelled = c.refused_is_not_spelled.ensures;
    }
    ) words files input are x y p q
