use Rattle.acn_run.proofs.Promise.{promise}
use Rattle.acn_run.proofs.laws.each_grammar_keeps_its_promise.Goals as goal

pub returns : goal.returns
returns c g ok = promise g ok c.bounds_hold.ensures c.each_input_is_read_or_fails.ensures c.each_value_is_written_or_refused.ensures c.fronts_exclude_failures.ensures c.no_fault_without_a_first.ensures
    c.one_failure.ensures c.one_front.ensures c.one_writing.ensures c.refused_is_not_spelled.ensures c.spelled_values_meet.ensures c.written_is_read.ensures
