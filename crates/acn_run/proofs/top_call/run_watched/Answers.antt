use Rattle.std.proofs.Common.{◌≡◌, List, None, map, string_bytes, ap, subst}
use Rattle.std.specs.Prelude.{◌↔◌}
use Rattle.acn_words.specs.Requests.{request_in}
use Rattle.acn_run.specs.Exactly.{EndsInRefusal}
use Rattle.acn_commands.specs.Serves.{code_of}
use Rattle.acn_run.proofs.Completing.{completes}
use Rattle.acn_run.proofs.Ended.{at_most_seven, is_usage, promises}
use Rattle.acn_run.proofs.Excluded.{refuses}
use Rattle.acn_run.proofs.Lining.{names_it}
use Rattle.acn_run.proofs.Stopping.{stops_there}
use Rattle.acn_run.proofs.Unfailed.{unfailed, quiet}
use Rattle.acn_run.proofs.top_call.run_watched.Goals as goal

pub returns-clause-promise : goal.returns-clause-promise
returns-clause-promise g c = promises c.each_grammar_keeps_its_promise.ensures (g.F.Files.contents c.args.files.now)

pub returns-clause-usage : goal.returns-clause-usage
returns-clause-usage g c =
    rw c.code.ensures (subst (λ (ws : List _). (code_of c.run_words.result ≡ 1) ↔ (request_in (map string_bytes ws) ≡ None)) c.deref.ensures.value (is_usage _ _ _ _ c.run_words.ensures.ends))

pub returns-clause-known : goal.returns-clause-known
returns-clause-known g c = rw c.code.ensures (at_most_seven c.run_words.result)

pub returns-clause-refused : goal.returns-clause-refused
returns-clause-refused g c =
    refuses c.one_world.ensures c.faulty_files_have_no_world.ensures c.refused_types_have_no_grammars.ensures c.one_grammar.ensures _ _ _ _ _ _ (ap (λ (ws : List _). map string_bytes ws) c.deref.ensures.value) c.code.ensures c.run_words.ensures.ends

pub returns-clause-unfailed : goal.returns-clause-unfailed
returns-clause-unfailed g c = λ sure. rw c.code.ensures (unfailed _ _ _ _ sure c.run_words.ensures.ends)

pub returns-clause-stuck : goal.returns-clause-stuck
returns-clause-stuck g c = stops_there c.stuck_recordings_are_refused.ensures _ _ _ _ _ _ (ap (λ (ws : List _). map string_bytes ws) c.deref.ensures.value) c.code.ensures c.run_words.ensures.ends

pub returns-clause-lines : goal.returns-clause-lines
returns-clause-lines g c = names_it c.refused_lines_are_named.ensures _ _ _ _ _ _ (ap (λ (ws : List _). map string_bytes ws) c.deref.ensures.value) c.code.ensures c.run_words.ensures.ends

pub returns-clause-complete : goal.returns-clause-complete
returns-clause-complete g c = completes c.recordings_are_decoded.ensures c.recordings_are_shown.ensures c.lines_are_encoded.ensures c.one_space.ensures _ _ _ _ _ _ (ap (λ (ws : List _). map string_bytes ws) c.deref.ensures.value) c.code.ensures c.run_words.ensures.ends

pub returns-clause-quiet : goal.returns-clause-quiet
returns-clause-quiet g c = λ whole. quiet _ _ _ c.run_words.result c.run_words.ensures.files c.run_words.ensures.ends (subst EndsInRefusal c.code.ensures whole)
