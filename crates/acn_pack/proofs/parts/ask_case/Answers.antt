use Rattle.std.proofs.Common.{map, true, sym, ap, ◌∙◌}
use Rattle.acn_events.specs.Events.{test_event}
use Rattle.acn_pack.specs.Parts.{case_tests, tests_in}
use Rattle.acn_pack.proofs.Ways.{nothing, packs_as}
use Rattle.acn_pack.proofs.parts.ask_case.Goals as goal

pub returns-in-Index : goal.returns-in-Index
returns-in-Index g c = λ path.
    packs_as (map (test_event path true) c.tests_of-tests.result.now) (case_tests path c.args.rule.now (tests_in c.args.place.now)) c.args.w.now c.ask_tests.new.w path c.ask_tests.new.why c.ask_tests.result (ap (map (test_event path true)) c.tests_of-tests.ensures ∙ ap (λ r. case_tests path r (tests_in c.args.place.now)) (sym c.in-Index.is)) (c.ask_tests.ensures path)

pub returns-in-Tests : goal.returns-in-Tests
returns-in-Tests g c = λ path.
    packs_as (map (test_event path true) c.tests_of-tests-in-Tests.result.now) (case_tests path c.args.rule.now (tests_in c.args.place.now)) c.args.w.now c.ask_tests-in-Tests.new.w path c.ask_tests-in-Tests.new.why c.ask_tests-in-Tests.result (ap (map (test_event path true)) c.tests_of-tests-in-Tests.ensures ∙ ap (λ r. case_tests path r (tests_in c.args.place.now)) (sym c.in-Tests.is)) (c.ask_tests-in-Tests.ensures path)

pub returns-in-Item : goal.returns-in-Item
returns-in-Item g c = λ path. nothing (case_tests path c.args.rule.now (tests_in c.args.place.now)) c.args.w.now (ap (λ r. case_tests path r (tests_in c.args.place.now)) c.in-Item.is)
