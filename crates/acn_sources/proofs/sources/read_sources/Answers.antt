use Rattle.std.proofs.Common.{◌≡◌, take, length, get_or, sym, ap, subst, ◌∙◌, arith, ◌≤◌}
use Rattle.std.proofs.lemmas.List.{take_more, take_all}
use Rattle.acn_sources.specs.declared.sources.File.{File}
use Rattle.std.proofs.lemmas.Option.{slice_get-get_or}
use Rattle.acn_sources.proofs.Gathered.{AreGathered, added_sound, gathered_more, sound_more, are_sources, one_sources, blank, has_tree, first_fault, is_first, no_fault}
use Rattle.acn_sources.proofs.sources.read_sources.Goals as goal

pub returns-in-Err-clause-each : goal.returns-in-Err-clause-each
returns-in-Err-clause-each c s h =
    let at = slice_get-get_or c.args.files.now c.loop-number.number blank c.loop-number-test.true in
    c.in-Err.ensures.each (has_tree c.args.files.now c.loop-number.number _ s h at)

pub returns-in-Err-clause-fault : goal.returns-in-Err-clause-fault
returns-in-Err-clause-fault c n =
    let at = slice_get-get_or c.args.files.now c.loop-number.number blank c.loop-number-test.true in
    first_fault c.args.files.now c.loop-number.number _ c.in-Err.fault c.loop-number.invariant.1 at (c.in-Err.ensures.fault n)

pub returns-in-Err-clause-first : goal.returns-in-Err-clause-first
returns-in-Err-clause-first c e h =
    let at = slice_get-get_or c.args.files.now c.loop-number.number blank c.loop-number-test.true in
    is_first c.args.files.now c.loop-number.number _ c.in-Err.fault e c.loop-number.invariant.1 at c.in-Err.ensures.each c.in-Err.ensures.first h

pub returns-clause-first : goal.returns-clause-first
returns-clause-first c e h = no_fault c.args.files.now c.loop-number.number e c.loop-number.invariant.1 (omega (arith, c.loop-number-test.false)) h

pub loop-number-preserved : goal.loop-number-preserved
loop-number-preserved c =
    let files = c.args.files.now in
    let n = c.loop-number.number in
    let f = get_or files n blank in
    let at = slice_get-get_or files n blank c.loop-number-test.true in (
      subst (λ (fs : _). AreGathered fs c.add.new.sources) (sym (take_more files n blank c.loop-number-test.true)) (gathered_more _ _ c.loop-number.invariant.0 f _ c.in-Ok.ensures.added),
      sound_more files n f c.loop-number.invariant.1 at (added_sound f _ _ c.in-Ok.ensures.added c.in-Ok.ensures.first),
    )

pub returns-clause-sources : goal.returns-clause-sources
returns-clause-sources c =
    let all : length c.args.files.now ≤ c.loop-number.number = omega (arith, c.loop-number-test.false) in
    are_sources _ _ (subst (λ (fs : _). AreGathered fs c.loop-number.sources) (take_all c.loop-number.number c.args.files.now all) c.loop-number.invariant.0)

pub returns-clause-each : goal.returns-clause-each
returns-clause-each c s h =
    let all : length c.args.files.now ≤ c.loop-number.number = omega (arith, c.loop-number-test.false) in
    one_sources _ _ _ (subst (λ (fs : _). AreGathered fs c.loop-number.sources) (take_all c.loop-number.number c.args.files.now all) c.loop-number.invariant.0) h
