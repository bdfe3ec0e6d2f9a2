use Rattle.std.proofs.Common.{◌≡◌, ◌∙◌, sym, refl, None, Some, position}
use Rattle.acn_outside.specs.Entries.{has_name}
use Rattle.acn_outside.proofs.Counting.{contents_new, faults_kept, contents_pushed, faults_pushed}
use Rattle.acn_outside.proofs.mem_files.put.Goals as goal

pub returns-in-Some-clause-contents : goal.returns-in-Some-clause-contents
returns-in-Some-clause-contents c =
    let there : position (has_name c.args.name) c.args.entries.now.items ≡ Some c.in-Some.i = rw (← c.deref.ensures.value, ← c.bytes.ensures) (sym c.place.ensures ∙ c.in-Some.is) in
    λ m. contents_new c.args.entries.now.items c.in-Some.i c.args.name c.index_mut.result.now _ m (record { place = there; old = c.index_mut.ensures.value; own = refl })

pub returns-in-Some-clause-faults : goal.returns-in-Some-clause-faults
returns-in-Some-clause-faults c =
    let there : position (has_name c.args.name) c.args.entries.now.items ≡ Some c.in-Some.i = rw (← c.deref.ensures.value, ← c.bytes.ensures) (sym c.place.ensures ∙ c.in-Some.is) in
    λ m. faults_kept c.args.entries.now.items c.in-Some.i c.args.name c.index_mut.result.now _ c.args.faults m (record { place = there; old = c.index_mut.ensures.value; own = refl }) refl

pub returns-in_ok-push-in-None-clause-contents : goal.returns-in_ok-push-in-None-clause-contents
returns-in_ok-push-in-None-clause-contents c =
    let none : position (has_name c.args.name) c.args.entries.now.items ≡ None = rw (← c.deref.ensures.value, ← c.bytes.ensures) (sym c.place.ensures ∙ c.in-None.is) in
    λ m. rw c.in_ok-push-in-None.ensures.items (contents_pushed c.args.entries.now.items _ m none)

pub returns-in_ok-push-in-None-clause-faults : goal.returns-in_ok-push-in-None-clause-faults
returns-in_ok-push-in-None-clause-faults c =
    let none : position (has_name c.args.name) c.args.entries.now.items ≡ None = rw (← c.deref.ensures.value, ← c.bytes.ensures) (sym c.place.ensures ∙ c.in-None.is) in
    λ m. rw c.in_ok-push-in-None.ensures.items (faults_pushed c.args.entries.now.items _ m none)
