use Rattle.std.proofs.Common.{◌≡◌, ◌<◌, ◌∙◌, sym, refl, ℕ, List, if◌then◌else◌, None, Some, position, arith}
use Rattle.acn_outside.specs.Entries.{has_name, faults_of, share_count}
use Rattle.acn_outside.specs.Memory.{one_more}
use Rattle.acn_outside.proofs.Counting.{Over, contents_kept, faults_risen, others_risen, none_falls, own_rose, faults_there, faults_elsewhere, one_more_is}
use Rattle.acn_outside.proofs.mem_files.MemFiles.count_fault.Goals as goal

pub returns-in-Some : goal.returns-in-Some
returns-in-Some c =
    let old = c.args.self.now in
    let name = c.args.name.now in
    let e = c.index_mut-entry.result.now in
    let there : position (has_name name) old.entries.items ≡ Some c.in-Some.i = rw (← c.deref.ensures.value) (sym c.place.ensures ∙ c.in-Some.is) in
    let over : Over old.entries.items c.in-Some.i name e (record e { faults = c.saturating_add-entry.result }) = record { place = there; old = c.index_mut-entry.ensures.value; own = refl } in
    let fits : e.faults < 18446744073709551616 = omega arith in
    let more : c.saturating_add-entry.result ≡ one_more e.faults = one_more_is _ _ fits c.saturating_add-entry.ensures in
    let risen = λ (m : List ℕ). faults_risen old.entries.items c.in-Some.i name e (record e { faults = c.saturating_add-entry.result }) old.others m over more in
    record {
      contents = λ m. contents_kept old.entries.items c.in-Some.i name e (record e { faults = c.saturating_add-entry.result }) m over refl;
      faults = risen;
      rise = λ m. none_falls _ _ _ (risen m);
      rose = own_rose old.entries.items name _ _ (rw (faults_there old.entries.items c.in-Some.i name e old.others there c.index_mut-entry.ensures.value) fits) (risen name);
      failing = refl;
    }

pub returns-in-None : goal.returns-in-None
returns-in-None c =
    let old = c.args.self.now in
    let name = c.args.name.now in
    let there : position (has_name name) old.entries.items ≡ None = rw (← c.deref.ensures.value) (sym c.place.ensures ∙ c.in-None.is) in
    let fits : old.others < 18446744073709551616 = omega arith in
    let more : c.saturating_add-self.result ≡ one_more old.others = one_more_is _ _ fits c.saturating_add-self.ensures in
    let risen : (m : List ℕ) → faults_of old.entries.items c.saturating_add-self.result m ≡ (if share_count old.entries.items name m then one_more (faults_of old.entries.items old.others m) else faults_of old.entries.items old.others m) = λ m. rw more (others_risen old.entries.items name old.others m there) in
    record {
      contents = λ m. refl;
      faults = risen;
      rise = λ m. none_falls _ _ _ (risen m);
      rose = own_rose old.entries.items name _ _ (rw (faults_elsewhere old.entries.items name old.others there) fits) (risen name);
      failing = refl;
    }
