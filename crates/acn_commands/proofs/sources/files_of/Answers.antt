use Rattle.std.proofs.Common.{ℕ, ◌+◌, ◌<◌, List, [], ◌∷◌, ◌++◌, length, map, take, string_bytes, sym, subst}
use Rattle.acn_sources.specs.declared.sources.File.{File}
use Rattle.acn_words.specs.Files.{is_file}
use Rattle.acn_commands.specs.Asked.{AreFilesOf}
use Rattle.acn_commands.proofs.Sorted.{files_more, taken_more, test_there}
use Rattle.acn_commands.proofs.sources.files_of.Goals as goal

pub kind_of-requires : goal.kind_of-requires
kind_of-requires c = test_there string_bytes is_file c.args.names.now c.loop-number.number c.index-names-number.result c.loop-number-test.true c.index-names-number.is c.requires.files

pub loop-number-preserved : goal.loop-number-preserved
loop-number-preserved c =
    let k = c.loop-number.number in
    let x = c.index-names-number.result in
    let v = c.index-contents-number.result in
    let names = map string_bytes c.args.names.now in
    let contents = map (λ w. w.items) c.args.contents.now in
    let inside : k < length c.args.contents.now = rw (← c.requires.same) c.loop-number-test.true in
    let file : File = record { kind = c.kind_of.result; bytes = c.deref.result } in
    let more = files_more (take k names) (take k contents) c.loop-number.all.items (string_bytes x) v.items file c.loop-number.invariant c.kind_of.ensures c.deref.ensures.value in
    let all = subst (λ (fs : List File). AreFilesOf (take k names ++ string_bytes x ∷ []) (take k contents ++ v.items ∷ []) fs) (sym c.in_ok-push.ensures.items) more in
    let named = subst (λ (ns : List (List ℕ)). AreFilesOf ns (take k contents ++ v.items ∷ []) c.push.new.self.items) (taken_more string_bytes c.args.names.now k x c.loop-number-test.true c.index-names-number.is) all in
    subst (λ (cs : List (List ℕ)). AreFilesOf (take (k + 1) names) cs c.push.new.self.items) (taken_more (λ w. w.items) c.args.contents.now k v inside c.index-contents-number.is) named
