use Rattle.std.proofs.Common.{◌≡◌, ◌≤◌, ℕ, List, [], ◌∷◌, ◌++◌, length, map, take, string_bytes, Some, Option, refl, sym, ap, subst, ◌∙◌, arith, rules, ◌+◌}
use Rattle.std.specs.Prelude.{slice_get}
use Rattle.acn_num.specs.declared.limits.TheConstants.{MOST_FILE_BYTES}
use Rattle.acn_outside.specs.Whole.{IsWhole, IsTooLong}
use Rattle.acn_files.specs.Contents.{AreWhole, AreShort}
use Rattle.acn_files.proofs.Told.{of_any, whole_more, short_of_whole, name_there, taken_more, taken_all, rose_back}
use Rattle.acn_files.proofs.whole.read_files.Goals as goal

pub loop-number-init : goal.loop-number-init
loop-number-init g c = record {
  whole = subst (λ (xs : List _). AreWhole (g.F.Files.contents c.args.files.now) [] (map (λ v. v.items) xs)) (sym c.new-all.ensures.items) tt;
  same = search rules;
  count = search rules;
  uncounted = λ m. refl;
}

pub returns-in_err-keep-in-Ok-clause-same : goal.returns-in_err-keep-in-Ok-clause-same
returns-in_err-keep-in-Ok-clause-same g c = λ m. c.read_one.ensures.same m ∙ c.loop-number.invariant.same m

pub returns-in_err-keep-in-Ok-clause-count : goal.returns-in_err-keep-in-Ok-clause-count
returns-in_err-keep-in-Ok-clause-count g c = λ m. omega (arith, c.loop-number.invariant.count m, c.read_one.ensures.count m)

pub returns-in-Err-clause-too_long : goal.returns-in-Err-clause-too_long
returns-in-Err-clause-too_long g c = λ e.
    let x = c.index-names-number.result in
    let value : c.as_str.result.now ≡ string_bytes x = c.as_str.ensures.value in
    let there = name_there string_bytes c.args.names.now c.loop-number.number x c.loop-number-test.true c.index-names-number.is in
    record {
      name = string_bytes x;
      stands = subst (λ (k : ℕ). slice_get (map string_bytes c.args.names.now) k ≡ Some (string_bytes x)) (sym c.in-Err.ensures.number) there;
      long = subst IsTooLong (ap (g.F.Files.contents c.loop-number.files) value ∙ c.loop-number.invariant.same (string_bytes x)) (c.in-Err.ensures.too_long e);
      short = subst (λ (k : ℕ). AreShort (g.F.Files.contents c.args.files.now) (take k (map string_bytes c.args.names.now))) (sym c.in-Err.ensures.number) (short_of_whole (g.F.Files.contents c.args.files.now) (take c.loop-number.number (map string_bytes c.args.names.now)) (map (λ v. v.items) c.loop-number.all.items) c.loop-number.invariant.whole);
    }

pub returns-in-Err-clause-failed : goal.returns-in-Err-clause-failed
returns-in-Err-clause-failed g c = λ e.
    let x = c.index-names-number.result in
    let value : c.as_str.result.now ≡ string_bytes x = c.as_str.ensures.value in
    let there = name_there string_bytes c.args.names.now c.loop-number.number x c.loop-number-test.true c.index-names-number.is in (
      c.as_str.result.now,
      subst (λ (k : ℕ). slice_get (map string_bytes c.args.names.now) k ≡ Some c.as_str.result.now) (sym c.in-Err.ensures.number) (there ∙ ap Some (sym value)),
      rose_back _ _ _ (c.loop-number.invariant.count c.as_str.result.now) (c.read_one.ensures.count c.as_str.result.now) (c.in-Err.ensures.failed e),
    )

pub returns-in-Err-clause-same : goal.returns-in-Err-clause-same
returns-in-Err-clause-same g c = λ m. c.read_one.ensures.same m ∙ c.loop-number.invariant.same m

pub returns-in-Err-clause-count : goal.returns-in-Err-clause-count
returns-in-Err-clause-count g c = λ m. omega (arith, c.loop-number.invariant.count m, c.read_one.ensures.count m)

pub returns-in_err-keep-in-Ok-clause-told : goal.returns-in_err-keep-in-Ok-clause-told
returns-in_err-keep-in-Ok-clause-told g c = of_any c.from_residual.result (λ m. c.in-Ok.ensures.uncounted m ∙ c.loop-number.invariant.uncounted m)

pub returns-in-Err-clause-told : goal.returns-in-Err-clause-told
returns-in-Err-clause-told g c = λ not_failed m. c.in-Err.ensures.told not_failed m ∙ c.loop-number.invariant.uncounted m

pub loop-number-preserved : goal.loop-number-preserved
loop-number-preserved g c =
    let x = c.index-names-number.result in
    let told = g.F.Files.contents c.args.files.now in
    let value : c.as_str.result.now ≡ string_bytes x = c.as_str.ensures.value in
    let at : g.F.Files.contents c.loop-number.files c.as_str.result.now ≡ told (string_bytes x) = ap (g.F.Files.contents c.loop-number.files) value ∙ c.loop-number.invariant.same (string_bytes x) in
    let one = subst (λ (file : Option (List ℕ)). IsWhole file c.in-Ok.bytes.items × (length c.in-Ok.bytes.items ≤ MOST_FILE_BYTES)) at c.in-Ok.ensures.whole in
    let more = whole_more told (take c.loop-number.number (map string_bytes c.args.names.now)) (map (λ v. v.items) c.loop-number.all.items) (string_bytes x) c.in-Ok.bytes.items c.loop-number.invariant.whole one in
    record {
      whole = subst (λ (contents : List (List ℕ)). AreWhole told (take (c.loop-number.number + 1) (map string_bytes c.args.names.now)) contents) (sym c.in_ok-keep-in-Ok.ensures.kept)
          (subst (λ (names : List (List ℕ)). AreWhole told names (map (λ v. v.items) c.loop-number.all.items ++ c.in-Ok.bytes.items ∷ [])) (taken_more string_bytes c.args.names.now c.loop-number.number x c.loop-number-test.true c.index-names-number.is) more);
      same = λ m. c.read_one.ensures.same m ∙ c.loop-number.invariant.same m;
      count = λ m. omega (arith, c.loop-number.invariant.count m, c.read_one.ensures.count m);
      uncounted = λ m. c.in-Ok.ensures.uncounted m ∙ c.loop-number.invariant.uncounted m;
    }

pub returns-clause-whole : goal.returns-clause-whole
returns-clause-whole g c = subst (λ (names : List (List ℕ)). AreWhole (g.F.Files.contents c.args.files.now) names (map (λ v. v.items) c.loop-number.all.items)) (taken_all string_bytes c.args.names.now c.loop-number.number (omega (arith, c.loop-number-test.false))) c.loop-number.invariant.whole

pub returns-clause-same : goal.returns-clause-same
returns-clause-same g c = c.loop-number.invariant.same

pub returns-clause-uncounted : goal.returns-clause-uncounted
returns-clause-uncounted g c = c.loop-number.invariant.uncounted

pub returns-clause-count : goal.returns-clause-count
returns-clause-count g c = c.loop-number.invariant.count
