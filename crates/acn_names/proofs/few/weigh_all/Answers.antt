use Rattle.std.proofs.Common.{◌≡◌, ℕ, ◌+◌, suc, min, List, drop, map, sym, ap, ◌∙◌, subst, arith}
use Rattle.acn_asn_syntax.specs.View.{module_view}
use Rattle.acn_asn_syntax.specs.declared.modules.AsnModule.{AsnModule}
use Rattle.acn_index.specs.World.{asn_modules}
use Rattle.acn_names.specs.Few.{weight}
use Rattle.acn_names.proofs.Weights.{file_opened, capped_more}
use Rattle.acn_names.proofs.few.weigh_all.Goals as goal

pub loop-file-preserved : goal.loop-file-preserved
loop-file-preserved c =
    let on : suc c.loop-file.file-index ≡ c.loop-file.file-index + 1 = omega arith in
    let here = weight (map module_view c.file-item.result.modules) in
    let rest = weight (asn_modules (drop (suc c.loop-file.file-index) c.args.files.now)) in
    let opened = file_opened c.args.files.now c.loop-file.file-index c.file-item.result c.loop-file-test.true c.file-item.is in
    let added = c.weigh-all.ensures ∙ ap (λ (ms : List AsnModule). min (c.loop-file.all + weight (map module_view ms)) 4294967296) c.items.ensures in
    let told = ap (λ (n : ℕ). min (c.loop-file.all + n) 4294967296) (sym opened) ∙ c.loop-file.invariant.told in
    record {
      within = omega (arith, c.weigh-all.ensures);
      told = subst (λ (n : ℕ). min (c.weigh-all.result + weight (asn_modules (drop n c.args.files.now))) 4294967296 ≡ min (weight (asn_modules c.args.files.now)) 4294967296) on
          (capped_more c.loop-file.all c.weigh-all.result here rest _ added told);
    }
