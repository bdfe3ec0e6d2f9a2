use Rattle.std.proofs.Common.{◌≡◌, refl, sym, rules}
use Rattle.acn_sources.specs.declared.kind.FileKind.TheVariants.{Asn, Acn, Map}
use Rattle.acn_sources.proofs.Gathered.{added_asn, added_acn, added_map, has_asn, has_acn, has_map}
use Rattle.acn_sources.proofs.sources.add.Goals as goal

pub returns-in_ok-push-in-Asn-clause-added : goal.returns-in_ok-push-in-Asn-clause-added
returns-in_ok-push-in-Asn-clause-added c =
    let e : c.args.file.now.kind ≡ Asn = cc c.in-Asn.is in
    let r = c.in_ok-read_asn-in-Asn in
    added_asn c.args.file.now c.args.sources.now r.field-0 _ e r.ensures.tree r.ensures.each c.in_ok-push-in-Asn.ensures.ok

pub returns-in_err-read_asn-in-Asn-clause-each : goal.returns-in_err-read_asn-in-Asn-clause-each
returns-in_err-read_asn-in-Asn-clause-each c h =
    let e : c.args.file.now.kind ≡ Asn = cc c.in-Asn.is in
    let t = has_asn c.args.file.now e h in
    let k = c.in_err-read_asn-in-Asn.ensures.each t.0 t.1 in
    search (rules, k)

pub returns-in_ok-push-in-Acn-clause-added : goal.returns-in_ok-push-in-Acn-clause-added
returns-in_ok-push-in-Acn-clause-added c =
    let e : c.args.file.now.kind ≡ Acn = cc c.in-Acn.is in
    let r = c.in_ok-read_acn-in-Acn in
    added_acn c.args.file.now c.args.sources.now r.field-0 _ e r.ensures.tree r.ensures.each c.in_ok-push-in-Acn.ensures.ok

pub returns-in_err-read_acn-in-Acn-clause-each : goal.returns-in_err-read_acn-in-Acn-clause-each
returns-in_err-read_acn-in-Acn-clause-each c h =
    let e : c.args.file.now.kind ≡ Acn = cc c.in-Acn.is in
    let t = has_acn c.args.file.now e h in
    let k = c.in_err-read_acn-in-Acn.ensures.each t.0 t.1 in
    search (rules, k)

pub returns-in_ok-push-in-Map-clause-added : goal.returns-in_ok-push-in-Map-clause-added
returns-in_ok-push-in-Map-clause-added c =
    let e : c.args.file.now.kind ≡ Map = cc c.in-Map.is in
    let r = c.in_ok-read_map-in-Map in
    added_map c.args.file.now c.args.sources.now r.field-0 _ e r.ensures.tree r.ensures.each c.in_ok-push-in-Map.ensures.ok

pub returns-in_err-read_map-in-Map-clause-each : goal.returns-in_err-read_map-in-Map-clause-each
returns-in_err-read_map-in-Map-clause-each c h =
    let e : c.args.file.now.kind ≡ Map = cc c.in-Map.is in
    let t = has_map c.args.file.now e h in
    let k = c.in_err-read_map-in-Map.ensures.each t.0 t.1 in
    search (rules, k)
