use Rattle.std.proofs.Common.{◌<◌, ◌≤◌, List, length, get_or, sym, subst, refl, rules}
use Rattle.std.proofs.lemmas.Int.{to_z-of_z}
use Rattle.std.specs.Int.{w128}
use Rattle.acn_cut.specs.Stretches.{IsRun}
use Rattle.acn_cut.specs.declared.stretch.Piece.{Piece}
use Rattle.acn_transcode.proofs.Stretches.{begun, item_there, kept_same, one_further, piece_there, whole_read}
use Rattle.acn_transcode.proofs.stretch.lay_stretch.Goals as goal

pub loop-piece-init : goal.loop-piece-init
loop-piece-init c =
    let r = c.requires in
    record { way = begun c.args.stretch.now.pieces c.in-Ok.word c.args.stretch.now.width c.args.draft.now c.args.cur.now c.take.new.self c.in-Ok.ensures.value c.in-Ok.ensures.within c.in-Ok.ensures.moved r.2.few r.2.width }

pub read_piece-requires-clause-some : goal.read_piece-requires-clause-some
read_piece-requires-clause-some c =
    let r = c.requires in
    let run = subst (λ (ps : List Piece). IsRun r.0 ps r.1) (sym c.items-piece-items.ensures) r.2.run in
    (piece_there r.0 r.1 c.items-piece-items.result.now c.loop-piece.piece-index _ run c.loop-piece-test.true (item_there c.items-piece-items.result.now c.items-piece-items.result.now c.loop-piece.piece-index _ refl c.loop-piece-test.true)).0

pub read_piece-requires-clause-cut : goal.read_piece-requires-clause-cut
read_piece-requires-clause-cut c =
    let r = c.requires in
    let run = subst (λ (ps : List Piece). IsRun r.0 ps r.1) (sym c.items-piece-items.ensures) r.2.run in
    (piece_there r.0 r.1 c.items-piece-items.result.now c.loop-piece.piece-index _ run c.loop-piece-test.true (item_there c.items-piece-items.result.now c.items-piece-items.result.now c.loop-piece.piece-index _ refl c.loop-piece-test.true)).1

pub loop-piece-preserved : goal.loop-piece-preserved
loop-piece-preserved c =
    let l = c.loop-piece in
    let items = c.items-piece-items.result.now in
    let ps = c.args.stretch.now.pieces in
    let same = c.items-piece-items.ensures in
    let plain = to_z-of_z w128 c.in-Some.x (record { sfits = search rules }) in
    record {
      way = one_further ps l.piece-index (get_or items l.piece-index _) c.in-Some.x l.strip c.read_piece.new.strip c.args.draft.now l.draft c.lay_number.new.draft c.args.cur.now c.take.new.self
          (subst (λ (x : List Piece). l.piece-index < length x) same c.loop-piece-test.true)
          (item_there items ps l.piece-index _ same c.loop-piece-test.true)
          l.invariant.way c.read_piece.ensures.left c.in-Some.ensures.read c.read_piece.ensures.rest
          (kept_same _ _ c.in-Some.x l.draft c.lay_number.new.draft plain (c.if-not-lay_number.ensures.kept refl));
    }

pub returns : goal.returns
returns c sure fs rest run =
    let l = c.loop-piece in
    let same = c.items-piece-items.ensures in
    whole_read c.args.stretch.now.pieces l.piece-index l.strip c.args.draft.now l.draft c.args.cur.now c.take.new.self fs rest
    (subst (λ (x : List Piece). length x ≤ l.piece-index) same c.loop-piece-test.false)
    (subst (λ (x : List Piece). l.piece-index ≤ length x) same l.auto.piece-index-end)
    l.invariant.way run
