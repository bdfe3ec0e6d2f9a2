use Rattle.std.proofs.Common.{◌≡◌, ℕ, Bool, length, sym, ap, subst, ◌∙◌, arith}
use Rattle.acn_pack.specs.Words.{IsWord}
use Rattle.acn_pack.specs.declared.word.Word.{Word}
use Rattle.acn_pack.proofs.Gathered.{behind_of, no_piece, one_further, piece_in, room_left, shifted_fits, unit_is, word_none}
use Rattle.acn_pack.proofs.word.gather.Goals as goal
use Rattle.acn_pack.proofs.word.gather.Goals.{then-piece, else-piece}

pub loop-piece-init : goal.loop-piece-init
loop-piece-init c = record { width = omega arith; is = word_none c.args.run.now c.args.places.now c.args.next c.requires.within }

pub field_code-requires : goal.field_code-requires
field_code-requires c = (let there = piece_in c.args.run.now c.loop-piece.piece-index _ c.requires.run c.loop-piece-test.true in there.1)

pub overflow_shl-word : goal.overflow_shl-word
overflow_shl-word c = (let there = piece_in c.args.run.now c.loop-piece.piece-index _ c.requires.run c.loop-piece-test.true in there.0)

pub overflow_mul-word : goal.overflow_mul-word
overflow_mul-word c =
    let l = c.loop-piece in
    let there = piece_in c.args.run.now l.piece-index _ c.requires.run c.loop-piece-test.true in
    let room = room_left c.args.run.now l.piece-index _ c.requires.run c.loop-piece-test.true l.word l.invariant.width in
    let fits = shifted_fits l.word.width _ l.word.bits c.in_ok-code.code _ room l.invariant.is.fits c.in_ok-code.ensures.fits (unit_is _ there.0) in
    omega (arith, fits.0)

pub overflow_add-word : goal.overflow_add-word
overflow_add-word c =
    let l = c.loop-piece in
    let there = piece_in c.args.run.now l.piece-index _ c.requires.run c.loop-piece-test.true in
    let room = room_left c.args.run.now l.piece-index _ c.requires.run c.loop-piece-test.true l.word l.invariant.width in
    let fits = shifted_fits l.word.width _ l.word.bits c.in_ok-code.code _ room l.invariant.is.fits c.in_ok-code.ensures.fits (unit_is _ there.0) in
    omega (arith, fits.1)

pub loop-piece-preserved : goal.loop-piece-preserved
loop-piece-preserved c =
    let l = c.loop-piece in
    let run = c.args.run.now in
    let places = c.args.places.now in
    let i = l.piece-index in
    let code = c.in_ok-code.code in
    let told = c.in_ok-code.ensures.code in
    elim c.if-piece.branch [
      | then-piece w ↦ (
          let e = w.word-is in
          let turn = one_further run i no_piece places c.args.next l.word c.if-piece.word told.0 code c.requires.run c.loop-piece-test.true l.invariant.width l.invariant.is told.1 c.in_ok-code.ensures.fits told.2 (ap (λ (v : Word). v.width) e) (ap (λ (v : Word). v.bits) e) (ap (λ (v : Word). v.next) e ∙ ap (λ (b : Bool). behind_of b l.word.next) (sym w.if-piece.true)) in
          record { width = turn.0; is = turn.1 }
          )
      | else-piece w ↦ (
          let e = w.word-is in
          let turn = one_further run i no_piece places c.args.next l.word c.if-piece.word told.0 code c.requires.run c.loop-piece-test.true l.invariant.width l.invariant.is told.1 c.in_ok-code.ensures.fits told.2 (ap (λ (v : Word). v.width) e) (ap (λ (v : Word). v.bits) e) (ap (λ (v : Word). v.next) e ∙ ap (λ (b : Bool). behind_of b l.word.next) (sym w.if-piece.false)) in
          record { width = turn.0; is = turn.1 }
          )
    ]

pub returns : goal.returns
returns c =
    let l = c.loop-piece in
    let o = c.loop-piece-test.false in
    let e = l.auto.piece-index-end in
    let all : l.piece-index ≡ length c.args.run.now = omega (arith, o, e) in
    subst (λ (i : ℕ). IsWord c.args.run.now i c.args.places.now c.args.next l.word) all l.invariant.is
