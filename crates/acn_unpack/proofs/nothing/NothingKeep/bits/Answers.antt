use Rattle.acn_reads.specs.Steps.{NoForm, NoSize}
use Rattle.acn_reads.proofs.StringReads.{bits_short, bits_unsized, named_map}
use Rattle.acn_unpack.proofs.Halting.{err_map, fault_map, ok_both}
use Rattle.acn_unpack.proofs.Passes.{bits_passed, short_form}
use Rattle.acn_grammar.specs.Grammar.{bits}
use Rattle.acn_unpack.proofs.nothing.NothingKeep.bits.Goals as goal

pub returns-in-Ok-clause-read : goal.returns-in-Ok-clause-read
returns-in-Ok-clause-read c =
    ok_both c.pass.result _ _ _ c.pass.ensures.room c.pass.ensures.moved (λ room moved. (let p = bits_passed c.args.sizing.now c.in-Ok.n c.args.slots.now c.args.cur.now c.read_size.new.cur c.pass.new.cur c.in-Ok.ensures.read room moved in (p.0, tt, p.1)))

pub returns-in-Ok-clause-fails : goal.returns-in-Ok-clause-fails
returns-in-Ok-clause-fails c =
    err_map c.pass.result _ _ (λ e h. short_form e _ _ c.args.inside c.args.from (bits c.args.sizing.now) c.args.slots.now c.args.cur.now (λ few. bits_short c.args.sizing.now c.in-Ok.n c.args.slots.now c.args.cur.now c.read_size.new.cur c.in-Ok.ensures.read few) h) c.pass.ensures.short

pub returns-in-Err-clause-fails : goal.returns-in-Err-clause-fails
returns-in-Err-clause-fails c =
    fault_map c.in-Err.stop _ _ _ c.in-Err.ensures.fault (λ q at s. named_map c.args.inside c.args.from (NoSize c.args.sizing.now c.args.slots.now c.args.cur.now) (NoForm (bits c.args.sizing.now) c.args.slots.now c.args.cur.now) (λ r n. bits_unsized c.args.sizing.now c.args.slots.now c.args.cur.now r n) q at s) c.in-Err.ensures.fails
