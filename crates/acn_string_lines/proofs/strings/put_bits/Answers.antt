use Rattle.std.proofs.Common.{sym, ◌∙◌}
use Rattle.acn_reads.proofs.StringReads.{bits_read}
use Rattle.acn_string_lines.proofs.Outcomes.{when_ok}
use Rattle.acn_string_lines.proofs.strings.put_bits.Goals as goal

pub returns-else-left-n : goal.returns-else-left-n
returns-else-left-n c =
    record {
      put = λ e.
          let p = when_ok c.put_binary.result (sym c.is_ok.ensures.value ∙ e) c.put_binary.ensures in
          (p.0, (λ root. bits_read root c.args.sizing.now c.in-Some.n p.0 c.args.slots.now c.args.cur.now c.size.new.cur c.put_binary.new.cur c.in-Some.ensures.read p.1), p.2);
    }
