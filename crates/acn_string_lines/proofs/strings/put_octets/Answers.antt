use Rattle.std.proofs.Common.{sym, ◌∙◌}
use Rattle.acn_reads.proofs.StringReads.{octets_read}
use Rattle.acn_string_lines.proofs.Outcomes.{when_ok}
use Rattle.acn_string_lines.proofs.strings.put_octets.Goals as goal

pub returns-else-left-n : goal.returns-else-left-n
returns-else-left-n c =
    record {
      put = λ e.
          let p = when_ok c.put_hexadecimal.result (sym c.is_ok.ensures.value ∙ e) c.put_hexadecimal.ensures in
          (p.0, (λ root. octets_read root c.args.sizing.now c.in-Some.n p.0 c.args.slots.now c.args.cur.now c.size.new.cur c.put_hexadecimal.new.cur c.in-Some.ensures.read p.1), p.2);
    }
