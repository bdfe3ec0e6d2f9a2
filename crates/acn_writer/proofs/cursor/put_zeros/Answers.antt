use Rattle.std.proofs.Common.{◌+◌, ◌*◌, ◌%◌, ◌/◌, ◌≡◌, ℕ, ap, ◌∙◌, arith}
use Rattle.acn_writer.proofs.Puts.{zeros_start, zeros_next}
use Rattle.acn_writer.proofs.cursor.put_zeros.Goals as goal

pub loop-word-init : goal.loop-word-init
loop-word-init g c =
    let same : c.args.n % c.from.result ≡ c.args.n % 64 + 0 = ap (λ (k : ℕ). c.args.n % k) c.from.ensures ∙ plain (c.args.n % 64) in
    record { done = zeros_start c.args.cursor.now c.put.new.self (c.args.n % c.from.result) (c.args.n % 64 + 0) same c.put.ensures; upto = omega arith }
  where
    plain : (n : ℕ) → n ≡ n + 0
    plain n = omega arith

pub loop-word-preserved : goal.loop-word-preserved
loop-word-preserved g c =
    let i = c.loop-word.word in
    let same : c.args.n / c.from-2.result ≡ c.args.n / 64 = ap (λ (k : ℕ). c.args.n / k) c.from-2.ensures in
    record {
      done = zeros_next c.args.cursor.now c.loop-word.cursor c.put-in-loop-word.new.self (c.args.n % 64 + 64 * i) 64 (c.args.n % 64 + 64 * (i + 1)) (omega arith) c.loop-word.invariant.done c.put-in-loop-word.ensures;
      upto = omega (arith, c.loop-word-test.true, same);
    }
