use Rattle.std.proofs.Common.{◌<◌, get_or, arith}
use Rattle.std.proofs.lemmas.Bool.Decides.{nat_tests}
use Rattle.acn_printed.proofs.Tables.{digit_numbers, digit-known}
use Rattle.acn_printed.proofs.texts.digit_number.Goals as goal

pub returns-then-number-lt16-clause-read : goal.returns-then-number-lt16-clause-read
returns-then-number-lt16-clause-read c =
    let small : get_or digit_numbers c.args.digit 0 < 16 = grind (arith, nat_tests) in
    digit-known c.args.digit (omega arith) small
