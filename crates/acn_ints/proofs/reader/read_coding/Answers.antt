use Rattle.std.proofs.Common.{length, subst}
use Rattle.acn_grammar.specs.Length.{flag_width}
use Rattle.acn_grammar.specs.declared.node.NumCoding.{NumCoding}
use Rattle.acn_grammar.specs.declared.node.NumCoding.TheVariants.{Range, PosInt, Twos, Bcd, BcdEnded, Flag, Fixed, CountedFrom, CountedSigned, Ascii, AsciiEnded}
use Rattle.acn_ints.specs.Limits.{PlainEnded}
use Rattle.acn_ints.proofs.SaidLemmas.{fixed_said_at, fixed_wrong_at, fixed_stays_at, wrong_at, ended_wrong_at}
use Rattle.acn_ints.proofs.reader.read_coding.Goals as goal

pub most_digits-requires-clause-plain : goal.most_digits-requires-clause-plain
most_digits-requires-clause-plain c = subst (λ (k : NumCoding). PlainEnded k c.args.leaf.now.items.values) c.in-BcdEnded.is c.requires.plain

pub most_digits-requires-in-AsciiEnded-clause-plain : goal.most_digits-requires-in-AsciiEnded-clause-plain
most_digits-requires-in-AsciiEnded-clause-plain c = subst (λ (k : NumCoding). PlainEnded k c.args.leaf.now.items.values) c.in-AsciiEnded.is c.requires.plain

pub returns-in-Range-clause-wrong : goal.returns-in-Range-clause-wrong
returns-in-Range-clause-wrong c = fixed_wrong_at c.args.leaf.now.coding (Range c.in-Range.low c.in-Range.width) c.args.leaf.now (c.in-Range.width) c.args.cur.now c.read_range.new.cur c.read_range.result (c.in-Range.is) (record { same = λ rest r reach h. h }) c.read_range.ensures.wrong

pub returns-in-PosInt-clause-wrong : goal.returns-in-PosInt-clause-wrong
returns-in-PosInt-clause-wrong c = fixed_wrong_at c.args.leaf.now.coding (PosInt c.in-PosInt.n) c.args.leaf.now (c.in-PosInt.n) c.args.cur.now c.read_unsigned.new.cur c.read_unsigned.result (c.in-PosInt.is) (record { same = λ rest r reach h. h }) c.read_unsigned.ensures.wrong

pub returns-in-Twos-clause-wrong : goal.returns-in-Twos-clause-wrong
returns-in-Twos-clause-wrong c = fixed_wrong_at c.args.leaf.now.coding (Twos c.in-Twos.n) c.args.leaf.now (c.in-Twos.n) c.args.cur.now c.read_twos.new.cur c.read_twos.result (c.in-Twos.is) (record { same = λ rest r reach h. h }) c.read_twos.ensures.wrong

pub returns-in-Bcd-clause-wrong : goal.returns-in-Bcd-clause-wrong
returns-in-Bcd-clause-wrong c = fixed_wrong_at c.args.leaf.now.coding (Bcd c.in-Bcd.n) c.args.leaf.now (c.in-Bcd.n) c.args.cur.now c.read_bcd.new.cur c.read_bcd.result (c.in-Bcd.is) (record { same = λ rest r reach h. h }) c.read_bcd.ensures.wrong

pub returns-in-Flag-clause-said : goal.returns-in-Flag-clause-said
returns-in-Flag-clause-said c = fixed_said_at c.args.leaf.now.coding (Flag c.in-Flag.yes c.in-Flag.no) c.args.leaf.now (flag_width c.in-Flag.yes c.in-Flag.no) c.args.cur.now c.read_flag.new.cur c.read_flag.result (c.in-Flag.is) (record { same = λ rest r reach h. h }) c.read_flag.ensures.said

pub returns-in-Flag-clause-wrong : goal.returns-in-Flag-clause-wrong
returns-in-Flag-clause-wrong c = fixed_wrong_at c.args.leaf.now.coding (Flag c.in-Flag.yes c.in-Flag.no) c.args.leaf.now (flag_width c.in-Flag.yes c.in-Flag.no) c.args.cur.now c.read_flag.new.cur c.read_flag.result (c.in-Flag.is) (record { same = λ rest r reach h. h }) c.read_flag.ensures.wrong

pub returns-in-Flag-clause-stays : goal.returns-in-Flag-clause-stays
returns-in-Flag-clause-stays c = fixed_stays_at (Flag c.in-Flag.yes c.in-Flag.no) c.args.leaf.now.little (flag_width c.in-Flag.yes c.in-Flag.no) c.args.cur.now c.read_flag.new.cur c.read_flag.result c.read_flag.ensures.wrong

pub returns-in-Fixed-clause-said : goal.returns-in-Fixed-clause-said
returns-in-Fixed-clause-said c = fixed_said_at c.args.leaf.now.coding (Fixed c.in-Fixed.pattern) c.args.leaf.now (length c.in-Fixed.pattern) c.args.cur.now c.read_pattern.new.cur c.read_pattern.result (c.in-Fixed.is) (record { same = λ rest r reach h. h }) c.read_pattern.ensures.said

pub returns-in-Fixed-clause-wrong : goal.returns-in-Fixed-clause-wrong
returns-in-Fixed-clause-wrong c = fixed_wrong_at c.args.leaf.now.coding (Fixed c.in-Fixed.pattern) c.args.leaf.now (length c.in-Fixed.pattern) c.args.cur.now c.read_pattern.new.cur c.read_pattern.result (c.in-Fixed.is) (record { same = λ rest r reach h. h }) c.read_pattern.ensures.wrong

pub returns-in-Fixed-clause-stays : goal.returns-in-Fixed-clause-stays
returns-in-Fixed-clause-stays c = fixed_stays_at (Fixed c.in-Fixed.pattern) c.args.leaf.now.little (length c.in-Fixed.pattern) c.args.cur.now c.read_pattern.new.cur c.read_pattern.result c.read_pattern.ensures.wrong

pub returns-in-CountedFrom-clause-wrong : goal.returns-in-CountedFrom-clause-wrong
returns-in-CountedFrom-clause-wrong c = wrong_at c.args.leaf.now.coding (CountedFrom c.in-CountedFrom.low) c.args.leaf.now c.args.cur.now.rest c.read_counted_from.result c.in-CountedFrom.is c.read_counted_from.ensures.wrong

pub returns-in-CountedSigned-clause-wrong : goal.returns-in-CountedSigned-clause-wrong
returns-in-CountedSigned-clause-wrong c = wrong_at c.args.leaf.now.coding CountedSigned c.args.leaf.now c.args.cur.now.rest c.read_counted_signed.result c.in-CountedSigned.is c.read_counted_signed.ensures.wrong

pub returns-in-BcdEnded-clause-wrong : goal.returns-in-BcdEnded-clause-wrong
returns-in-BcdEnded-clause-wrong c = ended_wrong_at c.args.leaf.now.coding BcdEnded c.args.leaf.now c.args.cur.now.rest c.most_digits.result c.read_bcd_ended.result c.in-BcdEnded.is c.most_digits.ensures.value c.read_bcd_ended.ensures.wrong

pub returns-in-Ascii-clause-said : goal.returns-in-Ascii-clause-said
returns-in-Ascii-clause-said c = fixed_said_at c.args.leaf.now.coding (Ascii c.in-Ascii.bits c.in-Ascii.signed) c.args.leaf.now c.in-Ascii.bits c.args.cur.now c.read_characters.new.cur c.read_characters.result c.in-Ascii.is (record { same = λ rest r reach h. h }) c.read_characters.ensures.said

pub returns-in-Ascii-clause-wrong : goal.returns-in-Ascii-clause-wrong
returns-in-Ascii-clause-wrong c = fixed_wrong_at c.args.leaf.now.coding (Ascii c.in-Ascii.bits c.in-Ascii.signed) c.args.leaf.now c.in-Ascii.bits c.args.cur.now c.read_characters.new.cur c.read_characters.result c.in-Ascii.is (record { same = λ rest r reach h. h }) c.read_characters.ensures.wrong

pub returns-in-AsciiEnded-clause-wrong : goal.returns-in-AsciiEnded-clause-wrong
returns-in-AsciiEnded-clause-wrong c = ended_wrong_at c.args.leaf.now.coding (AsciiEnded c.in-AsciiEnded.end c.in-AsciiEnded.signed) c.args.leaf.now c.args.cur.now.rest c.most_digits-in-AsciiEnded.result c.read_characters_ended.result c.in-AsciiEnded.is c.most_digits-in-AsciiEnded.ensures.value c.read_characters_ended.ensures.wrong
