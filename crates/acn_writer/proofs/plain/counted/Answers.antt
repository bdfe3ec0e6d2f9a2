use Rattle.std.proofs.Common.{rules}
use Rattle.acn_writer.proofs.PlainCodes.{can_range, can_truth, can_unsigned, pattern_code, range_code, truth_code, unsigned_code}
use Rattle.acn_writer.proofs.plain.counted.Goals as goal

pub offset-requires : goal.offset-requires
offset-requires c = record { bounded = c.requires.bounded; ahead = can_range c.args.coding.now _ c.args.x.now _ c.in-Range.is c.requires.can }

pub offset-requires-in-PosInt : goal.offset-requires-in-PosInt
offset-requires-in-PosInt c = record { bounded = c.requires.bounded; ahead = can_unsigned c.args.coding.now c.args.x.now _ c.in-PosInt.is c.requires.can }

pub offset-requires-then-is_none-2 : goal.offset-requires-then-is_none-2
offset-requires-then-is_none-2 c = record { bounded = c.requires.bounded; ahead = can_truth c.args.coding.now c.args.x.now _ _ c.in-Flag.is c.requires.can }

pub returns-in-Range : goal.returns-in-Range
returns-in-Range c = range_code c.args.coding.now c.offset.result _ _ _ c.in-Range.is c.offset.ensures

pub returns-in-PosInt : goal.returns-in-PosInt
returns-in-PosInt c = unsigned_code c.args.coding.now c.offset-in-PosInt.result _ _ c.in-PosInt.is c.offset-in-PosInt.ensures

pub returns-then-is_none-2 : goal.returns-then-is_none-2
returns-then-is_none-2 c = truth_code c.args.coding.now c.offset-then-is_none-2.result _ _ _ c.in-Flag.is (search rules) (search rules) c.offset-then-is_none-2.ensures

pub returns-in-Fixed : goal.returns-in-Fixed
returns-in-Fixed c = pattern_code c.args.coding.now c.args.x.now _ c.spelled.result.width c.spelled.result.value c.in-Fixed.is c.requires.can c.spelled.ensures
