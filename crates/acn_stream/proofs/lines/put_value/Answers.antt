use Rattle.std.proofs.Common.{arith}
use Rattle.acn_grammar.specs.Code.{Written}
use Rattle.acn_grammar.specs.View.{data_of}
use Rattle.acn_stream.proofs.lines.put_value.Goals as goal

pub octets_of-size-requires : goal.octets_of-size-requires
octets_of-size-requires c =
    let packed = c.in-Some.ensures.packed in
    let most = (c.requires.bounded.between Written (data_of c.args.value.now) packed.spelling packed.written).1 in
    omega (arith, packed.counted, most, c.requires.bounded.few)

pub shared_ref_as_front-extend_from_slice : goal.shared_ref_as_front-extend_from_slice
shared_ref_as_front-extend_from_slice c =
    let packed = c.in-Some.ensures.packed in
    let most = (c.requires.bounded.between Written (data_of c.args.value.now) packed.spelling packed.written).1 in
    omega (arith, c.octets_of-size.ensures, packed.counted, most, c.requires.bounded.few)
