use Rattle.acn_single.proofs.Listing.{text_within}
use Rattle.acn_single.proofs.lines.is_alone.Goals as goal

pub other_there-requires : goal.other_there-requires
other_there-requires c = text_within c.requires.0 c.args.body.now c.in-Text.leaf c.in-Text.is c.requires.1
