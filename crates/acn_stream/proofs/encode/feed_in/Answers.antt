use Rattle.acn_stream.proofs.Feeds.{feed_found}
use Rattle.acn_stream.proofs.encode.feed_in.Goals as goal

pub returns : goal.returns
returns c = feed_found c.args.bytes.now c.memchr.result c.memchr.ensures
