-- Which way a run converts, or that it makes values. (This program's own.)
use Rattle.std.specs.Prelude.{Option, Some, None, option_and_then}
use Rattle.acn_progress.specs.declared.way.Way.{Way}
use Rattle.acn_progress.specs.declared.way.Way.TheVariants.{Encoding, Decoding, Explaining, Working}
use Rattle.acn_words.specs.Requests as requests
use Rattle.acn_words.specs.Requests.{Request}

abbrev pub way_to : Request → Option Way
way_to (requests.check files) = None
way_to (requests.bounds files) = None
way_to (requests.layout of files) = None
way_to (requests.encode of files) = Some Encoding
way_to (requests.decode of files) = Some Decoding
way_to (requests.compare old new files) = None
way_to (requests.extremes of files) = None
way_to (requests.route routes files) = Some Decoding
way_to (requests.explain of files) = Some Explaining
way_to (requests.work of start count files) = Some Working

-- the way of what is asked for, if it converts an input or makes values
abbrev pub way_of : Option Request → Option Way
way_of request = option_and_then way_to request
