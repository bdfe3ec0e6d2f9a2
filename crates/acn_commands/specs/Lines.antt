-- The lines of a run that no page below says. (This program's own.)
use Rattle.std.specs.Prelude.{ℕ, List, [], ◌∷◌, codes}
use Rattle.std.specs.List.{concat}
use Rattle.acn_json_report.specs.JsonTexts.{json_line}
use Rattle.acn_report.specs.CheckTexts.{no_memory_line}
use Rattle.acn_report.specs.Texts.{packet_line, unfit_line, long_line, long_input_line, empty_line}
use Rattle.acn_stream.specs.declared.stream_fault.StreamFault.{StreamFault}
use Rattle.acn_stream.specs.declared.stream_fault.StreamFault.TheVariants.{LineTooLong, InputTooLong, EmptyPacket, Packet, BadLine, Unfit, InputFault, OutputFault, NoMemory}
use Rattle.acn_tree.specs.declared.tree.Tree.{Tree}

abbrev pub usage_line : List ℕ
usage_line = codes "acn: usage\n"

abbrev pub input_failed_line : List ℕ
input_failed_line = codes "acn: input failed\n"

abbrev pub output_failed_line : List ℕ
output_failed_line = codes "acn: output failed\n"

-- a type whose packets can be decoded
abbrev pub ok_line : Tree → List ℕ
ok_line tree = concat (tree.name ∷ codes " ok\n" ∷ [])

-- why a stream wasn't converted to its end
abbrev pub stream_line : Tree → StreamFault → List ℕ
stream_line tree (LineTooLong number) = long_line number
stream_line tree InputTooLong = long_input_line
stream_line tree EmptyPacket = empty_line tree
stream_line tree (Packet number fault) = packet_line tree number fault
stream_line tree (BadLine number fault) = json_line tree number fault
stream_line tree (Unfit number fault) = unfit_line tree number fault
stream_line tree InputFault = input_failed_line
stream_line tree OutputFault = output_failed_line
stream_line tree NoMemory = no_memory_line
