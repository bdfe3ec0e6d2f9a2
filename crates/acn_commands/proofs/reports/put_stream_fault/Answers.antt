use Rattle.acn_commands.proofs.reports.put_stream_fault.Goals as goal

pub returns-in-Unfit : goal.returns-in-Unfit
returns-in-Unfit g c = rw c.in-Unfit.is c.put_unfit.ensures

pub returns-in-InputFault : goal.returns-in-InputFault
returns-in-InputFault g c = rw c.in-InputFault.is c.put_piece.ensures

pub returns-in-OutputFault : goal.returns-in-OutputFault
returns-in-OutputFault g c = rw c.in-OutputFault.is c.put_piece-in-OutputFault.ensures

pub returns-in-Packet : goal.returns-in-Packet
returns-in-Packet g c = rw c.in-Packet.is c.put_packet_fault.ensures
