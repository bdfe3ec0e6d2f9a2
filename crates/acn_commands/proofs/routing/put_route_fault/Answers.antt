use Rattle.acn_commands.proofs.routing.put_route_fault.Goals as goal

pub returns-in-Cut : goal.returns-in-Cut
returns-in-Cut g c = rw c.in-Cut.is c.put_all.ensures

pub returns-in-InputFault : goal.returns-in-InputFault
returns-in-InputFault g c = rw c.in-InputFault.is c.put_piece.ensures

pub returns-in-OutputFault : goal.returns-in-OutputFault
returns-in-OutputFault g c = rw c.in-OutputFault.is c.put_piece-in-OutputFault.ensures
