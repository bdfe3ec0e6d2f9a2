-- How space packets are routed. (This program's own.)
use Rattle.std.specs.Prelude.{ℕ, Bool, true, false, List, [], ◌∷◌, codes}
use Rattle.std.specs.Fmt.{decimal}
use Rattle.std.specs.List.{concat}
use Rattle.acn_report.specs.CheckTexts.{no_memory_line}
use Rattle.acn_report.specs.Texts.{long_input_line}
use Rattle.acn_route.specs.Listed.{Listed}
use Rattle.acn_route.specs.declared.route_fault.RouteFault.{RouteFault}
use Rattle.acn_route.specs.declared.route_fault.RouteFault.TheVariants.{Cut, InputTooLong, InputFault, OutputFault, NoMemory}
use Rattle.acn_tree.specs.declared.tree.Tree.{Tree}
use Rattle.acn_words.specs.Routes.{Route}
use Rattle.acn_commands.specs.Lines.{input_failed_line, output_failed_line}

-- each application process with the tree of its type
abbrev pub listed_by : List Route → List Tree → List Listed
listed_by (r ∷ rs) (tree ∷ trees) = record { apid = r.apid; tree = tree } ∷ listed_by rs trees
listed_by _ _ = []

-- the input is at fault, and no device
abbrev pub is_of_packets : RouteFault → Bool
is_of_packets (Cut number left) = true
is_of_packets InputTooLong = true
is_of_packets InputFault = false
is_of_packets OutputFault = false
is_of_packets NoMemory = false

-- why the input wasn't routed to its end
abbrev pub route_line : RouteFault → List ℕ
route_line (Cut number left) = concat (codes "acn: packet " ∷ decimal number ∷ codes ": Cut " ∷ decimal left ∷ codes "\n" ∷ [])
route_line InputTooLong = long_input_line
route_line InputFault = input_failed_line
route_line OutputFault = output_failed_line
route_line NoMemory = no_memory_line
