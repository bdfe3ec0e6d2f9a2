-- What the program's own types stand for.
use Rattle.std.specs.Prelude.{map, string_bytes}
use Rattle.acn_words.specs.Names as names
use Rattle.acn_words.specs.Requests as requests
use Rattle.acn_words.specs.Faults as faults
use Rattle.acn_words.specs.declared.faults.WordsFault.{WordsFault}
use Rattle.acn_words.specs.declared.faults.WordsFault.TheVariants as fault
use Rattle.acn_words.specs.Routes as routes
use Rattle.acn_words.specs.declared.names.TypeName.{TypeName}
use Rattle.acn_words.specs.declared.routes.Route.{Route}
use Rattle.acn_words.specs.declared.requests.Request.{Request}
use Rattle.acn_words.specs.declared.requests.Request.TheVariants.{Check, Bounds, Layout, Encode, Decode, Compare, Extremes, Route as Routed, Explain, Work}

abbrev pub type_view : TypeName → names.TypeName
type_view t = record { module_name = t.module.now; name = t.name.now }

abbrev pub route_view : Route → routes.Route
route_view r = record { apid = r.apid; of = type_view r.of }

abbrev pub request_view : Request → requests.Request
request_view (Check files) = requests.check (map string_bytes files.now)
request_view (Bounds files) = requests.bounds (map string_bytes files.now)
request_view (Layout of files) = requests.layout (type_view of) (map string_bytes files.now)
request_view (Encode of files) = requests.encode (type_view of) (map string_bytes files.now)
request_view (Decode of files) = requests.decode (type_view of) (map string_bytes files.now)
request_view (Compare old newer files) = requests.compare (type_view old) (type_view newer) (map string_bytes files.now)
request_view (Extremes of files) = requests.extremes (type_view of) (map string_bytes files.now)
request_view (Routed fronts files) = requests.route (map routes.route_of (map string_bytes fronts.words.now)) (map string_bytes files.now)
request_view (Explain of files) = requests.explain (type_view of) (map string_bytes files.now)
request_view (Work of start count files) = requests.work (type_view of) start count (map string_bytes files.now)

abbrev pub fault_view : WordsFault → faults.Fault
fault_view fault.NoCommand = faults.no_command
fault_view (fault.Command word) = faults.command (string_bytes word.now)
fault_view fault.NoType = faults.no_type
fault_view (fault.Type word) = faults.type_word (string_bytes word.now)
fault_view fault.NoRoute = faults.no_route
fault_view (fault.Route word) = faults.route_word (string_bytes word.now)
fault_view (fault.RouteTwice word) = faults.route_twice (string_bytes word.now)
fault_view fault.NoStart = faults.no_start
fault_view (fault.Start word) = faults.start (string_bytes word.now)
fault_view fault.NoCount = faults.no_count
fault_view (fault.Count word) = faults.count (string_bytes word.now)
fault_view fault.NoFile = faults.no_file
fault_view fault.TooManyFiles = faults.too_many_files
fault_view (fault.File word) = faults.file (string_bytes word.now)
fault_view fault.NoModules = faults.no_modules
