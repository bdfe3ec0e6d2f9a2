use Rattle.std.proofs.Common.{◌≡◌, ◌≤◌, ℕ, List, map, string_bytes, take}
use Rattle.acn_outside.specs.Counts.{AllStay}
use Rattle.acn_files.specs.Contents.{AreWhole}
use Rattle.acn_files.proofs.whole.read_files.Given as goal

abbrev pub invariant-loop-number : goal.invariant-loop-number
invariant-loop-number g l = record {
  whole : AreWhole (g.F.Files.contents l.fn.files) (take l.number (map string_bytes l.names)) (map (λ v. v.items) l.all.items);
  same : (m : List ℕ) → g.F.Files.contents l.files m ≡ g.F.Files.contents l.fn.files m;
  count : (m : List ℕ) → g.F.Files.faults l.fn.files m ≤ g.F.Files.faults l.files m;
  uncounted : AllStay (g.F.Files.faults l.fn.files) (g.F.Files.faults l.files);
}
