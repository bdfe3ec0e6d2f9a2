-- What a walk answers behind some sites, by what it had before them.
use Rattle.std.specs.Prelude.{ℕ, ◌+◌, List, ◌++◌, length, Option, Some, None, Result, Ok, Err}
use Rattle.acn_index.specs.World.{World}
use Rattle.acn_sites.specs.Sites.{Placed}
use Rattle.acn_survey.specs.Reasons.{Fault, fault_from}
use Rattle.acn_homes.specs.declared.uses.Use.{Use}
use Rattle.acn_survey.specs.Walk.{inserted_fields, uses_of}

-- the number of the next site, and what was noted so far
pub record Noted : Type 0 where
  pub next : ℕ
  pub fields : List (List ℕ)
  pub uses : List Use

abbrev pub behind : World → Noted → List Placed → Noted
behind w n ps = record { next = n.next + length ps; fields = n.fields ++ inserted_fields ps; uses = n.uses ++ uses_of w ps }

abbrev pub unless_fault : Option Fault → Noted → Result Noted Fault
unless_fault None n = Ok n
unless_fault (Some f) n = Err f

unfoldable pub surveyed : World → Noted → List Placed → Result Noted Fault
surveyed w n ps = unless_fault (fault_from w n.next ps) (behind w n ps)
