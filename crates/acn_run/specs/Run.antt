-- How a run ends, by the number of its status. (This program's own.)
use Rattle.std.specs.Prelude.{◌≡◌, ℕ, List, Some, None}
use Rattle.acn_commands.specs.Lines.{usage_line}
use Rattle.acn_commands.specs.Outside.{Outside, Says, IsUntouched}
use Rattle.acn_commands.specs.Serves.{code_of, Serves}
use Rattle.acn_commands.specs.declared.status.Status.{Status}
use Rattle.acn_commands.specs.declared.status.Status.TheVariants.{Usage}
use Rattle.acn_words.specs.Requests.{Request, request_in}

-- What a run did between what it saw first and what it saw last.
module _ (b a : Outside) where
  pub data Ends (words : List (List ℕ)) : Status → Type 0 where
    -- 1: the words have none of the forms of a command
    no_form : request_in words ≡ None → IsUntouched b a → Says usage_line b.err a.err → Ends words Usage
    -- the request of the words was served
    served : (request : Request) (status : Status) → request_in words ≡ Some request → Serves b a request status → Ends words status

  -- by the number of the status
  pub record EndsWith (words : List (List ℕ)) (code : ℕ) : Type 0 where
    pub status : Status
    pub is : code ≡ code_of status
    pub ends : Ends words status
