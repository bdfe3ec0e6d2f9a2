-- What is known where all went well.
use Rattle.std.proofs.Common.{◌≡◌, true, Result, Ok, Err}
use Rattle.std.specs.Result.{is_ok, OnOk}

pub when_ok : {T E P : Type 0} (r : Result T E) → is_ok r ≡ true → OnOk r P → P
when_ok (Ok x) e p = p
when_ok (Err y) e p = absurd (cc)
