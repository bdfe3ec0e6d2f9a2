-- What stood in a text, and stays in front of what is put.
use Rattle.std.proofs.Common.{◌≡◌, ℕ, List, [], ◌++◌, false, Result, Ok, Err, OnOk, OnErr, sym, ap, ◌∙◌, append_assoc, append-nil}
use Rattle.std.specs.Result.{is_ok}
use Rattle.acn_json.specs.Kept.{Kept}

pub kept_same : (text : List ℕ) → Kept text text
kept_same text = record { behind = []; same = sym (append-nil text) }

pub kept_behind : (old mid new text : List ℕ) → mid ≡ old ++ text → Kept mid new → Kept old new
kept_behind old mid new text added kept = record {
  behind = text ++ kept.behind;
  same = kept.same ∙ (ap (λ t. t ++ kept.behind) added ∙ append_assoc old text kept.behind);
}

pub kept_twice : (old mid new : List ℕ) → Kept old mid → Kept mid new → Kept old new
kept_twice old mid new first second = kept_behind old mid new first.behind first.same second

-- three texts were put
pub kept_three : (old a b c new : List ℕ) → new ≡ old ++ a ++ b ++ c → Kept old new
kept_three old a b c new added = record { behind = a ++ (b ++ c); same = added ∙ (append_assoc (old ++ a) b c ∙ append_assoc old a (b ++ c)) }

pub when_err : {T E P : Type 0} (r : Result T E) → is_ok r ≡ false → OnErr r P → P
when_err (Ok x) h p = absurd (cc)
when_err (Err e) h p = p

-- all was put, or a part
pub kept_either : {T E A : Type 0} (r : Result T E) (old new : List ℕ) → (A → Kept old new) → OnOk r A → OnErr r (Kept old new) → Kept old new
kept_either (Ok x) old new all put kept = all put
kept_either (Err e) old new all put kept = kept
