-- No second answer meets a promise of this crate.
-- Assumes nothing.
use mathlib.Core.Path.{◌≡◌, sym, ◌∙◌}
use mathlib.Core.List.{List}
use Prim.Native.Nat.{ℕ, min}
use lib.ListN.{length}
use Rattle.laws.specs.Put.{put}
use Rattle.std.specs.Prelude.{Result}
use Rattle.numbers.specs.declared.Fault.{Fault}
use Rattle.numbers.specs.Number.{Found}
use Rattle.form.specs.declared.Call.{Call}
use Rattle.form.specs.declared.Checked.{Checked}
use Rattle.form.specs.Replies.{replies_in}
use Rattle.form.specs.Calls.{call_at}
use Rattle.form.specs.Session.{session_of, checked}

pub read_call_once : (t : List ℕ) (kind at : ℕ) (r s : Found Call) → r ≡ call_at t kind at → s ≡ call_at t kind at → r ≡ s
read_call_once t kind at r s p q = p ∙ sym q

pub check_once : (t : List ℕ) (r s : Result Checked Fault) → r ≡ checked (session_of t) → s ≡ checked (session_of t) → r ≡ s
check_once t r s p q = p ∙ sym q

-- no second script either
pub read_replies_once : (t : List ℕ) (count first : ℕ) (lent x y : List ℕ) → x ≡ put lent 0 (replies_in t count first) (min (length (replies_in t count first)) (length lent)) → y ≡ put lent 0 (replies_in t count first) (min (length (replies_in t count first)) (length lent)) → x ≡ y
read_replies_once t count first lent x y p q = p ∙ sym q
