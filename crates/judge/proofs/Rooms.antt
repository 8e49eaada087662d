-- Room is never reached: on a medium with room for all that a trace writes, every call of a run that explains the trace
-- finds room for all that is held and all that it is handed. Where there is that much, more room changes nothing, so the
-- medium is as good as one without end.
-- Assumes nothing.
use mathlib.Core.Path.{◌≡◌, refl, sym, ap, ◌∙◌}
use mathlib.Core.List.{List, [], ◌∷◌}
use Prim.Native.Nat.{ℕ, ◌+◌, ◌-◌, ◌≤◌, min}
use native.Mathlib.Omega.{arith}
use lib.ListN.{length, replicate, length-append}
use lib.Dec.{eqb}
use Rattle.laws.specs.Pick.{pick}
use Rattle.card.specs.Device.{reply_of, at_most, exchange, Reply}
use Rattle.flushing.specs.declared.Sent.{Sent}
use Rattle.flushing.specs.Send.{send_from, sent_by, on_reply}
use Rattle.flushing.specs.World.{World, room, new}
use Rattle.ledger.specs.Ledger.{ledger}
use Rattle.ledger.proofs.Moves.{In, moved_in}
use Rattle.trace.specs.Calls.{Told, wrote, flushed, written}
use Rattle.judge.specs.Judge.{called_by, Explains, Possible}
use Rattle.judge.specs.Table.{piece}
use Rattle.judge.proofs.Runs.{call_moved, ledger_long, piece_most}
use Rattle.std.specs.Prelude.{Ok, Err}
use Rattle.card.specs.declared.DeviceError.TheVariants.{Interrupted, Error}
use Rattle.flushing.specs.declared.Stop.TheVariants.{Zero}

-- how many bytes a call is handed
abbrev pub size : Told → ℕ
size (wrote s said) = length s
size (flushed said) = 0

-- each call of the run, in the world that it meets, has room for what is held and what it is handed
unfoldable pub Roomy : List ℕ → World → List Told → Type 0
Roomy script w [] = Unit {0}
Roomy script w (call ∷ calls) = (w.held + size call ≤ room w) × Roomy script (called_by script w call).world calls

size_most : (call : Told) (calls : List Told) → size call ≤ written (call ∷ calls)
unfolding written
size_most (wrote s said) calls = omega arith
size_most (flushed said) calls = omega arith

pub roomy : (script : List ℕ) (w : World) (calls : List Told) (card : List ℕ) → In script w → w.out + w.held + written calls ≤ length w.medium → Explains script w calls card → Roomy script w calls
unfolding Explains Roomy
roomy script w [] card i r x = tt
roomy script w (call ∷ calls) card i r x =
    let v = (called_by script w call).world in
    let m = call_moved script w call i x.0 in
    let v-in = moved_in script w v (piece call) m in
    let grown : v.out + v.held ≡ w.out + w.held + length (piece call) = sym (ledger_long script v v-in) ∙ ap length m.bytes ∙ length-append (ledger w) (piece call) ∙ ap (λ (k : ℕ). k + length (piece call)) (ledger_long script w i) in (
      omega (arith, size_most call calls, r),
      roomy script v calls card v-in (omega (arith, grown, piece_most call calls, r, m.medium_long)) x.1,
    )

-- so it is of every trace that is possible, with the script and the medium that show it
pub possible_roomy : (C : ℕ) (calls : List Told) (card : List ℕ) (p : Possible C calls card) → Roomy p.script (new (replicate C 0) p.medium) calls
possible_roomy C calls card p =
    roomy p.script (new (replicate C 0) p.medium) calls card (record { held = omega arith; out = omega arith; used = omega arith }) (omega (arith, p.room)) p.explains

-- ---- with so much room, more changes nothing

on_same : (r : Reply) (f g : ℕ → Sent) (x y : Sent) (k : ℕ → Sent) → ((t : ℕ) → f t ≡ g t) → x ≡ y → on_reply r f x k ≡ on_reply r g y k
on_same (Ok t) f g x y k h e = h t
on_same (Err Interrupted) f g x y k h e = e
on_same (Err (Error code)) f g x y k h e = refl

-- of a flush of the buffer: its outcome, the bytes sent, the replies and the calls
pub send_roomy : (l : List ℕ) (left a b sent used writes : ℕ) → left ≤ a → left ≤ b → send_from l left a sent used writes ≡ send_from l left b sent used writes
unfolding send_from
send_roomy [] left a b sent used writes ha hb = refl
send_roomy (n ∷ rest) left a b sent used writes ha hb =
    let ma : min left a ≡ left = omega arith in
    let mb : min left b ≡ left = omega arith in
    rw (ma, mb)
    (ap (λ (f : Sent). pick (eqb left 0) (sent_by (Ok tt) sent used writes) f)
    (on_same (at_most left (reply_of n)) _ _ _ _ _
    (λ t. ap (λ (f : Sent). pick (eqb t 0) (sent_by (Err Zero) sent (used + 1) (writes + 1)) f) (send_roomy rest (left - t) (a - t) (b - t) (sent + t) (used + 1) (writes + 1) (omega arith) (omega arith)))
    (send_roomy rest left a b sent (used + 1) (writes + 1) ha hb)))

-- of a direct write of n bytes: its reply
pub exchange_roomy : (left : List ℕ) (used n a b : ℕ) → n ≤ a → n ≤ b → exchange left used (min n a) ≡ exchange left used (min n b)
exchange_roomy left used n a b ha hb =
    let same : min n a ≡ min n b = omega arith in
    rw same
