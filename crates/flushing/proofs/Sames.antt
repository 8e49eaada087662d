-- No second answer keeps a promise: each public function's promise has one answer, one count of calls, one state and one
-- set of lent bytes.
-- Assumes nothing.
use mathlib.Core.Path.{◌≡◌, sym, ap, ◌∙◌}
use mathlib.Core.Bool.{Bool}
use mathlib.Core.List.{List}
use Prim.Native.Nat.{ℕ, ◌-◌}
use lib.ListN.{length, drop}
use Rattle.std.specs.Prelude.{Result}
use Rattle.laws.specs.Put.{put}
use Rattle.card.specs.declared.Failure.{Failure}
use Rattle.card.specs.declared.limits.Numbers.{Numbers}
use Rattle.card.specs.Answers.{Answer, Said, said, said_done}
use Rattle.card.proofs.Saids.{done_same}
use Rattle.card.proofs.Sames.{one}
use Rattle.flushing.specs.declared.BufWriter.{BufWriter}
use Rattle.flushing.specs.declared.Sent.{Sent}
use Rattle.flushing.specs.World.{Told, Lent, tells, reported, is_ok, world, numbers}
use Rattle.flushing.specs.Send.{send_from}
use Rattle.flushing.specs.Flush.{flush_buf_call}

-- what a call leaves of a writer: its state, its count of calls and every lent byte, in what was lent before
pub record Left (v w x : BufWriter) : Type 0 where
  pub state : w.state ≡ x.state
  pub calls : w.calls ≡ x.calls
  pub storage : w.storage.now ≡ x.storage.now
  pub medium : w.medium.now ≡ x.medium.now
  pub script : w.script ≡ x.script
  pub same_storage : w.storage.ghost_name ≡ x.storage.ghost_name
  pub same_medium : w.medium.ghost_name ≡ x.medium.ghost_name

pub left_one : (p : Told) (a b : Said) (v w x : BufWriter) → Lent v w → Lent v x → tells a w ≡ p → tells b x ≡ p → (a ≡ b) × Left v w x
left_one p a b v w x lw lx ew ex =
    let e : tells a w ≡ tells b x = ew ∙ sym ex in
    let held : w.state.held ≡ x.state.held = ap (λ (t : Told). t.held) e in
    let out : w.state.out ≡ x.state.out = ap (λ (t : Told). t.out) e in
    let used : w.state.used ≡ x.state.used = ap (λ (t : Told). t.used) e in (
      ap (λ (t : Told). t.answer) e,
      record {
        state = λ i. record { held = held i; out = out i; used = used i };
        calls = ap (λ (t : Told). t.calls) e;
        storage = ap (λ (t : Told). t.storage) e;
        medium = ap (λ (t : Told). t.medium) e;
        script = lw.script ∙ sym lx.script;
        same_storage = lw.storage ∙ sym lx.storage;
        same_medium = lw.medium ∙ sym lx.medium;
      },
    )

-- the flush of a writer v: two answers a and b, that leave it w and x
pub flush_buf_one : (v w x : BufWriter) (a b : Result Unit Failure) → Lent v w → Lent v x → tells (said_done a) w ≡ reported (flush_buf_call v.script.now (world v)) → tells (said_done b) x ≡ reported (flush_buf_call v.script.now (world v)) → (a ≡ b) × Left v w x
flush_buf_one v w x a b lw lx ew ex =
    let both = left_one (reported (flush_buf_call v.script.now (world v))) (said_done a) (said_done b) v w x lw lx ew ex in
    (done_same a b both.0, both.1)

-- a run of device writes: the result, and then the medium
pub send_all_one : (script source m : List ℕ) (used out : ℕ) (r q : Sent) (x y : List ℕ) → (r ≡ send_from (drop used script) (length source) (length m - out) 0 used 0) × (x ≡ put m out source r.sent) → (q ≡ send_from (drop used script) (length source) (length m - out) 0 used 0) × (y ≡ put m out source q.sent) → (r ≡ q) × (x ≡ y)
send_all_one script source m used out r q x y e f =
    let same : r ≡ q = e.0 ∙ sym f.0 in
    (same, e.1 ∙ ap (λ (g : Sent). put m out source g.sent) same ∙ sym f.1)

pub numbers_one : (w : BufWriter) (r q : Numbers) → r ≡ numbers w → q ≡ numbers w → r ≡ q
numbers_one w = one (numbers w)

-- whether an answer is an ok
pub succeeded_one : (a : Answer) (r q : Bool) → r ≡ is_ok (said a) → q ≡ is_ok (said a) → r ≡ q
succeeded_one a = one (is_ok (said a))
