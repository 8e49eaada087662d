-- A writer's session: one call.
-- Assumes nothing.
use mathlib.Core.Path.{◌≡◌, sym, ap, ap₂, ◌∙◌}
use mathlib.Core.Logic.{◌⊎◌, inl, inr}
use mathlib.Core.Bool.{Bool}
use mathlib.Core.List.{List, []}
use Prim.Native.Nat.{ℕ}
use lib.ListN.{take}
use borrow.Author.Tests.{eq-eqb, ne_eqb}
use Rattle.card.specs.Answers.{Said, Answer, said}
use Rattle.flushing.specs.declared.BufWriter.{BufWriter}
use Rattle.flushing.specs.World.{World, Told, Lent, world, tells, reported}
use Rattle.writer.specs.Writer.{write_call, write_all_call}
use Rattle.line.specs.Line.{line_write_call, line_write_all_call}
use Rattle.form.specs.declared.Call.{Call}
use Rattle.form.specs.declared.Call.TheVariants.{Read, Peek, Consume, Seek, Fill}
use Rattle.form.specs.Calls.{Asked, asked}
use Rattle.text.specs.declared.Name.{Name}
use Rattle.text.specs.declared.Page.{Page}
use Rattle.text.specs.Printed.{written}
use Rattle.text.specs.Lines.{writer_line, writer_end}
use Rattle.session.specs.Writing.{told_write, told_write_all, stepped, writer_step, writer_ends}
use Rattle.session.specs.Lines.{Step}
use Rattle.session.specs.Steps.{Steps}

-- ---- which writer

module _ (kind : ℕ) (script : List ℕ) (w : World) (s : List ℕ) (t : Told) where
  pub line_write_is : t ≡ reported (line_write_call script w s) → kind ≡ 1 → t ≡ told_write kind script w s
  unfolding told_write
  line_write_is q h = rw (eq-eqb kind 1 h) q

  pub write_is : t ≡ reported (write_call script w s) → (kind ≡ 1 → ⊥) → t ≡ told_write kind script w s
  unfolding told_write
  write_is q h = rw (ne_eqb kind 1 h) q

  pub line_write_all_is : t ≡ reported (line_write_all_call script w s) → kind ≡ 1 → t ≡ told_write_all kind script w s
  unfolding told_write_all
  line_write_all_is q h = rw (eq-eqb kind 1 h) q

  pub write_all_is : t ≡ reported (write_all_call script w s) → (kind ≡ 1 → ⊥) → t ≡ told_write_all kind script w s
  unfolding told_write_all
  write_all_is q h = rw (ne_eqb kind 1 h) q

-- ---- one call

-- a call that told this and left the writer so, and its line
pub steps : (s : Step World) (page after : Page) (name : Name) (t : Told) (answer : Answer) (a : Said) (w : BufWriter) → s ≡ stepped name t → said answer ≡ a → tells a w ≡ t → after ≡ written page (writer_line name (said answer) w.calls w.state.held w.state.out) → Steps s page after (world w)
unfolding stepped
steps s page after name t answer a w e k q p =
    let is = e ∙ ap (λ (u : Told). stepped name u) (sym q) in
    record {
      prints = p ∙ ap (λ (x : Said). written page (writer_line name x w.calls w.state.held w.state.out)) k ∙ ap (λ (z : Step World). written page z.line) (sym is);
      leaves = ap (λ (z : Step World). z.world) (sym is);
    }

-- a reader's call
pub idle : (kind : ℕ) (script : List ℕ) (w : World) (t : List ℕ) (call : Call) → ((n : ℕ) × (call ≡ Read n)) ⊎ (((n : ℕ) × (call ≡ Peek n)) ⊎ (((n : ℕ) × (call ≡ Consume n)) ⊎ (((back : Bool) × (size : ℕ) × (call ≡ Seek back size)) ⊎ (call ≡ Fill)))) → writer_step kind script w (asked t call) ≡ record { line = []; world = w }
unfolding writer_step
idle kind script w t call (inl (n, e)) = ap (λ (x : Call). writer_step kind script w (asked t x)) e
idle kind script w t call (inr (inl (n, e))) = ap (λ (x : Call). writer_step kind script w (asked t x)) e
idle kind script w t call (inr (inr (inl (n, e)))) = ap (λ (x : Call). writer_step kind script w (asked t x)) e
idle kind script w t call (inr (inr (inr (inl (back, size, e))))) = ap (λ (x : Call). writer_step kind script w (asked t x)) e
idle kind script w t call (inr (inr (inr (inr e)))) = ap (λ (x : Call). writer_step kind script w (asked t x)) e

-- ---- the end line

-- what is lent stays lent, so the calls of a session use one script
pub lent_on : (u v w : BufWriter) → Lent u v → Lent v w → Lent u w
lent_on u v w a b = record { storage = b.storage ∙ a.storage; medium = b.medium ∙ a.medium; script = b.script ∙ a.script }

pub same_lent : (kind : ℕ) (u v : BufWriter) → Lent u v → (w x : World) (call : Asked) (page after : Page) → Steps (writer_step kind v.script.now w call) page after x → Steps (writer_step kind u.script.now w call) page after x
same_lent kind u v a w x call page after p = rw (← a.script) p

pub ends_text : (w : BufWriter) (held out : List ℕ) → held ≡ take w.state.held w.storage.now → out ≡ take w.state.out w.medium.now → writer_end held out ≡ writer_ends (world w)
unfolding writer_ends
ends_text w held out ph po = ap₂ (λ (a b : List ℕ). writer_end a b) ph po
