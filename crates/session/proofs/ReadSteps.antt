-- A reader's session: one call.
-- Assumes nothing.
use mathlib.Core.Path.{◌≡◌, refl, sym, ap, ap₂, ◌∙◌}
use mathlib.Core.Logic.{◌⊎◌, inl, inr}
use mathlib.Core.List.{List, []}
use Prim.Native.Nat.{ℕ}
use lib.ListN.{take}
use Rattle.std.specs.Prelude.{Option, Ok, Err, Some, None, unwrap_or}
use Rattle.card.specs.declared.Failure.{Failure}
use Rattle.card.specs.declared.Failure.TheVariants.{Interrupted, Zero, Whole, Error, Refused}
use Rattle.card.specs.Answers.{Said, Answer, said, failed}
use Rattle.reader.specs.declared.BufReader.{BufReader}
use Rattle.reader.specs.World.{Lent, World, Called, Reading, world_of, called, reading}
use Rattle.reader.specs.Buffer as Buffer
use Rattle.reader.specs.Reader as Reader
use Rattle.form.specs.declared.Call.{Call}
use Rattle.form.specs.declared.Call.TheVariants.{Write, WriteAll, Flush, Read as ReadCall, Peek as PeekCall, Consume as ConsumeCall, Seek, Fill as FillCall}
use Rattle.numbers.specs.Number.{found}
use Rattle.form.specs.Calls.{Asked, asked, call_at}
use Rattle.form.proofs.Within.{Fits, within}
use Rattle.text.specs.declared.Name.{Name}
use Rattle.text.specs.declared.Name.TheVariants.{Read}
use Rattle.text.specs.declared.Page.{Page}
use Rattle.text.specs.Printed.{written}
use Rattle.text.specs.Lines.{reader_line, reader_end}
use Rattle.session.specs.Reading.{shown_by, stepped, read_step, reader_step, reader_ends}
use Rattle.session.specs.Lines.{Step}
use Rattle.session.specs.Steps.{Steps, Shows, Runs}

-- ---- how many bytes an answer shows

-- the count after ok, if there is one
shows_option : (o : Option ℕ) (bytes : List ℕ) → take (unwrap_or o 0) bytes ≡ shown_by (said (Ok o)) bytes
unfolding shown_by
shows_option (Some n) bytes = refl
shows_option None bytes = refl

pub shows_ok : (answer : Answer) (o : Option ℕ) (n : ℕ) → answer ≡ Ok o → n ≡ unwrap_or o 0 → Shows (said answer) n
shows_ok answer o n e q = record { shows = λ bytes. rw (e, q) (shows_option o bytes) }

shows_no_byte : (f : Failure) (bytes : List ℕ) → take 0 bytes ≡ shown_by (failed f) bytes
unfolding shown_by
shows_no_byte Interrupted bytes = refl
shows_no_byte Zero bytes = refl
shows_no_byte Whole bytes = refl
shows_no_byte (Error code) bytes = refl
shows_no_byte (Refused number) bytes = refl

pub shows_failed : (answer : Answer) (f : Failure) → answer ≡ Err f → Shows (said answer) 0
shows_failed answer f e = record { shows = λ bytes. rw e (shows_no_byte f bytes) }

-- ---- one call

pub line_is : (page after : Page) (name : Name) (answer : Answer) (r : BufReader) (bytes shown : List ℕ) (n : ℕ) → Shows (said answer) n → shown ≡ take n bytes → after ≡ written page (reader_line name (said answer) r.calls r.state.pos r.state.filled shown) → Steps (stepped name (called (said answer) r) bytes) page after (world_of r)
unfolding stepped
line_is page after name answer r bytes shown n s h p =
    record {
      prints = p ∙ ap (λ (l : List ℕ). written page (reader_line name (said answer) r.calls r.state.pos r.state.filled l)) (h ∙ s.shows bytes);
      leaves = refl;
    }

-- the same step, another way to say it
pub same_step : (s t : Step World) (page after : Page) (v : World) → s ≡ t → Steps t page after v → Steps s page after v
same_step s t page after v e p = record { prints = p.prints ∙ ap (λ (z : Step World). written page z.line) (sym e); leaves = p.leaves ∙ ap (λ (z : Step World). z.world) (sym e) }

-- a call that answers a, whose line says the answer
module _ (page after : Page) (answer : Answer) (a : Said) (k : said answer ≡ a) (r : BufReader) where
  pub read_is : (x : Reading) (destination : List ℕ) → reading a r destination ≡ x → Steps (stepped Read (called (said answer) r) destination) page after (world_of r) → Steps (read_step x) page after (world_of r)
  unfolding read_step
  read_is x destination e p = same_step _ _ page after (world_of r) (ap (λ (z : Reading). read_step z) (sym e) ∙ ap (λ (y : Said). stepped Read (called y r) destination) (sym k)) p

  module _ (s : Step World) (c : Called) (q : called a r ≡ c) where
    pub call_is : (name : Name) (show : Called → List ℕ) (bytes : List ℕ) → s ≡ stepped name c (show c) → bytes ≡ show (called a r) → Steps (stepped name (called (said answer) r) bytes) page after (world_of r) → Steps s page after (world_of r)
    call_is name show bytes e b p = same_step _ _ page after (world_of r) (e ∙ ap (λ (z : Called). stepped name z (show z)) (sym q) ∙ ap₂ (λ (y : Said) (l : List ℕ). stepped name (called y r) l) (sym k) (sym b)) p

-- another destination of the same bytes
pub ap_steps : (script stock d d' : List ℕ) (w : World) (page after : Page) {v : World} → d ≡ d' → Steps (read_step (Reader.read script stock d w)) page after v → Steps (read_step (Reader.read script stock d' w)) page after v
ap_steps script stock d d' w page after {v} e p = same_step _ _ page after v (ap (λ (l : List ℕ). read_step (Reader.read script stock l w)) (sym e)) p

-- a writer's call
pub idle : (script stock : List ℕ) (w : World) (t : List ℕ) (call : Call) → ((start : ℕ) × (n : ℕ) × (call ≡ Write start n)) ⊎ (((start : ℕ) × (n : ℕ) × (call ≡ WriteAll start n)) ⊎ (call ≡ Flush)) → reader_step script stock w (asked t call) ≡ record { line = []; world = w }
unfolding reader_step
idle script stock w t call (inl (start, n, e)) = ap (λ (x : Call). reader_step script stock w (asked t x)) e
idle script stock w t call (inr (inl (start, n, e))) = ap (λ (x : Call). reader_step script stock w (asked t x)) e
idle script stock w t call (inr (inr e)) = ap (λ (x : Call). reader_step script stock w (asked t x)) e

-- ---- what a call that was read is

of_fits : (t : List ℕ) (call : Call) → Fits t 2 call → Runs (asked t call)
of_fits t (Write start n) h = tt
of_fits t (WriteAll start n) h = tt
of_fits t Flush h = tt
of_fits t (ReadCall n) h = h.1
of_fits t (PeekCall n) h = tt
of_fits t (ConsumeCall n) h = tt
of_fits t (Seek back size) h = record { most = h.1.0; least = h.1.1 }
of_fits t FillCall h = tt

pub runs : (t : List ℕ) (at : ℕ) (call : Call) (place : ℕ) → call_at t 2 at ≡ found call place → Runs (asked t call)
runs t at call place q = of_fits t call (within t 2 at call place q).fits

-- ---- the end line

-- what is lent stays lent, so the calls of a session use one script and one stock
pub lent_on : (u v w : BufReader) → Lent u v → Lent v w → Lent u w
lent_on u v w a b = record { storage = b.storage ∙ a.storage; script = b.script ∙ a.script; stock = b.stock ∙ a.stock }

pub same_lent : (u v : BufReader) → Lent u v → (w x : World) (call : Asked) (page after : Page) → Steps (reader_step v.script.now v.stock.now w call) page after x → Steps (reader_step u.script.now u.stock.now w call) page after x
same_lent u v a w x call page after p = rw (← a.script, ← a.stock) p

pub ends_text : (r : BufReader) (held : List ℕ) → held ≡ Buffer.shown (Buffer.count r.state) (world_of r) → reader_end held r.state.taken ≡ reader_ends (world_of r)
unfolding reader_ends
ends_text r held h = ap (λ (l : List ℕ). reader_end l r.state.taken) h
