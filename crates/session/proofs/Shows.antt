-- A session's text, from what its parts print.
-- Assumes nothing.
use mathlib.Core.Path.{◌≡◌, refl, sym, ap, ap₂, ◌∙◌}
use mathlib.Core.List.{List, ◌++◌}
use Prim.Native.Nat.{ℕ, ◌≤◌, min}
use native.Mathlib.Omega.{arith}
use lib.ListN.{length, take, drop, replicate, length-drop}
use lib.Seq.{take_all}
use borrow.Author.Tests.{eq-eqb, ne_eqb}
use Rattle.laws.specs.Put.{put}
use Rattle.card.specs.Limits.{bytes_most}
use Rattle.flushing.specs.declared.State.{State}
use Rattle.flushing.specs.World.{world_of, fresh, new}
use Rattle.reader.specs.declared.State.{State as ReaderState}
use Rattle.reader.specs.declared.BufReader.{BufReader}
use Rattle.reader.specs.World as Reader
use Rattle.reader.specs.Buffer as Buffer
use Rattle.std.specs.Prelude.{Ok}
use Rattle.form.specs.declared.Header.{Header}
use Rattle.form.specs.declared.Checked.TheVariants.{Traced}
use Rattle.form.specs.Session.{session, session_of, checked}
use Rattle.form.specs.Replies.{replies_in}
use Rattle.form.specs.Calls.{Asked}
use Rattle.form.proofs.Rests.{Held, held, held_trace, Whole, whole, whole_trace}
use Rattle.form.proofs.Filling.{filled}
use Rattle.text.specs.declared.Page.{Page}
use Rattle.text.specs.Printed.{Printed, printed, written}
use Rattle.text.specs.Lines.{session_line}
use Rattle.text.proofs.Prints.{then, length_printed}
use Rattle.text.proofs.Shows.{place_within}
use Rattle.session.specs.Lines.{lines_of}
use Rattle.session.specs.Writing.{writer_step, writer_ends, writer_text}
use Rattle.session.specs.Reading.{reader_step, reader_ends, reader_text}
use Rattle.session.specs.Session.{Ruled, Shown}
use Rattle.session.specs.Steps.{Lines, Prints, Rules, Passes}
use Rattle.std.proofs.lemmas.List.{take-replicate}

-- ---- what `Session` keeps

-- a session without a fault, with its replies in a script
pub record Ready (t : List ℕ) (header : Header) (script : List ℕ) : Type 0 where
  pub stock : List ℕ
  pub calls : List Asked
  pub is : session_of t ≡ session header script stock calls

pub ready : {t : List ℕ} {header : Header} {script : List ℕ} → Passes t header → script ≡ replies_in t header.replies header.script → Ready t header script
ready {t} {header} {script} e these =
    let h = held (session_of t) header (sym e) in
    let w = whole t header h.replies h.stock h.calls h.is in
    record { stock = h.stock; calls = h.calls; is = h.is ∙ ap (λ (l : List ℕ). session header l h.stock h.calls) (sym (these ∙ w.replies_these)) }

-- ---- the calls of a session

module _ (t : List ℕ) (header : Header) (script : List ℕ) (g : Ready t header script) where
  pub capacity_in : header.capacity ≤ 1024
  capacity_in = (whole t header script g.stock g.calls g.is).capacity_within

  module _ (page after : Page) where
    pub write_lines : (state : State) → state ≡ fresh → Lines t header.kind header.count header.first (λ w call. writer_step header.kind script w call) writer_ends (world_of state (take header.capacity (replicate 1024 0)) (replicate 16384 0)) page after → Lines t header.kind header.count header.first (λ w call. writer_step header.kind script w call) writer_ends (new (replicate header.capacity 0) (replicate bytes_most 0)) page after
    write_lines state e l =
        record {
          prints = λ calls end p.
              l.prints calls end p
              ∙ ap₂ (λ (s : State) (st : List ℕ). written page (lines_of (λ w call. writer_step header.kind script w call) writer_ends (world_of s st (replicate bytes_most 0)) calls)) e (take-replicate header.capacity 1024 0 capacity_in);
        }

    pub read_lines : (r : BufReader) (state : ReaderState) (stock : List ℕ) → Reader.world_of r ≡ Reader.world (take header.capacity (replicate 1024 0)) state → r.script.now ≡ script → r.stock.now ≡ stock → stock ≡ take header.length (drop header.stock t) → state ≡ Buffer.new → Lines t 2 header.count header.first (λ w call. reader_step r.script.now r.stock.now w call) reader_ends (Reader.world_of r) page after → Lines t 2 header.count header.first (λ w call. reader_step script (take header.length (drop header.stock t)) w call) reader_ends (Reader.world (replicate header.capacity 0) Buffer.new) page after
    read_lines r state stock e q u k f l =
        let is : Reader.world_of r ≡ Reader.world (replicate header.capacity 0) Buffer.new =
        e
        ∙ ap₂ (λ (st : List ℕ) (s : ReaderState). Reader.world st s) (take-replicate header.capacity 1024 0 capacity_in) f in
        record {
          prints = λ calls end p.
              l.prints calls end p
              ∙ ap₂ (λ (x : List ℕ) (y : List ℕ). written page (lines_of (λ w call. reader_step x y w call) reader_ends (Reader.world_of r) calls)) q (u ∙ k)
              ∙ ap (λ (z : Reader.World). written page (lines_of (λ w call. reader_step script (take header.length (drop header.stock t)) w call) reader_ends z calls)) is;
        }

  -- the session line is printed first, and then the calls' lines
  module _ (page mid after : Page) (first : mid ≡ written page (session_line header.kind header.capacity)) where
    pub text_write : (header.kind ≡ 2 → ⊥) → Lines t header.kind header.count header.first (λ w call. writer_step header.kind script w call) writer_ends (new (replicate header.capacity 0) (replicate bytes_most 0)) mid after → Prints (session_of t) page after
    unfolding writer_text
    text_write k l =
        let w = whole t header script g.stock g.calls g.is in
        let lines : List ℕ = lines_of (λ w call. writer_step header.kind script w call) writer_ends (new (replicate header.capacity 0) (replicate bytes_most 0)) g.calls in
        record {
          text = writer_text header.kind header.capacity script g.calls;
          right = rw g.is (rw (ne_eqb header.kind 2 k) refl);
          is = l.prints g.calls (length t) w.from ∙ ap (λ (p : Page). written p lines) first ∙ then page (session_line header.kind header.capacity) lines;
        }

    pub text_read : header.kind ≡ 2 → Lines t 2 header.count header.first (λ w call. reader_step script (take header.length (drop header.stock t)) w call) reader_ends (Reader.world (replicate header.capacity 0) Buffer.new) mid after → Prints (session_of t) page after
    unfolding reader_text
    text_read k l =
        let w = whole t header script g.stock g.calls g.is in
        let from = rw k at w.from in
        let lines : List ℕ = lines_of (λ w call. reader_step script g.stock w call) reader_ends (Reader.world (replicate header.capacity 0) Buffer.new) g.calls in
        record {
          text = reader_text header.capacity script g.stock g.calls;
          right = rw g.is (rw (eq-eqb header.kind 2 k) refl);
          is =
              l.prints g.calls (length t) from
              ∙ ap (λ (stock : List ℕ). written mid (lines_of (λ w call. reader_step script stock w call) reader_ends (Reader.world (replicate header.capacity 0) Buffer.new) g.calls)) (sym w.stock_is)
              ∙ ap (λ (p : Page). written p lines) first
              ∙ then page (session_line header.kind header.capacity) lines
              ∙ ap (λ (n : ℕ). written page (session_line n header.capacity ++ lines)) k;
        }

-- ---- its replies

module _ (t : List ℕ) (header : Header) (good : Passes t header) where
  g : Held (session_of t) header
  g = held (session_of t) header (sym good)

  w : Whole t header g.replies g.stock g.calls
  w = whole t header g.replies g.stock g.calls g.is

  pub replies_in_lem : (k : ℕ) → k ≡ 4096 → header.replies ≤ k
  replies_in_lem k e = let m = w.replies_most in omega arith

  module _ (lent script : List ℕ) (room : length lent ≡ 4096) (e : script ≡ put lent 0 (replies_in t header.replies header.script) (min (length (replies_in t header.replies header.script)) (length lent))) where
    these : take header.replies script ≡ g.replies
    these =
        let m = w.replies_most in
        filled t header.replies header.script lent script g.replies e w.replies_these w.replies_count (omega arith)

    pub these_long : header.replies ≡ length (take header.replies script)
    these_long = sym (ap (λ (l : List ℕ). length l) these ∙ w.replies_count)

    pub the_script : take header.replies script ≡ replies_in t header.replies header.script
    the_script = these ∙ sym w.replies_these

-- ---- the whole

pub prints_trace : (t : List ℕ) (start : ℕ) (trace : List ℕ) (page after : Page) → Ok (Traced start) ≡ checked (session_of t) → trace ≡ take (length t) (drop start t) → Rules trace page after → Prints (session_of t) page after
prints_trace t start trace page after e p u =
    let h = held_trace (session_of t) start e in
    let w = whole_trace t start h.trace h.is in
    let long : length (drop start t) ≤ length t = omega (arith, length-drop start t) in
    let same : trace ≡ h.trace = p ∙ take_all (length t) (drop start t) long ∙ sym w.is in
    let right = rw same at u.right in
    record { text = u.text; right = rw h.is right; is = u.is }

-- ---- the output that is lent as a page

pub shown : (t output : List ℕ) (r : ℕ) (o : List ℕ) (page after : Page) → Prints (session_of t) page after → page.bytes.now ≡ output → page.at ≡ 0 → o ≡ after.bytes.now → r ≡ after.at → Shown t output r o
unfolding written
shown t output r o page after p b a e f =
    record {
      text = p.text;
      right = p.right;
      is =
          rw (e, f)
          (ap (λ (q : Page). record { output = q.bytes.now; at = q.at }) p.is
          ∙ ap₂ (λ (x : List ℕ) (k : ℕ). printed x k p.text) b a);
    }

pub ruled : (trace output : List ℕ) (r : ℕ) (o : List ℕ) (page after : Page) → Rules trace page after → page.bytes.now ≡ output → page.at ≡ 0 → o ≡ after.bytes.now → r ≡ after.at → Ruled trace output r o
unfolding written
ruled trace output r o page after p b a e f =
    record {
      text = p.text;
      right = p.right;
      is =
          rw (e, f)
          (ap (λ (q : Page). record { output = q.bytes.now; at = q.at }) p.is
          ∙ ap₂ (λ (x : List ℕ) (k : ℕ). printed x k p.text) b a);
    }

-- ---- where it ends

place_in : (output text : List ℕ) (r : ℕ) (o : List ℕ) → record { output = o; at = r } ≡ printed output 0 text → r ≤ length o
place_in output text r o e =
    let at : r ≡ (printed output 0 text).at = ap (λ (p : Printed). p.at) e in
    let long : length o ≡ length output = ap (λ (p : Printed). length p.output) e ∙ length_printed output 0 text in
    let within = place_within output 0 text (omega arith) in
    omega arith

pub ends_in : (t output : List ℕ) (r : ℕ) (o : List ℕ) → Shown t output r o → r ≤ length o
ends_in t output r o s = place_in output s.text r o s.is
