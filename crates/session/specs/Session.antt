-- Module 6, the bench program's text for an input.
-- Assumes nothing.
use Rattle.std.specs.Prelude.{ℕ, ◌≡◌, List, Result, Ok, Err, eqb}
use Rattle.laws.specs.Pick.{pick}
use Rattle.numbers.specs.declared.Fault.{Fault}
use Rattle.trace.specs.Trace.{trace_of}
use Rattle.judge.specs.declared.Verdict.{Verdict}
use Rattle.judge.specs.declared.Verdict.TheVariants.{Possible, Impossible}
use Rattle.judge.specs.Judge.{Judged}
use Rattle.form.specs.Session.{Parsed, fault, traced, session, session_of}
use Rattle.text.specs.Printed.{printed}
use Rattle.text.specs.Lines.{judge_possible, judge_impossible, judge_refused, session_refused}
use Rattle.session.specs.Writing.{writer_text}
use Rattle.session.specs.Reading.{reader_text}

-- "Kind 3 prints one line"
abbrev pub verdict_line : Result Verdict Fault → List ℕ
verdict_line (Ok Possible) = judge_possible
verdict_line (Ok Impossible) = judge_impossible
verdict_line (Err e) = judge_refused e.place

-- the verdict that the judge promises, and its line
pub record JudgeText (trace text : List ℕ) : Type 0 where
  pub verdict : Result Verdict Fault
  pub judged : Judged (trace_of trace) verdict
  pub is : text ≡ verdict_line verdict

-- The judge's line stands at the front of the output, cut where the output ends, and r is where it ends
pub record Ruled (trace output : List ℕ) (r : ℕ) (after : List ℕ) : Type 0 where
  pub text : List ℕ
  pub right : JudgeText trace text
  pub is : record { output = after; at = r } ≡ printed output 0 text

-- The text of what a session says. "A bad session prints only `refused 6 at P`"
abbrev pub TextOf : Parsed → List ℕ → Type 0
TextOf (fault place) text = text ≡ session_refused place
TextOf (traced start trace) text = JudgeText trace text
TextOf (session header replies stock calls) text =
    text ≡ pick (eqb header.kind 2) (reader_text header.capacity replies stock calls) (writer_text header.kind header.capacity replies calls)

-- The session's text stands at the front of the output, cut where the output ends, and r is where it ends
pub record Shown (input output : List ℕ) (r : ℕ) (after : List ℕ) : Type 0 where
  pub text : List ℕ
  pub right : TextOf (session_of input) text
  pub is : record { output = after; at = r } ≡ printed output 0 text
