-- `form::whole::check` meets its contract. Assumes nothing.
use mathlib.Core.Path.{sym, ◌∙◌}
use native.Mathlib.Omega.{arith}
use Rattle.std.proofs.Common.{rules}
use borrow.Author.Tests.{lt-ltb, le-ltb}
use Rattle.numbers.proofs.Most.{handed_on}
use Rattle.form.specs.Session.{calls_of, count_at, stock_at, script_at}
use Rattle.form.proofs.Skipping.{replies_skipped, calls_skipped}
use Rattle.form.proofs.Steps.{passed, halted, to_script, to_stock, to_calls}
use Rattle.form.proofs.whole.check.Goals as goal

pub returns-in_err-at : goal.returns-in_err-at
unfolding script_at
returns-in_err-at c =
    let replies = replies_skipped c.args.session.now 18446744073709551615 (omega arith) c.in_ok-replies.replies c.in_ok-replies.script _ (omega arith) _ (λ at x h p. search rules) c.in_err-at.ensures in
    rw (to_script _ _ _ c.if-session-gt-SESSION_MOST.false (sym c.read_most.ensures ∙ c.in_ok-kind.was) c.if-kind-eq-TRACE.false _ _ _ _ (sym c.read_most-2.ensures ∙ c.in_ok-capacity.was) (sym c.read_most-3.ensures ∙ c.in_ok-replies.was), halted _ _ (sym replies)) (handed_on _ _ c.from_residual-in_err-at.ensures.1)

pub returns-in_err-length : goal.returns-in_err-length
unfolding stock_at
returns-in_err-length c =
    let replies = replies_skipped c.args.session.now 18446744073709551615 (omega arith) c.in_ok-replies.replies c.in_ok-replies.script _ (omega arith) _ (λ at x h p. search rules) c.in_ok-at.ensures in
    rw (to_stock _ _ _ c.if-session-gt-SESSION_MOST.false (sym c.read_most.ensures ∙ c.in_ok-kind.was) c.if-kind-eq-TRACE.false _ _ _ _ (sym c.read_most-2.ensures ∙ c.in_ok-capacity.was) (sym c.read_most-3.ensures ∙ c.in_ok-replies.was) _ (sym replies), sym c.read_stock.ensures ∙ c.in_err-length.was) (handed_on _ _ c.from_residual-in_err-length.ensures.1)

pub returns-in_err-count : goal.returns-in_err-count
unfolding stock_at count_at
returns-in_err-count c =
    let replies = replies_skipped c.args.session.now 18446744073709551615 (omega arith) c.in_ok-replies.replies c.in_ok-replies.script _ (omega arith) _ (λ at x h p. search rules) c.in_ok-at.ensures in
    rw (to_stock _ _ _ c.if-session-gt-SESSION_MOST.false (sym c.read_most.ensures ∙ c.in_ok-kind.was) c.if-kind-eq-TRACE.false _ _ _ _ (sym c.read_most-2.ensures ∙ c.in_ok-capacity.was) (sym c.read_most-3.ensures ∙ c.in_ok-replies.was) _ (sym replies), sym c.read_stock.ensures ∙ c.in_ok-length.was, sym c.read_most-4.ensures ∙ c.in_err-count.was) (handed_on _ _ c.from_residual-in_err-count.ensures.1)

pub returns-in_err-end : goal.returns-in_err-end
unfolding calls_of
returns-in_err-end c =
    let replies = replies_skipped c.args.session.now 18446744073709551615 (omega arith) c.in_ok-replies.replies c.in_ok-replies.script _ (omega arith) _ (λ at x h p. search rules) c.in_ok-at.ensures in
    let calls = calls_skipped c.args.session.now 18446744073709551615 (omega arith) c.in_ok-count.count c.in_ok-count.first _ (omega arith) c.in_ok-kind.kind _ (λ at x h p. search rules) c.in_err-end.ensures in
    rw (to_calls _ _ _ c.if-session-gt-SESSION_MOST.false (sym c.read_most.ensures ∙ c.in_ok-kind.was) c.if-kind-eq-TRACE.false _ _ _ _ (sym c.read_most-2.ensures ∙ c.in_ok-capacity.was) (sym c.read_most-3.ensures ∙ c.in_ok-replies.was) _ (sym replies) _ _ _ _ (sym c.read_stock.ensures ∙ c.in_ok-length.was) (sym c.read_most-4.ensures ∙ c.in_ok-count.was), halted _ _ (sym calls)) (handed_on _ _ c.from_residual-in_err-end.ensures.1)

pub returns-then-end-session : goal.returns-then-end-session
unfolding calls_of
returns-then-end-session c =
    let replies = replies_skipped c.args.session.now 18446744073709551615 (omega arith) c.in_ok-replies.replies c.in_ok-replies.script _ (omega arith) _ (λ at x h p. search rules) c.in_ok-at.ensures in
    let calls = calls_skipped c.args.session.now 18446744073709551615 (omega arith) c.in_ok-count.count c.in_ok-count.first _ (omega arith) c.in_ok-kind.kind _ (λ at x h p. search rules) c.in_ok-end.ensures in
    rw (to_calls _ _ _ c.if-session-gt-SESSION_MOST.false (sym c.read_most.ensures ∙ c.in_ok-kind.was) c.if-kind-eq-TRACE.false _ _ _ _ (sym c.read_most-2.ensures ∙ c.in_ok-capacity.was) (sym c.read_most-3.ensures ∙ c.in_ok-replies.was) _ (sym replies) _ _ _ _ (sym c.read_stock.ensures ∙ c.in_ok-length.was) (sym c.read_most-4.ensures ∙ c.in_ok-count.was), (passed _ _ (sym calls)).is, lt-ltb _ _ c.if-end-session.true)

pub returns : goal.returns
unfolding calls_of
returns c =
    let replies = replies_skipped c.args.session.now 18446744073709551615 (omega arith) c.in_ok-replies.replies c.in_ok-replies.script _ (omega arith) _ (λ at x h p. search rules) c.in_ok-at.ensures in
    let calls = calls_skipped c.args.session.now 18446744073709551615 (omega arith) c.in_ok-count.count c.in_ok-count.first _ (omega arith) c.in_ok-kind.kind _ (λ at x h p. search rules) c.in_ok-end.ensures in
    rw (to_calls _ _ _ c.if-session-gt-SESSION_MOST.false (sym c.read_most.ensures ∙ c.in_ok-kind.was) c.if-kind-eq-TRACE.false _ _ _ _ (sym c.read_most-2.ensures ∙ c.in_ok-capacity.was) (sym c.read_most-3.ensures ∙ c.in_ok-replies.was) _ (sym replies) _ _ _ _ (sym c.read_stock.ensures ∙ c.in_ok-length.was) (sym c.read_most-4.ensures ∙ c.in_ok-count.was), (passed _ _ (sym calls)).is, le-ltb _ _ c.if-end-session.false)
