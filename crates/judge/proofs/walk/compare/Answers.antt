use mathlib.Core.Path.{refl, sym, ◌∙◌}
use native.Mathlib.Omega.{arith}
use Rattle.std.proofs.lemmas.Bool.{false≢true}
use Rattle.judge.proofs.Walks.{Met, bytes_begin, bytes_fit, bytes_again, bytes_differ, bytes_ends, bytes_never, starts_same}
use Rattle.judge.proofs.walk.compare.Goals as goal
use Rattle.judge.proofs.walk.compare.Goals.{After-split_at}

met : (c : After-split_at) → Met c.args.trace.now c.args.header.now c.loop.counter c.loop.total c.loop.at c.loop.card.now c.loop.answered c.in-Ok.call c.answered_by-taken.result c.min.result
met c = record { walked = c.loop.invariant; reads = sym c.read_call.ensures ∙ c.in-Ok.is; taken_is = c.answered_by-taken.ensures; most = c.min.ensures }

pub loop-init : goal.loop-init
loop-init c = bytes_begin _ _

pub returns-in_default : goal.returns-in_default
returns-in_default c = bytes_never _ _ _ _ _ _ _ _ _ c.loop.invariant (sym c.read_call.ensures ∙ c.in_default.is) c.loop-test.true

pub slice_bounds-starts_with-count : goal.slice_bounds-starts_with-count
slice_bounds-starts_with-count c = (bytes_fit (met (goal.at.slice_bounds-starts_with-count c).After-split_at)).starts

pub slice_bounds-starts_with-start : goal.slice_bounds-starts_with-start
slice_bounds-starts_with-start c = (bytes_fit (met (goal.at.slice_bounds-starts_with-start c).After-split_at)).starts

pub returns-then-not-starts_with : goal.returns-then-not-starts_with
returns-then-not-starts_with c = bytes_differ (met (goal.at.returns-then-not-starts_with c).After-split_at) c.loop-test.true (λ e. false≢true ((starts_same c.args.trace.now _ _ c.in-Ok.call.start _ _ c.if-not-starts_with.ensures.value c.split_at.ensures.front (omega arith)).1 e))

pub overflow_add-total : goal.overflow_add-total
overflow_add-total c = omega (arith, (bytes_fit (met (goal.at.overflow_add-total c).After-split_at)).total_fits)

pub overflow_add-answered : goal.overflow_add-answered
overflow_add-answered c =
    let f = bytes_fit (met (goal.at.overflow_add-answered c).After-split_at) in
    omega (arith, f.total_fits, f.answered_fits)

pub loop-preserved : goal.loop-preserved
loop-preserved c = rw c.split_at.ensures.back (bytes_again (met (goal.at.loop-preserved c).After-split_at) c.loop-test.true ((starts_same c.args.trace.now _ _ c.in-Ok.call.start _ _ c.if-not-starts_with.ensures.value c.split_at.ensures.front (omega arith)).0 refl))

pub returns : goal.returns
returns c = bytes_ends _ _ _ _ _ _ _ c.loop.invariant c.loop-test.false _ _ c.is_empty.ensures c.then_some.ensures
