use mathlib.Core.Path.{◌∙◌}
use native.Mathlib.Omega.{arith}
use Rattle.card.proofs.Replies.{because}
use Rattle.flushing.proofs.Turn.{begins, ends_done, accepted, accepted_less, within, ends_zero, interrupted, interrupted_less, ends_failed}
use Rattle.flushing.proofs.send.send_all.Goals as goal

pub loop-sent-init : goal.loop-sent-init
loop-sent-init c = begins _ _ _ _ _

pub overflow_add-sent : goal.overflow_add-sent
overflow_add-sent c =
    let h = within _ _ _ _ _ _ _ _ _ c.loop-sent.invariant _ _ c.write-e.ensures.0 c.write-e.ensures.1 c.if-source-sent.false _ c.in-Ok.is in
    omega (arith, h.0)

pub loop-sent-smaller-in-Ok : goal.loop-sent-smaller-in-Ok
loop-sent-smaller-in-Ok c = accepted_less _ _ _ _ _ _ _ _ _ c.loop-sent.invariant _ _ c.write-e.ensures.0 c.write-e.ensures.1 c.if-source-sent.false _ c.in-Ok.is

pub loop-sent-preserved-in-Ok : goal.loop-sent-preserved-in-Ok
loop-sent-preserved-in-Ok c = accepted _ _ _ _ _ _ _ _ _ c.loop-sent.invariant _ _ c.write-e.ensures.0 c.write-e.ensures.1 c.if-source-sent.false _ c.in-Ok.is c.if-n-eq0.false

pub loop-sent-smaller : goal.loop-sent-smaller
loop-sent-smaller c = interrupted_less _ _ _ _ _ _ _ _ _ c.loop-sent.invariant _ _ c.write-e.ensures.0 c.write-e.ensures.1 c.if-source-sent.false (because _ _ _ c.in-Err.is c.in-Interrupted.is)

pub loop-sent-preserved : goal.loop-sent-preserved
loop-sent-preserved c = interrupted _ _ _ _ _ _ _ _ _ c.loop-sent.invariant _ _ c.write-e.ensures.0 c.write-e.ensures.1 c.if-source-sent.false (because _ _ _ c.in-Err.is c.in-Interrupted.is)

pub shape_of-medium-then-source-sent : goal.shape_of-medium-then-source-sent
shape_of-medium-then-source-sent c = c.loop-sent.invariant.long

pub returns-then-source-sent : goal.returns-then-source-sent
returns-then-source-sent c = ends_done _ _ _ _ _ _ _ _ _ c.loop-sent.invariant c.if-source-sent.true

pub shape_of-medium-then-n-eq0 : goal.shape_of-medium-then-n-eq0
shape_of-medium-then-n-eq0 c = c.write-e.auto.medium ∙ c.loop-sent.invariant.long

pub returns-then-n-eq0 : goal.returns-then-n-eq0
returns-then-n-eq0 c = ends_zero _ _ _ _ _ _ _ _ _ c.loop-sent.invariant _ _ c.write-e.ensures.0 c.write-e.ensures.1 c.if-source-sent.false _ c.in-Ok.is c.if-n-eq0.true

pub shape_of-medium-in-Error : goal.shape_of-medium-in-Error
shape_of-medium-in-Error c = c.write-e.auto.medium ∙ c.loop-sent.invariant.long

pub returns-in-Error : goal.returns-in-Error
returns-in-Error c = ends_failed _ _ _ _ _ _ _ _ _ c.loop-sent.invariant _ _ c.write-e.ensures.0 c.write-e.ensures.1 c.if-source-sent.false _ (because _ _ _ c.in-Err.is c.in-Error.is)
