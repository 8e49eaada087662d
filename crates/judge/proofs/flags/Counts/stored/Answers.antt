use mathlib.Core.Path.{refl, ◌∙◌}
use native.Mathlib.Omega.{arith}
use lib.ListN.{length-set}
use Rattle.judge.proofs.Sets.{land_begins, land_skip}
use Rattle.judge.proofs.Turns.{stored_more, none_stored}
use Rattle.judge.proofs.flags.Counts.stored.Goals as goal
use Rattle.judge.proofs.flags.Counts.stored.Goals.{then-held, else-held}

pub loop-h-init : goal.loop-h-init
loop-h-init c = record { long = refl; landed = land_begins _ _ 1025 _ }

pub loop-h-preserved : goal.loop-h-preserved
loop-h-preserved c =
    elim c.if-held.branch [
      | then-held w ↦
          record {
            long = rw w.new-is (length-set c.loop-h.new _ _ ∙ c.loop-h.invariant.long);
            landed = rw w.new-is (stored_more _ c.args.call.now _ _ _ _ c.if-stores.ensures (omega arith) c.loop-h.invariant.landed w.landing.ensures w.if-held.true);
          }
      | else-held w ↦ record { long = rw w.new-is c.loop-h.invariant.long; landed = rw w.new-is (land_skip _ _ _ _ _ c.loop-h.invariant.landed w.if-held.false) }
    ]

pub returns-else-stores : goal.returns-else-stores
returns-else-stores c = none_stored _ c.args.call.now 1025 _ c.if-stores.ensures
