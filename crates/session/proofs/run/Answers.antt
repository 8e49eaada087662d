-- `session::run` meets its contract. Assumes nothing.
use mathlib.Core.Path.{◌∙◌}
use Prim.Native.Nat.{ℕ}
use lib.ListN.{replicate, length-replicate}
use Rattle.session.proofs.Shows.{replies_in_lem, these_long, the_script}
use Rattle.session.proofs.run.Goals as goal

pub slice_bounds-script-end : goal.slice_bounds-script-end
slice_bounds-script-end c = replies_in_lem _ _ c.requires _ (c.read_replies.auto.script ∙ (length-replicate {A = ℕ} 4096 0))

pub slice_bounds-session-end : goal.slice_bounds-session-end
slice_bounds-session-end c = these_long _ _ c.requires (replicate {A = ℕ} 4096 0) _ (length-replicate {A = ℕ} 4096 0) c.read_replies.ensures

pub invariant_of-session-clause-replies : goal.invariant_of-session-clause-replies
invariant_of-session-clause-replies c = the_script _ _ c.requires (replicate {A = ℕ} 4096 0) _ (length-replicate {A = ℕ} 4096 0) c.read_replies.ensures
