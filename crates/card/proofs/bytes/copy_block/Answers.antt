-- `card::bytes::copy_block` meets its contract. Assumes nothing.
use mathlib.Core.Path.{◌∙◌}
use native.Mathlib.Omega.{arith}
use Rattle.laws.proofs.Puts.{put_mid_is}
use Rattle.card.proofs.bytes.copy_block.Goals as goal

pub returns : goal.returns
returns g c = put_mid_is _ _ _ _ _ _ _ (c.copy_from_slice-2.ensures.after ∙ c.copy_from_slice.ensures.after) (omega arith) (omega arith)
