use native.Mathlib.Omega.{arith}
use Rattle.numbers.proofs.Groups.{second, again, weight_fits}
use Rattle.numbers.proofs.read_groups.Goals as goal

pub loop-place-preserved : goal.loop-place-preserved
loop-place-preserved c = again c.loop-place.invariant c.loop-place-test.true (second c.else-left-eq1.either) c.requires c.if-byte-lt128.false (omega (arith, c.type_inv.bytes c.loop-place.place))

pub overflow_mul-weight : goal.overflow_mul-weight
overflow_mul-weight c =
    let next = loop-place-preserved c in
    omega (arith, weight_fits c.requires next)
