-- No second answer keeps a promise: each promise of this crate is an equation for the result and for every byte that the
-- function may change.
-- Assumes nothing.
use mathlib.Core.Path.{◌≡◌, refl, sym, ap, ◌∙◌}
use mathlib.Core.List.{List}
use Prim.Native.Nat.{ℕ, ◌-◌, min}
use lib.Dec.{eqb}
use lib.ListN.{length, drop}
use Rattle.std.specs.Prelude.{Result, Ok, Err}
use Rattle.laws.specs.Pick.{pick}
use Rattle.laws.specs.Put.{put}
use Rattle.card.specs.declared.limits.Refusal.{Refusal}
use Rattle.card.specs.declared.limits.Refusal.TheVariants.{Capacity, Length, Peek, Seek, Device, State}
use Rattle.card.specs.declared.Exchange.{Exchange}
use Rattle.card.specs.declared.Failure.{Failure}
use Rattle.card.specs.Answers.{Answer, said, said_count, said_done}
use Rattle.card.proofs.Saids.{said_same}
use Rattle.card.specs.Device.{Reply, at_most, exchange, moves}
use Rattle.card.specs.Limits.{refusal_of, length_refusal, refusal_number, refusal_by}

-- two results that are both the promised one
pub one {ℓ} : {A : Type ℓ} (p r q : A) → r ≡ p → q ≡ p → r ≡ q
one p r q e f = e ∙ sym f

-- ---- copies

pub least_one : (a b r q : ℕ) → r ≡ min a b → q ≡ min a b → r ≡ q
least_one a b = one (min a b)

pub left_one : (n at r q : ℕ) → r ≡ n - at → q ≡ n - at → r ≡ q
left_one n at = one (n - at)

pub copy_one : (d : List ℕ) (at : ℕ) (s : List ℕ) (n : ℕ) (x y : List ℕ) → x ≡ put d at s (min n (min (length s) (length d - at))) → y ≡ put d at s (min n (min (length s) (length d - at))) → x ≡ y
copy_one d at s n = one (put d at s (min n (min (length s) (length d - at))))

pub shift_one : (d : List ℕ) (from to : ℕ) (x y : List ℕ) → x ≡ put d 0 (drop from d) (min to (length d) - from) → y ≡ put d 0 (drop from d) (min to (length d) - from) → x ≡ y
shift_one d from to = one (put d 0 (drop from d) (min to (length d) - from))

-- ---- the device

pub moved_one : (reply : Reply) (r q : ℕ) → r ≡ moves reply → q ≡ moves reply → r ≡ q
moved_one reply = one (moves reply)

pub cut_one : (reply : Reply) (most : ℕ) (r q : Reply) → r ≡ at_most most reply → q ≡ at_most most reply → r ≡ q
cut_one reply most = one (at_most most reply)

-- a call that pastes what its reply moves
pasted_one : (p r q : Exchange) (d : List ℕ) (at : ℕ) (s x y : List ℕ) → (r ≡ p) × (x ≡ put d at s (moves r.reply)) → (q ≡ p) × (y ≡ put d at s (moves q.reply)) → (r ≡ q) × (x ≡ y)
pasted_one p r q d at s x y e f =
    let same : r ≡ q = one p r q e.0 f.0 in
    (same, e.1 ∙ ap (λ (c : Exchange). put d at s (moves c.reply)) same ∙ sym f.1)

pub write_one : (script : List ℕ) (used : ℕ) (offered medium : List ℕ) (out : ℕ) (r q : Exchange) (x y : List ℕ) → (r ≡ exchange (drop used script) used (min (length offered) (length medium - out))) × (x ≡ put medium out offered (moves r.reply)) → (q ≡ exchange (drop used script) used (min (length offered) (length medium - out))) × (y ≡ put medium out offered (moves q.reply)) → (r ≡ q) × (x ≡ y)
write_one script used offered medium out r q = pasted_one (exchange (drop used script) used (min (length offered) (length medium - out))) r q medium out offered

pub read_one : (script : List ℕ) (used : ℕ) (room stock : List ℕ) (taken : ℕ) (r q : Exchange) (x y : List ℕ) → (r ≡ exchange (drop used script) used (min (length room) (length stock - taken))) × (x ≡ put room 0 (drop taken stock) (moves r.reply)) → (q ≡ exchange (drop used script) used (min (length room) (length stock - taken))) × (y ≡ put room 0 (drop taken stock) (moves q.reply)) → (r ≡ q) × (x ≡ y)
read_one script used room stock taken r q = pasted_one (exchange (drop used script) used (min (length room) (length stock - taken))) r q room 0 (drop taken stock)

pub flush_one : (script : List ℕ) (used : ℕ) (r q : Exchange) → r ≡ exchange (drop used script) used 0 → q ≡ exchange (drop used script) used 0 → r ≡ q
flush_one script used = one (exchange (drop used script) used 0)

-- ---- answers

pub counted_one : (a : Result ℕ Failure) (r q : Answer) → said r ≡ said_count a → said q ≡ said_count a → r ≡ q
counted_one a r q e f = said_same r q (e ∙ sym f)

pub uncounted_one : (a : Result Unit Failure) (r q : Answer) → said r ≡ said_done a → said q ≡ said_done a → r ≡ q
uncounted_one a r q e f = said_same r q (e ∙ sym f)

-- ---- the limits

pub refusal_one : (capacity script device pos filled moved used own r q : ℕ) → r ≡ refusal_of capacity script device pos filled moved used own → q ≡ refusal_of capacity script device pos filled moved used own → r ≡ q
refusal_one capacity script device pos filled moved used own = one (refusal_of capacity script device pos filled moved used own)

-- refusals with one number are one
refusal_with : ℕ → Result Unit Refusal
refusal_with n =
    pick (eqb n 0) (Ok tt)
    (pick (eqb n 1) (Err Capacity)
    (pick (eqb n 2) (Err Length)
    (pick (eqb n 3) (Err Peek)
    (pick (eqb n 4) (Err Seek)
    (pick (eqb n 5) (Err Device) (Err State))))))

back : (r : Result Unit Refusal) → refusal_with (refusal_by r) ≡ r
unfolding refusal_with
back (Ok nothing) = refl
back (Err Capacity) = refl
back (Err Length) = refl
back (Err Peek) = refl
back (Err Seek) = refl
back (Err Device) = refl
back (Err State) = refl

refusal_same : (n : ℕ) (r q : Result Unit Refusal) → refusal_by r ≡ n → refusal_by q ≡ n → r ≡ q
refusal_same n r q e f = sym (back r) ∙ ap refusal_with (e ∙ sym f) ∙ back q

pub number_one : (refusal : Refusal) (r q : ℕ) → r ≡ refusal_number refusal → q ≡ refusal_number refusal → r ≡ q
number_one refusal = one (refusal_number refusal)

pub check_one : (capacity script device pos filled moved used : ℕ) (r q : Result Unit Refusal) → refusal_by r ≡ refusal_of capacity script device pos filled moved used 0 → refusal_by q ≡ refusal_of capacity script device pos filled moved used 0 → r ≡ q
check_one capacity script device pos filled moved used = refusal_same (refusal_of capacity script device pos filled moved used 0)

pub check_length_one : (n : ℕ) (r q : Result Unit Refusal) → refusal_by r ≡ length_refusal n → refusal_by q ≡ length_refusal n → r ≡ q
check_length_one n = refusal_same (length_refusal n)

pub length_refusal_one : (n r q : ℕ) → r ≡ length_refusal n → q ≡ length_refusal n → r ≡ q
length_refusal_one n = one (length_refusal n)
