-- Two answers that say the same are the same: document 01's number and values leave nothing out.
-- Assumes nothing.
use mathlib.Core.Path.{◌≡◌, refl, sym, ap, ◌∙◌}
use Prim.Native.Nat.{ℕ}
use lib.Dec.{eqb}
use lib.ListN.{length, get_or}
use Rattle.std.specs.Prelude.{Result, Ok, Err, Some, None}
use Rattle.laws.specs.Pick.{pick}
use Rattle.card.specs.declared.Failure.{Failure}
use Rattle.card.specs.declared.Failure.TheVariants.{Interrupted, Zero, Whole, Error, Refused}
use Rattle.card.specs.Answers.{Said, Answer, said, said_count, said_done}

-- what says this: a failure, or what a call answers where it succeeds
unfailed : {A : Type 0} → A → Said → Result A Failure
unfailed good s =
    pick (eqb (get_or s 0 9) 0) (Ok good)
    (pick (eqb (get_or s 0 9) 1) (Err Interrupted)
    (pick (eqb (get_or s 0 9) 2) (Err Zero)
    (pick (eqb (get_or s 0 9) 3) (Err (Error (get_or s 1 0)))
    (pick (eqb (get_or s 0 9) 4) (Err Whole) (Err (Refused (get_or s 1 0)))))))

unsaid : Said → Answer
unsaid s = unfailed (pick (eqb (length s) 1) None (Some (get_or s 1 0))) s

unsaid_said : (a : Answer) → unsaid (said a) ≡ a
unfolding unsaid unfailed
unsaid_said (Ok (Some n)) = refl
unsaid_said (Ok None) = refl
unsaid_said (Err Interrupted) = refl
unsaid_said (Err Zero) = refl
unsaid_said (Err Whole) = refl
unsaid_said (Err (Error code)) = refl
unsaid_said (Err (Refused number)) = refl

pub said_same : (a b : Answer) → said a ≡ said b → a ≡ b
said_same a b e = sym (unsaid_said a) ∙ ap unsaid e ∙ unsaid_said b

-- the same of a call that answers a count, and of one that answers nothing more than ok
counted_back : (a : Result ℕ Failure) → unfailed (get_or (said_count a) 1 0) (said_count a) ≡ a
unfolding unfailed
counted_back (Ok n) = refl
counted_back (Err Interrupted) = refl
counted_back (Err Zero) = refl
counted_back (Err Whole) = refl
counted_back (Err (Error code)) = refl
counted_back (Err (Refused number)) = refl

pub count_same : (a b : Result ℕ Failure) → said_count a ≡ said_count b → a ≡ b
count_same a b e = sym (counted_back a) ∙ ap (λ (s : Said). unfailed (get_or s 1 0) s) e ∙ counted_back b

done_back : (a : Result Unit Failure) → unfailed tt (said_done a) ≡ a
unfolding unfailed
done_back (Ok nothing) = refl
done_back (Err Interrupted) = refl
done_back (Err Zero) = refl
done_back (Err Whole) = refl
done_back (Err (Error code)) = refl
done_back (Err (Refused number)) = refl

pub done_same : (a b : Result Unit Failure) → said_done a ≡ said_done b → a ≡ b
done_same a b e = sym (done_back a) ∙ ap (λ (s : Said). unfailed tt s) e ∙ done_back b
