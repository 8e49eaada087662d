-- The loop that fills a script with replies.
-- Assumes nothing.
use mathlib.Core.Path.{◌≡◌, refl, sym, ap, ap₂, ◌∙◌}
use mathlib.Core.List.{List, [], ◌∷◌, ◌++◌}
use Prim.Native.Nat.{ℕ, ◌+◌, ◌-◌, ◌≤◌, ◌<◌, min}
use native.Mathlib.Decide.{dec_le}
use native.Mathlib.Omega.{arith}
use native.Mathlib.Nat.{add-zero, zero-add}
use lib.ListN.{length, take, drop, get_or, set, length-set, length-drop, take-append-drop}
use lib.Seq.{take_all, drop-drop, get_or-drop}
use Rattle.std.proofs.lemmas.List.{set-append_left}
use Rattle.laws.specs.Put.{put}
use Rattle.laws.proofs.Puts.{put_none, put_more, take_put}
use Rattle.std.specs.Prelude.{Err}
use Rattle.numbers.specs.declared.Fault.{Fault}
use Rattle.numbers.specs.Number.{found, number_most}
use Rattle.form.specs.Replies.{word_most, replies_in}
use Rattle.form.proofs.Walks.{in_next, in_fault, in_none}

module _ (t : List ℕ) (count first : ℕ) (lent : List ℕ) where
  -- the first `done` replies stand in the script, and the others are read from place `at` on
  pub record Filled (script : List ℕ) (done at : ℕ) : Type 0 where
    pub here : script ≡ put lent 0 (replies_in t count first) done
    pub left : drop done (replies_in t count first) ≡ replies_in t (count - done) at
    pub some : done ≤ length (replies_in t count first)
    pub room : done ≤ min count (length lent)
    pub same : length script ≡ length lent

  pub start : (most : ℕ) → Filled (take most lent ++ drop most lent) 0 first
  start most = rw (take-append-drop most lent) (record {
    here = put_none lent 0 (replies_in t count first);
    left = ap (λ (n : ℕ). replies_in t n first) (omega arith);
    some = omega arith;
    room = omega arith;
    same = refl;
  })

  module _ (script : List ℕ) (done at : ℕ) (w : Filled script done at) where
    more : (reply next : ℕ) → number_most t at word_most ≡ found reply next → done < min count (length lent) → Filled (set script done reply) (done + 1) next
    more reply next e h =
        let all = replies_in t count first in
        let rest = replies_in t (count - done - 1) next in
        let front : drop done all ≡ reply ∷ rest = w.left ∙ in_next t (count - done) at reply next e (omega arith) in
        let long : length all - done ≡ length (reply ∷ rest) = sym (length-drop done all) ∙ ap length front in
        let this : get_or all done 0 ≡ reply = ap (λ (k : ℕ). get_or all k 0) (sym (add-zero done)) ∙ sym (get_or-drop done all 0 0) ∙ ap (λ (l : List ℕ). get_or l 0 0) front in
        record {
          here = ap₂ (λ (s : List ℕ) (x : ℕ). set s done x) w.here (sym this) ∙ ap (λ (k : ℕ). set (put lent 0 all done) k (get_or all done 0)) (omega arith) ∙ put_more lent 0 all done (omega arith) (omega arith);
          left = sym (drop-drop 1 done all) ∙ ap (λ (l : List ℕ). drop 1 l) front ∙ ap (λ (n : ℕ). replies_in t n next) (omega arith);
          some = omega arith;
          room = omega arith;
          same = simp length-set w.same;
        }

    exact : (n : ℕ) → n ≡ done → script ≡ put lent 0 (replies_in t count first) n
    exact n e = rw e w.here

    -- the replies are all there
    none_left : drop done (replies_in t count first) ≡ [] → length (replies_in t count first) ≡ done
    none_left e =
        let q : length (replies_in t count first) - done ≡ 0 = sym (length-drop done (replies_in t count first)) ∙ ap length e in
        omega (arith, w.some)

    pub stop : (f : Fault) → number_most t at word_most ≡ Err f → script ≡ put lent 0 (replies_in t count first) (min (length (replies_in t count first)) (length lent))
    stop f e =
        let q = none_left (w.left ∙ in_fault t (count - done) at f e) in
        exact (min (length (replies_in t count first)) (length lent)) (omega (arith, w.room))

    -- at the end either they are all there, or the script is full
    pub end : min count (length lent) ≤ done → script ≡ put lent 0 (replies_in t count first) (min (length (replies_in t count first)) (length lent))
    end h = by (dec_le count done)
      where
        by : Dec (count ≤ done) → script ≡ put lent 0 (replies_in t count first) (min (length (replies_in t count first)) (length lent))
        by (yes k) =
            let q = none_left (w.left ∙ in_none t (count - done) at (omega arith)) in
            exact (min (length (replies_in t count first)) (length lent)) (omega (arith, w.room))
        by (no k) = exact (min (length (replies_in t count first)) (length lent)) (omega (arith, w.room, w.some))

  -- a turn, at one of the places `items` that the loop goes over
  pub again : (items rest : List ℕ) (done at : ℕ) → Filled (items ++ rest) done at → (reply next : ℕ) → number_most t at word_most ≡ found reply next → done < length items → done < min count (length lent) → Filled (set items done reply ++ rest) (done + 1) next
  again items rest done at w reply next e h m = rw (← set-append_left items rest done reply h) (more (items ++ rest) done at w reply next e m)

-- where the script has room, its first places are then the replies
pub filled : (t : List ℕ) (count first : ℕ) (lent script replies : List ℕ) → script ≡ put lent 0 (replies_in t count first) (min (length (replies_in t count first)) (length lent)) → replies_in t count first ≡ replies → length replies ≡ count → count ≤ length lent → take count script ≡ replies
filled t count first lent script replies e q k h =
    let n : min (length (replies_in t count first)) (length lent) ≡ count = omega (arith, ap length q) in
    ap (λ (s : List ℕ). take count s) (e ∙ ap (λ (m : ℕ). put lent 0 (replies_in t count first) m) n ∙ ap (λ (r : List ℕ). put lent 0 r count) q)
    ∙ ap (λ (m : ℕ). take m (put lent 0 replies count)) (sym (zero-add count))
    ∙ take_put lent 0 replies count (omega arith) (omega arith)
    ∙ take_all count replies (omega arith)
