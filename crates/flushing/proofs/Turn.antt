-- The loop that offers the unwritten rest: its invariant, a turn by each reply, and its ways out.
-- Assumes nothing.
use mathlib.Core.Path.{◌≡◌, refl, sym, ap, ap₂, ◌∙◌}
use mathlib.Core.List.{List}
use Prim.Native.Nat.{ℕ, ◌+◌, ◌-◌, ◌≤◌, ◌<◌, min}
use native.Mathlib.Omega.{arith}
use lib.ListN.{length, take, drop, length-drop}
use lib.Seq.{drop-drop}
use Rattle.laws.specs.Put.{put}
use Rattle.laws.proofs.Puts.{put_none, put-put, put_zero, length-put}
use Rattle.laws.proofs.Parts.{rest}
use Rattle.card.specs.declared.Exchange.{Exchange}
use Rattle.card.specs.Device.{next, takes, at_most, moves, exchange, Reply}
use Rattle.card.proofs.Replies.{exchange_most, takes_accept, takes_interrupted, takes_most, reply_of_exchange, used_of_exchange}
use Rattle.flushing.specs.Send.{send_from, sent_by}
use Rattle.flushing.proofs.Sends.{send_done, send_accept, send_zero, send_interrupted, send_failed}
use Rattle.std.specs.Prelude.{Ok, Err}
use Rattle.card.specs.declared.DeviceError.TheVariants.{Interrupted, Error}
use Rattle.flushing.specs.declared.Stop.TheVariants.{Zero, Failed}

-- what is so at the loop's head: the run from the start is the run from here
pub record Inv (source script : List ℕ) (used : ℕ) (medium₀ : List ℕ) (out : ℕ) (medium : List ℕ) (sent at made : ℕ) : Type 0 where
  pub same : send_from (drop used script) (length source) (length medium₀ - out) 0 used 0 ≡ send_from (drop at script) (length source - sent) (length medium₀ - out - sent) sent at made
  pub bytes : medium ≡ put medium₀ out source sent
  pub long : length medium ≡ length medium₀
  pub most : sent ≤ length source
  pub fits : sent ≤ length medium₀ - out
  pub count : made + used ≡ at
  pub few : made ≤ length script

within_both : (sent n s m : ℕ) → n ≤ min (s - sent) (m - sent) → sent ≤ s → sent ≤ m → (sent + n ≤ s) × (sent + n ≤ m)
within_both sent n s m h a b = (omega arith, omega arith)

less_more : (a b c : ℕ) → a - b - c ≡ a - (b + c)
less_more a b c = omega arith

module _ (source script : List ℕ) (used : ℕ) (medium₀ : List ℕ) (out : ℕ) where
  pub begins : Inv source script used medium₀ out medium₀ 0 used 0
  begins =
      record {
        same = ap₂ (λ (a b : ℕ). send_from (drop used script) a b 0 used 0) (omega arith) (omega arith);
        bytes = put_none medium₀ out source;
        long = refl;
        most = omega arith;
        fits = omega arith;
        count = omega arith;
        few = omega arith;
      }

  module _ (medium : List ℕ) (sent at made : ℕ) (inv : Inv source script used medium₀ out medium sent at made) where
    pub ends_done : length source ≤ sent → (sent_by (Ok tt) sent at made ≡ send_from (drop used script) (length source) (length medium₀ - out) 0 used 0) × (medium ≡ put medium₀ out source sent)
    ends_done h = (sym (inv.same ∙ send_done (drop at script) (length source - sent) (length medium₀ - out - sent) sent at made (omega arith)), inv.bytes)

    -- the device write of a turn
    module _ (e : Exchange) (x : List ℕ) (pe : e ≡ exchange (drop at script) at (min (length (take (length source - sent) (drop sent source))) (length medium - (out + sent)))) (px : x ≡ put medium (out + sent) (take (length source - sent) (drop sent source)) (moves e.reply)) (h : sent < length source) where
      part_is : take (length source - sent) (drop sent source) ≡ drop sent source
      part_is = rest sent source

      most_is : min (length (take (length source - sent) (drop sent source))) (length medium - (out + sent)) ≡ min (length source - sent) (length medium₀ - out - sent)
      most_is =
          let a : length (take (length source - sent) (drop sent source)) ≡ length source - sent = ap length part_is ∙ length-drop sent source in
          let b : length medium - (out + sent) ≡ length medium₀ - out - sent = omega (arith, inv.long) in
          ap₂ (λ (m n : ℕ). min m n) a b

      reply_is : at_most (min (length source - sent) (length medium₀ - out - sent)) (next (drop at script)) ≡ e.reply
      reply_is = ap (λ (m : ℕ). at_most m (next (drop at script))) (sym most_is) ∙ reply_of_exchange e (drop at script) at _ pe

      used_is : e.used ≡ at + takes (drop at script)
      used_is = used_of_exchange e (drop at script) at _ pe

      rest_is : drop (takes (drop at script)) (drop at script) ≡ drop e.used script
      rest_is = drop-drop (takes (drop at script)) at script ∙ ap (λ (k : ℕ). drop k script) (sym used_is)

      -- a turn that takes a reply goes on within the script
      on : takes (drop at script) ≡ 1 → (e.used ≡ at + 1) × (at < length script)
      on one =
          let k : takes (drop at script) ≤ length script - at = rw (← (length-drop at script)) (takes_most (drop at script)) in
          (used_is ∙ ap (λ (j : ℕ). at + j) one, omega arith)

      -- a turn whose reply accepts some bytes
      module _ (n : ℕ) (pn : e.reply ≡ Ok n) where
        on_accept : (e.used ≡ at + 1) × (at < length script)
        on_accept = on (takes_accept (drop at script) _ n (reply_is ∙ pn))

        n_most : n ≤ min (length source - sent) (length medium₀ - out - sent)
        n_most =
            let m = exchange_most (drop at script) at (min (length (take (length source - sent) (drop sent source))) (length medium - (out + sent))) in
            let k : moves e.reply ≤ min (length source - sent) (length medium₀ - out - sent) = rw (← most_is) (rw pe m) in
            rw pn at k

        -- its bytes are within the source and within the medium
        pub within : (sent + n ≤ length source) × (sent + n ≤ length medium₀ - out)
        within = within_both sent n (length source) (length medium₀ - out) n_most inv.most inv.fits

        fits_on : (n ≡ 0 → ⊥) → out + (sent + n) ≤ length medium₀
        fits_on p = omega (arith, within.1)

        x_is : (n ≡ 0 → ⊥) → x ≡ put medium₀ out source (sent + n)
        x_is p =
            px
            ∙ ap (λ (r : Reply). put medium (out + sent) (take (length source - sent) (drop sent source)) (moves r)) pn
            ∙ ap (λ (l : List ℕ). put medium (out + sent) l n) part_is
            ∙ ap (λ (l : List ℕ). put l (out + sent) (drop sent source) n) inv.bytes
            ∙ put-put medium₀ out source sent n (fits_on p) within.0

        pub accepted : (n ≡ 0 → ⊥) → Inv source script used medium₀ out x (sent + n) e.used (made + 1)
        accepted p =
            record {
              same =
                  inv.same
                  ∙ send_accept (drop at script) (length source - sent) (length medium₀ - out - sent) sent at made n (reply_is ∙ pn) p (omega arith)
                  ∙ ap (λ (l : List ℕ). send_from l (length source - sent - n) (length medium₀ - out - sent - n) (sent + n) (at + takes (drop at script)) (made + 1)) rest_is
                  ∙ ap (λ (k : ℕ). send_from (drop e.used script) (length source - sent - n) (length medium₀ - out - sent - n) (sent + n) k (made + 1)) (sym used_is)
                  ∙ ap₂ (λ (a b : ℕ). send_from (drop e.used script) a b (sent + n) e.used (made + 1)) (less_more (length source) sent n) (less_more (length medium₀ - out) sent n);
              bytes = x_is p;
              long = ap length (x_is p) ∙ length-put medium₀ out source (sent + n) (fits_on p) within.0;
              most = within.0;
              fits = within.1;
              count = omega (arith, on_accept.0, inv.count);
              few = omega (arith, on_accept.1, inv.count);
            }

        pub accepted_less : length script - e.used < length script - at
        accepted_less = omega (arith, on_accept.0, on_accept.1)

      -- a turn that moves nothing
      unmoved : moves e.reply ≡ 0 → x ≡ medium
      unmoved z = px ∙ sym (put_zero medium (out + sent) _ _ z)

      pub ends_zero : (n : ℕ) → e.reply ≡ Ok n → n ≡ 0 → (sent_by (Err Zero) sent e.used (made + 1) ≡ send_from (drop used script) (length source) (length medium₀ - out) 0 used 0) × (x ≡ put medium₀ out source sent)
      ends_zero n pn z =
          let none : e.reply ≡ Ok 0 = pn ∙ ap Ok z in (
            sym
                (inv.same
                ∙ send_zero (drop at script) (length source - sent) (length medium₀ - out - sent) sent at made (reply_is ∙ none) (omega arith)
                ∙ ap (λ (k : ℕ). sent_by (Err Zero) sent k (made + 1)) (sym used_is)),
            unmoved (ap moves none) ∙ inv.bytes,
          )

      pub interrupted : e.reply ≡ (Err Interrupted) → Inv source script used medium₀ out x sent e.used (made + 1)
      interrupted q =
          let one = on (takes_interrupted (drop at script) _ (reply_is ∙ q)) in
          let x-same = unmoved (ap moves q) in
          record {
            same =
                inv.same
                ∙ send_interrupted (drop at script) (length source - sent) (length medium₀ - out - sent) sent at made (reply_is ∙ q) (omega arith)
                ∙ ap (λ (l : List ℕ). send_from l (length source - sent) (length medium₀ - out - sent) sent (at + takes (drop at script)) (made + 1)) rest_is
                ∙ ap (λ (k : ℕ). send_from (drop e.used script) (length source - sent) (length medium₀ - out - sent) sent k (made + 1)) (sym used_is);
            bytes = x-same ∙ inv.bytes;
            long = ap length x-same ∙ inv.long;
            most = inv.most;
            fits = inv.fits;
            count = omega (arith, one.0, inv.count);
            few = omega (arith, one.1, inv.count);
          }

      pub interrupted_less : e.reply ≡ (Err Interrupted) → length script - e.used < length script - at
      interrupted_less q =
          let one = on (takes_interrupted (drop at script) _ (reply_is ∙ q)) in
          omega (arith, one.0, one.1)

      pub ends_failed : (code : ℕ) → e.reply ≡ Err (Error code) → (sent_by (Err (Failed code)) sent e.used (made + 1) ≡ send_from (drop used script) (length source) (length medium₀ - out) 0 used 0) × (x ≡ put medium₀ out source sent)
      ends_failed code q = (
        sym
            (inv.same
            ∙ send_failed (drop at script) (length source - sent) (length medium₀ - out - sent) sent at made code (reply_is ∙ q) (omega arith)
            ∙ ap (λ (k : ℕ). sent_by (Err (Failed code)) sent k (made + 1)) (sym used_is)),
        unmoved (ap moves q) ∙ inv.bytes,
      )
