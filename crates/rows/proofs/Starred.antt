-- The starred rows of the bench sheet hold: one table, one theorem. The calls are computed by the definitions; a possible
-- trace is shown by a script and a medium, an impossible one by the judge's table.
-- Assumes nothing.
use mathlib.Core.Path.{refl}
use mathlib.Core.List.{[], ◌∷◌}
use Prim.Native.Nat.{ℕ}
use native.Mathlib.Omega.{arith}
use Rattle.laws.specs.Put.{put}
use Rattle.card.specs.Answers.{ok, error}
use Rattle.card.specs.Device.{reply_of, next, takes, at_most, exchange}
use Rattle.card.specs.Limits.{refusal_of, length_refusal}
use Rattle.flushing.specs.World.{and_then, refusing}
use Rattle.flushing.specs.Send.{send_from}
use Rattle.flushing.specs.Flush as Flush
use Rattle.writer.specs.Writer as Writer
use Rattle.line.specs.Line.{lines_length, ends_line, completed, window, tail_kept, keep_tail, send_lines, line_write, line_write_call}
use Rattle.reader.specs.Buffer as Buffer
use Rattle.reader.specs.Reader as Reader
use Rattle.numbers.specs.Number.{ended, groups_from, number_of, number, within, number_most, length_most}
use Rattle.trace.specs.declared.Header.{Header}
use Rattle.trace.specs.Claims.{ok_at, error_at, claim_of, claim_at}
use Rattle.trace.specs.Calls.{wrote, flushed, written, traced, write_at, call_at}
use Rattle.trace.specs.Trace.{card_at, calls_from, count_at, trace_of}
use Rattle.judge.specs.Judge.{Numbers, Explains, Possible}
use Rattle.judge.specs.Table.{pieces}
use Rattle.rows.specs.Claims.{AllHold}
use Rattle.rows.specs.Table.{table, blank, a, b, c, d}
use Rattle.rows.proofs.Verdicts.{one_write, first_short, first_long}

-- ---- the impossible ones

-- three bytes are held, so the card has none
no_a : Possible 4 (wrote (a ∷ b ∷ c ∷ []) (ok 3) ∷ []) (a ∷ []) → ⊥
unfolding pieces
no_a p =
    let x = one_write 4 (a ∷ b ∷ c ∷ []) (ok 3) (a ∷ []) p in
    omega (arith, first_short 4 3 (ok 3) x.0 (omega arith) x.1.0, x.1.1)

-- nothing is held, so the card has all four
no_empty : Possible 4 (wrote (a ∷ b ∷ c ∷ d ∷ []) (ok 4) ∷ []) [] → ⊥
unfolding pieces
no_empty p =
    let x = one_write 4 (a ∷ b ∷ c ∷ d ∷ []) (ok 4) [] p in
    omega (arith, first_long 4 4 (ok 4) x.0 (omega arith) x.1.0, x.1.1)

-- ---- the possible ones: a script for each

abc : Possible 4 (wrote (a ∷ b ∷ c ∷ []) (ok 3) ∷ []) []
unfolding Numbers Explains written put and_then Writer.placed Writer.readied Writer.cold Writer.written Writer.write
abc = record { script = []; medium = blank; numbers = tt; room = omega arith; explains = (refl, refl) }

-- two bytes are taken, and then the card fails with code 5
abc_cut : Possible 4 (wrote (a ∷ b ∷ c ∷ []) (ok 3) ∷ flushed (error 5) ∷ []) (a ∷ b ∷ [])
unfolding Numbers Explains written put reply_of at_most and_then send_from Writer.placed Writer.readied Writer.cold Writer.written Writer.write Flush.flush_buf Writer.flush
abc_cut =
    record {
      script = 2 ∷ 65541 ∷ [];
      medium = blank;
      numbers = (omega arith, (omega arith, tt));
      room = omega arith;
      explains = (refl, (refl, refl));
    }

-- all three are taken, and then the device flush fails with it
abc_failed : Possible 4 (wrote (a ∷ b ∷ c ∷ []) (ok 3) ∷ flushed (error 5) ∷ []) (a ∷ b ∷ c ∷ [])
unfolding Numbers Explains written put reply_of next takes at_most exchange and_then send_from Writer.placed Writer.readied Writer.cold Writer.written Writer.write Flush.flush_buf Writer.device_flush Writer.flush
abc_failed =
    record {
      script = 3 ∷ 65541 ∷ [];
      medium = blank;
      numbers = (omega arith, (omega arith, tt));
      room = omega arith;
      explains = (refl, (refl, refl));
    }

-- ---- the traces' parts: how many calls, and where the card's bytes stand and how many they are

abbrev parts : ℕ → ℕ → ℕ → Header
parts count card n = record { capacity = 4; count = count; first = 2; card = card; length = n }

-- THE STARRED ROWS
pub starred : AllHold table
unfolding put reply_of next takes at_most exchange refusal_of length_refusal and_then refusing send_from Flush.flush_buf Writer.device_write Writer.device_write_all Writer.placed Writer.readied Writer.cold Writer.written Writer.write Writer.write_all Writer.device_flush Writer.flush Writer.write_call Writer.write_all_call Writer.flush_call lines_length ends_line completed window tail_kept keep_tail send_lines line_write line_write_call Buffer.shown Buffer.backshift Buffer.added Buffer.read_more Buffer.fill_buf Reader.refusal Reader.unless Reader.direct Reader.copied Reader.read_unrefused Reader.read Reader.peek_refusal Reader.shifted_back Reader.after_more Reader.peek_turn Reader.peek_loop Reader.peek trace_of count_at calls_from card_at call_at write_at traced claim_at claim_of error_at ok_at length_most number_most within number number_of groups_from ended
starred = (
  refl,
  (
    refl,
    (
      refl,
      (
        refl,
        (
          refl,
          (
            refl,
            (
              refl,
              (
                refl,
                (
                  refl,
                  (
                    refl,
                    (
                      refl,
                      (
                        (record { header = parts 1 10 0; capacity_is = refl; is = refl }, abc),
                        (
                          (record { header = parts 1 10 1; capacity_is = refl; is = refl }, no_a),
                          (
                            (record { header = parts 2 13 2; capacity_is = refl; is = refl }, abc_cut),
                            (
                              (record { header = parts 2 13 3; capacity_is = refl; is = refl }, abc_failed),
                              (
                                (record { header = parts 1 11 0; capacity_is = refl; is = refl }, no_empty),
                                tt,
                              ),
                            ),
                          ),
                        ),
                      ),
                    ),
                  ),
                ),
              ),
            ),
          ),
        ),
      ),
    ),
  ),
)
