-- `reader::BufReader::copy_out` meets its contract. Assumes nothing.
use mathlib.Core.Path.{◌≡◌, ap, ap₂, ◌∙◌}
use mathlib.Core.List.{List}
use Prim.Native.Nat.{ℕ, ◌-◌, min}
use native.Mathlib.Omega.{arith}
use lib.ListN.{length, take, drop, length-drop}
use Rattle.laws.specs.Put.{put}
use Rattle.laws.proofs.Parts.{rest}
use Rattle.reader.proofs.BufReader.copy_out.Goals as goal

pub returns : goal.returns
returns c =
    let args = c.args in
    let pos = args.self.now.state.pos in
    let s = args.self.now.storage.now in
    let d = args.destination.now in
    let whole : take (length s - pos) (drop pos s) ≡ drop pos s = rest pos s in
    let long : length (take (length s - pos) (drop pos s)) ≡ length s - pos = ap length whole ∙ length-drop pos s in
    let all : min args.n (min (length (take (length s - pos) (drop pos s))) (length d - 0)) ≡ args.n = omega arith in
    c.copy.ensures ∙ ap₂ (λ (l : List ℕ) (j : ℕ). put d 0 l j) whole all
