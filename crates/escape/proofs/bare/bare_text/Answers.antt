-- `escape::bare::bare_text` meets its contract. The invariant: the first i bytes are bare. The last block decides the rest, and those that it shares with the block before it
-- are bare twice. Assumes nothing.
use mathlib.Core.Path.{◌≡◌, sym, ap, ◌∙◌}
use mathlib.Core.Bool.{true}
use Prim.Native.Nat.{ℕ, ◌+◌, ◌-◌}
use native.Mathlib.Omega.{arith}
use lib.ListN.{length, take, drop, length-take, length-drop}
use lib.Seq.{take_all}
use Rattle.format.specs.Bytes.{all}
use Rattle.escape.specs.Bare.{is_bare}
use Rattle.escape.proofs.Overlapping.{all_start, all_next, all_stop, all_last}
use Rattle.escape.proofs.bare.bare_text.Goals as goal

pub returns-then-v-lt16 : goal.returns-then-v-lt16
returns-then-v-lt16 c = c.bare_bytes.ensures

pub loop-i-init : goal.loop-i-init
loop-i-init c = (omega arith, all_start is_bare c.args.v.now)

pub bare_block-requires : goal.bare_block-requires
bare_block-requires c = simp (length-take, length-drop) (omega arith)

pub returns-then-not-bare_block : goal.returns-then-not-bare_block
returns-then-not-bare_block c =
    let v = c.args.v.now in
    let i = c.loop-i.i in
    sym (all_stop is_bare v i (i + 16 - i) (sym c.bare_block.ensures ∙ c.if-not-bare_block.true))

pub loop-i-preserved : goal.loop-i-preserved
loop-i-preserved c =
    let v = c.args.v.now in
    let i = c.loop-i.i in
    let n : i + 16 - i ≡ 16 = omega arith in
    let e : all is_bare (take 16 (drop i v)) ≡ true =
    ap (λ (k : ℕ). all is_bare (take k (drop i v))) (sym n)
    ∙ sym c.bare_block.ensures
    ∙ c.if-not-bare_block.false in
    (omega arith, all_next is_bare v i 16 c.loop-i.invariant.1 e)

pub bare_block-requires-2 : goal.bare_block-requires-2
bare_block-requires-2 c = simp (length-take, length-drop) (omega arith)

pub returns : goal.returns
returns c =
    let v = c.args.v.now in
    let last = length v - 16 in
    c.bare_block-2.ensures
    ∙ ap (all is_bare) (take_all (length v - last) (drop last v) (simp length-drop (omega arith)))
    ∙ sym (all_last is_bare v c.loop-i.i last (omega arith) c.loop-i.invariant.1)
