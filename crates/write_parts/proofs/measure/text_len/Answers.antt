-- `write_parts::measure::text_len` meets its contract: the lengths of the parts are added up (`text_length`). Assumes nothing.
use Prim.Native.Nat.{◌≤◌}
use native.Mathlib.Omega.{arith}
use lib.ListN.{length}
use Rattle.write_parts.proofs.HeldText.{numbered, headers_hold_lem, contents_hold, contents_short, text_length}
use Rattle.write_parts.proofs.measure.text_len.Goals as goal

pub overflow_add-from : goal.overflow_add-from
overflow_add-from c =
    omega (arith, (numbered c.args.m c.args.head.now c.requires.0).used)

pub overflow_add-to : goal.overflow_add-to
overflow_add-to c =
    omega (arith, (numbered c.args.m c.args.head.now c.requires.0).used)

pub slice_bounds-headers_len-end : goal.slice_bounds-headers_len-end
slice_bounds-headers_len-end c =
    omega (arith, (numbered c.args.m c.args.head.now c.requires.0).used)

pub headers_len-headers-requires : goal.headers_len-headers-requires
headers_len-headers-requires c =
    (headers_hold_lem c.args.m c.args.head.now c.requires.0, (numbered c.args.m c.args.head.now c.requires.0).headers)

pub slice_bounds-contents_len-end : goal.slice_bounds-contents_len-end
slice_bounds-contents_len-end c =
    omega (arith, (numbered c.args.m c.args.head.now c.requires.0).used)

pub contents_len-contents-requires : goal.contents_len-contents-requires
contents_len-contents-requires c =
    contents_hold c.args.m c.args.head.now c.requires.0

pub overflow_add-result : goal.overflow_add-result
overflow_add-result c =
    omega (arith, (numbered c.args.m c.args.head.now c.requires.0).type_short)

pub overflow_add-result-2 : goal.overflow_add-result-2
overflow_add-result-2 c =
    omega (arith, (numbered c.args.m c.args.head.now c.requires.0).type_short, c.headers_len-headers.ensures.1)

pub overflow_add-result-3 : goal.overflow_add-result-3
overflow_add-result-3 c =
    let short : c.contents_len-contents.result ≤ length c.args.head.now = omega (arith, c.contents_len-contents.ensures, contents_short c.args.m c.args.head.now c.requires.0) in
    omega (arith, (numbered c.args.m c.args.head.now c.requires.0).type_short, c.headers_len-headers.ensures.1, short)

pub body_text_len-requires : goal.body_text_len-requires
body_text_len-requires c =
    (c.requires.1, c.requires.2)

pub overflow_add-result-4 : goal.overflow_add-result-4
overflow_add-result-4 c =
    let short : c.contents_len-contents.result ≤ length c.args.head.now = omega (arith, c.contents_len-contents.ensures, contents_short c.args.m c.args.head.now c.requires.0) in
    omega (arith, (numbered c.args.m c.args.head.now c.requires.0).type_short, c.headers_len-headers.ensures.1, short, c.body_text_len.ensures.1)

pub returns : goal.returns
returns c =
    text_length c.args.m c.args.head.now c.requires.0 c.args.body.now _ _ _
    c.headers_len-headers.ensures.0 c.contents_len-contents.ensures c.body_text_len.ensures.0
