-- `lines::runs::run_end` meets its contract: at each turn the samples before i are alike, by words and by blocks. Assumes nothing.
use mathlib.Core.Path.{◌≡◌}
use Prim.Native.Nat.{◌+◌}
use native.Mathlib.Omega.{arith}
use Rattle.lines.proofs.Alike.{run-front, run_join}
use Rattle.lines.proofs.runs.run_end.Goals as goal

pub returns-then-alike-lt8 : goal.returns-then-alike-lt8
returns-then-alike-lt8 c =
    let a = c.args in
    let l = c.loop-eight in
    let f = c.alike_front-alike in
    run_join a.samples.now a.from l.i (l.i + f.result) a.sample l.invariant
    (run-front a.samples.now c.in-Some.eight.now l.i 8 f.result a.sample l.invariant.there c.in-Some.ensures.cases f.ensures.0 f.ensures.1)

pub loop-eight-preserved : goal.loop-eight-preserved
loop-eight-preserved c =
    let a = c.args in
    let l = c.loop-eight in
    let f = c.alike_front-alike in
    let all : f.result ≡ 8 = omega (arith, f.ensures.0) in
    run_join a.samples.now a.from (l.i + 8) c.past_blocks-i.result a.sample
    (run_join a.samples.now a.from l.i (l.i + 8) a.sample l.invariant
    (run-front a.samples.now c.in-Some.eight.now l.i 8 8 a.sample l.invariant.there c.in-Some.ensures.cases (omega arith) (rw all at f.ensures.1)))
    c.past_blocks-i.ensures
