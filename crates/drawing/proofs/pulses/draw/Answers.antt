-- `drawing::pulses::draw` meets its contract: at each turn, the rest of the drawing put from the place reached makes it whole, and up to its end the
-- output is idle from there on. Assumes nothing.
use mathlib.Core.Path.{◌≡◌, refl, sym, ap, ap₂, ◌∙◌}
use mathlib.Core.List.{List, [], ◌∷◌, ◌++◌}
use Prim.Native.Nat.{ℕ, ◌+◌, ◌-◌, ◌*◌, ◌≤◌, ◌<◌, min}
use native.Mathlib.Nat.{mod-lt, le_of_lt}
use native.Mathlib.Numerals.{add-one}
use native.Mathlib.Omega.{arith}
use borrow.Author.Rules.{rules}
use borrow.Rule.Slice.PartMut.{mid_of, put_mid}
use lib.ListN.{length, get_or, take, drop, set, replicate, length-set, length-take, length-drop, length-replicate, take-append-drop, replicate-append-replicate}
use lib.Seq.{sets, sets-eq, length-sets, length-take-le, take-nil, take_all, take-suc-set}
use Rattle.std.proofs.lemmas.Slice.{take-put_mid, drop-put_mid}
use Rattle.frame.proofs.Fronts.{front}
use Rattle.drawing.specs.Pulses.{drawing}
use Rattle.drawing.specs.Inside.Fills.{Fills}
use Rattle.drawing.proofs.Idle.{idle-first, filled, turn, still-idle}
use Rattle.drawing.proofs.Rest.{rest_of, from-sample, no_bits, drawing-long}
use Rattle.drawing.proofs.pulses.draw.Goals as goal

-- what was made idle first
idle-put : (out zeros : List ℕ) (end : ℕ) → end ≤ length out → zeros ≡ replicate (length (take end out)) 0
    → zeros ++ drop end out ≡ sets out 0 (replicate (end - 0) 0)
idle-put out zeros end h e =
    let all : end - 0 ≡ end = omega arith in
    ap (λ (l : List ℕ). l ++ drop end out) (e ∙ ap (λ (k : ℕ). replicate k 0) (length-take-le end out h))
    ∙ ap (λ (k : ℕ). replicate end 0 ++ drop k out) (sym (length-replicate {A = ℕ} end 0))
    ∙ sym (front (replicate end 0) out (omega (arith, length-replicate {A = ℕ} end 0)))
    ∙ ap (λ (k : ℕ). sets out 0 (replicate k 0)) (sym all)

-- a run that was filled
run-put : (out run : List ℕ) (a n x : ℕ) → a + n ≤ length out → run ≡ replicate (length (mid_of a n out)) x → put_mid a n out run ≡ sets out a (replicate n x)
run-put out run a n x h e =
    let long : length (mid_of a n out) ≡ n = simp (length-take, length-drop) (omega arith) in
    let full : List ℕ = replicate n x in
    let size : length full ≡ n = length-replicate n x in
    let put = put_mid a n out full in
    ap (put_mid a n out) (e ∙ ap (λ (k : ℕ). replicate k x) long)
    ∙ sym (take-append-drop (a + n) put)
    ∙ ap₂ (λ (f l : List ℕ). f ++ l) (take-put_mid a n out full (a + n) (omega arith) (omega arith)) (drop-put_mid a n out full (a + n) (omega arith) (omega arith) size)
    ∙ ap (λ (k : ℕ). take a out ++ full ++ drop (a + k) out) (sym size)
    ∙ sym (sets-eq full out a (omega arith))

-- a run that was gone through to its end
run-filled : (part run : List ℕ) (k x : ℕ) → length run ≡ length part → k ≡ length part → take k run ≡ replicate k x → run ≡ replicate (length part) x
run-filled part run k x long all e = sym (take_all k run (omega arith)) ∙ e ∙ ap (λ (n : ℕ). replicate n x) all

-- once the place reached is the end, or no bit is left
ended : (low still count from : ℕ) (message out o after : List ℕ) (bit passed begin end : ℕ) → end ≡ min (length out) (count * (low + still) - from)
    → take (end - begin) (rest_of low still message bit (count - bit) passed) ≡ []
    → o ≡ sets out 0 (replicate (end - 0) 0)
    → sets after begin (take (end - begin) (rest_of low still message bit (count - bit) passed)) ≡ sets o 0 (take end (drop from (drawing low still count message)))
    → Fills (drop from (drawing low still count message)) out 0 end after
ended low still count from message out o after bit passed begin end is none put whole =
    let samples = drop from (drawing low still count message) in
    let long : length samples ≡ count * (low + still) - from
    = length-drop from (drawing low still count message) ∙ ap (λ (n : ℕ). n - from) (drawing-long low still count message) in
    filled samples out after end (is ∙ ap (min (length out)) (sym long))
    (sym (ap (sets after begin) none) ∙ whole ∙ ap (λ (l : List ℕ). sets l 0 (take end samples)) put)

pub loop-bit-init : goal.loop-bit-init
loop-bit-init c =
    let a = c.args in
    let size = a.low + a.still in
    let end = c.min-end.result in
    let out = a.out.now in
    let o = c.fill.new.self ++ drop end out in
    let fits : end ≤ length out = omega (arith, c.min-end.ensures) in
    let put = idle-put out c.fill.new.self end fits (c.fill.ensures.after (λ y e. search rules)) in
    let all : end - 0 ≡ end = omega arith in (
      refl,
      ap₂ (λ (n : ℕ) (l : List ℕ). sets o 0 (take n l)) all (sym (from-sample a.low a.still a.message.now a.count a.from)),
      λ k g h. ap (λ (l : List ℕ). get_or l k 0) put ∙ idle-first out end fits k g h,
      mod-lt a.from (omega (arith, c.requires.le_low)),
    )

pub line_of-line-requires : goal.line_of-line-requires
line_of-line-requires c = omega (arith, c.requires.message_len)

pub loop-sample-preserved : goal.loop-sample-preserved
loop-sample-preserved c =
    let l = c.loop-sample in
    let line = c.line_of-line.result in (
      length-set l.sample-items l.sample-index line ∙ l.invariant.0,
      ap (λ (n : ℕ). take n (set l.sample-items l.sample-index line)) (add-one l.sample-index)
          ∙ take-suc-set l.sample-items l.sample-index line (omega arith)
          ∙ ap (λ (f : List ℕ). f ++ line ∷ []) l.invariant.1
          ∙ replicate-append-replicate l.sample-index 1 line,
    )

pub loop-bit-preserved : goal.loop-bit-preserved
loop-bit-preserved c =
    let a = c.args in
    let l = c.loop-bit in
    let m = a.message.now in
    let end = c.min-end.result in
    let stop = c.min-stop.result in
    let line = c.line_of-line in
    let run = c.loop-sample.sample-items in
    let part = mid_of l.begin (stop - l.begin) l.out in
    let full : run ≡ replicate (length part) line.result = run-filled part run c.loop-sample.sample-index line.result c.loop-sample.invariant.0 (omega (arith, c.loop-sample.invariant.0)) c.loop-sample.invariant.1 in
    let more : l.bit < a.count = omega arith in
    let part : l.passed ≤ a.low + a.still = le_of_lt l.invariant.3 in
    let room : l.begin ≤ end = omega arith in
    let long : length l.out ≡ length a.out.now = search rules in
    let ends : stop - l.begin ≡ min end (l.begin + (a.low - l.passed)) - l.begin
    = omega (arith, c.saturating_sub-in-loop-bit.ensures, c.min-stop.ensures) in
    let mid = put_mid l.begin (stop - l.begin) l.out run in
    let put : mid ≡ sets l.out l.begin (replicate (min end (l.begin + (a.low - l.passed)) - l.begin) line.result)
    = run-put l.out run l.begin (stop - l.begin) line.result (omega (arith, c.min-stop.ensures)) full
    ∙ ap (λ (n : ℕ). sets l.out l.begin (replicate n line.result)) ends in (
      ap length put ∙ length-sets l.out l.begin (replicate (min end (l.begin + (a.low - l.passed)) - l.begin) line.result) ∙ l.invariant.0,
      sym (turn a.low a.still m a.count l.out mid l.bit l.passed l.begin end line.result more part room l.invariant.2 line.ensures put) ∙ l.invariant.1,
      still-idle a.low a.still l.out mid l.passed l.begin end line.result room l.invariant.2 put,
      omega (arith, c.requires.le_low),
    )

pub returns-after-loop-bit : goal.returns-after-loop-bit
returns-after-loop-bit c =
    let a = c.args in
    let l = c.loop-bit in
    let end = c.min-end.result in
    let put = idle-put a.out.now c.fill.new.self end (omega (arith, c.min-end.ensures)) (c.fill.ensures.after (λ y e. search rules)) in
    let last : a.count - l.bit ≡ 0 = omega arith in
    let none = ap (take (end - l.begin)) (no_bits a.low a.still a.message.now l.bit (a.count - l.bit) l.passed last) ∙ take-nil (end - l.begin) in
    ended a.low a.still a.count a.from a.message.now a.out.now _ l.out l.bit l.passed l.begin end
    (omega (arith, c.min-end.ensures, c.saturating_sub.ensures)) none put l.invariant.1

pub returns-then-end-begin : goal.returns-then-end-begin
returns-then-end-begin c =
    let a = c.args in
    let l = c.loop-bit in
    let end = c.min-end.result in
    let put = idle-put a.out.now c.fill.new.self end (omega (arith, c.min-end.ensures)) (c.fill.ensures.after (λ y e. search rules)) in
    let over : end - l.begin ≡ 0 = omega (arith, c.if-end-begin.true) in
    let none = ap (λ (n : ℕ). take n (rest_of a.low a.still a.message.now l.bit (a.count - l.bit) l.passed)) over in
    ended a.low a.still a.count a.from a.message.now a.out.now _ l.out l.bit l.passed l.begin end
    (omega (arith, c.min-end.ensures, c.saturating_sub.ensures)) none put l.invariant.1
