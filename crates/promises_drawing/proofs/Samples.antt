-- Each sample: what a call puts is a part of the drawing, and a sample of the drawing is found by dividing its number.
use mathlib.Core.Path.{◌≡◌, sym, ap, subst, ◌∙◌}
use mathlib.Core.List.{List, ◌++◌}
use Prim.Native.Nat.{ℕ, ◌+◌, ◌-◌, ◌*◌, ◌/◌, ◌%◌, ◌<◌, min}
use native.Mathlib.Omega.{arith}
use native.Mathlib.Nat.{mod-lt}
use lib.ListN.{length, get_or, drop, length-append, length-take, length-drop, get_or-append}
use lib.Seq.{get_or-take, get_or-drop}
use Rattle.drawing.specs.declared.Done.{Done}
use Rattle.drawing.specs.Pulses.{low_sample, bit_after, drawing}
use Rattle.drawing.specs.Calls.{portion, Draws}
use Rattle.drawing.proofs.Rest.{drawing-long}
use Rattle.promises_drawing.specs.Samples.{IsSample, EachSample}
use Rattle.promises_drawing.proofs.Answered.{put, counted}
use Rattle.promises_drawing.proofs.Places.{bit-at, in-pulse, in-idle, some_size, sample_in}
use Rattle.promises_drawing.proofs.Batches.{begins-so}

-- A sample of the drawing.
sample-is : (low still count : ℕ) (m : List ℕ) (k d : ℕ) → k < count * (low + still) → IsSample low still m k (get_or (drawing low still count m) k d)
sample-is low still count m k d h =
    let size = low + still in
    let some : 0 < size = some_size k count size h in
    let part : k % size < size = mod-lt k some in
    let at = sample_in low still count m k d h in
    let b = bit_after m (k / size) in
    record {
      idle = λ l. at ∙ in-idle low still b (k % size) d l part;
      line = λ l. at ∙ in-pulse low still b (k % size) d l ∙ ap low_sample (bit-at m (k / size));
    }

module _ (low still count : ℕ) (message : List ℕ) (from : ℕ) (out after : List ℕ) (answer : Done) (d : Draws low still count message from out answer after) where
  abbrev p : List ℕ
  p = portion low still count message from (length out)

  portion-long : length p ≡ min (length out) (count * (low + still) - from)
  unfolding portion
  portion-long =
      length-take (length out) (drop from (drawing low still count message))
      ∙ ap (min (length out)) (length-drop from (drawing low still count message) ∙ ap (λ (n : ℕ). n - from) (drawing-long low still count message))

  -- The portion, place by place.
  portion-at : (j : ℕ) → j < length p → get_or p j 9 ≡ get_or (drawing low still count message) (from + j) 9
  unfolding portion
  portion-at j h =
      get_or-take (length out) (drop from (drawing low still count message)) j 9 (omega (arith, portion-long))
      ∙ get_or-drop from (drawing low still count message) j 9

  as_many : answer.number ≡ 0 → answer.count ≡ min (length out) (count * (low + still) - from)
  as_many z = (put low still count message from out after answer d z).0 ∙ portion-long

  is-each : (j : ℕ) → j < answer.count → IsSample low still message (from + j) (get_or after j 9)
  is-each j h =
      let z : answer.number ≡ 0 = counted low still count message from out after answer d (omega arith) in
      let w = put low still count message from out after answer d z in
      let less : j < length p = omega (arith, w.0) in
      let is : get_or after j 9 ≡ get_or (drawing low still count message) (from + j) 9
      = sym (get_or-take answer.count after j 9 h) ∙ ap (λ (l : List ℕ). get_or l j 9) w.1 ∙ portion-at j less in
      subst (IsSample low still message (from + j)) (sym is) (sample-is low still count message (from + j) 9 (omega (arith, portion-long)))

sent-each : (low still count : ℕ) (message sent rest : List ℕ) → sent ++ rest ≡ drawing low still count message
    → (k : ℕ) → k < length sent → IsSample low still message k (get_or sent k 9)
sent-each low still count message sent rest e k h =
    let is : get_or sent k 9 ≡ get_or (drawing low still count message) k 9
    = sym (get_or-append sent rest 9 k h) ∙ ap (λ (l : List ℕ). get_or l k 9) e in
    let all = ap length e ∙ drawing-long low still count message in
    let sum = length-append sent rest in
    subst (IsSample low still message k) (sym is) (sample-is low still count message k 9 (omega arith))

pub each-sample : EachSample
each-sample =
    record {
      many = λ low still count message from out after answer d z. as_many low still count message from out after answer d z;
      each = λ low still count message from out after answer d j h. is-each low still count message from out after answer d j h;
      sent = λ low still count message sent h k less.
          let r = begins-so low still count message h in
          sent-each low still count message sent r.0 r.1 k less;
    }
