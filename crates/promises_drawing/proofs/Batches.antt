-- What is down and what is yet to come are the drawing, before and after each call: a call puts the front of what is to come.
use mathlib.Core.Path.{◌≡◌, refl, sym, ap, ap₂, ◌∙◌}
use mathlib.Core.List.{List, [], ◌∷◌, ◌++◌, append-nil, append_assoc}
use Prim.Native.Nat.{ℕ, ◌+◌, ◌*◌, ◌≤◌}
use native.Mathlib.Omega.{arith}
use lib.ListN.{length, take, drop, length-append, length-take, take-append-drop}
use lib.Seq.{drop-append_seam, take-append_seam}
use Rattle.drawing.specs.declared.Done.{Done}
use Rattle.drawing.specs.Pulses.{drawing}
use Rattle.drawing.specs.Calls.{portion, Draws}
use Rattle.drawing.proofs.Rest.{drawing-long}
use Rattle.promises_drawing.specs.Sending.{Sending, begun, called}
use Rattle.promises_drawing.specs.Batches.{DrawBatches}
use Rattle.promises_drawing.proofs.Answered.{Answer, refused, drew, answered, put}

no_length : (l : List ℕ) → length l ≡ 0 → l ≡ []
no_length [] e = refl
no_length (x ∷ l) e = absurd (omega arith)

module _ (low still count : ℕ) (message : List ℕ) where
  abbrev D : List ℕ
  D = drawing low still count message

  -- A call from where the last one ended draws the front of the rest.
  its-portion : (sent rest : List ℕ) → sent ++ rest ≡ D → (room : ℕ) → portion low still count message (length sent) room ≡ take room rest
  unfolding portion
  its-portion sent rest e room = ap (λ (l : List ℕ). take room (drop (length sent) l)) (sym e) ∙ ap (take room) (drop-append_seam sent rest)

  one-call : (sent rest : List ℕ) → sent ++ rest ≡ D → (out after : List ℕ) (answer : Done) → Answer low still count message (length sent) out after answer
      → (later : List ℕ) × (sent ++ take answer.count after ++ later ≡ D)
  one-call sent rest e out after answer (refused n a l) =
      let none : take answer.count after ≡ [] = ap (λ (x : Done). take x.count after) a in
      (rest, ap (λ (l : List ℕ). sent ++ l ++ rest) none ∙ ap (λ (l : List ℕ). l ++ rest) (append-nil sent) ∙ e)
  one-call sent rest e out after answer (drew z a l) =
      let p : List ℕ = portion low still count message (length sent) (length out) in
      let first : take answer.count after ≡ take (length out) rest
      = ap₂ (λ (x : Done) (l : List ℕ). take x.count l) a l ∙ take-append_seam p (drop (length p) out) ∙ its-portion sent rest e (length out) in (
        drop (length out) rest,
        ap (λ (l : List ℕ). sent ++ l ++ drop (length out) rest) first
            ∙ append_assoc sent (take (length out) rest) (drop (length out) rest)
            ∙ ap (λ (l : List ℕ). sent ++ l) (take-append-drop (length out) rest)
            ∙ e,
      )

  pub begins-so : {sent : List ℕ} → Sending low still count message sent → (rest : List ℕ) × (sent ++ rest ≡ D)
  begins-so begun = (D, refl)
  begins-so (called {sent = sent} out answer after h d) =
      let r = begins-so h in
      one-call sent r.0 r.1 out after answer (answered low still count message (length sent) out after answer d)

  -- Nothing is left.
  ended : (sent rest : List ℕ) → sent ++ rest ≡ D → length rest ≡ 0 → sent ≡ D
  ended sent rest e z = sym (append-nil sent) ∙ ap (λ (l : List ℕ). sent ++ l) (sym (no_length rest z)) ∙ e

  pub whole-by-length : {sent : List ℕ} → Sending low still count message sent → length sent ≡ count * (low + still) → sent ≡ D
  whole-by-length {sent} h size =
      let r = begins-so h in
      let all = ap length r.1 ∙ drawing-long low still count message in
      let sum = length-append sent r.0 in
      ended sent r.0 r.1 (omega arith)

  drew-none : {sent : List ℕ} → Sending low still count message sent → (out after : List ℕ) (answer : Done) → Draws low still count message (length sent) out answer after
      → answer.number ≡ 0 → 1 ≤ length out → answer.count ≡ 0 → sent ≡ D
  drew-none {sent} h out after answer d z room none =
      let r = begins-so h in
      let many = (put low still count message (length sent) out after answer d z).0 ∙ ap length (its-portion sent r.0 r.1 (length out)) ∙ length-take (length out) r.0 in
      ended sent r.0 r.1 (omega arith)

  front_same : (sent rest other more : List ℕ) → sent ++ rest ≡ D → other ++ more ≡ D → length sent ≡ length other → sent ≡ other
  front_same sent rest other more e f size =
      sym (take-append_seam sent rest) ∙ ap₂ take size (e ∙ sym f) ∙ take-append_seam other more

pub draw-batches : DrawBatches
draw-batches =
    record {
      begins = λ low still count message sent h. begins-so low still count message h;
      whole = λ low still count message sent h. whole-by-length low still count message h;
      no_more = λ low still count message sent h out after answer d. drew-none low still count message h out after answer d;
      same = λ low still count message sent other h g size.
          let r = begins-so low still count message h in
          let q = begins-so low still count message g in
          front_same low still count message sent r.0 other q.0 r.1 q.1 size;
    }
