-- What a call takes. Where all samples are quiet it takes them all and tells nothing; where one closes, those before it are quiet.
use mathlib.Core.Path.{◌≡◌, sym, ap, ◌∙◌}
use mathlib.Core.List.{List, [], ◌∷◌, append-nil}
use Prim.Native.Nat.{ℕ, ◌+◌, ◌-◌, ◌<◌, ◌≤◌}
use native.Mathlib.Omega.{arith}
use lib.ListN.{length, get_or, take, length-append}
use lib.Seq.{get_or-append_seam, take-append_seam}
use Rattle.lines.specs.declared.SoFar.{SoFar}
use Rattle.lines.specs.declared.LinesTold.{LinesTold}
use Rattle.lines.specs.Timing.{Timing, timing}
use Rattle.lines.specs.SoFar.{meant}
use Rattle.lines.specs.Hearing.{Hearing, nothing, hear}
use Rattle.lines.specs.Calls.{answered}
use Rattle.promises_lines.specs.History.{Said, tellings}
use Rattle.promises_lines.specs.Takes.{Takes}
use Rattle.promises_lines.proofs.Quiet.{quiet-hear}
use Rattle.promises_lines.proofs.Ends.{Still, Shut, Ends, still_open, closed_at, good, split, meant-legal, heard-by}
use Rattle.promises_lines.proofs.Streams.{told-once}

-- What was told is not nothing.
pub something : {x : Said} {xs ys : List Said} → ys ≡ x ∷ xs → ys ≡ [] → ⊥
something p q = let z : ◌≡◌ {A = ℕ} 0 1 = cc in omega arith

module _ (t : Timing) (s : SoFar) (xs : List ℕ) (h : Hearing) (a : LinesTold) (is : a ≡ answered h) where
  pub told-nothing : Still t s xs h → tellings a ≡ []
  told-nothing r = ap tellings (is ∙ ap answered r.is)

  pub told-something : Shut t s xs h → tellings a ≡ [] → ⊥
  told-something r = something (ap tellings (is ∙ ap answered r.is) ∙ told-once r.closing (length r.before + 1))

  takes_all : Ends t s xs h → tellings a ≡ [] → a.taken ≡ length xs
  takes_all (still_open r) e = ap (λ (x : LinesTold). x.taken) (is ∙ ap answered r.is)
  takes_all (closed_at r) e = absurd (told-something r e)

  takes-to : Ends t s xs h → (tellings a ≡ [] → ⊥)
      → (0 < a.taken) × (a.taken ≤ length xs) × (get_or xs (a.taken - 1) 1 ≡ 0) × ((hear t s (take (a.taken - 1) xs)).told ≡ nothing)
  unfolding hear
  takes-to (still_open r) e = absurd (e (told-nothing r))
  takes-to (closed_at r) e =
      let b : List ℕ = r.before in
      let taken : a.taken ≡ length b + 1 = ap (λ (x : LinesTold). x.taken) (is ∙ ap answered r.is) in
      let size : length xs ≡ length b + length (0 ∷ r.more) = ap length r.whole ∙ length-append b (0 ∷ r.more) in
      let last : a.taken - 1 ≡ length b = omega arith in (
        omega arith,
        omega arith,
        rw last (ap (λ (l : List ℕ). get_or l (length b) 1) r.whole ∙ get_or-append_seam b 0 r.more 1),
        rw last
            (ap (λ (l : List ℕ). (hear t s (take (length b) l)).told) r.whole
            ∙ ap (λ (l : List ℕ). (hear t s l).told) (take-append_seam b (0 ∷ r.more) ∙ sym (append-nil b))
            ∙ ap (λ (x : Hearing). x.told) (quiet-hear t s r.at b [] r.quiet)),
      )

-- A hearing that told nothing.
untold : (h : Hearing) → h.told ≡ nothing → tellings (answered h) ≡ []
untold h e = rw e

pub takes : Takes
takes =
    record {
      all = λ s least most gap xs a e c.
          let t = timing least most gap in
          takes_all t (meant s) xs (hear t (meant s) xs) a (heard-by s least most gap xs a e c) (split t (good t e) (meant s) (meant-legal s) xs);
      to_the_close = λ s least most gap xs a e c told.
          let t = timing least most gap in
          let r = takes-to t (meant s) xs (hear t (meant s) xs) a (heard-by s least most gap xs a e c) (split t (good t e) (meant s) (meant-legal s) xs) told in (
            r.0,
            r.1,
            r.2,
            λ b d.
                ap tellings (heard-by s least most gap (take (a.taken - 1) xs) b e d) ∙ untold (hear t (meant s) (take (a.taken - 1) xs)) r.3,
          );
    }
