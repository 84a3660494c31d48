-- `joins::sisal_summary_join` meets its contract: the join, or the number of what refuses it.
use mathlib.Core.Path.{◌≡◌, refl, sym, ap, ◌∙◌}
use Prim.Native.Nat.{ℕ, ◌≤◌}
use Rattle.std.specs.Prelude.{Result, Ok}
use Rattle.frame.specs.declared.faults.Fault.{Fault}
use Rattle.frame.specs.Faults.{number_of, verdict}
use Rattle.frame.proofs.Verdicts.{was-passed, was-refused}
use Rattle.frame.proofs.Numbers.{first_small, own_number}
use Rattle.summary.specs.declared.Summary.{Summary}
use Rattle.summary.specs.Line.{blank_summary}
use Rattle.summary.specs.Calls.{made_of}
use Rattle.summary.specs.Joined.{join_tests, join_page, join_fault}
use Rattle.summary.proofs.JoinTests.{refused-join, made-join}
use Rattle.joins.proofs.sisal_summary_join.Goals as goal

join-small : (a b : Summary) → join_fault a b ≤ 38
unfolding join_fault
join-small a b = first_small (join_tests a b) tt

-- the join that was answered
the-join : (n : ℕ) (x y : Summary) → n ≡ 0 → verdict n x ≡ Ok y → y ≡ x
the-join n x y z is = go (ap (λ (k : ℕ). verdict k x) (sym z) ∙ is)
  where
    go : ◌≡◌ {A = Result Summary Fault} (Ok x) (Ok y) → y ≡ x
    go e = cc

pub returns-in-Ok : goal.returns-in-Ok
returns-in-Ok c =
    let a = c.args.a in
    let b = c.args.b in
    let is = sym c.join.ensures ∙ c.in-Ok.is in
    let none : join_fault a b ≡ 0 = was-passed (join_fault a b) (join_page a b) c.in-Ok.summary is in
    record { answers = ap (λ (s : Summary). made_of s 0) (the-join (join_fault a b) (join_page a b) c.in-Ok.summary none is) ∙ sym (made-join a b none) }

pub returns-in-Err : goal.returns-in-Err
returns-in-Err c =
    let a = c.args.a in
    let b = c.args.b in
    let w = was-refused (join_fault a b) (join_page a b) c.in-Err.fault (sym c.join.ensures ∙ c.in-Err.is) in
    let own : c.number.result ≡ join_fault a b = c.number.ensures ∙ ap number_of w.1 ∙ own_number (join_fault a b) w.0 (join-small a b) in
    record { answers = ap (λ (s : Summary). made_of s c.number.result) c.blank.ensures ∙ ap (made_of blank_summary) own ∙ sym (refused-join a b (join_fault a b) refl w.0) }
