-- Any batching: a history is a way through what its states mean, and a way is fixed by where it begins, how many samples it draws and which it takes. Where each
-- transmitter has a poll, every state that is left means itself.
use mathlib.Core.Path.{◌≡◌, refl, sym, ap, ap₂, subst, ◌∙◌}
use mathlib.Core.Bool.{false, true≢false}
use mathlib.Core.List.{List, ◌∷◌, append-nil}
use Prim.Native.Nat.{ℕ, ◌+◌}
use native.Mathlib.Omega.{arith}
use lib.ListN.{length, get_or}
use Rattle.lines.specs.Hearing.{MessageTold}
use Rattle.polling.specs.declared.Pace.{Pace}
use Rattle.polling.specs.declared.Polling.{Polling}
use Rattle.polling.specs.Pace.{bad_pace}
use Rattle.polling.specs.Meant.{meant}
use Rattle.promises_polling.specs.History.{Clock, always, Verdict, History, begun, drew, heard}
use Rattle.promises_polling.specs.Batches.{AllPolled, PollingBatches}
use Rattle.promises_polling.proofs.Meaning.{try_of, same-round}
use Rattle.promises_polling.proofs.Path.{Way, stop, draw_one, hear_on, hear_end, join, moved, heard_now, told_at, settled_in, verdict_in}
use Rattle.promises_polling.proofs.Drawn.{draw-way}
use Rattle.promises_polling.proofs.Heard.{hear-way}
use Rattle.promises_polling.proofs.Itself.{all-itself}

pub way_of : (p : Pace) → bad_pace p ≡ false → (clock : Clock) (from : Polling) {drawn taken : List ℕ} {told : List Verdict} {end : Polling}
    → History p clock from drawn taken told end → Way p clock (meant p from) drawn taken told (meant p end)
way_of p fine clock from begun = stop
way_of p fine clock from (drew {drawn = ds} {taken = xs} {told = vs} {w = w} out after a h d) =
    moved refl refl (append-nil xs) (append-nil vs) refl (join (way_of p fine clock from h) (draw-way p fine clock w out after a d))
way_of p fine clock from (heard {drawn = ds} {taken = xs} {told = vs} {w = w} minute samples a shown h c) =
    moved refl (append-nil ds) refl refl refl (join (way_of p fine clock from h) (hear-way p fine clock minute shown w samples a c))

-- One way.
pub record Same (ds bs : List ℕ) (vs us : List Verdict) (e f : Polling) : Type 0 where
  pub drawn : ds ≡ bs
  pub told : vs ≡ us
  pub end : e ≡ f

zero_one : {A : Type 0} (n : ℕ) → n ≡ 0 → n ≡ 1 → A
zero_one n a b = absurd (omega arith)

pub one_way : {p : Pace} {m : ℕ} {w e f : Polling} {ds bs xs : List ℕ} {vs us : List Verdict} → Way p (always m) w ds xs vs e → Way p (always m) w bs xs us f
    → length ds ≡ length bs → Same ds bs vs us e f
one_way stop stop n = record { drawn = refl; told = refl; end = refl }
one_way stop (draw_one o z l k) n = absurd (omega arith)
one_way (draw_one o z l h) stop n = absurd (omega arith)
one_way {p} {m} {w} (draw_one o z l h) (draw_one o' z' l' k) n =
    let r = one_way h k (omega arith) in
    record { drawn = ap (λ (x : List ℕ). get_or (try_of p w) w.passed 0 ∷ x) r.drawn; told = r.told; end = r.end }
one_way {p} {m} {w} (draw_one o z l h) (hear_on x o' z' l' f k) n = zero_one w.listening z z'
one_way {p} {m} {w} (draw_one o z l h) (hear_end minute x c o' z' l' f k) n = zero_one w.listening z z'
one_way {p} {m} {w} (hear_on x o z l f h) (draw_one o' z' l' k) n = zero_one w.listening z' z
one_way {p} {m} {w} (hear_end minute x c o z l f h) (draw_one o' z' l' k) n = zero_one w.listening z' z
one_way (hear_on x o z l f h) (hear_on y o' z' l' g k) n = one_way h k n
one_way (hear_on x o z l f h) (hear_end minute y c o' z' l' g k) n = absurd (true≢false (sym g ∙ f))
one_way (hear_end minute x c o z l f h) (hear_on y o' z' l' g k) n = absurd (true≢false (sym f ∙ g))
one_way {p} {m} {w} {f = last} {bs = bs} (hear_end {xs = xs} minute x c o z l t h) (hear_end {vs = us} other y c' o' z' l' g k) n =
    let told : MessageTold = told_at p (heard_now p w x) (w.passed + 1) in
    let same : other ≡ minute = c' ∙ sym c in
    let r = one_way h (subst (λ (i : ℕ). Way p (always m) (meant p (settled_in p i w told)) bs xs us last) same k) n in
    record {
      drawn = r.drawn;
      told = ap₂ (λ (v : Verdict) (l : List Verdict). v ∷ l) (ap (λ (i : ℕ). verdict_in p i w told) (sym same)) r.told;
      end = r.end;
    }

module _ (p : Pace) (minute : ℕ) (from : Polling) (fine : bad_pace p ≡ false) {drawn other taken : List ℕ} {told answers : List Verdict} {end last : Polling}
    (h : History p (always minute) from drawn taken told end) (k : History p (always minute) from other taken answers last) (n : length drawn ≡ length other) where
  one : Same drawn other told answers (meant p end) (meant p last)
  one = one_way (way_of p fine (always minute) from h) (way_of p fine (always minute) from k) n

  same-any : (drawn ≡ other) × (told ≡ answers) × (end.round ≡ last.round) × (meant p end ≡ meant p last)
  same-any =
      let r = one in
      (r.drawn, r.told, sym (same-round p end).0 ∙ ap (λ (w : Polling). w.round) r.end ∙ (same-round p last).0, r.end)

  same_end : meant p from ≡ from → AllPolled from → end ≡ last
  same_end m l = sym (all-itself p fine (always minute) from m l h).itself ∙ same-any.3 ∙ (all-itself p fine (always minute) from m l k).itself

pub polling-batches : PollingBatches
polling-batches =
    record {
      from_any = λ p minute from fine drawn other taken told answers end last h k n. same-any p minute from fine h k n;
      same = λ p minute from fine m l drawn other taken told answers end last h k n. same_end p minute from fine h k n m l;
    }
