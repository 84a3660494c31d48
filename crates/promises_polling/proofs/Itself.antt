-- Where each transmitter of a round has a poll, every call leaves a state that means itself: by what a call leaves, and by induction on the history.
use mathlib.Core.Path.{◌≡◌, refl, sym, ap, ap₂, subst, ◌∙◌}
use mathlib.Core.Bool.{Bool, true, false, not, ◌||◌}
use mathlib.Core.List.{List, [], ◌∷◌}
use Prim.Native.Nat.{ℕ, ◌+◌, ◌<◌, ◌≤◌}
use native.Mathlib.Omega.{arith}
use lib.Dec.{eqb}
use lib.ListN.{length, get_or}
use borrow.Author.Tests.{eq-eqb, ne_eqb}
use Rattle.frame.specs.Pick.{pick}
use Rattle.lines.specs.declared.SoFar.{SoFar}
use Rattle.lines.specs.Sample.{sample_of}
use Rattle.lines.specs.SoFar as lines
use Rattle.lines.specs.SoFar.{rest_state}
use Rattle.lines.specs.Hearing.{MessageTold}
use Rattle.round.specs.declared.Round.{Round}
use Rattle.polling.specs.Drawing.{LeftByDrawing}
use Rattle.polling.specs.declared.Pace.{Pace}
use Rattle.polling.specs.declared.Polling.{Polling}
use Rattle.polling.specs.Settling.{LeftByHearing}
use Rattle.polling.specs.Beginning.{no_entry}
use Rattle.polling.specs.Pace.{bad_pace}
use Rattle.polling.specs.Meant.{is_over, draws, listens, meant}
use Rattle.polling.specs.Listening.{Listened, settled_by, later, listen}
use Rattle.polling.specs.Settling.{settled_at, settled_of}
use Rattle.polling.specs.Drawing.{drawn_by, after_drawn}
use Rattle.polling.specs.Calls.{DrawsPolling, heard_by, HearsPolling}
use Rattle.promises_polling.specs.History.{Clock, Verdict, History, begun, drew, heard}
use Rattle.promises_polling.specs.Batches.{AllPolled}
use Rattle.promises_lines.proofs.Legal.{Legal, rest}
use Rattle.promises_lines.proofs.Ends.{meant-legal}
use Rattle.promises_polling.proofs.Meaning.{meant-listens, Mode, over, drawing, drawn, listening, mode, again, same-round}
use Rattle.promises_polling.proofs.Path.{ending, told_at, settled_in}
use Rattle.promises_polling.proofs.Drawn.{idle-draws, busy-draws, leaves}
use Rattle.promises_polling.proofs.Heard.{next, stays-legal, not-closed, listen-one, told-end, told-on, some-taken, one-before, heard-so, heard-over, heard-drawing, heard-listening}
use Rattle.promises_polling.proofs.Kept.{still-polled, settled-itself}

-- What hearing leaves of a state that listens: the same, some samples later, or a settled try.
pub data LeftBy (p : Pace) (minute : ℕ) (w left : Polling) : Type 0 where
  goes : (s : SoFar) (q : ℕ) → Legal s → left ≡ listens w s q → LeftBy p minute w left
  settles : (told : MessageTold) → left ≡ settled_in p minute w told → LeftBy p minute w left

pub left_by : (p : Pace) → bad_pace p ≡ false → (minute : ℕ) (w : Polling) (s : SoFar) (q : ℕ) → Legal s → (xs : List ℕ)
    → LeftBy p minute w (settled_at p minute (listens w s q) (listen p s q xs)).polling
left_by p fine minute w s q l [] =
    goes s (q + 0) l (unfold listen in (told-on p minute (listens w s q) s 0).1)
left_by p fine minute w s q l (x ∷ xs) = go (ending p (next p s x) (q + 1)) refl (λ g. left_by p fine minute w (next p s x) (q + 1) g xs)
  where
    go : (b : Bool) → ending p (next p s x) (q + 1) ≡ b → (Legal (next p s x) → LeftBy p minute w (settled_at p minute (listens w (next p s x) (q + 1)) (listen p (next p s x) (q + 1) xs)).polling)
        → LeftBy p minute w (settled_at p minute (listens w s q) (listen p s q (x ∷ xs))).polling
    go true f onward =
        settles (told_at p (next p s x) (q + 1))
        (ap (λ (h : Listened). (settled_at p minute (listens w s q) h).polling)
        (listen-one p s q x xs (next p s x) refl ∙ ap (λ (b : Bool). pick b (settled_by (told_at p (next p s x) (q + 1)) 1) (later 1 (listen p (next p s x) (q + 1) xs))) f)
        ∙ (told-end p minute (listens w s q) (told_at p (next p s x) (q + 1)) 1 (omega arith)).1)
    go false f onward =
        let legal : Legal (next p s x) = stays-legal p fine l (sample_of x) (not-closed p (next p s x) (q + 1) f) in
        subst (LeftBy p minute w)
        (sym
        (ap (λ (h : Listened). (settled_at p minute (listens w s q) h).polling)
        (listen-one p s q x xs (next p s x) refl ∙ ap (λ (b : Bool). pick b (settled_by (told_at p (next p s x) (q + 1)) 1) (later 1 (listen p (next p s x) (q + 1) xs))) f)
        ∙ (one-before p minute w s (next p s x) q (listen p (next p s x) (q + 1) xs) (some-taken p (next p s x) (q + 1) xs)).polling))
        (onward legal)

-- A state that means itself, of a round in which each transmitter has a poll.
pub record Itself (p : Pace) (w : Polling) : Type 0 where
  pub itself : meant p w ≡ w
  pub polled : AllPolled w

polled-by : (v w : Polling) → v.round ≡ w.round → AllPolled w → AllPolled v
polled-by v w e h = subst (λ (r : Round). (i : ℕ) → i < r.count → (get_or r.replies i no_entry).address ≤ 999) (sym e) h

-- What a state means is such a one.
of-meaning : (p : Pace) (v w : Polling) → v.round ≡ w.round → AllPolled w → Itself p (meant p v)
of-meaning p v w e h = record { itself = again p v; polled = polled-by (meant p v) w ((same-round p v).0 ∙ e) h }

pub draws-itself : (p : Pace) → bad_pace p ≡ false → (w : Polling) → Itself p w → (out after : List ℕ) (a : LeftByDrawing) → DrawsPolling w p out a after → Itself p a.polling
draws-itself p fine w i out after a d = subst (Itself p) (sym (leaves p fine w out after a d)) (go (mode p w))
  where
    idle : (is_over w || not (eqb w.listening 0)) ≡ true → Itself p (after_drawn p w (length (drawn_by p w (length out))))
    idle e = subst (Itself p) (sym (idle-draws p w e (length out) (length (drawn_by p w (length out)))).1) (of-meaning p w w refl i.polled)

    busy : (is_over w || not (eqb w.listening 0)) ≡ false → Itself p (after_drawn p w (length (drawn_by p w (length out))))
    busy e =
        let k : ℕ = length (drawn_by p w (length out)) in
        subst (Itself p) (sym (busy-draws p w e (length out) k).1) (of-meaning p (draws w (w.passed + k)) w refl i.polled)

    go : Mode p w → Itself p (after_drawn p w (length (drawn_by p w (length out))))
    go (over e m) = idle (ap (λ (b : Bool). b || not (eqb w.listening 0)) e)
    go (drawing e z l m) = busy (ap₂ (λ (a b : Bool). a || not b) e (eq-eqb w.listening 0 z))
    go (drawn e z l m) = busy (ap₂ (λ (a b : Bool). a || not b) e (eq-eqb w.listening 0 z))
    go (listening e z m) = idle (ap₂ (λ (a b : Bool). a || not b) e (ne_eqb w.listening 0 z))

pub hears-itself : (p : Pace) → bad_pace p ≡ false → (w : Polling) → Itself p w → (minute : ℕ) (xs : List ℕ) (a : LeftByHearing) → HearsPolling w p minute xs a → Itself p a.polling
hears-itself p fine w i minute xs a h = go (mode p w)
  where
    stays : (o : ℕ) → a ≡ settled_of (meant p w) 0 0 0 o 0 → Itself p a.polling
    stays o e = subst (λ (b : LeftByHearing). Itself p b.polling) (sym e) (of-meaning p w w refl i.polled)

    by_left : is_over w ≡ false → (left : Polling) → LeftBy p minute w left → Itself p left
    by_left e left (goes s q l is) = subst (Itself p) (sym is) (record { itself = meant-listens p w s q e l; polled = i.polled })
    by_left e left (settles told is) =
        subst (Itself p) (sym is) (record { itself = settled-itself p fine minute w told i.polled e; polled = still-polled p minute w told i.polled })

    listens-on : (s : SoFar) (q : ℕ) → is_over w ≡ false → Legal s → meant p w ≡ listens w s q → Itself p a.polling
    listens-on s q e l m =
        by_left e a.polling
        (subst (λ (b : LeftByHearing). LeftBy p minute w b.polling)
        (sym (heard-so p fine w minute xs a h ∙ ap (λ (v : Polling). heard_by p minute v xs) m ∙ heard-listening p minute w s q xs e)) (left_by p fine minute w s q l xs))

    go : Mode p w → Itself p a.polling
    go (over e m) = stays 1 (heard-so p fine w minute xs a h ∙ heard-over p minute (meant p w) xs (ap is_over m ∙ e))
    go (drawing e z l m) =
        stays 0 (heard-so p fine w minute xs a h ∙ heard-drawing p minute (meant p w) 0 xs (ap is_over m ∙ e) (ap (λ (v : Polling). v.listening) m))
    go (drawn e z l m) = listens-on rest_state 0 e rest m
    go (listening e z m) = listens-on (lines.meant w.lines) w.passed e (meant-legal w.lines) m

pub all-itself : (p : Pace) → bad_pace p ≡ false → (clock : Clock) (from : Polling) → meant p from ≡ from → AllPolled from
    → {ds xs : List ℕ} {vs : List Verdict} {end : Polling} → History p clock from ds xs vs end → Itself p end
all-itself p fine clock from m l begun = record { itself = m; polled = l }
all-itself p fine clock from m l (drew {w = w} out after a h d) = draws-itself p fine w (all-itself p fine clock from m l h) out after a d
all-itself p fine clock from m l (heard {w = w} minute xs a shown h c) = hears-itself p fine w (all-itself p fine clock from m l h) minute xs a c
