-- What is noted of mornings fixes what is known of them: the same runs tell the same bits, which are in the same bytes, and are read alike.
use mathlib.Core.Path.{◌≡◌, refl, sym, ap, ap₂, subst, ◌∙◌}
use mathlib.Core.List.{List, [], ◌∷◌, ◌++◌, map, nil≢cons, cons≢nil, head-eq_of_cons-eq, tail-eq_of_cons-eq}
use Prim.Native.Nat.{ℕ, ◌-◌}
use lib.Dec.{eqb}
use Rattle.frame.specs.Pick.{pick}
use Rattle.frame.specs.Reply.{reply_of}
use Rattle.sheet.specs.Record.{entry_of}
use Rattle.promises_wire.specs.Polls.{bits_sensed, Poll}
use Rattle.promises_wire.specs.Expected.{KnownSave, stores_for, Morning, known_save, shared, known_in}
use Rattle.promises_wire.specs.Board.{BoardShows, after_reply, shown_by}
use Rattle.promises_wire.specs.TankToDesk.{Noted, noted, NotedMorning, notes}
use Rattle.promises_wire.proofs.Polled.{Held, same-held, read_held}

same-poll : (p q : Poll) → noted p ≡ noted q → (given : ℕ) → known_save given p ≡ known_save given q
same-poll p q e given =
    let settings : p.asked.settings ≡ q.asked.settings = ap (λ (x : Noted). x.settings) e in
    let minute : p.asked.minute ≡ q.asked.minute = ap (λ (x : Noted). x.minute) e in
    let address : p.asked.address ≡ q.asked.address = ap (λ (x : Noted). x.address) e in
    let bits : bits_sensed p.asked.timing p.sensed.runs ≡ bits_sensed q.asked.timing q.sensed.runs
    = ap (λ (x : Noted). bits_sensed x.timing x.runs) e in
    let same = same-held (bits_sensed q.asked.timing q.sensed.runs) p.read.count q.read.count p.read.bytes q.read.bytes
    (subst (λ (b : List ℕ). Held b p.read.count p.read.bytes) bits (read_held p.read)) (read_held q.read) in
    let says : p.read.says ≡ q.read.says
    = p.read.reads.answers ∙ (λ i. reply_of (settings i) (address i) (same.0 i) (same.1 i)) ∙ sym q.read.reads.answers in
    λ i. record { entry = entry_of (settings i) (minute i) (address i) (same.0 i) (same.1 i); says = says i; given = given }

same-polls : (ps qs : List Poll) → map noted ps ≡ map noted qs → (given : ℕ) → shared given ps ≡ shared given qs
unfolding shared
same-polls [] [] e given = refl
same-polls [] (q ∷ qs) e given = absurd (nil≢cons e)
same-polls (p ∷ ps) [] e given = absurd (cons≢nil e)
same-polls (p ∷ ps) (q ∷ qs) e given =
    let one = same-poll p q (head-eq_of_cons-eq e) given in
    ap₂ (λ (a : KnownSave) (l : List KnownSave). a ∷ l) one
    (same-polls ps qs (tail-eq_of_cons-eq e) (given - stores_for (known_save given p)) ∙ ap (λ (x : KnownSave). shared (given - stores_for x) qs) one)

pub same_known : (ms qs : List Morning) → map notes ms ≡ map notes qs → known_in ms ≡ known_in qs
unfolding known_in
same_known [] [] e = refl
same_known [] (q ∷ qs) e = absurd (nil≢cons e)
same_known (m ∷ ms) [] e = absurd (cons≢nil e)
same_known (m ∷ ms) (q ∷ qs) e =
    let one : notes m ≡ notes q = head-eq_of_cons-eq e in
    ap₂ (λ (a b : List KnownSave). a ++ b)
    (same-polls m.polls q.polls (ap (λ (x : NotedMorning). x.polls) one) m.allowance ∙ ap (λ (x : NotedMorning). shared x.allowance q.polls) one)
    (same_known ms qs (tail-eq_of_cons-eq e))

-- And what the board shows of them.
pub same-shown : (settings gauge address : ℕ) (s : BoardShows) (ps qs : List Poll) → map noted ps ≡ map noted qs → shown_by settings gauge address s ps ≡ shown_by settings gauge address s qs
unfolding shown_by
same-shown settings gauge address s [] [] e = refl
same-shown settings gauge address s [] (q ∷ qs) e = absurd (nil≢cons e)
same-shown settings gauge address s (p ∷ ps) [] e = absurd (cons≢nil e)
same-shown settings gauge address s (p ∷ ps) (q ∷ qs) e =
    let one = same-poll p q (head-eq_of_cons-eq e) 0 in
    same-shown settings gauge address (pick (eqb p.asked.address address) (after_reply settings gauge p.asked.minute p.read.says s) s) ps qs (tail-eq_of_cons-eq e)
    ∙ ap
    (λ (x : KnownSave).
    shown_by settings gauge address (pick (eqb x.entry.address address) (after_reply settings gauge x.entry.minute x.says s) s) qs)
    one
